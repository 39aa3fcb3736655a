-- In a standing table either every lane is idle, or the chosen lane's turn takes off as much weight as it has steps.
-- Assumes nothing.
use mathlib.Core.List.{List}
use mathlib.Core.Path.{◌≡◌, ◌∙◌, refl, ap, subst, sym}
use mathlib.Core.Logic.{◌≢◌}
use mathlib.Core.Bool.{true}
use Prim.Native.Nat.{ℕ, ◌+◌, ◌≤◌, ◌<◌}
use native.Mathlib.Omega.{arith}
use Rattle.std.specs.Prelude.{Option}
use Rattle.places.specs.declared.Sizes.{Sizes}
use Rattle.places.specs.Table.{Fits}
use Rattle.places.proofs.Limits.{ok_fits}
use Rattle.locks.specs.declared.Grab.{Grab}
use Rattle.locks.specs.Locks.{lock_at}
use Rattle.locks.specs.Turns.{grab_weight, tried_weight, top_urgency, grab_urgency, grab_turns}
use Rattle.locks.proofs.Turns.{Pays, pays_turn, turns_some, grab_urges}
use Rattle.paths.specs.declared.Place.{Place}
use Rattle.paths.specs.Path.{last_of}
use Rattle.machine.specs.declared.Stage.{Stage}
use Rattle.machine.specs.declared.Task.{Task}
use Rattle.machine.specs.declared.Lane.{Lane}
use Rattle.machine.specs.declared.Lane.TheVariants.{Idle, Busy}
use Rattle.machine.specs.declared.Act.{Act}
use Rattle.machine.specs.declared.Act.TheVariants.{Try}
use Rattle.machine.specs.Back.{lane_at}
use Rattle.machine.specs.Steps.{perform}
use Rattle.machine.specs.Stages.{is_idle, path_length, places_of, act_of}
use Rattle.machine.specs.Standing.{Table, last_at}
use Rattle.machine.specs.Desk.{memory_of, step_of}
use Rattle.kept.specs.Runs.{Stood}
use Rattle.finish.specs.Weight.{weight}
use Rattle.finish.specs.Schedule.{act_urgency, act_turns, lane_urgency, lane_turns, urgency, chosen}
use Rattle.finish.proofs.Falls.{spent, owed}
use Rattle.finish.proofs.Aims.{Aims, takes, plain, aims, takes_in}
use Rattle.finish.proofs.Free.{clear}
use Rattle.finish.proofs.Chosen.{chosen_in, chosen_most}
use Rattle.finish.proofs.Taken.{ranges, taken_falls}
use Rattle.finish.proofs.Turn.{Ran, one_step, run_tries}

-- ---- the turn of a lane of a table

-- n steps by itself that take off n at least
pub record Paid (z : Sizes) (t : Table) (i n : ℕ) : Type 0 where
  pub some : 1 ≤ n
  pub ran : Ran z t i n n 0

-- ---- who is urgent

module _ (z : Sizes) (ls : List ℕ) (last : Place) where
  some_urgency : (a : Act) → 1 ≤ act_urgency z ls a
  some_urgency (Try k g) = grab_urges z (lock_at z ls k) k g
  some_urgency a = omega arith

  calm_idle : (m : Lane) → lane_urgency z ls m last ≡ 0 → is_idle m ≡ true
  calm_idle Idle e = refl
  calm_idle (Busy l) e = absurd (omega (arith, e, some_urgency (act_of z l last)))

  urgent_busy : (m : Lane) → lane_urgency z ls m last ≢ 0 → (l : Task) × (m ≡ Busy l)
  urgent_busy Idle u = absurd (u refl)
  urgent_busy (Busy l) u = (l, refl)

module _ (z : Sizes) (t : Table) (st : Stood z t) where
  fits : Fits z
  fits = ok_fits z st.sizes

  abbrev i : ℕ
  i = chosen z t

  pub chosen_lane : i < z.lanes
  chosen_lane = chosen_in z t fits.lanes_low

  -- nobody is urgent: all are idle
  pub all_idle_lem : urgency z t i ≡ 0 → (j : ℕ) → j < z.lanes → is_idle (lane_at t.lanes j) ≡ true
  all_idle_lem u j h = calm_idle z t.locks (last_at t j) (lane_at t.lanes j) (omega (arith, u, chosen_most z t fits.lanes_low j h))

  module _ (u : urgency z t i ≢ 0) where
    pub chosen_task : (l : Task) × (lane_at t.lanes i ≡ Busy l)
    chosen_task = urgent_busy z t.locks (last_at t i) (lane_at t.lanes i) u

    abbrev l : Task
    l = chosen_task.0

    abbrev last : Place
    last = last_of t.path (path_length l.stage)

    -- a lock that is free
    grabs : (k : ℕ) (g : Grab) → k < z.locks + 1 → act_of z l last ≡ Try k g → Paid z t i (grab_turns (lock_at z t.locks k) g)
    grabs k g hk e =
        let urgent : urgency z t i ≡ grab_urgency z (lock_at z t.locks k) k g =
        ap (λ (m : Lane). lane_urgency z t.locks m (last_of t.path (places_of m))) chosen_task.1 ∙ ap (act_urgency z t.locks) e
        in
        let p : Pays z g (lock_at z t.locks k) = pays_turn z g (lock_at z t.locks k) (clear z t st k hk g urgent) in
        let r : _ = run_tries p.script t st i chosen_lane l chosen_task.1 k e refl in
        record {
          some = turns_some (lock_at z t.locks k) g;
          ran = record { accepted = r.accepted; stood = r.stood; there = r.there; falls = omega (arith, r.falls, p.pays) };
        }

    act_pays : Paid z t i (act_turns z t.locks (act_of z l last))
    act_pays = go (act_of z l last) refl (aims z l last l.stage) (taken_falls z t st i chosen_lane l chosen_task.1)
      where
        tried : Option Grab
        tried = (perform z (act_of z l last) 0 (memory_of t)).seen.tried

        go : {s : Stage} (a : Act) → act_of z l last ≡ a → Aims z l last s a
            → weight z (lane_at (step_of z t i 0).table.lanes i) + spent a ≤ weight z (lane_at t.lanes i) + owed a tried → Paid z t i (act_turns z t.locks a)
        go a e (takes {k} {g} m) f = grabs k g (takes_in fits m) e
        go a e (plain p) f =
            rw (p (λ k g. grab_turns (lock_at z t.locks k) g) 1)
            record {
              some = omega arith;
              ran = one_step z t st i chosen_lane l chosen_task.1 1 0 (omega (arith, f, p (λ k g. grab_weight g) 1, p (λ k g. tried_weight tried) 0));
            }

    pub turn_pays : Paid z t i (lane_turns z t.locks (lane_at t.lanes i) (last_at t i))
    turn_pays = subst (Paid z t i) (sym (ap (λ (m : Lane). lane_turns z t.locks m (last_of t.path (places_of m))) chosen_task.1)) act_pays
