-- What follows: no deadlock, and a table whose lanes are all idle has every lock free and no place on its path.
-- Assumes nothing.
use mathlib.Core.Path.{◌≡◌, ◌∙◌, refl, ap, sym}
use mathlib.Core.Logic.{◌≢◌}
use mathlib.Core.Bool.{true, not, false≢true}
use Prim.Native.Nat.{ℕ, zero, suc, ◌+◌, ◌<◌}
use native.Mathlib.Omega.{arith}
use Rattle.lists.proofs.Sums.{sum_none}
use Rattle.places.specs.declared.Sizes.{Sizes}
use Rattle.locks.specs.declared.Part.{Part}
use Rattle.locks.specs.Locks.{lock_at}
use Rattle.locks.proofs.Counts.{counts_free}
use Rattle.locks.proofs.Measures.{Measure}
use Rattle.paths.specs.Path.{path_places, place_at, no_place}
use Rattle.machine.specs.declared.Lane.TheVariants.{Idle}
use Rattle.machine.specs.Back.{lane_at}
use Rattle.machine.specs.Stages.{is_idle}
use Rattle.machine.specs.Standing.{Table, last_at}
use Rattle.machine.specs.Desk.{step_of, Accepts}
use Rattle.kept.specs.Runs.{Stood}
use Rattle.kept.proofs.Facts.{parts, used}
use Rattle.kept.proofs.Checked.{StandsIn, standing_facts}
use Rattle.kept.proofs.Fresh.{idle_share}
use Rattle.kept.proofs.Starting.{idle_lane}
use Rattle.finish.specs.Finish.{after_all, is_busy}
use Rattle.finish.specs.Weight.{weight}
use Rattle.finish.specs.Schedule.{lane_turns, urgency, chosen, alone}
use Rattle.finish.proofs.Taken.{ranges, taken}
use Rattle.finish.proofs.Progress.{Paid, chosen_lane, chosen_task, all_idle_lem, turn_pays}

-- ---- while a lane is busy, some lane's accepted step changes the table

-- a step that changes nothing, taken again and again, changes nothing
still : (z : Sizes) (t : Table) (i n : ℕ) → (step_of z t i 0).table ≡ t → after_all z t (alone n i) ≡ t
still z t i zero e = refl
still z t i (suc n) e = ap (λ (u : Table). after_all z u (alone n i)) e ∙ still z t i n e

pub no_deadlock : (z : Sizes) (t : Table) → Stood z t → (b : ℕ) → b < z.lanes → is_busy t b ≡ true
    → (j : ℕ) × (byte : ℕ) × (byte < 256) × Accepts (step_of z t j byte) × ((step_of z t j byte).table ≢ t)
no_deadlock z t st b hb busy = (chosen z t, 0, omega arith, taken z t st (chosen z t) (chosen_lane z t st) (chosen_task z t st urgent).0 (chosen_task z t st urgent).1, changes)
  where
    urgent : urgency z t (chosen z t) ≢ 0
    urgent u = false≢true (sym (ap not (all_idle_lem z t st u b hb)) ∙ busy)

    changes : (step_of z t (chosen z t) 0).table ≢ t
    changes e =
        let n : ℕ = lane_turns z t.locks (lane_at t.lanes (chosen z t)) (last_at t (chosen z t)) in
        let p : Paid z t (chosen z t) n = turn_pays z t st urgent in
        let q : after_all z t (alone n (chosen z t)) ≡ t = still z t (chosen z t) n e in
        omega (arith, p.ran.falls, p.some, ap (λ (u : Table). weight z (lane_at u.lanes (chosen z t))) q)

-- ---- once all lanes are idle

module _ (z : Sizes) (t : Table) (st : Stood z t) (idle : (j : ℕ) → j < z.lanes → is_idle (lane_at t.lanes j) ≡ true) where
  facts : StandsIn z t
  facts = (standing_facts z t st.stands).stands

  lane_is : (j : ℕ) → j < z.lanes → lane_at t.lanes j ≡ Idle
  lane_is j h = idle_lane (lane_at t.lanes j) (idle j h)

  no_parts : (f : Part → ℕ) → Measure z f → (k : ℕ) → parts z f (lane_at t.lanes) (place_at t.path) k ≡ 0
  no_parts f μ k = sum_none z.lanes _ (λ j h. rw (lane_is j h) (idle_share z f μ no_place k))

  free : (k : ℕ) → k < z.locks + 1 → lock_at z t.locks k ≡ record { flag = 0; count = 0 }
  free k h = counts_free z (lock_at z t.locks k) _ (facts.locks k h) (λ f μ. no_parts f μ k)

  no_places : used z (lane_at t.lanes) ≡ 0
  no_places = grind (arith, sum_none, lane_is)

  pub all_free : ((k : ℕ) → k < z.locks + 1 → lock_at z t.locks k ≡ record { flag = 0; count = 0 }) × ((i : ℕ) → i < path_places z → place_at t.path i ≡ no_place)
  all_free = (free, λ i h. facts.path.rest i (omega (arith, no_places)) h)
