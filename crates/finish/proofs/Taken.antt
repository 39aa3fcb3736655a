-- One step of a busy lane of a standing table: it is accepted, the other lanes stay as they are, and what it takes off its lane's weight.
-- Assumes nothing.
use mathlib.Core.Path.{◌≡◌, ◌∙◌, refl, ap}
use mathlib.Core.Logic.{◌≢◌}
use mathlib.Core.List.{List}
use Prim.Native.Nat.{ℕ, ◌+◌, ◌≤◌, ◌<◌}
use native.Mathlib.Omega.{arith}
use Rattle.std.specs.Prelude.{Option, Some, Result}
use Rattle.lists.proofs.Below.{Each}
use Rattle.places.specs.declared.Sizes.{Sizes}
use Rattle.places.proofs.Limits.{ok_fits}
use Rattle.locks.specs.declared.Grab.{Grab}
use Rattle.locks.specs.Locks.{lock_at}
use Rattle.locks.proofs.Views.{lock_same}
use Rattle.locks.specs.Taking.{try_lock}
use Rattle.paths.specs.declared.Place.{Place}
use Rattle.paths.specs.Path.{last_of}
use Rattle.machine.specs.declared.Lane.{Lane}
use Rattle.machine.specs.declared.Task.{Task}
use Rattle.machine.specs.declared.Lane.TheVariants.{Busy}
use Rattle.machine.specs.declared.Act.{Act}
use Rattle.machine.specs.declared.Act.TheVariants.{Try}
use Rattle.machine.specs.Lane.{with_lane}
use Rattle.machine.specs.Back.{lane_at}
use Rattle.machine.specs.Steps.{perform, advance, Performed, step_task}
use Rattle.machine.specs.Stages.{path_length, act_of, places_of, lane_in, task_in}
use Rattle.machine.proofs.Numbers.{lane_same, lane_other}
use Rattle.machine.specs.Standing.{Table, last_at}
use Rattle.linear.specs.declared.End.{End}
use Rattle.machine.specs.declared.Refusal.{Refusal}
use Rattle.machine.specs.Desk.{Called, memory_of, turned, step_of, Accepts}
use Rattle.kept.specs.Runs.{Stood}
use Rattle.kept.proofs.Checked.{standing_facts}
use Rattle.kept.proofs.Long.{lengths_of, lanes_of}
use Rattle.machine.proofs.Ways.{goes}
use Rattle.kept.proofs.Kept.{step_is, kept_step}
use Rattle.finish.specs.Weight.{weight}
use Rattle.finish.proofs.Aims.{Takes, taking, takes_in, Same, takes_on}
use Rattle.finish.proofs.Falls.{spent, owed, falls}

-- every lane of a standing table is in range
pub ranges : (z : Sizes) (t : Table) → Stood z t → (j : ℕ) → j < z.lanes → Each (lane_in z (lane_at t.lanes j) (last_at t j))
unfolding last_of
ranges z t st j h = (standing_facts z t st.stands).stands.range j h

module _ (z : Sizes) (t : Table) (st : Stood z t) (i : ℕ) (hi : i < z.lanes) (l : Task) (busy : lane_at t.lanes i ≡ Busy l) where
  abbrev last : Place
  last = last_of t.path (path_length l.stage)

  abbrev act : Act
  act = act_of z l last

  abbrev done : Performed
  done = perform z act 0 (memory_of t)

  abbrev l' : Lane
  l' = (advance z l last done.seen).lane

  abbrev t' : Table
  t' = (step_of z t i 0).table

  own : Each (task_in z l last)
  own = rw busy at (ranges z t st i hi)

  pub taken : Accepts (step_of z t i 0)
  unfolding step_of turned
  taken = grind arith

  pub taken_stood : Stood z t'
  taken_stood = kept_step z t i 0 taken

  -- the table after it
  after : t' ≡ record { slots = done.memory.slots; locks = done.memory.locks; lanes = with_lane t.lanes i l'; path = done.memory.path }
  unfolding turned step_task
  after = ap (λ (c : Called (Result (Option End) Refusal)). c.table) (step_is z t i 0 taken) ∙ rw busy refl

  pub taken_here : lane_at t'.lanes i ≡ l'
  taken_here = grind (arith, after, lane_same, lanes_of)

  pub taken_there : (j : ℕ) → j ≢ i → lane_at t'.lanes j ≡ lane_at t.lanes j
  taken_there j d = grind (arith, after, lane_other)

  pub taken_falls : weight z (lane_at t'.lanes i) + spent act ≤ weight z (lane_at t.lanes i) + owed act done.seen.tried
  taken_falls = rw (taken_here, busy) (falls z l last done.seen l.stage _ own.1.1 (goes z l last done.seen l.stage))

  -- at a grab: the lock's answer, its words, and the grab that goes on
  module _ (k : ℕ) (g : Grab) (e : act ≡ Try k g) where
    lock_taken : Takes z l last l.stage k g
    lock_taken = taking z l last l.stage e

    pub tried_answer : done.seen.tried ≡ (try_lock z g (lock_at z t.locks k)).tried
    unfolding perform
    tried_answer = rw e refl

    pub tried_falls : weight z (lane_at t'.lanes i) + spent (Try k g) ≤ weight z (lane_at t.lanes i) + owed (Try k g) (try_lock z g (lock_at z t.locks k)).tried
    tried_falls = grind (arith, tried_answer, taken_falls)

    stored : lock_at z (perform z (Try k g) 0 (memory_of t)).memory.locks k ≡ (try_lock z g (lock_at z t.locks k)).lock
    unfolding perform
    stored = grind (arith, lock_same, lengths_of, takes_in, ok_fits, lock_taken)

    pub tried_lock : lock_at z t'.locks k ≡ (try_lock z g (lock_at z t.locks k)).lock
    tried_lock = grind (arith, after, stored)

    path_kept : (perform z (Try k g) 0 (memory_of t)).memory.path ≡ t.path
    unfolding perform
    path_kept = refl

    tried_path : t'.path ≡ t.path
    tried_path = grind (arith, after, path_kept)

    module _ (g' : Grab) (w : (try_lock z g (lock_at z t.locks k)).tried ≡ Some g') where
      -- its task from there on
      same : Same z last l.stage k g' l'
      same = takes_on lock_taken done.seen g' (tried_answer ∙ w)

      pub waits_task : Task
      waits_task = same.next

      last_same : last_of t'.path (path_length waits_task.stage) ≡ last
      unfolding waits_task
      last_same = ap (λ (n : ℕ). last_of t'.path n) same.path ∙ ap (λ (ps : List ℕ). last_of ps (path_length l.stage)) tried_path

      pub waits_act : act_of z waits_task (last_of t'.path (path_length waits_task.stage)) ≡ Try k g'
      unfolding waits_task
      waits_act = ap (λ (p : Place). act_of z waits_task p) last_same ∙ same.act

      pub waits_busy : lane_at t'.lanes i ≡ Busy waits_task
      unfolding waits_task
      waits_busy = taken_here ∙ same.is
