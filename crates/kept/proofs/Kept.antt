-- THE THEOREM "kept": opening an accepted table gives a standing one, and every accepted start and step keeps it so.
-- Assumes nothing.
use mathlib.Core.Path.{◌≡◌, sym}
use mathlib.Core.Logic.{◌≢◌}
use mathlib.Core.Bool.{true, false}
use Prim.Native.Nat.{ℕ, ◌<◌}
use native.Mathlib.Omega.{arith}
use Rattle.linear.specs.declared.Request.{Request}
use Rattle.places.specs.declared.Sizes.{Sizes}
use Rattle.places.specs.Table.{sizes_ok}
use Rattle.places.proofs.Limits.{ok_fits}
use Rattle.machine.specs.Back.{lane_at}
use Rattle.machine.specs.Stages.{is_idle, act_of, path_length}
use Rattle.machine.specs.Steps.{step_task}
use Rattle.machine.specs.Standing.{Table, standing}
use Rattle.machine.specs.Desk.{lengths_ok, turned, turn_of, memory_of}
use Rattle.machine.proofs.Numbers.{lane_other, lane_length}
use Rattle.linear.specs.declared.Request.{Request}
use Rattle.machine.specs.Desk.{open_of, start_of, step_of, Accepts}
use Rattle.kept.specs.Runs.{Reached, by_opening, by_start, by_step, Stood}
use Rattle.kept.proofs.Long.{lengths_of, lanes_of, lengths_ok_lem, act_lengths}
use Rattle.kept.proofs.Checked.{Standing, standing_facts, facts_standing}
use Rattle.kept.proofs.Opening.{opening_tested, opening_kept, opening_lengths}
use Rattle.kept.proofs.Starting.{start_tested, start_kept, start_lengths}
use Rattle.kept.proofs.Stepping.{step_stands}
use mathlib.Core.Path.{refl}
use mathlib.Core.Bool.{false≢true}
use Rattle.paths.specs.Path.{last_of}
use Rattle.machine.specs.declared.Task.{Task}
use Rattle.machine.specs.declared.Lane.{Lane}
use Rattle.machine.specs.declared.Lane.TheVariants.{Idle, Busy}
use mathlib.Core.Path.{◌∙◌}

-- ---- what acceptance says

-- a lane that is not idle has a task
pub busy_task : (l : Lane) → is_idle l ≡ false → (k : Task) × (l ≡ Busy k)
busy_task Idle e = absurd (false≢true (sym e))
busy_task (Busy k) e = (k, refl)

-- a step that is accepted passed every test
pub record StepAccepted (z : Sizes) (t : Table) (j : ℕ) : Type 0 where
  pub sizes : sizes_ok z ≡ true
  pub lengths : lengths_ok z t ≡ true
  pub stands : standing z t ≡ true
  pub lane : j < z.lanes
  pub busy : is_idle (lane_at t.lanes j) ≡ false

module _ (z : Sizes) (t : Table) (j byte : ℕ) (e : Accepts (step_of z t j byte)) where
  pub step_tested : StepAccepted z t j
  unfolding step_of
  step_tested = grind arith

  pub step_is : step_of z t j byte ≡ turned z t j byte
  unfolding step_of
  step_is = grind arith

  turned_stands : Standing z (turned z t j byte).table
  turned_stands =
      let a : StepAccepted z t j = step_tested in
      let k = busy_task (lane_at t.lanes j) a.busy in
      step_stands z (ok_fits z a.sizes) t (lengths_of z t a.lengths) (lanes_of z t a.lengths) j byte a.lane (standing_facts z t a.stands) k.0 k.1

  turned_lengths : lengths_ok z (turned z t j byte).table ≡ true
  unfolding turned step_task
  turned_lengths =
      let k = busy_task (lane_at t.lanes j) step_tested.busy in
      rw k.1 (lengths_ok_lem z (turn_of t j (step_task z (memory_of t) k.0 byte)).table
      (act_lengths z (act_of z k.0 (last_of t.path (path_length k.0.stage))) byte (memory_of t) (lengths_of z t step_tested.lengths))
      (lane_length t.lanes j _ ∙ lanes_of z t step_tested.lengths))

-- of the lane records a step changes only its own
pub lanes_framed : (z : Sizes) (t : Table) (j byte k : ℕ) → k ≢ j → lane_at (turned z t j byte).table.lanes k ≡ lane_at t.lanes k
unfolding turned
lanes_framed z t j byte k d = lane_other t.lanes j _ k d

-- ---- the three parts

pub kept_opening : (z : Sizes) (t : Table) → Accepts (open_of z t) → Stood z (open_of z t).table
kept_opening z t e =
    record { sizes = (opening_tested z t e).0; lengths = opening_lengths z t e; stands = facts_standing z (open_of z t).table (opening_kept z t e) }

pub kept_start : (z : Sizes) (t : Table) (j : ℕ) (r : Request) → Accepts (start_of z t j r) → Stood z (start_of z t j r).table
kept_start z t j r e =
    record { sizes = (start_tested z t j r e).sizes; lengths = start_lengths z t j r e; stands = facts_standing z (start_of z t j r).table (start_kept z t j r e) }

pub kept_step : (z : Sizes) (t : Table) (j byte : ℕ) → Accepts (step_of z t j byte) → Stood z (step_of z t j byte).table
kept_step z t j byte e =
    rw (step_is z t j byte e)
    (record { sizes = (step_tested z t j byte e).sizes; lengths = turned_lengths z t j byte e; stands = facts_standing z (turned z t j byte).table (turned_stands z t j byte e) })

-- ---- the theorem

pub kept : (z : Sizes) (t : Table) → Reached z t → Stood z t
kept z u (by_opening t e) = kept_opening z t e
kept z u (by_start t j r h e) = kept_start z t j r e
kept z u (by_step t j byte h e) = kept_step z t j byte e
