-- No lane weighs more than the bound, and an idle lane weighs nothing.
-- Assumes nothing.
use mathlib.Core.Path.{◌≡◌}
use mathlib.Core.Bool.{not}
use Prim.Native.Nat.{ℕ, ◌+◌, ◌-◌, ◌*◌, ◌≤◌}
use native.Mathlib.Omega.{arith}
use Rattle.lists.specs.Below.{bit}
use Rattle.lists.proofs.Below.{Each}
use Rattle.places.specs.declared.Sizes.{Sizes}
use Rattle.paths.specs.declared.Place.{Place}
use Rattle.machine.specs.declared.Stage.{Stage}
use Rattle.machine.specs.declared.Task.{Task}
use Rattle.machine.specs.declared.Lane.{Lane}
use Rattle.machine.specs.Stages.{item_at, is_idle, stage_in, lane_in}
use Rattle.locks.specs.Turns.{first_weight, most_weight}
use Rattle.locks.proofs.Turns.{weighs_most}
use Rattle.finish.specs.Finish.{step_bound}
use Rattle.finish.specs.Weight.{search_weight, stage_weight, weight}
use Rattle.finish.proofs.Search.{search_walk, search_most}

-- the heaviest is a lane that begins an insert
most : Sizes → ℕ
most z = search_weight z 0 + 4 + 2 * first_weight + most_weight + 4 * z.columns

within_bound : (z : Sizes) → most z ≤ step_bound z
unfolding most search_weight
within_bound z =
    let e : z.rows + 1 - 0 ≡ z.rows + 1 = omega arith in
    rw e (omega arith)

stage_most : (z : Sizes) (l : Task) (last : Place) (s : Stage) → Each (stage_in z l last s) → stage_weight z l.op s ≤ most z
unfolding most item_at
stage_most z l last s r = grind (arith, search_most, search_walk, weighs_most)

-- the bound for a busy lane, 0 for an idle one
pub weighs_within : (z : Sizes) (l : Lane) (last : Place) → Each (lane_in z l last) → weight z l ≤ step_bound z * bit (not (is_idle l))
weighs_within z l last r = grind (arith, stage_most, within_bound)
