-- 01, the whole case: an insert alone in an empty table of three rows and one column, step by step.
-- Assumes nothing.
use Rattle.std.specs.Prelude.{ℕ, zero, suc, ◌≡◌, List, replicate, None}
use Rattle.places.specs.declared.Sizes.{Sizes}
use Rattle.slots.specs.Slot.{slot_words}
use Rattle.locks.specs.declared.Mode.TheVariants.{Writing}
use Rattle.locks.specs.Taking.{grab_of}
use Rattle.paths.specs.Path.{path_words}
use Rattle.machine.specs.declared.Op.TheVariants.{Insert}
use Rattle.machine.specs.declared.Stage.TheVariants.{TakeMain}
use Rattle.machine.specs.declared.Lane.{Lane}
use Rattle.machine.specs.declared.Lane.TheVariants.{Busy}
use Rattle.machine.specs.Steps.{LaneStep, step_lane}
use Rattle.acts.specs.Fitting.{memory}

-- "sizes 3 1 3 1"
abbrev pub small_sizes : Sizes
small_sizes = record { rows = 3; columns = 1; locks = 3; lanes = 1 }

-- "04 00 00 04 00 00 07 00 00 00": an insert of key 1024 and value 7
abbrev pub first_lane : Lane
first_lane = Busy (record { op = Insert; key = 1024; value = 7; stage = TakeMain (grab_of small_sizes Writing) })

-- "thirteen times `05 00 00`": where the insert stands after n of its steps, each with byte 0
unfoldable pub after_steps : ℕ → LaneStep
after_steps zero =
    record { memory = memory (replicate (slot_words small_sizes) 0) (replicate 8 0) (replicate (path_words small_sizes) 0); lane = first_lane; answer = None }
after_steps (suc n) = step_lane small_sizes (after_steps n).memory (after_steps n).lane 0

-- the lent lists and the lane are those after n steps
pub record Stands (xs ls ps : List ℕ) (l : Lane) (n : ℕ) : Type 0 where
  pub slots : xs ≡ (after_steps n).memory.slots
  pub locks : ls ≡ (after_steps n).memory.locks
  pub path : ps ≡ (after_steps n).memory.path
  pub lane : l ≡ (after_steps n).lane
