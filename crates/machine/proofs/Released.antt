-- Releases that change more than a lock, by computation: the last of a swing's, and main's.
-- Assumes nothing.
use mathlib.Core.Path.{◌≡◌, refl}
use mathlib.Core.List.{List, [], ◌∷◌}
use Prim.Native.Nat.{ℕ}
use lib.ListN.{replicate}
use Rattle.std.specs.Prelude.{None, Some}
use Rattle.lists.specs.Records.{cell, put}
use Rattle.linear.specs.declared.End.TheVariants.{InsertSearched}
use Rattle.places.specs.declared.Sizes.{Sizes}
use Rattle.places.specs.Locking.{lock_order}
use Rattle.places.specs.Table.{home_one, home_two, lock_of}
use Rattle.locks.specs.declared.Mode.TheVariants.{Writing}
use Rattle.locks.specs.Locks.{lock_at, with_lock}
use Rattle.locks.specs.Taking.{grab_of, released}
use Rattle.paths.specs.Path.{place_at, with_place, emptied, last_of, path_words}
use Rattle.slots.specs.Slot.{slot_words}
use Rattle.machine.specs.declared.Op.TheVariants.{Insert}
use Rattle.machine.specs.declared.Ending.TheVariants.{Searched}
use Rattle.machine.specs.declared.Stage.{Stage}
use Rattle.machine.specs.declared.Stage.TheVariants.{DropMain, TakeSwing, DropSwing}
use Rattle.machine.specs.declared.Task.{Task}
use Rattle.machine.specs.Stages.{item_at}
use Rattle.machine.specs.Steps.{Memory, perform, advance_at, step_lane, step_task}
use Rattle.machine.specs.declared.Lane.TheVariants.{Idle, Busy}
use Rattle.machine.specs.declared.Side.TheVariants.{First, Second}

-- two rows of two columns, a lock for each
abbrev z : Sizes
z = record { rows = 2; columns = 2; locks = 2; lanes = 1 }

-- an insert of 4
abbrev task : Stage → Task
task s = record { op = Insert; key = 4; value = 7; stage = s }

-- flag and count of each lock, main last; row, column and key of each place
abbrev memory : List ℕ → List ℕ → Memory
memory ls ps = record { slots = replicate (slot_words z) 0; locks = ls; path = ps }

-- it releases row 1: the place that it swung from, in column 1 of row 0, leaves the path and is the free place
swing_leaves : step_lane z (memory (0 ∷ 0 ∷ 1 ∷ 0 ∷ 1 ∷ 0 ∷ []) (1 ∷ 0 ∷ 3 ∷ 0 ∷ 1 ∷ 2 ∷ replicate 6 0)) (Busy (task (DropSwing Second (record { places = 2; row = 1; column = 0 })))) 0
    ≡ record { memory = memory (0 ∷ 0 ∷ 0 ∷ 0 ∷ 1 ∷ 0 ∷ []) (1 ∷ 0 ∷ 3 ∷ replicate 9 0); lane = Busy (task (TakeSwing First (grab_of z Writing) (record { places = 1; row = 0; column = 1 }))); answer = None }
unfolding cell put lock_order home_one home_two lock_of lock_at with_lock released place_at with_place emptied last_of item_at perform advance_at step_task
swing_leaves = refl

-- it releases main: the path is emptied, and the lane is idle
main_leaves : step_lane z (memory (0 ∷ 0 ∷ 0 ∷ 0 ∷ 1 ∷ 0 ∷ []) (0 ∷ 1 ∷ 2 ∷ 1 ∷ 1 ∷ 3 ∷ 0 ∷ 0 ∷ 6 ∷ 1 ∷ 0 ∷ 5 ∷ [])) (Busy (task (DropMain (Searched 4)))) 0
    ≡ record { memory = memory (replicate 6 0) (replicate (path_words z) 0); lane = Idle; answer = Some InsertSearched }
unfolding cell put lock_order home_one home_two lock_of lock_at with_lock released place_at with_place emptied last_of item_at perform advance_at step_task
main_leaves = refl
