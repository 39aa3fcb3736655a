-- 01, "Steps": the words of its rules, of an operation, its rows and its path.
use Rattle.std.specs.Prelude.{ℕ, Bool, false, cond, not, ◌||◌, eqb, ltb, Option, Some, None}
use Rattle.places.specs.declared.Sizes.{Sizes}
use Rattle.places.specs.declared.RowPair.{RowPair}
use Rattle.places.specs.Locking.{lock_order, rows_of}
use Rattle.slots.specs.declared.Slot.{Slot}
use Rattle.slots.specs.Slot.{empty_slot, full_slot}
use Rattle.locks.specs.declared.Mode.{Mode}
use Rattle.locks.specs.declared.Mode.TheVariants.{Reading, Writing}
use Rattle.paths.specs.declared.Place.{Place}
use Rattle.paths.specs.Path.{other_row}
use Rattle.machine.specs.declared.Op.{Op}
use Rattle.machine.specs.declared.Op.TheVariants.{Read, Delete, Insert, Again}
use Rattle.machine.specs.declared.Side.{Side}
use Rattle.machine.specs.declared.Side.TheVariants.{First, Second}
use Rattle.machine.specs.declared.Walk.{Walk}
use Rattle.machine.specs.declared.Outcome.{Outcome}
use Rattle.machine.specs.declared.Outcome.TheVariants.{Hit, Wrote, Filled, Miss, Picked, Stuck}
use Rattle.machine.specs.declared.Ending.{Ending}
use Rattle.machine.specs.declared.Ending.TheVariants.{Yes, Searched, Walked}
use Rattle.machine.specs.Lane.{op_code}
use Rattle.machine.specs.Sides.{side_row}

-- ---- an operation

-- "Read."
abbrev pub is_read : Op → Bool
is_read op = eqb (op_code op) 1

-- "Read.", "Delete.": their pass has only looks for the key
abbrev pub only_seeks : Op → Bool
only_seeks op = eqb (op_code op) 1 || eqb (op_code op) 2

-- "after a hit one step empties the slot", "A hit is overwritten": a delete or an insert
abbrev pub writes_hit : Op → Bool
writes_hit op = ltb 1 (op_code op)

-- "Insert.", in either pass
abbrev pub is_insert : Op → Bool
is_insert op = ltb 2 (op_code op)

-- "Insert.", "Search.", "Walk.": until its second pass
abbrev pub is_first_pass : Op → Bool
is_first_pass op = eqb (op_code op) 3

-- "Second pass."
abbrev pub is_second_pass : Op → Bool
is_second_pass op = eqb (op_code op) 4

-- ---- its rows, locks and path

-- a read takes its rows for reading, "Delete. The same with writing locks", and so does an insert
abbrev pub mode_of : Op → Mode
mode_of Read = Reading
mode_of Delete = Writing
mode_of Insert = Writing
mode_of Again = Writing

-- the rows of a lane's key in locking order: "Lock the first row .. lock and look through the second"
abbrev pub row_on : Sizes → ℕ → Side → ℕ
row_on z key side = side_row (rows_of z key) side

-- "Equal locks are taken once and released once"
abbrev pub shared_rows : Sizes → ℕ → Bool
shared_rows z key = (rows_of z key).shared

-- "take both rows' locks, lower first": the rows of a swing, from the last place to the free one
abbrev pub swing_rows : Sizes → Place → Walk → RowPair
swing_rows z last w = lock_order z last.row w.row

-- "Release those held": the second row's lock is left to release, unless it is the first's or was never taken
abbrev pub drops_two : Bool → Outcome → Bool
drops_two shared (Hit First column value) = false
drops_two shared (Hit Second column value) = not shared
drops_two shared (Wrote First) = false
drops_two shared (Wrote Second) = not shared
drops_two shared Filled = not shared
drops_two shared Miss = not shared
drops_two shared Picked = not shared
drops_two shared Stuck = not shared

-- how many places of the path store are the lane's
abbrev pub outcome_places : Outcome → ℕ
outcome_places (Hit side column value) = 0
outcome_places (Wrote side) = 0
outcome_places Filled = 0
outcome_places Miss = 0
outcome_places Picked = 1
outcome_places Stuck = 0

-- "The path then has H+2 places"
abbrev pub ending_places : Ending → ℕ
ending_places Yes = 0
ending_places (Searched places) = places
ending_places Walked = 0

-- the slot that a hit is overwritten with: "one step empties the slot", "A hit is overwritten in one step"
abbrev pub written : Op → ℕ → ℕ → Slot
written op key value = cond (is_insert op) (full_slot key value) empty_slot

-- "From the last place, read-lock the key's other row": the row an attempt looked through; once it was picked from, the last place's
abbrev pub sought_row : Sizes → Place → Option ℕ → ℕ
sought_row z last (Some column) = other_row z last
sought_row z last None = last.row
