-- 01, "Standing check": the lent numbers that each part of it looks at, and how many there are.
-- Assumes nothing.
use Rattle.std.specs.Prelude.{ℕ, ◌*◌, ◌≡◌, List, [], length}
use Rattle.places.specs.declared.Sizes.{Sizes}
use Rattle.slots.specs.Slot.{slot_words}
use Rattle.paths.specs.Path.{path_words}
use Rattle.locks.specs.Locks.{lock_words}
use Rattle.machine.specs.Standing.{Table}
use Rattle.machine.specs.Lane.{lane_words}
use Rattle.standing.specs.Tables.{table}

-- what "every lane number is in range for its place in the steps" and a lane's claims look at: no locks
abbrev pub lanes_table : List ℕ → List ℕ → List ℕ → Table
lanes_table xs vs ps = table xs [] vs ps

-- what "path places are in range" looks at: lanes and path
abbrev pub path_table : List ℕ → List ℕ → Table
path_table vs ps = table [] [] vs ps

-- what the test of a lock looks at, "a lock's flag is set exactly when one lane ..": no slots
abbrev pub locks_table : List ℕ → List ℕ → List ℕ → Table
locks_table ls vs ps = table [] ls vs ps

-- not refused by "a lent length isn't exactly what the sizes need"
pub record Lengths (z : Sizes) (xs ls vs ps : List ℕ) : Type 0 where
  pub slots : length xs ≡ slot_words z
  pub locks : length ls ≡ lock_words z
  pub lanes : length vs ≡ lane_words z
  pub path : length ps ≡ path_words z
