-- 01, "Standing check": what a lane's part in a lock adds to its flag, its count, its writers and its readers, and what is tested of a lock.
use Rattle.std.specs.Prelude.{ℕ, List, [], ◌∷◌, Bool, ◌||◌, eqb, leb, Option, Some, None}
use Rattle.places.specs.declared.Sizes.{Sizes}
use Rattle.locks.specs.declared.Lock.{Lock}
use Rattle.locks.specs.declared.Mode.{Mode}
use Rattle.locks.specs.declared.Mode.TheVariants.{Reading, Writing}
use Rattle.locks.specs.declared.Grab.{Grab}
use Rattle.locks.specs.declared.Grab.TheVariants.{R1, R2, R3, R4, W1, W2}
use Rattle.locks.specs.declared.Part.{Part}
use Rattle.locks.specs.declared.Part.TheVariants.{NoPart, Tries, Holds}

-- a lane's part once it has tried
abbrev pub part_after : Mode → Option Grab → Part
part_after m None = Holds m
part_after m (Some g) = Tries g

-- "a lock's flag is set exactly when one lane is past W1 or holds it for writing": what a part adds to the flag
unfoldable pub grab_flag : Grab → ℕ
grab_flag R1 = 0
grab_flag (R2 noted) = 0
grab_flag R3 = 0
grab_flag R4 = 0
grab_flag W1 = 0
grab_flag W2 = 1

-- of a lock that is held in a mode
abbrev pub mode_flag : Mode → ℕ
mode_flag Reading = 0
mode_flag Writing = 1

-- of any part
abbrev pub part_flag : Part → ℕ
part_flag NoPart = 0
part_flag (Tries g) = grab_flag g
part_flag (Holds m) = mode_flag m

-- "its count is the number of lanes at R3, R4 or holding it for reading": what a part adds to the count
unfoldable pub grab_count : Grab → ℕ
grab_count R1 = 0
grab_count (R2 noted) = 0
grab_count R3 = 1
grab_count R4 = 1
grab_count W1 = 0
grab_count W2 = 0

-- of a lock that is held in a mode
abbrev pub mode_count : Mode → ℕ
mode_count Reading = 1
mode_count Writing = 0

-- of any part
abbrev pub part_count : Part → ℕ
part_count NoPart = 0
part_count (Tries g) = grab_count g
part_count (Holds m) = mode_count m

-- "none for writing while another holds it for reading": who holds it for writing, and who for reading
abbrev pub part_writes : Part → ℕ
part_writes NoPart = 0
part_writes (Tries g) = 0
part_writes (Holds m) = mode_flag m

abbrev pub part_reads : Part → ℕ
part_reads NoPart = 0
part_reads (Tries g) = 0
part_reads (Holds m) = mode_count m

-- "exactly when one lane is past W1 or holds it for writing, and never two; its count is the number of lanes ..", "none for writing while
-- another holds it for reading": what is tested of a lock, where sum adds up the lanes' parts in it by a measure of parts
unfoldable pub lock_tests : Sizes → Lock → ((Part → ℕ) → ℕ) → List Bool
lock_tests z w sum =
    eqb w.flag (sum part_flag)
    ∷ leb (sum part_flag) 1
    ∷ eqb w.count (sum part_count)
    ∷ (eqb (sum part_writes) 0 || eqb (sum part_reads) 0)
    ∷ []
