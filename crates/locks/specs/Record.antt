-- docs/LANES.md, numbers 4 and 5: a grab in the lane record, back from there, and its range.
use Rattle.std.specs.Prelude.{ℕ, [], ◌∷◌, Bool, true, false, leb, get_or}
use Rattle.places.specs.declared.Sizes.{Sizes}
use Rattle.locks.specs.declared.Mode.{Mode}
use Rattle.locks.specs.declared.Mode.TheVariants.{Reading, Writing}
use Rattle.locks.specs.declared.Grab.{Grab}
use Rattle.locks.specs.declared.Grab.TheVariants.{R1, R2, R3, R4, W1, W2}

-- number 4: how far the taking of a lock is
unfoldable pub grab_code : Grab → ℕ
grab_code R1 = 1
grab_code (R2 noted) = 2
grab_code R3 = 3
grab_code R4 = 4
grab_code W1 = 5
grab_code W2 = 6

-- number 5: "note the count"
unfoldable pub grab_noted : Grab → ℕ
grab_noted R1 = 0
grab_noted (R2 noted) = noted
grab_noted R3 = 0
grab_noted R4 = 0
grab_noted W1 = 0
grab_noted W2 = 0

-- how far a lock is taken, read back
unfoldable pub grab_from : ℕ → ℕ → Grab
grab_from code noted = get_or (R1 ∷ R1 ∷ R2 noted ∷ R3 ∷ R4 ∷ W1 ∷ W2 ∷ []) code R1

-- "every lane number is in range": a grab that takes a lock in this mode; a noted count is at most the number of lanes
unfoldable pub grab_in : Sizes → Mode → Grab → Bool
grab_in z Reading R1 = true
grab_in z Reading (R2 noted) = leb noted z.lanes
grab_in z Reading R3 = true
grab_in z Reading R4 = true
grab_in z Reading W1 = false
grab_in z Reading W2 = false
grab_in z Writing R1 = false
grab_in z Writing (R2 noted) = false
grab_in z Writing R3 = false
grab_in z Writing R4 = false
grab_in z Writing W1 = true
grab_in z Writing W2 = true
