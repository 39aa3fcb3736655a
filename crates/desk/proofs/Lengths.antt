-- The test of the lengths.
-- Assumes nothing.
use mathlib.Core.Path.{◌≡◌, refl, sym}
use mathlib.Core.Bool.{Bool, true, false, ◌&&◌}
use mathlib.Core.List.{List}
use Prim.Native.Nat.{ℕ, ◌+◌, ◌*◌}
use lib.Dec.{eqb}
use lib.ListN.{length}
use Rattle.places.specs.declared.Sizes.{Sizes}
use Rattle.slots.specs.Slot.{slot_words}
use Rattle.paths.specs.Path.{path_words}
use Rattle.locks.specs.Locks.{lock_words}
use Rattle.machine.specs.Desk.{lengths_ok}
use Rattle.machine.specs.Lane.{lane_words}
use Rattle.standing.specs.Tables.{table}

-- the four tests of the lengths in a row
and_last : (b : Bool) → b && true ≡ b
and_last true = refl
and_last false = refl

and_nest : (a b c d : Bool) → a && b && c && d ≡ (a && (b && (c && (d && true))))
and_nest true true true d = sym (and_last d)
and_nest true true false d = refl
and_nest true false c d = refl
and_nest false b c d = refl

pub lengths_test : (z : Sizes) (xs ls vs ps : List ℕ) (a b c d : ℕ) → a ≡ slot_words z → b ≡ lock_words z → c ≡ lane_words z → d ≡ path_words z
    → eqb (length xs) a && eqb (length ls) b && eqb (length vs) c && eqb (length ps) d ≡ lengths_ok z (table xs ls vs ps)
unfolding lengths_ok
lengths_test z xs ls vs ps a b c d ea eb ec ed =
    rw (ea, eb, ec, ed)
    (and_nest (eqb (length xs) (slot_words z)) (eqb (length ls) (lock_words z)) (eqb (length vs) (lane_words z)) (eqb (length ps) (path_words z)))
