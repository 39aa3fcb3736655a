-- A grab's mode, its range and its numbers: a first grab is in range and so is one that waits, and a grab is read back from its numbers.
use mathlib.Core.Path.{◌≡◌}
use mathlib.Core.Bool.{true}
use Prim.Native.Nat.{◌≤◌}
use native.Mathlib.Omega.{arith}
use Rattle.std.specs.Prelude.{Some}
use Rattle.places.specs.declared.Sizes.{Sizes}
use Rattle.locks.specs.declared.Lock.{Lock}
use Rattle.locks.specs.declared.Mode.{Mode}
use Rattle.locks.specs.declared.Grab.{Grab}
use Rattle.locks.specs.Taking.{grab_of, grab_mode, try_lock}
use Rattle.locks.specs.Record.{grab_code, grab_noted, grab_from, grab_in}

-- ---- the range

-- a first grab is in range
pub fresh_in : (z : Sizes) (m : Mode) → grab_in z m (grab_of z m) ≡ true
unfolding grab_in grab_of
fresh_in z m = grind arith

-- a grab in range takes its lock for that mode
pub in_mode : (z : Sizes) (m : Mode) (g : Grab) → grab_in z m g ≡ true → grab_mode g ≡ m
unfolding grab_in grab_mode
in_mode z m g e = grind arith

-- a grab in range that waits is in range still: of the same mode, and what it notes is the lock's count
pub waits_fit : (z : Sizes) (m : Mode) (g g' : Grab) (w : Lock) → grab_in z m g ≡ true → w.count ≤ z.lanes → (try_lock z g w).tried ≡ Some g' → grab_in z m g' ≡ true
unfolding grab_in try_lock
waits_fit z m g g' w h c e = grind arith

-- ---- the numbers

pub grab_back : (g : Grab) → grab_from (grab_code g) (grab_noted g) ≡ g
unfolding grab_from grab_code grab_noted
grab_back g = grind arith
