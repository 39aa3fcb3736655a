-- Two laws of a search's weight: what one attempt takes off, and that a walk is always left.
-- Assumes nothing.
use mathlib.Core.Path.{◌≡◌}
use Prim.Native.Nat.{ℕ, ◌+◌, ◌-◌, ◌≤◌}
use native.Mathlib.Omega.{arith}
use Rattle.places.specs.declared.Sizes.{Sizes}
use Rattle.finish.specs.Weight.{walk_weight, search_weight}

-- an attempt: a grab, all columns, a pick and a release
pub search_next : (z : Sizes) (picks : ℕ) → picks ≤ z.rows → search_weight z picks ≡ search_weight z (picks + 1) + (z.columns + 5)
unfolding search_weight
search_next z picks h =
    let e : z.rows + 1 - picks ≡ z.rows + 1 - (picks + 1) + 1 = omega arith in
    rw e (omega arith)

pub search_walk : (z : Sizes) (picks : ℕ) → walk_weight z (z.rows + 1) + 1 ≤ search_weight z picks
unfolding search_weight
search_walk z picks = omega arith

pub search_most : (z : Sizes) (picks : ℕ) → search_weight z picks ≤ search_weight z 0
unfolding search_weight
search_most z picks = grind arith
