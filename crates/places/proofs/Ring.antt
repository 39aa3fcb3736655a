-- A step round a ring of rows.
-- Assumes nothing.
use mathlib.Core.Logic.{◌≢◌}
use Prim.Native.Nat.{ℕ, ◌+◌, ◌-◌, ◌%◌, ◌≤◌, ◌<◌}
use native.Mathlib.Nat.{mod-eq_of_lt, mod-eq-sub-mod}
use native.Mathlib.Decide.{dec_lt}
use native.Mathlib.Omega.{arith}

-- a step of 1 .. h - 1 round a ring of h places never ends where it began
pub ring_step : (h a b : ℕ) → a < h → b < h - 1 → (a + 1 + b) % h ≢ a
ring_step h a b la lb e = elim (dec_lt (a + 1 + b) h) [
  | yes l ↦ omega (arith, mod-eq_of_lt l)
  | no g ↦
      let g' : h ≤ a + 1 + b = omega arith in
      let l : a + 1 + b - h < h = omega arith in
      omega (arith, mod-eq-sub-mod g', mod-eq_of_lt l)
]
