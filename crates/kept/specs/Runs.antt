-- Which tables accepted calls lead to: what the theorems on kept, order and finish speak of.
-- Assumes nothing.
use Rattle.std.specs.Prelude.{◌≡◌, true, ℕ}
use Rattle.linear.specs.declared.Request.{Request}
use Rattle.places.specs.declared.Sizes.{Sizes}
use Rattle.places.specs.Table.{sizes_ok}
use Rattle.machine.specs.Standing.{Table, standing}
use Rattle.machine.specs.Desk.{lengths_ok, open_of, start_of, step_of, Accepts}

-- "from each state so reached": an accepted opening, and then "any sequence of accepted starts and steps, with any bytes"
pub data Reached (z : Sizes) : Table → Type 0 where
  by_opening : (t : Table) → Accepts (open_of z t) → Reached z (open_of z t).table
  by_start : (t : Table) (j : ℕ) (r : Request) → Reached z t → Accepts (start_of z t j r) → Reached z (start_of z t j r).table
  by_step : (t : Table) (j byte : ℕ) → Reached z t → Accepts (step_of z t j byte) → Reached z (step_of z t j byte).table

-- "Accepted calls keep it": a table that no start or step refuses with 1, 2 or 9
pub record Stood (z : Sizes) (t : Table) : Type 0 where
  pub sizes : sizes_ok z ≡ true
  pub lengths : lengths_ok z t ≡ true
  pub stands : standing z t ≡ true
