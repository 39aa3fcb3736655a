-- Demand 3: "some schedule without new starts ends every operation, within 20 x (rows + 2) x (columns + 2) steps for each unfinished lane".
-- Assumes nothing.
use Rattle.std.specs.Prelude.{◌≡◌, List, [], ◌∷◌, Bool, true, not, ℕ, ◌+◌, ◌*◌, ◌≤◌, ◌<◌, eqb, length}
use Rattle.lists.specs.Below.{bit, count_below}
use Rattle.places.specs.declared.Sizes.{Sizes}
use Rattle.machine.specs.Back.{lane_at}
use Rattle.machine.specs.Stages.{is_idle}
use Rattle.machine.specs.Standing.{Table}
use Rattle.machine.specs.Desk.{step_of, Accepts}

-- a step to take: "a scheduler who names a lane and hands over one byte"
pub record Call : Type 0 where
  pub lane : ℕ
  pub byte : ℕ

-- the table after a schedule; "without new starts", so a schedule has none
abbrev pub after_all : Sizes → Table → List Call → Table
after_all z t [] = t
after_all z t (c ∷ cs) = after_all z (step_of z t c.lane c.byte).table cs

-- every step is accepted at the moment it is taken
abbrev pub Accepted : Sizes → Table → List Call → Type 0
Accepted z t [] = Unit {0}
Accepted z t (c ∷ cs) = Accepts (step_of z t c.lane c.byte) × Accepted z (step_of z t c.lane c.byte).table cs

-- "hands over one byte"
abbrev pub Bytes : List Call → Type 0
Bytes [] = Unit {0}
Bytes (c ∷ cs) = (c.byte < 256) × Bytes cs

-- how often a lane stands in a schedule
abbrev pub times_of : ℕ → List Call → ℕ
times_of j [] = 0
times_of j (c ∷ cs) = bit (eqb c.lane j) + times_of j cs

-- a lane has an operation that has not ended
abbrev pub is_busy : Table → ℕ → Bool
is_busy t j = not (is_idle (lane_at t.lanes j))

-- "for each unfinished lane": how many there are
abbrev pub unfinished : Sizes → Table → ℕ
unfinished z t = count_below z.lanes (is_busy t)

-- "20 x (rows + 2) x (columns + 2) steps"
abbrev pub step_bound : Sizes → ℕ
step_bound z = 20 * (z.rows + 2) * (z.columns + 2)

-- "some schedule without new starts ends every operation"
pub record Finishes (z : Sizes) (t : Table) : Type 0 where
  pub schedule : List Call
  pub bytes : Bytes schedule
  pub accepted : Accepted z t schedule
  -- "ends every operation": an ended lane is idle
  pub all_idle : (j : ℕ) → j < z.lanes → is_idle (lane_at (after_all z t schedule).lanes j) ≡ true
  -- "within 20 x (rows + 2) x (columns + 2) steps for each unfinished lane"
  pub total : length schedule ≤ step_bound z * unfinished z t
  -- and no lane takes more than its own share
  pub each : (j : ℕ) → j < z.lanes → times_of j schedule ≤ step_bound z * bit (is_busy t j)
