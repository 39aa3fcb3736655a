-- What a lane adds to a lock by each of the four measures of parts, as the code keeps them.
-- Assumes nothing.
use Rattle.std.specs.Prelude.{ℕ, ◌+◌, ◌^◌, ◌≡◌, ◌≤◌, ◌<◌}
use Rattle.places.specs.declared.Sizes.{Sizes}
use Rattle.locks.specs.declared.Part.{Part}
use Rattle.locks.specs.Parts.{part_flag, part_count, part_writes, part_reads}
use Rattle.machine.specs.declared.Grip.{Grip}
use Rattle.holds.specs.declared.shares.Shares.{Shares}
use Rattle.machine.specs.Claims.{share}

abbrev pub shares_of : Sizes → Grip → ℕ → Shares
shares_of z g k = record { flag = share z part_flag g k; count = share z part_count g k; writes = share z part_writes g k; reads = share z part_reads g k }

-- what one lane adds to a lock and what others do, by all four
abbrev pub added : Shares → Shares → Shares
added s t = record { flag = s.flag + t.flag; count = s.count + t.count; writes = s.writes + t.writes; reads = s.reads + t.reads }

-- each of the four sums is a number of 32 bits
pub record SumsFit (s t : Shares) : Type 0 where
  pub flag : s.flag + t.flag < 2 ^ 32
  pub count : s.count + t.count < 2 ^ 32
  pub writes : s.writes + t.writes < 2 ^ 32
  pub reads : s.reads + t.reads < 2 ^ 32

-- a function of the code measures parts by f: each result that it may have at a part is f of that part
abbrev pub Measures : (Part → ℕ → Type 0) → (Part → ℕ) → Type 0
Measures Gives f = (p : Part) (n : ℕ) → Gives p n → n ≡ f p

-- and a part has at most 1 by it
abbrev pub MeasuresLow : (Part → ℕ → Type 0) → Type 0
MeasuresLow Gives = (p : Part) (n : ℕ) → Gives p n → n ≤ 1
