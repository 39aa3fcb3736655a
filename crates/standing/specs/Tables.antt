-- 01, "Standing check": the lent numbers that it looks at.
-- Assumes nothing.
use Rattle.std.specs.Prelude.{ℕ, List}
use Rattle.machine.specs.Standing.{Table}

-- the lent numbers of "Standing check", as the code has them
abbrev pub table : List ℕ → List ℕ → List ℕ → List ℕ → Table
table xs ls vs ps = record { slots = xs; locks = ls; lanes = vs; path = ps }
