-- What a number in a list can be.
use Rattle.std.specs.Prelude.{ℕ}

-- the highest number of 32 bits
abbrev pub max_number : ℕ
max_number = 4294967295
