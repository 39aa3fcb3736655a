-- What a reader gave stands at the start of a buffer.
-- Assumes nothing.
use Rattle.std.specs.Prelude.{ℕ, ◌≤◌, List, length, take}
use Rattle.std.specs.declared.option.Option.{Option}
use Rattle.std.specs.Io.KnownBytes.{Consumes}

-- some of what the reader had left is taken, and stands at the start of the buffer
abbrev pub TakesSome : Option (List ℕ) → Option (List ℕ) → List ℕ → Type 0
TakesSome old new xs = (n : ℕ) × (n ≤ length xs) × Consumes old new (take n xs)
