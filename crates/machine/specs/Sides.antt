-- 01, "Steps": two rows in locking order. What is said of the one on a side, where the other side's is the same but for a word.
use Rattle.std.specs.Prelude.{ℕ, Bool, true, not}
use Rattle.places.specs.declared.RowPair.{RowPair}
use Rattle.machine.specs.declared.Side.{Side}
use Rattle.machine.specs.declared.Side.TheVariants.{First, Second}

-- one thing for the first row, another for the second
abbrev pub by_side : {A : Type 0} → Side → A → A → A
by_side First a b = a
by_side Second a b = b

-- one of two rows in locking order
abbrev pub side_row : RowPair → Side → ℕ
side_row p First = p.first
side_row p Second = p.second

-- "Equal locks are taken once and released once": the second row's is the last lock, or the first's where both rows have one lock
abbrev pub is_last : Side → Bool → Bool
is_last First shared = shared
is_last Second shared = true

-- and nothing is done at the second of two rows that have one lock
abbrev pub apart_at : Side → Bool → Bool
apart_at First shared = true
apart_at Second shared = not shared
