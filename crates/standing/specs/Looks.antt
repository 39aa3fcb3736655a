-- 01, "Standing check": what each of its loops tests or adds up, by the number that the loop counts.
-- Assumes nothing.
use Rattle.std.specs.Prelude.{ℕ, ◌*◌, List, ◌≡◌, Bool, ◌||◌, ltb}
use Rattle.lists.specs.Numbers.{max_number}
use Rattle.places.specs.declared.Sizes.{Sizes}
use Rattle.places.specs.Table.{max_lanes}
use Rattle.slots.specs.declared.Slot.{Slot}
use Rattle.paths.specs.Path.{place_at}
use Rattle.machine.specs.Back.{lane_at}
use Rattle.machine.specs.Stages.{places_of}
use Rattle.machine.specs.Standing.{place_stands, unused}

-- "path places are in range"
unfoldable pub placed_at : Sizes → List ℕ → ℕ → Bool
placed_at z ps i = place_stands z (place_at ps i)

-- "unused path places are zeros"
unfoldable pub cleared_at : List ℕ → ℕ → ℕ → Bool
cleared_at ps used i = ltb i used || unused ps i

-- how many places lane j has on the path; the others are "unused path places"
unfoldable pub length_at : List ℕ → ℕ → ℕ
length_at vs j = places_of (lane_at vs j)

-- what the path lengths of all lanes add up to at most, each a number of 32 bits
abbrev pub most_used : ℕ
most_used = max_lanes * max_number

-- "columns passed seeking its key lack it, those passed seeking an empty slot are full": a function of the code tests slots by p: each answer that it may give of a slot is p of that slot
abbrev pub Tests : (Slot → Bool → Type 0) → (Slot → Bool) → Type 0
Tests Answers p = (s : Slot) (b : Bool) → Answers s b → b ≡ p s
