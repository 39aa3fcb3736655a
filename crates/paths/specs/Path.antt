-- 01, "What the table holds": the path store.
-- Assumes nothing.
use Rattle.std.specs.Prelude.{ℕ, ◌+◌, ◌-◌, ◌*◌, List, [], ◌∷◌, cond, eqb, length, replicate}
use Rattle.lists.specs.Records.{cell, put}
use Rattle.places.specs.declared.Sizes.{Sizes}
use Rattle.places.specs.Table.{home_one, home_two}
use Rattle.paths.specs.declared.Place.{Place}

-- "One path store of H+2 places (row, column, key)"
abbrev pub path_places : Sizes → ℕ
path_places z = z.rows + 2

-- a place is three numbers
abbrev pub place_numbers : ℕ
place_numbers = 3

-- how many all places take
abbrev pub path_words : Sizes → ℕ
path_words z = path_places z * place_numbers

-- row, column, key
unfoldable pub place_at : List ℕ → ℕ → Place
place_at ps i = record { row = cell place_numbers ps i 0; column = cell place_numbers ps i 1; key = cell place_numbers ps i 2 }

-- the store with p as place i
unfoldable pub with_place : List ℕ → ℕ → Place → List ℕ
with_place ps i p = put place_numbers ps i (p.row ∷ p.column ∷ p.key ∷ [])

-- "A place that leaves the path becomes zeros"
abbrev pub no_place : Place
no_place = record { row = 0; column = 0; key = 0 }

-- "the step that releases main empties the path"
unfoldable pub emptied : List ℕ → List ℕ
emptied ps = replicate (length ps) 0

-- the last of n places, zeros where there is none
unfoldable pub last_of : List ℕ → ℕ → Place
last_of ps n = cond (eqb n 0) no_place (place_at ps (n - 1))

-- "the key's other row"
unfoldable pub other_row : Sizes → Place → ℕ
other_row z p = cond (eqb p.row (home_one z p.key)) (home_two z p.key) (home_one z p.key)
