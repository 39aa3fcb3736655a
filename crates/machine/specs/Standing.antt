-- 01, "Standing check": of the whole table.
-- Assumes nothing.
use Rattle.std.specs.Prelude.{ℕ, ◌+◌, ◌-◌, List, [], ◌∷◌, Bool, true, not, ◌&&◌, ◌||◌, eqb, ltb, leb}
use Rattle.lists.specs.Below.{sum_below, all_below, all_of}
use Rattle.places.specs.declared.Sizes.{Sizes}
use Rattle.places.specs.Table.{max_key, home_one, home_two, slot_index}
use Rattle.slots.specs.Slot.{slot_at, is_full, is_empty, has_key}
use Rattle.slots.specs.Sound.{sound}
use Rattle.locks.specs.declared.Part.{Part}
use Rattle.locks.specs.Locks.{lock_at}
use Rattle.locks.specs.Parts.{lock_tests}
use Rattle.paths.specs.declared.Place.{Place}
use Rattle.paths.specs.Path.{path_places, place_at, last_of, other_row}
use Rattle.machine.specs.declared.RowClaim.{RowClaim}
use Rattle.machine.specs.declared.SlotClaim.{SlotClaim}
use Rattle.machine.specs.declared.SlotClaim.TheVariants.{NoClaim, HasKey, HasPair, HasRoom}
use Rattle.machine.specs.declared.Claims.{Claims}
use Rattle.machine.specs.Back.{lane_at, decodes}
use Rattle.machine.specs.Claims.{share}
use Rattle.machine.specs.Stages.{places_of, claim_key, grip_of, claims_of, lane_in}

-- "What the table holds": the lent numbers, slots, locks, lanes and path
pub record Table : Type 0 where
  pub slots : List ℕ
  pub locks : List ℕ
  pub lanes : List ℕ
  pub path : List ℕ

-- the last place on a lane's path
abbrev pub last_at : Table → ℕ → Place
last_at t j = last_of t.path (places_of (lane_at t.lanes j))

-- the lanes' parts in lock k, added up by a measure of parts
abbrev pub parts_in : Sizes → (Part → ℕ) → Table → ℕ → ℕ
parts_in z f t k = sum_below z.lanes (λ j. share z f (grip_of z (lane_at t.lanes j) (last_at t j)) k)

-- a lock's numbers are what the lanes' parts in it add up to, "none for writing while another holds it for reading"
unfoldable pub lock_stands : Sizes → Table → ℕ → Bool
lock_stands z t k = all_of (lock_tests z (lock_at z t.locks k) (λ f. parts_in z f t k))

-- "path places are in range"; a place is in a home row of its key
unfoldable pub place_stands : Sizes → Place → Bool
place_stands z p =
    all_of
    (ltb p.row z.rows ∷ ltb p.column z.columns ∷ leb p.key max_key
    ∷ (eqb p.row (home_one z p.key) || eqb p.row (home_two z p.key))
    ∷ [])

-- "neighbours obey places_ok": the next place is in the key's other row
unfoldable pub linked : Sizes → List ℕ → ℕ → Bool
linked z ps i = eqb (place_at ps (i + 1)).row (other_row z (place_at ps i))

-- "unused path places are zeros"
unfoldable pub unused : List ℕ → ℕ → Bool
unused ps i = all_of (eqb (place_at ps i).row 0 ∷ eqb (place_at ps i).column 0 ∷ eqb (place_at ps i).key 0 ∷ [])

-- how many places are on the path: at most one lane has any
abbrev pub path_used : Sizes → Table → ℕ
path_used z t = sum_below z.lanes (λ j. places_of (lane_at t.lanes j))

-- "path places are in range, neighbours obey places_ok", "unused path places are zeros"
unfoldable pub path_stands : Sizes → Table → Bool
path_stands z t =
    all_of
    (all_below (path_used z t) (λ i. place_stands z (place_at t.path i))
    ∷ all_below (path_used z t - 1) (linked z t.path)
    ∷ all_below (path_places z) (λ i. ltb i (path_used z t) || unused t.path i)
    ∷ [])

-- "columns passed seeking its key lack it, those passed seeking an empty slot are full": the first columns of a row
unfoldable pub row_stands : Sizes → List ℕ → ℕ → RowClaim → Bool
row_stands z xs key c =
    all_below c.lacking (λ i. not (has_key (slot_at xs (slot_index z c.row i)) key))
    && all_below c.full (λ i. is_full (slot_at xs (slot_index z c.row i)))

-- "a hit holds its key", "a slot to fill is empty"
unfoldable pub slot_stands : Sizes → List ℕ → ℕ → SlotClaim → Bool
slot_stands z xs key NoClaim = true
slot_stands z xs key (HasKey row column) = has_key (slot_at xs (slot_index z row column)) key
slot_stands z xs key (HasPair row column value) =
    has_key (slot_at xs (slot_index z row column)) key && eqb (slot_at xs (slot_index z row column)).value value
slot_stands z xs key (HasRoom row column) = is_empty (slot_at xs (slot_index z row column))

-- all that a lane claims
abbrev pub claim_tests : Sizes → List ℕ → ℕ → Claims → List Bool
claim_tests z xs key c = row_stands z xs key c.one ∷ row_stands z xs key c.two ∷ slot_stands z xs key c.slot ∷ []

-- "every lane number is in range for its place in the steps", its record is a lane's, and what it claims "is .. still so in the rows it holds"
unfoldable pub lane_stands : Sizes → Table → ℕ → Bool
lane_stands z t j =
    all_of
    (decodes t.lanes j
    ∷ all_of (lane_in z (lane_at t.lanes j) (last_at t j))
    ∷ claim_tests z t.slots (claim_key (lane_at t.lanes j)) (claims_of z (lane_at t.lanes j) (last_at t j)))

-- "Standing check"
unfoldable pub standing : Sizes → Table → Bool
standing z t =
    all_of
    (sound z t.slots
    ∷ all_below z.lanes (lane_stands z t)
    ∷ path_stands z t
    ∷ all_below (z.locks + 1) (lock_stands z t)
    ∷ [])
