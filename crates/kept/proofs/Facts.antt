-- The standing check as facts, over the slots, locks, lanes and places seen as functions of their index.
-- Assumes nothing.
use mathlib.Core.Path.{◌≡◌}
use mathlib.Core.Logic.{◌⊎◌}
use mathlib.Core.Bool.{cond}
use Prim.Native.Nat.{ℕ, ◌+◌, ◌-◌, ◌≤◌, ◌<◌}
use lib.Dec.{eqb}
use Rattle.lists.specs.Below.{sum_below}
use Rattle.lists.proofs.Below.{Each}
use Rattle.places.specs.declared.Sizes.{Sizes}
use Rattle.places.specs.Table.{max_key, home_one, home_two}
use Rattle.slots.specs.declared.Slot.{Slot}
use Rattle.slots.proofs.Facts.{SoundSlots}
use Rattle.locks.specs.declared.Lock.{Lock}
use Rattle.locks.specs.declared.Part.{Part}
use Rattle.locks.proofs.Counts.{Counts}
use Rattle.paths.specs.declared.Place.{Place}
use Rattle.paths.specs.Path.{path_places, no_place, other_row}
use Rattle.machine.specs.declared.Lane.{Lane}
use Rattle.machine.proofs.Claimed.{Claimed}
use Rattle.machine.specs.Claims.{share}
use Rattle.machine.specs.Stages.{places_of, claim_key, grip_of, claims_of, lane_in}

-- ---- the path

-- the last of n places, zeros where there is none
abbrev pub last_in : (ℕ → Place) → ℕ → Place
last_in π n = cond (eqb n 0) no_place (π (n - 1))

abbrev pub last_for : (ℕ → Place) → Lane → Place
last_for π l = last_in π (places_of l)

pub record PlaceFacts (z : Sizes) (p : Place) : Type 0 where
  pub row_in : p.row < z.rows
  pub column_in : p.column < z.columns
  pub key_in : p.key ≤ max_key
  pub home : (p.row ≡ home_one z p.key) ⊎ (p.row ≡ home_two z p.key)

-- n places stand on the path, each next one in the other row of the one before
pub record PathFacts (z : Sizes) (π : ℕ → Place) (n : ℕ) : Type 0 where
  pub places : (i : ℕ) → i < n → PlaceFacts z (π i)
  pub links : (i : ℕ) → i + 1 < n → (π (i + 1)).row ≡ other_row z (π i)
  pub rest : (i : ℕ) → n ≤ i → i < path_places z → π i ≡ no_place

-- ---- locks

-- the lanes' parts in lock k, added up by a measure of parts
abbrev pub parts : Sizes → (Part → ℕ) → (ℕ → Lane) → (ℕ → Place) → ℕ → ℕ
parts z f σ π k = sum_below z.lanes (λ j. share z f (grip_of z (σ j) (last_for π (σ j))) k)

abbrev pub used : Sizes → (ℕ → Lane) → ℕ
used z σ = sum_below z.lanes (λ j. places_of (σ j))

-- ---- all of it

pub record Stands (z : Sizes) (v : ℕ → Slot) (w : ℕ → Lock) (σ : ℕ → Lane) (π : ℕ → Place) : Type 0 where
  pub sound : SoundSlots z v
  pub range : (j : ℕ) → j < z.lanes → Each (lane_in z (σ j) (last_for π (σ j)))
  pub claims : (j : ℕ) → j < z.lanes → Claimed z v (claim_key (σ j)) (claims_of z (σ j) (last_for π (σ j)))
  pub locks : (k : ℕ) → k < z.locks + 1 → Counts z (w k) (λ f. parts z f σ π k)
  pub path : PathFacts z π (used z σ)
