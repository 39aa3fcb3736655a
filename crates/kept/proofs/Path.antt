-- A step keeps the path in order: it stays, a place is put on it, the last one leaves it, or it is emptied, and only by the lane
-- that holds main.
-- Assumes nothing.
use mathlib.Core.Path.{◌≡◌, refl, ◌∙◌}
use mathlib.Core.Logic.{◌≢◌}
use Prim.Native.Nat.{ℕ, zero, suc, ◌+◌, ◌-◌, ◌<◌}
use native.Mathlib.Decide.{ℕ_discrete}
use native.Mathlib.Omega.{arith}
use Rattle.lists.specs.Below.{sum_below}
use Rattle.lists.proofs.Sums.{sum_change, sum_none}
use Rattle.places.specs.declared.Sizes.{Sizes}
use Rattle.paths.specs.declared.Place.{Place}
use Rattle.paths.specs.Path.{no_place, other_row}
use Rattle.machine.specs.declared.Lane.{Lane}
use Rattle.machine.specs.Stages.{places_of}
use Rattle.kept.proofs.Facts.{last_for, PlaceFacts, PathFacts, used}

-- what a step does to a path of n places, of which n' are then left; it changes only where Nobody else has places
pub data PathDoes (Nobody : Type 0) (z : Sizes) (π π' : ℕ → Place) (n n' : ℕ) : Type 0 where
  stays : n' ≡ n → ((j : ℕ) → π' j ≡ π j) → PathDoes Nobody z π π' n n'
  grows : Nobody → (p : Place) → n' ≡ n + 1 → PlaceFacts z p → (n ≢ 0 → p.row ≡ other_row z (π (n - 1))) → π' n ≡ p → ((j : ℕ) → j ≢ n → π' j ≡ π j) → PathDoes Nobody z π π' n n'
  shrinks : Nobody → n ≡ n' + 1 → π' n' ≡ no_place → ((j : ℕ) → j ≢ n' → π' j ≡ π j) → PathDoes Nobody z π π' n n'
  clears : Nobody → n' ≡ 0 → ((j : ℕ) → π' j ≡ no_place) → PathDoes Nobody z π π' n n'

-- the path facts of the lane's own n places
own_path : (N : Type 0) (z : Sizes) (π π' : ℕ → Place) (n n' : ℕ) → PathDoes N z π π' n n' → PathFacts z π n → PathFacts z π' n'
own_path N z π π' n n' k h = grind arith

-- a sum of which only one term counts
pub sum_only : (n i : ℕ) (f : ℕ → ℕ) → i < n → ((j : ℕ) → j < n → j ≢ i → f j ≡ 0) → sum_below n f ≡ f i
unfolding sum_below
sum_only zero i f l e = absurd (omega arith)
sum_only (suc n) i f l e = elim (ℕ_discrete n i) [
  | yes q ↦ rw (← q) (omega (arith, sum_none n f (λ j h. e j (omega arith) (omega arith))))
  | no q ↦ omega (arith, sum_only n i f (omega arith) (λ j h. e j (omega arith)), e n (omega arith) q)
]

module _ (z : Sizes) (σ σ' : ℕ → Lane) (π π' : ℕ → Place) (i : ℕ) where
  -- no other lane has places on the path
  abbrev pub Nobody : Type 0
  Nobody = (j : ℕ) → j < z.lanes → j ≢ i → places_of (σ j) ≡ 0

  module _ (n n' : ℕ) (within : i < z.lanes) (here : places_of (σ i) ≡ n) (here' : places_of (σ' i) ≡ n')
      (there : (j : ℕ) → j < z.lanes → j ≢ i → places_of (σ' j) ≡ places_of (σ j)) where
    used_change : used z σ' + n ≡ used z σ + n'
    used_change =
        omega (arith, sum_change z.lanes i (λ j. places_of (σ j)) (λ j. places_of (σ' j)) within there, here, here')

    pub path_kept : PathDoes Nobody z π π' n n' → PathFacts z π (used z σ) → PathFacts z π' (used z σ')
    path_kept d h = go d
      where
        by_mine : Nobody → PathFacts z π' (used z σ')
        by_mine none =
            let a : used z σ ≡ n = sum_only z.lanes i (λ j. places_of (σ j)) within none ∙ here in
            let b : used z σ' ≡ n' = omega (arith, used_change) in
            rw b (own_path Nobody z π π' n n' d (rw a at h))

        go : PathDoes Nobody z π π' n n' → PathFacts z π' (used z σ')
        go (stays e same) =
            let b : used z σ' ≡ used z σ = omega (arith, used_change) in
            rw b (own_path Nobody z π π' (used z σ) (used z σ) (stays refl same) h)
        go (grows none p e good link at off) = by_mine none
        go (shrinks none e at off) = by_mine none
        go (clears none e off) = by_mine none

    pub lasts_kept : PathDoes Nobody z π π' n n' → (j : ℕ) → j < z.lanes → j ≢ i → last_for π' (σ j) ≡ last_for π (σ j)
    lasts_kept d j l q = grind arith
