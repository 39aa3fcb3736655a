-- A place after a store: that place, another one, and the length, from the laws of views; the path emptied; its last place.
-- Assumes nothing.
use mathlib.Core.Path.{◌≡◌, refl}
use mathlib.Core.Logic.{◌≢◌}
use mathlib.Core.List.{List, [], ◌∷◌}
use Prim.Native.Nat.{ℕ, suc, ◌-◌}
use native.Mathlib.Omega.{arith}
use lib.ListN.{length, length-replicate}
use lib.Dec.{lit<}
use borrow.Author.Tests.{ne_eqb}
use Rattle.lists.specs.Records.{HasRecord}
use Rattle.lists.proofs.Records.{put_length, cell_zeros}
use Rattle.lists.proofs.Views.{View, view_same, view_other}
use Rattle.paths.specs.declared.Place.{Place}
use Rattle.paths.specs.Path.{place_numbers, place_at, with_place, no_place, emptied, last_of}

place_view : View place_numbers (λ g. record { row = g 0; column = g 1; key = g 2 }) (λ (p : Place). p.row ∷ p.column ∷ p.key ∷ [])
place_view =
    record {
      long = λ p. refl;
      alike = λ g h e z. record { row = e 0 (lit< tt) z; column = e 1 (lit< tt) z; key = e 2 (lit< tt) z };
      back = λ p. refl;
    }

module _ (ps : List ℕ) (i : ℕ) (p : Place) where
  pub place_same : HasRecord place_numbers ps i → place_at (with_place ps i p) i ≡ p
  unfolding place_at with_place
  place_same l = view_same place_view ps i p l

  pub place_other : (j : ℕ) → j ≢ i → place_at (with_place ps i p) j ≡ place_at ps j
  unfolding place_at with_place
  place_other j d = view_other place_view ps i p j d

  pub place_length : length (with_place ps i p) ≡ length ps
  unfolding with_place
  place_length = put_length place_numbers ps i _

pub emptied_at : (ps : List ℕ) (i : ℕ) → place_at (emptied ps) i ≡ no_place
unfolding place_at emptied
emptied_at ps i = simp cell_zeros

pub emptied_length : (ps : List ℕ) → length (emptied ps) ≡ length ps
unfolding emptied
emptied_length ps = length-replicate (length ps) 0

pub last_none : (ps : List ℕ) → last_of ps 0 ≡ no_place
unfolding last_of
last_none ps = refl

pub last_at_lem : (ps : List ℕ) (n : ℕ) → last_of ps (suc n) ≡ place_at ps n
unfolding last_of
last_at_lem ps n = let e : suc n - 1 ≡ n = omega arith in rw (ne_eqb (suc n) 0 (λ q. omega arith), e)
