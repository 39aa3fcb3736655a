-- The other row of a place's key: in range, a home row of the key, and not the place's own row.
-- Assumes nothing.
use mathlib.Core.Path.{◌≡◌, refl, sym, ◌∙◌}
use mathlib.Core.Logic.{◌⊎◌, inl, inr, ◌≢◌}
use mathlib.Core.Bool.{Bool, true, false, cond}
use Prim.Native.Nat.{◌<◌}
use lib.Dec.{eqb}
use borrow.Author.Tests.{eqb-true, eqb-false}
use Rattle.places.specs.declared.Sizes.{Sizes}
use Rattle.places.specs.Table.{Fits, home_one, home_two}
use Rattle.places.proofs.Homes.{homes}
use Rattle.paths.specs.declared.Place.{Place}
use Rattle.paths.specs.Path.{other_row}

module _ (z : Sizes) (f : Fits z) (p : Place) where
  pub other_in : other_row z p < z.rows
  unfolding other_row
  other_in = go (eqb p.row (home_one z p.key))
    where
      go : (t : Bool) → cond t (home_two z p.key) (home_one z p.key) < z.rows
      go true = (homes z f).two_in p.key
      go false = (homes z f).one_in p.key

  pub other_home : (other_row z p ≡ home_one z p.key) ⊎ (other_row z p ≡ home_two z p.key)
  unfolding other_row
  other_home = go (eqb p.row (home_one z p.key))
    where
      go : (t : Bool) → (cond t (home_two z p.key) (home_one z p.key) ≡ home_one z p.key) ⊎ (cond t (home_two z p.key) (home_one z p.key) ≡ home_two z p.key)
      go true = inr refl
      go false = inl refl

  pub other_differs : (p.row ≡ home_one z p.key) ⊎ (p.row ≡ home_two z p.key) → other_row z p ≢ p.row
  unfolding other_row
  other_differs h = go (eqb p.row (home_one z p.key)) refl
    where
      go : (t : Bool) → eqb p.row (home_one z p.key) ≡ t → cond t (home_two z p.key) (home_one z p.key) ≢ p.row
      go true e q = (homes z f).differ p.key (q ∙ eqb-true p.row (home_one z p.key) e)
      go false e q = eqb-false p.row (home_one z p.key) e (sym q)
