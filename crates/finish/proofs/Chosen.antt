-- The chosen lane: there is one, and none is more urgent.
-- Assumes nothing.
use mathlib.Core.Path.{◌≡◌, sym, ◌∙◌}
use mathlib.Core.Bool.{Bool, true, false≢true}
use Prim.Native.Nat.{ℕ, zero, suc, ◌≤◌, ◌<◌}
use native.Mathlib.Nat.{not-suc-le-zero}
use native.Mathlib.Decide.{ℕ_discrete, dec_le}
use native.Mathlib.Omega.{arith}
use lib.Dec.{leb}
use borrow.Author.Tests.{leb-true}
use Rattle.lists.specs.Below.{all_below, first_below}
use Rattle.lists.proofs.Below.{all_at, all_from, any_none, first_stop, Sought, found, nowhere, seek}
use Rattle.places.specs.declared.Sizes.{Sizes}
use Rattle.machine.specs.Standing.{Table}
use Rattle.finish.specs.Schedule.{urgency, chosen}

-- a number below n at which f is greatest
record Greatest (n : ℕ) (f : ℕ → ℕ) : Type 0 where
  at : ℕ
  inside : at < n
  most : (j : ℕ) → j < n → f j ≤ f at

greatest : (n : ℕ) (f : ℕ → ℕ) → Greatest (suc n) f
greatest zero f = record { at = 0; inside = omega arith; most = λ j l. rw (zero_is j l) (omega arith) }
  where
    zero_is : (j : ℕ) → j < 1 → j ≡ 0
    zero_is j l = omega arith
greatest (suc n) f = go (greatest n f)
  where
    go : Greatest (suc n) f → Greatest (suc (suc n)) f
    go g = elim (dec_le (f g.at) (f (suc n))) [
      | yes h ↦ record { at = suc n; inside = omega arith; most = λ j l. elim (ℕ_discrete j (suc n)) [ yes e ↦ rw e (omega arith) | no d ↦ omega (arith, g.most j (omega arith)) ] }
      | no h ↦ record { at = g.at; inside = omega (arith, g.inside); most = λ j l. elim (ℕ_discrete j (suc n)) [ yes e ↦ rw e (omega arith) | no d ↦ g.most j (omega arith) ] }
    ]

-- the first such number
module _ (n : ℕ) (f : ℕ → ℕ) where
  abbrev tops : ℕ → Bool
  tops i = all_below n (λ j. leb (f j) (f i))

  greatest_tops : (g : Greatest n f) → tops g.at ≡ true
  greatest_tops g = grind (arith, all_from)

  first_greatest : Greatest n f → (first_below n tops < n) × ((j : ℕ) → j < n → f j ≤ f (first_below n tops))
  first_greatest g = go (seek n tops)
    where
      go : Sought n tops → (first_below n tops < n) × ((j : ℕ) → j < n → f j ≤ f (first_below n tops))
      go (found i l e h) =
          let q : first_below n tops ≡ i = first_stop tops n i l e h in
          rw q (l, λ j k. leb-true (f j) (f i) (all_at (λ m. leb (f m) (f i)) n j h k))
      go (nowhere e) = absurd (false≢true (sym (any_none tops n g.at e g.inside) ∙ greatest_tops g))

some_greatest : (n : ℕ) (f : ℕ → ℕ) → 1 ≤ n → Greatest n f
some_greatest zero f h = absurd (not-suc-le-zero h)
some_greatest (suc n) f h = greatest n f

module _ (z : Sizes) (t : Table) (some : 1 ≤ z.lanes) where
  pub chosen_in : chosen z t < z.lanes
  unfolding chosen
  chosen_in = (first_greatest z.lanes (urgency z t) (some_greatest z.lanes (urgency z t) some)).0

  pub chosen_most : (j : ℕ) → j < z.lanes → urgency z t j ≤ urgency z t (chosen z t)
  unfolding chosen
  chosen_most = (first_greatest z.lanes (urgency z t) (some_greatest z.lanes (urgency z t) some)).1
