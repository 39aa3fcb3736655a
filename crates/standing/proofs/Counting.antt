-- A test of every number below n, by a chain over them.
-- Assumes nothing.
use mathlib.Core.Path.{◌≡◌, ◌∙◌, ap, sym, refl}
use mathlib.Core.List.{List}
use mathlib.Core.Bool.{Bool, true, false, ◌&&◌, and-true, and_assoc}
use Prim.Native.Nat.{ℕ, zero, suc, ◌+◌}
use native.Mathlib.Omega.{arith}
use denote.Param.Members.{Mut}
use Rattle.std.specs.List.{FoldsTo, list_all, range_with_len}
use Rattle.std.specs.Option.{MatchOption}
use Rattle.std.specs.Prelude.{Option}
use Rattle.std.specs.Fn.{Called}
use Rattle.std.specs.Iterator.{YieldsThen}
use Rattle.std.specs.declared.ops.Range.{Range}
use Rattle.std.proofs.iter.Yields.{nat_range_steps}
use Rattle.std.proofs.lemmas.Iterator.{YieldsList-from_range}
use Rattle.std.proofs.lemmas.Iterator.Search.{all_from_yields_List}
use Rattle.lists.specs.Below.{all_below}

-- the lowest number is tested first
all_front : (n : ℕ) (p : ℕ → Bool) → p 0 && all_below n (λ i. p (suc i)) ≡ all_below (suc n) p
unfolding all_below
all_front zero p = and-true (p 0)
all_front (suc n) p = sym (and_assoc (p 0) (all_below n (λ i. p (suc i))) (p (suc n))) ∙ ap (λ (b : Bool). b && p (suc n)) (all_front n p)

all_from_on : (n a : ℕ) (p : ℕ → Bool) → list_all p (range_with_len a n) ≡ all_below n (λ i. p (a + i))
unfolding all_below
all_from_on zero a p = refl
all_from_on (suc n) a p =
    let here : a ≡ a + 0 = omega arith in
    let next : (i : ℕ) → a + 1 + i ≡ a + suc i = λ i. omega arith in
    ap (λ (b : Bool). p a && b) (all_from_on n (a + 1) p)
    ∙ (λ j. p (here j) && all_below n (λ i. p (next i j)))
    ∙ all_front n (λ i. p (a + i))

all_counted : (n : ℕ) (p : ℕ → Bool) (b : Bool) → b ≡ list_all p (range_with_len 0 n) → b ≡ all_below n p
all_counted n p b e = e ∙ all_from_on n 0 p ∙ (λ j. all_below n (λ i. p (from_none i j)))
  where
    from_none : (i : ℕ) → 0 + i ≡ i
    from_none i = omega arith

-- what `all` answers of the numbers below n, by a closure f that tests each by p
module _ {F : Type 0} {g : Mut F (ℕ × Unit {0}) Bool} (p : ℕ → Bool) (n : ℕ) (u : Range ℕ) (f : F) where
  pub all_in_range : (r : Bool)
      → (xs : List ℕ) × (o : Option ℕ) × (j : F) × YieldsThen nat_range_steps (record { start = 0; end = n }) xs o u × FoldsTo (λ p x q. Called g p (x, tt) true q) f xs j × MatchOption o (r ≡ true) (λ x. (r ≡ false) × ((h : F) × Called g j (x, tt) false h))
      → ((x : ℕ) (b : Bool) (q : F) → Called g f (x, tt) b q → (q ≡ f) × (b ≡ p x)) → r ≡ all_below n p
  all_in_range r d k = all_counted n p r (all_from_yields_List p u f r d (YieldsList-from_range 0 n n refl (omega arith)) k)
