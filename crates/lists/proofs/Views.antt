-- A thing that is kept as a record of k numbers: read back after a store, another one, the length.
use mathlib.Core.Path.{◌≡◌, ◌∙◌}
use mathlib.Core.Logic.{◌≢◌}
use mathlib.Core.List.{List}
use Prim.Native.Nat.{ℕ, ◌<◌}
use lib.ListN.{length, get_or}
use Rattle.lists.specs.Records.{cell, HasRecord, put}
use Rattle.lists.proofs.Records.{cell_same, cell_other}

-- read goes by the first k numbers alone, and gives back what was listed
pub record View (k : ℕ) {A : Type 0} (read : (ℕ → ℕ) → A) (listed : A → List ℕ) : Type 0 where
  pub long : (a : A) → length (listed a) ≡ k
  pub alike : (g h : ℕ → ℕ) → ((f : ℕ) → f < k → g f ≡ h f) → read g ≡ read h
  pub back : (a : A) → read (λ f. get_or (listed a) f 0) ≡ a

module _ {k : ℕ} {A : Type 0} {read : (ℕ → ℕ) → A} {listed : A → List ℕ} (v : View k read listed) (xs : List ℕ) (i : ℕ) (a : A) where
  pub view_read : ((f : ℕ) → f < k → cell k xs i f ≡ get_or (listed a) f 0) → read (cell k xs i) ≡ a
  view_read r = v.alike _ _ r ∙ v.back a

  pub view_same : HasRecord k xs i → read (cell k (put k xs i (listed a)) i) ≡ a
  view_same l = v.alike _ _ (λ f h. cell_same k xs i (listed a) f (v.long a) h l) ∙ v.back a

  pub view_other : (j : ℕ) → j ≢ i → read (cell k (put k xs i (listed a)) j) ≡ read (cell k xs j)
  view_other j d = v.alike _ _ (λ f h. cell_other k xs i (listed a) j f (v.long a) h d)
