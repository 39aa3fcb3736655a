-- THE THEOREM "unique": two outcomes that the contract of a public call permits coincide, in the answer and in every lent number.
use mathlib.Core.Path.{◌≡◌, sym, ◌∙◌, ap}
use Prim.Native.Nat.{ℕ}
use Rattle.std.specs.Prelude.{⊤, Result, Option}
use Rattle.linear.specs.declared.Request.{Request}
use Rattle.linear.specs.declared.End.{End}
use Rattle.places.specs.declared.Sizes.{Sizes}
use Rattle.machine.specs.declared.Refusal.{Refusal}
use Rattle.machine.specs.Standing.{Table}
use Rattle.machine.specs.Desk.{Called, called, open_of, start_of, step_of}

-- two answers with what they leave are one
abbrev pub Same : {R : Type 0} → R → Table → R → Table → Type 0
Same r u r' u' = (r ≡ r') × (u ≡ u')

-- two outcomes that equal one definition coincide
pub one_outcome : {R : Type 0} (o : Called R) (r r' : R) (u u' : Table) → called r u ≡ o → called r' u' ≡ o → Same r u r' u'
one_outcome {R} o r r' u u' c d = (ap (λ (x : Called R). x.answer) (c ∙ sym d), ap (λ (x : Called R). x.table) (c ∙ sym d))

module _ (z : Sizes) (t : Table) where
  pub unique_open : (r r' : Result ⊤ Refusal) (u u' : Table) → called r u ≡ open_of z t → called r' u' ≡ open_of z t → Same r u r' u'
  unique_open r r' u u' c d = one_outcome (open_of z t) r r' u u' c d

  pub unique_start : (j : ℕ) (q : Request) (r r' : Result ⊤ Refusal) (u u' : Table) → called r u ≡ start_of z t j q → called r' u' ≡ start_of z t j q
      → Same r u r' u'
  unique_start j q r r' u u' c d = one_outcome (start_of z t j q) r r' u u' c d

  pub unique_step : (j byte : ℕ) (r r' : Result (Option End) Refusal) (u u' : Table) → called r u ≡ step_of z t j byte → called r' u' ≡ step_of z t j byte
      → Same r u r' u'
  unique_step j byte r r' u u' c d = one_outcome (step_of z t j byte) r r' u u' c d
