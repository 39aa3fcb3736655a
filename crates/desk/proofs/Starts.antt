-- A start, said of the values that its calls give: refused before the lane is looked at, or as the lanes alone decide it.
use mathlib.Core.Path.{◌≡◌, refl, sym, ◌∙◌, ap, subst}
use Prim.Native.Nat.{ℕ}
use Rattle.std.specs.Prelude.{⊤, Result, Ok, Err}
use Rattle.linear.specs.declared.Request.{Request}
use Rattle.places.specs.declared.Sizes.{Sizes}
use Rattle.machine.specs.declared.Refusal.{Refusal}
use Rattle.machine.specs.Lane.{with_task}
use Rattle.machine.specs.Standing.{Table}
use Rattle.machine.specs.Desk.{Called, called, refused, start_lane, start_of}
use Rattle.machine.proofs.Still.{start_still}
use Rattle.kept.specs.Runs.{Stood}
use Rattle.kept.proofs.Kept.{kept_start}
use Rattle.desk.specs.Tests.{tested}
use Rattle.desk.proofs.Tested.{tested_first, tested_stood, stood_last}

module _ (z : Sizes) (t : Table) (j : ℕ) (q : Request) where
  -- on what stands the lanes decide
  stood_is : Stood z t → start_of z t j q ≡ start_lane z t j q
  unfolding start_of
  stood_is st = stood_last z t st _

  -- accepted, it leaves what stands by the theorem; refused, it changes nothing
  stood_start : Stood z t → Stood z (start_of z t j q).table
  stood_start st = go (start_of z t j q).answer refl
    where
      go : (r : Result ⊤ Refusal) → (start_of z t j q).answer ≡ r → Stood z (start_of z t j q).table
      go (Ok u) e = kept_start z t j q (rw e)
      go (Err r) e = rw (start_still z t r j q e) st

  -- what the tests that come first refuse
  pub starts_not : (r : Refusal) → Err r ≡ tested z t → refused r t ≡ start_of z t j q
  unfolding start_of
  starts_not r e = tested_first z t r e _

  -- a start of a lane, made after the tests
  pub starts : (y : Sizes) (c : Called (Result ⊤ Refusal)) → Ok y ≡ tested z t → c ≡ start_lane y t j q → c ≡ start_of z t j q
  starts y c e k = subst (λ x. c ≡ start_lane x t j q) (tested_stood z y t e).0 k ∙ sym (stood_is (tested_stood z y t e).1)

  -- and on what stands by its type
  pub starts_standing : (r : Result ⊤ Refusal) (u : Table) → Stood z t → called r u ≡ start_lane z t j q → called r u ≡ start_of z t j q
  starts_standing r u st k = k ∙ sym (stood_is st)

  pub starts_stood : (r : Result ⊤ Refusal) (u : Table) → Stood z t → called r u ≡ start_lane z t j q → Stood z u
  starts_stood r u st k = rw (ap (λ (c : Called (Result ⊤ Refusal)). c.table) (starts_standing r u st k)) (stood_start st)
