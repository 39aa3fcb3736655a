-- A refusal changes no lent number: a call that is refused leaves the table as it was.
use mathlib.Core.Path.{◌≡◌}
use Prim.Native.Nat.{ℕ}
use native.Mathlib.Omega.{arith}
use Rattle.std.specs.Prelude.{Err}
use Rattle.places.specs.declared.Sizes.{Sizes}
use Rattle.machine.specs.declared.Refusal.{Refusal}
use Rattle.linear.specs.declared.Request.{Request}
use Rattle.machine.specs.Standing.{Table}
use Rattle.machine.specs.Desk.{open_of, start_lane, start_of, turned, step_of}

module _ (z : Sizes) (t : Table) (r : Refusal) where
  pub open_still : (open_of z t).answer ≡ Err r → (open_of z t).table ≡ t
  unfolding open_of
  open_still e = grind arith

  pub start_still : (j : ℕ) (q : Request) → (start_of z t j q).answer ≡ Err r → (start_of z t j q).table ≡ t
  unfolding start_of start_lane
  start_still j q e = grind arith

  pub step_still : (j byte : ℕ) → (step_of z t j byte).answer ≡ Err r → (step_of z t j byte).table ≡ t
  unfolding step_of turned
  step_still j byte e = grind arith
