-- One law for each way through opening, said of the values that its calls give.
use mathlib.Core.Path.{◌≡◌}
use mathlib.Core.List.{List}
use Prim.Native.Nat.{ℕ}
use native.Mathlib.Omega.{arith}
use Rattle.std.specs.Prelude.{Ok, Err}
use Rattle.places.specs.declared.Sizes.{Sizes}
use Rattle.slots.specs.declared.Fault.{Fault}
use Rattle.slots.specs.Sound.{opening_fault}
use Rattle.paths.specs.Path.{emptied}
use Rattle.machine.specs.declared.Refusal.{Refusal}
use Rattle.machine.specs.declared.Refusal.TheVariants.{Unsound}
use Rattle.machine.specs.Desk.{called, refused, opened, open_of}
use Rattle.standing.specs.Tables.{table}
use Rattle.desk.specs.Tests.{sized}
use Rattle.desk.proofs.Tested.{sized_ok, sized_first}

module _ (z : Sizes) (xs ls vs ps : List ℕ) where
  pub opens_not : (r : Refusal) → Err r ≡ sized z (table xs ls vs ps) → refused r (table xs ls vs ps) ≡ open_of z (table xs ls vs ps)
  unfolding open_of
  opens_not r e = sized_first z (table xs ls vs ps) r e _

  module _ (y : Sizes) (e : Ok y ≡ sized z (table xs ls vs ps)) where
    pub opens_unsound : (f : Fault) → Err f ≡ opening_fault y xs → refused (Unsound f) (table xs ls vs ps) ≡ open_of z (table xs ls vs ps)
    unfolding open_of
    opens_unsound f q = grind (arith, sized_ok z y xs ls vs ps e)

    pub opens : (ls' vs' ps' : List ℕ) → Ok tt ≡ opening_fault y xs → ls' ≡ emptied ls → vs' ≡ emptied vs → ps' ≡ emptied ps
        → called (Ok tt) (table xs ls' vs' ps') ≡ open_of z (table xs ls vs ps)
    unfolding open_of opened
    opens ls' vs' ps' q a b c = grind (arith, sized_ok z y xs ls vs ps e)
