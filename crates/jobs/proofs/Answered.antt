-- What a call of the desk comes to: it goes on exactly where it is accepted.
-- Assumes nothing.
use mathlib.Core.Path.{◌≡◌, refl, sym}
use mathlib.Core.Bool.{true, false}
use mathlib.Core.List.{List}
use Prim.Native.Nat.{ℕ}
use Rattle.std.specs.Prelude.{Result, Ok, Err}
use Rattle.machine.specs.declared.Refusal.{Refusal}
use Rattle.machine.specs.Standing.{Table}
use Rattle.jobs.specs.Job.{answered}

pub never : {A : Type 0} → true ≡ false → A
never e = absurd cc

module _ {A : Type 0} (text : A → List ℕ) (at : ℕ) (t : Table) where
  pub goes_accepted : (r : Result A Refusal) → (answered text at r t).goes ≡ true → (a : A) × (r ≡ Ok a)
  goes_accepted (Ok a) g = (a, refl)
  goes_accepted (Err why) g = never (sym g)
