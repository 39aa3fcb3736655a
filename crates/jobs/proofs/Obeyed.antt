-- A record that the desk refuses: the table stays as it was, and the stop has the refusal and the record's offset.
-- Assumes nothing.
use mathlib.Core.Path.{◌≡◌, refl}
use mathlib.Core.List.{List, []}
use Prim.Native.Nat.{ℕ}
use Rattle.std.specs.Prelude.{Result, Ok, Err, Option}
use Rattle.std.specs.Result.{MatchResult, IsErrAnd}
use Rattle.linear.specs.declared.Request.{Request}
use Rattle.linear.specs.declared.End.{End}
use Rattle.machine.specs.declared.Refusal.{Refusal}
use Rattle.machine.specs.Standing.{Table}
use Rattle.machine.specs.Desk.{Called, called}
use Rattle.prints.specs.declared.text.Out.{Out}
use Rattle.prints.proofs.Puts.{puts_none}
use Rattle.jobs.specs.declared.stop.Cause.TheVariants.{Refused}
use Rattle.jobs.specs.declared.stop.Stop.{Stop}
use Rattle.jobs.specs.Job.{came_by}
use Rattle.jobs.specs.Obeys.{Obeys}

-- where `map_err` gives an error, it makes it of the one that it is given
pub err_of : {A : Type 0} (Q : Refusal → Stop → Type 0) (given : Result A Refusal) (mapped : Result A Stop) (stop : Stop)
    → mapped ≡ Err stop → MatchResult given (λ a. mapped ≡ Ok a) (λ why. IsErrAnd mapped (Q why)) → (why : Refusal) × (given ≡ Err why) × Q why stop
err_of Q (Ok a) mapped stop e h = absurd cc
err_of Q (Err why) mapped stop e h = (why, refl, rw e at h)

module _ (at : ℕ) (out : Out) (u : Table) (why : Refusal) (stop : Stop) (cause : stop.cause ≡ Refused why) (place : stop.at ≡ at) where
  pub declined : {A : Type 0} (text : A → List ℕ) (answer : Result A Refusal) (c : Called (Result A Refusal)) → called answer u ≡ c → answer ≡ Err why
      → Obeys (Err stop) out out u (came_by text at c)
  declined text answer c k e =
      rw (← k, e) (record { goes = refl; said = record { front = []; puts = puts_none out; joins = rw (cause, place) }; table = refl })
