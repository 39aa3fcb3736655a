-- What the code does with a record of a job, against what it comes to.
-- Assumes nothing.
use Rattle.std.specs.Prelude.{ℕ, ◌≡◌, Bool, true, false, List, [], ◌++◌, Result, Ok, Err, ⊤}
use Rattle.std.specs.declared.ops.ControlFlow.{ControlFlow}
use Rattle.std.specs.declared.ops.ControlFlow.TheVariants.{Continue, Break}
use Rattle.machine.specs.Standing.{Table}
use Rattle.machine.specs.Desk.{refusal_number}
use Rattle.prints.specs.declared.text.Out.{Out}
use Rattle.prints.specs.Put.{Puts}
use Rattle.prints.specs.Lines.{refused_line}
use Rattle.jobs.specs.declared.stop.Cause.{Cause}
use Rattle.jobs.specs.declared.stop.Cause.TheVariants.{Malformed, Refused}
use Rattle.jobs.specs.declared.stop.Stop.{Stop}
use Rattle.jobs.specs.Job.{malformed, Came}

-- the number of a cause in 01's table
abbrev pub cause_number : Cause → ℕ
cause_number Malformed = malformed
cause_number (Refused r) = refusal_number r

-- the line of a stop
abbrev pub stop_line : Stop → List ℕ
stop_line stop = refused_line (cause_number stop.cause) stop.at

-- what is left to print: the line of a stop, nothing where there is none
abbrev pub last_line : {A : Type 0} → Result A Stop → List ℕ
last_line (Ok a) = []
last_line (Err stop) = stop_line stop

-- what is put so far and what is left to print are the text
pub record Said {A : Type 0} (result : Result A Stop) (was out : Out) (text : List ℕ) : Type 0 where
  pub front : List ℕ
  pub puts : Puts was out front
  pub joins : front ++ last_line result ≡ text

-- the job goes on after this result
abbrev pub goes_after : Result (ControlFlow ⊤ ⊤) Stop → Bool
goes_after (Ok (Continue u)) = true
goes_after (Ok (Break u)) = false
goes_after (Err stop) = false

-- the text of c is said, the job goes on if it does in c, and the table is now u, as c has it
pub record Obeys (result : Result (ControlFlow ⊤ ⊤) Stop) (was out : Out) (u : Table) (c : Came) : Type 0 where
  pub goes : goes_after result ≡ c.goes
  pub said : Said result was out c.text
  pub table : u ≡ c.table
