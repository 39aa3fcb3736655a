-- Demand 3: "Take any sequence of accepted starts and steps, with any bytes, from an opened table." A run, its bindings and its log.
-- Assumes nothing.
use Rattle.std.specs.Prelude.{List, [], ◌∷◌, ◌++◌, ℕ, Result, Ok, Err, Option, None, Some}
use Rattle.linear.specs.declared.Request.{Request}
use Rattle.linear.specs.declared.End.{End}
use Rattle.places.specs.declared.Sizes.{Sizes}
use Rattle.slots.specs.Bound.{bound}
use Rattle.machine.specs.declared.Op.{Op}
use Rattle.machine.specs.declared.Op.TheVariants.{Read, Delete, Insert, Again}
use Rattle.machine.specs.declared.Task.{Task}
use Rattle.machine.specs.declared.Refusal.{Refusal}
use Rattle.machine.specs.Standing.{Table}
use Rattle.machine.specs.Desk.{start_of, step_of, Accepts}
use Rattle.linear.specs.Log.{Note, starts, ends}
use Rattle.linear.specs.Map.{Bindings}

-- ---- events

-- "starts and steps, with any bytes": a lane and what it is asked; a lane and a byte
pub data Event : Type 0 where
  start : ℕ → Request → Event
  step : ℕ → ℕ → Event

-- the table after an event
abbrev pub next : Sizes → Table → Event → Table
next z t (start j r) = (start_of z t j r).table
next z t (step j byte) = (step_of z t j byte).table

-- "0 | accepted"
abbrev pub Accepted : Sizes → Table → Event → Type 0
Accepted z t (start j r) = Accepts (start_of z t j r)
Accepted z t (step j byte) = Accepts (step_of z t j byte)

-- "any sequence of accepted starts and steps": every event is accepted at the moment it comes
abbrev pub Run : Sizes → Table → List Event → Type 0
Run z t [] = Unit {0}
Run z t (e ∷ es) = Accepted z t e × Run z (next z t e) es

-- the table that a run comes to
abbrev pub table_after : Sizes → Table → List Event → Table
table_after z t [] = t
table_after z t (e ∷ es) = table_after z (next z t e) es

-- "the opening's bindings", "those now in the slots"
abbrev pub bindings : Sizes → Table → Bindings
bindings z t = bound z t.slots

-- ---- the log

-- the operation that a lane's record names
abbrev pub op_in : Op → ℕ → ℕ → Request
op_in Read key value = Request.Read key
op_in Delete key value = Request.Delete key
op_in Insert key value = Request.Insert key value
op_in Again key value = Request.Insert key value

-- the operation that a lane runs
abbrev pub op_at : Task → Request
op_at l = op_in l.op l.key l.value

-- what a step of lane j adds to the log: its end, if it is one
abbrev pub end_note : ℕ → Option End → List Note
end_note j None = []
end_note j (Some ans) = ends j ans ∷ []

-- the answer with which a call of step ends its lane's operation, if it does; a refusal ends none
abbrev pub end_by : Result (Option End) Refusal → Option End
end_by (Ok a) = a
end_by (Err r) = None

-- what an event adds to the log
abbrev pub notes : Sizes → Table → Event → List Note
notes z t (start j r) = starts j r ∷ []
notes z t (step j byte) = end_note j (end_by (step_of z t j byte).answer)

-- the log of a run
abbrev pub log_of : Sizes → Table → List Event → List Note
log_of z t [] = []
log_of z t (e ∷ es) = notes z t e ++ log_of z (next z t e) es
