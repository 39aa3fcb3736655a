-- Demand 3's words for what is seen from outside: operations start, and end with an answer. A log has its notes as they came.
-- Assumes nothing.
use Rattle.std.specs.Prelude.{◌≡◌, cond, List, [], ◌∷◌, ℕ, zero, suc, eqb, Option, None, Some}
use Rattle.linear.specs.declared.Request.{Request}
use Rattle.linear.specs.declared.End.{End}

-- a lane starts an operation; a lane's operation ends
pub data Note : Type 0 where
  starts : ℕ → Request → Note
  ends : ℕ → End → Note

-- Operations are numbered by their starts: 0, 1, 2, .. The operation that has this number, if one does
abbrev pub op_of : List Note → ℕ → Option Request
op_of [] k = None
op_of (starts lane op ∷ log) zero = Some op
op_of (starts lane op ∷ log) (suc k) = op_of log k
op_of (ends lane ans ∷ log) k = op_of log k

-- the first end on a lane
abbrev pub end_on : ℕ → List Note → Option End
end_on lane [] = None
end_on lane (starts other op ∷ log) = end_on lane log
end_on lane (ends other ans ∷ log) = cond (eqb other lane) (Some ans) (end_on lane log)

-- the answer with which an operation ended, if it did: its lane's first end after its start
abbrev pub end_of : List Note → ℕ → Option End
end_of [] k = None
end_of (starts lane op ∷ log) zero = end_on lane log
end_of (starts lane op ∷ log) (suc k) = end_of log k
end_of (ends lane ans ∷ log) k = end_of log k

-- the notes before an operation began
abbrev pub until : List Note → ℕ → List Note
until [] k = []
until (starts lane op ∷ log) zero = []
until (starts lane op ∷ log) (suc k) = starts lane op ∷ until log k
until (ends lane ans ∷ log) k = ends lane ans ∷ until log k

-- an operation has started
abbrev pub Started : List Note → ℕ → Type 0
Started log k = (op : Request) × (op_of log k ≡ Some op)

-- "finished operations": it has ended
abbrev pub Finished : List Note → ℕ → Type 0
Finished log k = (ans : End) × (end_of log k ≡ Some ans)

-- "an operation that ended before another began": j ended before k began
abbrev pub Earlier : List Note → ℕ → ℕ → Type 0
Earlier log j k = Finished (until log k) j
