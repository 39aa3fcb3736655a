-- What the code of a step asks of the lent memory and the lane: plain bounds, which the standing check gives. And what it owes its definition.
-- Assumes nothing.
use Rattle.std.specs.Prelude.{◌≤◌, ◌≡◌}
use Rattle.places.specs.declared.Sizes.{Sizes}
use Rattle.places.specs.Table.{Fits}
use Rattle.paths.specs.Path.{path_places, last_of}
use Rattle.machine.specs.declared.Task.{Task}
use Rattle.machine.specs.declared.Lane.{Lane}
use Rattle.machine.specs.declared.Lane.TheVariants.{Idle, Busy}
use Rattle.machine.specs.declared.Moved.{Moved}
use Rattle.machine.specs.Stages.{path_length, act_of}
use Rattle.machine.specs.Steps.{Memory, LaneStep}
use Rattle.acts.specs.declared.doing.LentMemory.{LentMemory}
use Rattle.acts.specs.Fitting.{StageFits, MemoryFits, ActFits}
use Rattle.acts.specs.Lent.{Becomes}

pub record StepFits (z : Sizes) (m : Memory) (k : Task) : Type 0 where
  pub sizes : Fits z
  pub memory : MemoryFits z m
  pub places : path_length k.stage ≤ path_places z
  pub stage : StageFits z k.stage
  pub act : ActFits z m (act_of z k (last_of m.path (path_length k.stage)))

-- of a lane: nothing where it is idle
abbrev pub LaneFits : Sizes → Memory → Lane → Type 0
LaneFits z m Idle = Unit {0}
LaneFits z m (Busy k) = StepFits z m k

-- the lane, the answer, and the lent memory as it is left, against an outcome
pub record Steps (r : Moved) (m n : LentMemory) (o : LaneStep) : Type 0 where
  pub lane : r.lane ≡ o.lane
  pub answer : r.answer ≡ o.answer
  pub memory : Becomes m n o.memory
