-- What a step in place leaves: of the outcome of the step by value, the answer, the lane and the lent lists.
-- Assumes nothing.
use Rattle.std.specs.Prelude.{◌≡◌, Option}
use Rattle.linear.specs.declared.End.{End}
use Rattle.machine.specs.declared.Lane.{Lane}
use Rattle.machine.specs.Steps.{LaneStep}
use Rattle.acts.specs.declared.doing.LentMemory.{LentMemory}
use Rattle.acts.specs.Lent.{Becomes}

-- "a lane's record is also lent and changed where it lies"
pub record Left (r : Option End) (l : Lane) (m n : LentMemory) (o : LaneStep) : Type 0 where
  pub answer : r ≡ o.answer
  pub lane : l ≡ o.lane
  pub memory : Becomes m n o.memory
