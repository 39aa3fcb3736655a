-- `move_lane` is the step of the lent memory.
-- Assumes nothing.
use Rattle.std.proofs.Common.{rules}
use Rattle.desk.proofs.Steps.{moves}
use Rattle.desk.proofs.table.move_lane.Goals as goal

pub returns : goal.returns
returns c = search (rules, moves)
