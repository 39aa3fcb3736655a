-- `put_lane` puts the pieces of its line one after the other.
-- Assumes nothing.
use Rattle.prints.proofs.Puts.{puts_then}
use Rattle.prints.specs.Lines.{lane_line}
use Rattle.prints.proofs.lines.put_lane.Goals as goal

pub returns : goal.returns
unfolding lane_line
returns c = search puts_then
