-- `put_value` puts the pieces of its line one after the other.
-- Assumes nothing.
use Rattle.prints.proofs.Puts.{puts_then}
use Rattle.prints.specs.Lines.{value_line}
use Rattle.prints.proofs.lines.put_value.Goals as goal

pub returns : goal.returns
unfolding value_line
returns c = search puts_then
