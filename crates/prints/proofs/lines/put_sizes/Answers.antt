-- `put_sizes` puts the pieces of its line one after the other.
-- Assumes nothing.
use Rattle.prints.proofs.Puts.{puts_then}
use Rattle.prints.specs.Lines.{sizes_line}
use Rattle.prints.proofs.lines.put_sizes.Goals as goal

pub returns : goal.returns
unfolding sizes_line
returns c = search puts_then
