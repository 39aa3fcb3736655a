-- `put_refusal` puts the pieces of its line one after the other.
-- Assumes nothing.
use Rattle.prints.proofs.Puts.{puts_then}
use Rattle.prints.specs.Lines.{refused_line}
use Rattle.prints.proofs.lines.put_refusal.Goals as goal

pub returns : goal.returns
unfolding refused_line
returns c = search puts_then
