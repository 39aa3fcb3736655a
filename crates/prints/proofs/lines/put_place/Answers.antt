-- `put_place` puts the pieces of its text one after the other.
-- Assumes nothing.
use Rattle.prints.proofs.Puts.{puts_then}
use Rattle.prints.specs.Lines.{place_text}
use Rattle.prints.proofs.lines.put_place.Goals as goal

pub returns : goal.returns
unfolding place_text
returns c = search puts_then
