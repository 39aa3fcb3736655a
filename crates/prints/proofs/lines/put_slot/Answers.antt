-- `put_slot` puts the line of a full slot, and nothing for an empty one.
-- Assumes nothing.
use mathlib.Core.Path.{sym, ◌∙◌}
use Rattle.places.specs.Table.{row_at}
use Rattle.prints.proofs.Puts.{puts_none}
use Rattle.prints.specs.Lines.{slot_line}
use Rattle.prints.proofs.lines.put_slot.Goals as goal

pub returns-then-is_full : goal.returns-then-is_full
unfolding slot_line row_at
returns-then-is_full c = rw (sym c.is_full.ensures ∙ c.if-is_full.true) c.put_pair.ensures

pub returns-else-is_full : goal.returns-else-is_full
unfolding slot_line
returns-else-is_full c = rw (sym c.is_full.ensures ∙ c.if-is_full.false) (puts_none c.args.out.now)
