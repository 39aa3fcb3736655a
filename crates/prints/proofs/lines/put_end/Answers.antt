-- `put_end` puts the slots and the last line; the slots leave room for it.
-- Assumes nothing.
use native.Mathlib.Omega.{arith}
use Rattle.prints.proofs.Puts.{puts_then}
use Rattle.prints.specs.Lines.{end_lines}
use Rattle.prints.proofs.Lengths.{slots_most}
use Rattle.prints.proofs.lines.put_end.Goals as goal

pub put_text-requires : goal.put_text-requires
put_text-requires c = omega (arith, slots_most c.args.slots.z.sizes c.args.slots.numbers.now c.args.slots.z.fits)

pub returns : goal.returns
unfolding end_lines
returns c = search puts_then
