-- `put_pair` puts the pieces of its line one after the other; place and stroke are short enough for what follows.
-- Assumes nothing.
use native.Mathlib.Omega.{arith}
use Rattle.prints.proofs.Puts.{puts_then}
use Rattle.prints.proofs.Strokes.{stroke_length}
use Rattle.prints.specs.Lines.{pair_line}
use Rattle.prints.proofs.Lengths.{place_most}
use Rattle.prints.proofs.lines.put_pair.Goals as goal

pub put_stroke-requires : goal.put_stroke-requires
put_stroke-requires c = omega (arith, place_most c.args.row c.args.column)

pub put_labelled-requires : goal.put_labelled-requires
put_labelled-requires c = omega (arith, stroke_length c.args.s.key, place_most c.args.row c.args.column)

pub put_text-requires : goal.put_text-requires
put_text-requires c = omega (arith, stroke_length c.args.s.key, place_most c.args.row c.args.column)

pub returns : goal.returns
unfolding pair_line
returns c = search puts_then
