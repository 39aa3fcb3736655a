-- `put_stroke` puts the stroke: the characters so far and those of the bits that are left are the whole stroke.
-- Assumes nothing.
use mathlib.Core.Path.{refl, ◌∙◌}
use native.Mathlib.Omega.{arith}
use Rattle.prints.proofs.Strokes.{stroke_more, stroke_end}
use Rattle.prints.proofs.Puts.{amid_start, amid_length, puts_by}
use Rattle.prints.proofs.text.Out.put_stroke.Goals as goal

pub loop-letter-init : goal.loop-letter-init
loop-letter-init c = (omega arith, amid_start _ _ _, refl)

pub put_byte-requires : goal.put_byte-requires
put_byte-requires c = omega (arith, amid_length c.loop-letter.invariant.1)

pub loop-letter-preserved : goal.loop-letter-preserved
loop-letter-preserved c = (
  omega (arith, c.put_byte.ensures.put.offset),
  stroke_more _ _ _ _ _ _ _ c.loop-letter.letter-index c.loop-letter.rest _ c.loop-letter-test.true c.key_character.ensures c.loop-letter.invariant.1 c.put_byte.ensures.put,
  c.put_byte.ensures.same ∙ c.loop-letter.invariant.2,
)

pub returns : goal.returns
returns c = puts_by (stroke_end _ _ _ _ _ _ _ c.loop-letter-test.false c.loop-letter.invariant.1) c.loop-letter.invariant.2
