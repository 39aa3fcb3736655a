-- `put_slots` puts the lines of all full slots: those so far and those of the slots that are left are the whole.
-- Assumes nothing.
use mathlib.Core.Path.{refl, ◌∙◌}
use native.Mathlib.Omega.{arith}
use Rattle.prints.proofs.Full.{lines_start, lines_more, lines_end}
use Rattle.prints.proofs.Lengths.{slot_most}
use Rattle.prints.proofs.Puts.{amid_length, puts_by}
use Rattle.places.proofs.Limits.{slots_few}
use Rattle.prints.proofs.lines.put_slots.Goals as goal

pub loop-i-init : goal.loop-i-init
loop-i-init c = (omega arith, search lines_start, refl)

pub overflow_cast-i : goal.overflow_cast-i
overflow_cast-i c = record { fits = omega (arith, slots_few c.args.slots.z.sizes c.args.slots.z.fits) }

pub put_slot-requires : goal.put_slot-requires
put_slot-requires c = omega (arith, slots_few c.args.slots.z.sizes c.args.slots.z.fits, amid_length c.loop-i.invariant.1)

pub loop-i-preserved : goal.loop-i-preserved
loop-i-preserved c = (
  omega (arith, slot_most c.args.slots.z.sizes c.loop-i.i c.slot_at.result),
  lines_more _ _ _ _ _ _ _ _ _ _ _ _ c.loop-i-test.true c.slot_at.ensures c.loop-i.invariant.1 c.put_slot.ensures.put,
  c.put_slot.ensures.same ∙ c.loop-i.invariant.2,
)

pub returns : goal.returns
returns c = puts_by (lines_end _ _ _ _ _ _ _ _ _ c.loop-i-test.false c.loop-i.invariant.1) c.loop-i.invariant.2
