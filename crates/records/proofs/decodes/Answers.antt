-- `decodes` is its definition: the numbers that a record is to have are those of the lane that it is read as.
use mathlib.Core.Path.{◌∙◌, ap}
use lib.Dec.{eqb}
use lib.ListN.{get_or}
use Rattle.lists.specs.Below.{all_below}
use Rattle.lists.specs.Records.{cell}
use Rattle.machine.specs.Lane.{lane_numbers, Words, in_a_row, numbers_of}
use Rattle.machine.specs.Back.{decodes}
use Rattle.records.proofs.decodes.Goals as goal

pub returns-in-Idle : goal.returns-in-Idle
unfolding decodes numbers_of
returns-in-Idle c =
    c.has_numbers.ensures
    ∙ ap (λ (w : Words). all_below lane_numbers (λ f. eqb (cell lane_numbers c.args.lanes.now c.args.i f) (get_or (in_a_row 0 0 0 w) f 0))) c.coded.ensures
    ∙ rw (← c.lane_at.ensures, c.in-Idle.is)

pub returns-in-Busy : goal.returns-in-Busy
unfolding all_below decodes numbers_of
returns-in-Busy c = c.has_numbers-in-Busy.ensures ∙ rw (← c.lane_at.ensures, c.in-Busy.is, ← c.op_code.ensures, ← c.from.ensures)
