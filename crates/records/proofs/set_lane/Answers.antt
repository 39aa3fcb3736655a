-- `set_lane` is its definition: the numbers of a lane with a task are those of its task.
use mathlib.Core.Path.{◌∙◌}
use Rattle.machine.specs.Lane.{lane_numbers, numbers_of, with_lane}
use Rattle.records.proofs.set_lane.Goals as goal

pub returns-in-Busy : goal.returns-in-Busy
unfolding with_lane numbers_of
returns-in-Busy c = c.set_numbers-in-Busy.ensures ∙ rw (c.in-Busy.is, ← c.op_code.ensures, ← c.from.ensures)
