-- `sg_open` names a slot's index only where it fits.
-- Assumes nothing.
use mathlib.Core.Path.{ap}
use Rattle.std.specs.Prelude.{⊤, Result}
use Rattle.machine.specs.declared.Refusal.{Refusal}
use Rattle.machine.specs.Desk.{Called}
use Rattle.exports.proofs.Doors.{opening_index}
use Rattle.exports.proofs.sg_open.Goals as goal

pub opened_of-requires : goal.opened_of-requires
opened_of-requires c = rw (ap (λ (x : Called (Result ⊤ Refusal)). x.answer) c.open.ensures) (opening_index _ _)
