-- `slots_sound` says whether the slot check finds nothing.
use mathlib.Core.Path.{◌∙◌, ap}
use Rattle.std.specs.Prelude.{is_ok}
use Rattle.slots.proofs.Opening.{opening_sound}
use Rattle.standing.proofs.Lent.slots_sound.Goals as goal

pub returns : goal.returns
returns c = c.is_ok.ensures.value ∙ (ap is_ok c.check.ensures ∙ opening_sound _ _)
