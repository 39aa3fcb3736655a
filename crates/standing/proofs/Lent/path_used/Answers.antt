-- `path_used` is the sum of the lanes' path lengths, each a number of 32 bits: so far that of the lanes passed.
-- Assumes nothing.
use mathlib.Core.Path.{refl}
use native.Mathlib.Omega.{arith}
use Rattle.lists.specs.Below.{sum_below}
use Rattle.standing.proofs.Shared.{used_turn}
use Rattle.standing.proofs.Lent.path_used.Goals as goal

pub loop-j-init : goal.loop-j-init
unfolding sum_below
loop-j-init c = (omega arith, refl)

pub loop-j-preserved : goal.loop-j-preserved
loop-j-preserved c = (omega arith, search used_turn)
