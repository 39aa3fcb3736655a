-- The lane that a step leaves is in range: `range_at`, with its arguments in the order in which callers have them.
-- Assumes nothing.
use mathlib.Core.Path.{◌≡◌}
use mathlib.Core.Bool.{true, ◌||◌}
use lib.Dec.{eqb, leb}
use Rattle.lists.proofs.Below.{Each}
use Rattle.places.specs.declared.Sizes.{Sizes}
use Rattle.places.specs.Table.{Fits, max_key}
use Rattle.paths.specs.declared.Place.{Place}
use Rattle.machine.specs.declared.Stage.{Stage}
use Rattle.machine.specs.declared.Task.{Task}
use Rattle.machine.specs.declared.Seen.{Seen}
use Rattle.machine.specs.declared.Moved.{Moved}
use Rattle.machine.specs.Rules.{is_insert}
use Rattle.machine.specs.Stages.{lane_in, stage_in, act_at}
use Rattle.machine.proofs.Ways.{Goes}
use Rattle.machine.proofs.Follows.{Follows}
use Rattle.machine.proofs.Range.{TryFits, LastIn, range_at}

pub range_kept : (z : Sizes) → Fits z → (l : Task) (last last' : Place) (seen : Seen) (s : Stage) (m : Moved) → leb l.key max_key ≡ true → (is_insert l.op || eqb l.value 0) ≡ true → Each (stage_in z l last s) → TryFits z seen (act_at z l last s) → LastIn z last s → Follows z last last' (act_at z l last s) → Goes z l last seen s m → Each (lane_in z m.lane last')
range_kept z f l last last' seen s m hk hv r t c w p = range_at z f l last last' seen hk hv s m r t c w p
