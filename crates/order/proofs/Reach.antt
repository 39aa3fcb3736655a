-- A run from an opened table comes to a reached one, so that what is said of reached tables holds of runs.
-- Assumes nothing.
use mathlib.Core.List.{List, [], ◌∷◌}
use Rattle.places.specs.declared.Sizes.{Sizes}
use Rattle.machine.specs.Standing.{Table}
use Rattle.machine.specs.Desk.{open_of, Accepts}
use Rattle.kept.specs.Runs.{Reached, by_opening, by_start, by_step}
use Rattle.order.specs.Run.{Event, start, step, next, Run, table_after}

reaches_on : (z : Sizes) (t : Table) → Reached z t → (es : List Event) → Run z t es → Reached z (table_after z t es)
reaches_on z t p [] a = p
reaches_on z t p (start j r ∷ es) a = reaches_on z (next z t (start j r)) (by_start t j r p a.0) es a.1
reaches_on z t p (step j byte ∷ es) a = reaches_on z (next z t (step j byte)) (by_step t j byte p a.0) es a.1

pub run_reached : (z : Sizes) (t : Table) (es : List Event) → Accepts (open_of z t) → Run z (open_of z t).table es
    → Reached z (table_after z (open_of z t).table es)
run_reached z t es e a = reaches_on z (open_of z t).table (by_opening t e) es a
