-- How a lane's last place on the path goes on with a step, by its act.
use mathlib.Core.Path.{◌≡◌}
use mathlib.Core.Logic.{◌≢◌}
use Rattle.places.specs.declared.Sizes.{Sizes}
use Rattle.paths.specs.declared.Place.{Place}
use Rattle.paths.specs.Path.{other_row}
use Rattle.machine.specs.declared.Act.{Act}
use Rattle.machine.specs.declared.Act.TheVariants.{Try, Release, Look, Store, PickOne, PickFrom, Move}
use Rattle.machine.specs.declared.Tail.TheVariants.{Keep, TakeOff, Clear}

abbrev pub Follows : Sizes → Place → Place → Act → Type 0
Follows z last last' (Try k g) = last' ≡ last
Follows z last last' (Release k mode Keep) = last' ≡ last
Follows z last last' (Release k mode (TakeOff i)) = i ≢ 0 → last.row ≡ other_row z last'
Follows z last last' (Release k mode Clear) = Unit {0}
Follows z last last' (Look row c) = last' ≡ last
Follows z last last' (Store row c s) = last' ≡ last
Follows z last last' (PickOne one two) = Unit {0}
Follows z last last' (PickFrom row i) = last'.row ≡ row
Follows z last last' (Move from row c) = last' ≡ last
