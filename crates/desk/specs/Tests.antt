-- What the tests before a call answer: the sizes, where it goes on.
use Rattle.std.specs.Prelude.{Result, Ok}
use Rattle.linear.specs.declared.Request.{Request}
use Rattle.places.specs.declared.Sizes.{Sizes}
use Rattle.machine.specs.declared.Refusal.{Refusal}
use Rattle.machine.specs.Standing.{Table}
use Rattle.machine.specs.Desk.{called, if_sized, if_standing}
use Rattle.machine.specs.Lane.{with_task}
use Rattle.machine.specs.Back.{lane_at}
use Rattle.machine.specs.Stages.{is_idle}

-- "Order: 1, 2"
abbrev pub sized : Sizes → Table → Result Sizes Refusal
sized z t = (if_sized z t (called (Ok z) t)).answer

-- "1, 2, 9"
abbrev pub tested : Sizes → Table → Result Sizes Refusal
tested z t = (if_standing z t (called (Ok z) t)).answer
