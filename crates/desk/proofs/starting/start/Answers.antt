-- `start` is its definition: refused by the tests that come first, or as the lanes decide it.
use Rattle.std.proofs.Common.{rules}
use Rattle.std.proofs.lemmas.Result.{err_from_is_err_and}
use Rattle.desk.proofs.Tested.{tested_lanes}
use Rattle.desk.proofs.Starts.{starts_not, starts}
use Rattle.desk.proofs.starting.start.Goals as goal

pub returns-in_err-z : goal.returns-in_err-z
returns-in_err-z c =
    let p = err_from_is_err_and c.from_residual.result c.from_residual.ensures.1 in
    rw (p.1, p.2) (starts_not _ _ _ _ _ c.in_err-z.ensures)

pub start_lane-requires : goal.start_lane-requires
start_lane-requires c = search (rules, tested_lanes)

pub returns : goal.returns
returns c = starts _ _ _ _ _ _ c.in_ok-z.ensures (c.start_lane.ensures _ _ _)
