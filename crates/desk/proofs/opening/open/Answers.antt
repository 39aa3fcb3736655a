-- `open` is its definition, one law of `Opens` for each way through it.
use Rattle.std.proofs.Common.{rules}
use Rattle.std.proofs.lemmas.Result.{err_from_is_err_and}
use Rattle.desk.proofs.Tested.{slots_long}
use Rattle.desk.proofs.Opens.{opens_not, opens_unsound, opens}
use Rattle.desk.proofs.opening.open.Goals as goal

pub returns-in_err-z : goal.returns-in_err-z
returns-in_err-z c =
    let p = err_from_is_err_and c.from_residual.result c.from_residual.ensures.1 in
    rw (p.1, p.2) (opens_not _ _ _ _ _ _ c.in_err-z.ensures)

pub invariant_of-slots : goal.invariant_of-slots
invariant_of-slots c = record { exact = search (rules, slots_long) }

pub returns-in_err-check : goal.returns-in_err-check
returns-in_err-check c =
    let p = err_from_is_err_and c.from_residual-in_err-check.result c.from_residual-in_err-check.ensures.1 in
    rw (p.1, p.2) (opens_unsound _ _ _ _ _ _ c.in_ok-z.ensures _ c.in_err-check.ensures)

pub returns : goal.returns
returns c = opens _ _ _ _ _ _ c.in_ok-z.ensures _ _ _ c.in_ok-check.ensures c.clear.ensures.locks_after c.clear.ensures.lanes_after c.clear.ensures.path_after
