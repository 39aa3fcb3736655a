-- `step` is its definition: refused by the tests that come first, or the step of a table that stands by its type.
use Rattle.std.proofs.Common.{rules}
use Rattle.std.proofs.lemmas.Result.{err_from_is_err_and}
use Rattle.desk.proofs.Tested.{stood_as}
use Rattle.desk.proofs.Steps.{steps_not, steps}
use Rattle.desk.proofs.stepping.step.Goals as goal

pub returns-in_err-z : goal.returns-in_err-z
returns-in_err-z c =
    let p = err_from_is_err_and c.from_residual.result c.from_residual.ensures.1 in
    rw (p.1, p.2) (steps_not _ _ _ _ _ c.in_err-z.ensures)

pub invariant_of-table : goal.invariant_of-table
invariant_of-table c = record { stood = stood_as _ _ _ c.in_ok-z.ensures }

pub returns : goal.returns
returns c = let k = steps _ _ _ _ _ _ c.in_ok-z.ensures c.step.ensures.call in search rules
