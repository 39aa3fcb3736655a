-- `obey` does what the record comes to. What is left to show is what the desk refuses.
-- Assumes nothing.
use mathlib.Core.Path.{◌≡◌}
use Rattle.std.proofs.Common.{rules}
use Rattle.std.proofs.iter.Serving.{serving}
use Rattle.std.proofs.lemmas.Result.{err_from_is_err_and}
use Rattle.jobs.specs.declared.stop.Cause.TheVariants.{Refused}
use Rattle.jobs.proofs.Obeyed.{err_of, declined}
use Rattle.jobs.proofs.doing.obey.Goals as goal

pub returns-in_err-map_err-in-Starts-clause-obeys : goal.returns-in_err-map_err-in-Starts-clause-obeys
returns-in_err-map_err-in-Starts-clause-obeys c =
    let stop = c.in_err-map_err-in-Starts.field-0.0 in
    let w = err_of _ c.start.result c.map_err.result stop c.in_err-map_err-in-Starts.was c.map_err.ensures.cases in
    let made : (stop.cause ≡ Refused w.0) × (stop.at ≡ c.args.at) = search (rules, serving) in
    let p = err_from_is_err_and c.from_residual.result c.from_residual.ensures.1 in
    rw (p.1, p.2, c.in-Starts.is) (declined c.args.at c.args.out.now _ w.0 stop made.0 made.1 _ c.start.result _ c.start.ensures.call w.1)

pub returns-in_err-map_err-in-Steps-clause-obeys : goal.returns-in_err-map_err-in-Steps-clause-obeys
returns-in_err-map_err-in-Steps-clause-obeys c =
    let stop = c.in_err-map_err-in-Steps.field-0.0 in
    let w = err_of _ c.step.result c.map_err-in-Steps.result stop c.in_err-map_err-in-Steps.was c.map_err-in-Steps.ensures.cases in
    let made : (stop.cause ≡ Refused w.0) × (stop.at ≡ c.args.at) = search (rules, serving) in
    let p = err_from_is_err_and c.from_residual-in_err-map_err-in-Steps.result c.from_residual-in_err-map_err-in-Steps.ensures.1 in
    rw (p.1, p.2, c.in-Steps.is) (declined c.args.at c.args.out.now _ w.0 stop made.0 made.1 _ c.step.result _ c.step.ensures.call w.1)
