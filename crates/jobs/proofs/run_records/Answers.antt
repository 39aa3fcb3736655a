-- `run_records` puts what is printed from an offset on: what is put so far and what the records left print are the whole.
-- Assumes nothing.
use Rattle.std.proofs.Common.{refl, arith, rules, ap}
use Rattle.jobs.specs.Obeys.{goes_after}
use Rattle.jobs.proofs.Turns.{left_start, none_turn, turn_goes, last_turn, break_stops, continue_goes}
use Rattle.std.proofs.lemmas.Result.{err_from_is_err_and}
use Rattle.jobs.proofs.run_records.Goals as goal

pub loop-at-init : goal.loop-at-init
loop-at-init c = (tt, tt, left_start _ _ _ _ _ (omega arith) (omega arith) (omega arith), (refl, refl, refl, refl, refl), refl)

pub returns-in_err-obey-clause-said : goal.returns-in_err-obey-clause-said
returns-in_err-obey-clause-said c =
    let p = err_from_is_err_and c.from_residual.result c.from_residual.ensures.1 in
    rw (p.1, p.2)
    (last_turn c.loop-at.invariant.2 c.in-Some.ensures.steps c.obey.ensures.obeys _
    (rw c.in_err-obey.was refl) (ap goes_after c.in_err-obey.was))

pub returns-then-is_break-clause-said : goal.returns-then-is_break-clause-said
returns-then-is_break-clause-said c =
    last_turn c.loop-at.invariant.2 c.in-Some.ensures.steps c.obey.ensures.obeys _
    (rw c.in_ok-obey.was refl) (rw c.in_ok-obey.was (break_stops _ c.if-is_break.ensures))

pub loop-at-preserved : goal.loop-at-preserved
loop-at-preserved c =
    let left = turn_goes c.loop-at.invariant.2 c.in-Some.ensures.steps c.obey.ensures.obeys (rw c.in_ok-obey.was (continue_goes _ c.if-is_break.ensures)) in
    (tt, tt, rw (ap (λ z. z.sizes) c.obey.ensures.same.0) left, search rules, search rules)

pub returns-clause-said : goal.returns-clause-said
returns-clause-said c = none_turn c.loop-at.invariant.2 c.new.result c.new.ensures.0 c.new.ensures.1 c.in_default.ensures.steps
