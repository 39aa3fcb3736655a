-- `locks_stand` is its definition: each test of the chain is that of its number.
-- Assumes nothing.
use Rattle.std.proofs.Common.{rules, tests}
use Rattle.standing.proofs.Counting.{all_in_range}
use Rattle.standing.proofs.Lent.locks_stand.Goals as goal

pub returns : goal.returns
returns c = all_in_range _ _ _ _ _ c.all.ensures.ran (λ x b q k. search (rules, tests))
