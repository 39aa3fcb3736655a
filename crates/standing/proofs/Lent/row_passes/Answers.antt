-- `row_passes` is its definition: each test of the chain is that of the slot in its column.
-- Assumes nothing.
use Rattle.std.proofs.Common.{rules, tests}
use Rattle.standing.proofs.Counting.{all_in_range}
use Rattle.standing.proofs.Lent.row_passes.Goals as goal

pub returns : goal.returns
returns g c = λ p t. all_in_range _ _ _ _ _ c.all.ensures.ran (λ x b q k. search (rules, tests, t))
