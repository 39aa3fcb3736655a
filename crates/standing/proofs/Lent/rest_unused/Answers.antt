-- `rest_unused` is its definition: each test of the chain is that of its number.
-- Assumes nothing.
use Rattle.std.proofs.Common.{rules, tests}
use Rattle.standing.specs.Looks.{cleared_at}
use Rattle.standing.proofs.Counting.{all_in_range}
use Rattle.standing.proofs.Lent.rest_unused.Goals as goal

pub returns : goal.returns
unfolding cleared_at
returns c = rw (← c.path_places.ensures) (all_in_range _ _ _ _ _ c.all.ensures.ran (λ x b q k. search (rules, tests)))
