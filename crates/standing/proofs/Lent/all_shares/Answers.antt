-- `all_shares` is its definition: what the lanes passed so far add, at most 3 each.
-- Assumes nothing.
use native.Mathlib.Omega.{arith}
use Rattle.std.proofs.Common.{rules}
use Rattle.standing.proofs.Shared.{sums_fit, shares_none, shares_turn}
use Rattle.standing.proofs.Lent.all_shares.Goals as goal

pub loop-j-init : goal.loop-j-init
loop-j-init c = search (rules, shares_none)

pub add-sum-requires : goal.add-sum-requires
add-sum-requires c = sums_fit _ _ _ _ _ _ _ (omega arith) c.loop-j.invariant c.lane_shares.ensures

pub loop-j-preserved : goal.loop-j-preserved
loop-j-preserved c = search shares_turn
