-- `upright` looks at lists that are as long as the layout needs.
-- Assumes nothing.
use Rattle.desk.proofs.Tested.{sized_long}
use Rattle.desk.proofs.lent.upright.Goals as goal

pub invariant_of-lent : goal.invariant_of-lent
invariant_of-lent c = record { exact = sized_long _ _ _ _ _ _ c.in_ok-z.ensures }
