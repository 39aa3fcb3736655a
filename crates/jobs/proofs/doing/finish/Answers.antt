-- What stands has slots of the right length.
-- Assumes nothing.
use Rattle.kept.proofs.Long.{lengths_of}
use Rattle.jobs.proofs.doing.finish.Goals as goal

pub invariant_of-slots : goal.invariant_of-slots
invariant_of-slots c = record { exact = (lengths_of _ _ c.args.table.now.stood.lengths).slots }
