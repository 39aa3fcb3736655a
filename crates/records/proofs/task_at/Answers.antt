-- `task_at` is its definition: the operation, two reads and the stage are one record.
use Rattle.records.proofs.Stored.{task_read}
use Rattle.records.proofs.task_at.Goals as goal

pub returns : goal.returns
returns c = search task_read
