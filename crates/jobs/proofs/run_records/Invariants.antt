-- `run_records` puts what is printed from an offset on: what is put so far and what the records left print are the whole.
use Rattle.std.proofs.Common.{◌≡◌, length}
use Rattle.desk.specs.Lent.{lent_table, SameLists}
use Rattle.jobs.specs.Job.{print_from}
use Rattle.jobs.proofs.Turns.{Left}
use Rattle.jobs.proofs.run_records.Given as goal

abbrev pub invariant-loop-at : goal.invariant-loop-at
invariant-loop-at l =
    let s = l.initial.reader.job.now in
    (goal.iterator-loop-at).can_next l.reader
    × (goal.iterator-loop-at).is_finite l.reader
    × Left l.table.z.sizes (lent_table l.table) l.reader.job.now l.reader.at l.initial.out l.out
    (print_from (length s) l.initial.table.z.sizes (lent_table l.initial.table) s l.initial.reader.at)
    × SameLists l.table l.initial.table
    × (l.reader.job ≡ l.initial.reader.job)
