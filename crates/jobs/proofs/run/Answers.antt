-- `run` puts what the job prints, by its length, and then its last line; a print has room in the bytes that are lent.
-- Assumes nothing.
use mathlib.Core.Path.{refl, ap}
use native.Mathlib.Omega.{arith}
use Rattle.jobs.proofs.Begins.{last_room_lem, whole_print, long_print, short_said}
use Rattle.jobs.proofs.run.Goals.{then-job-gt-MAX_BYTES as long, else-job-gt-MAX_BYTES as short}
use Rattle.jobs.proofs.run.Goals as goal

pub put_last-requires : goal.put_last-requires
put_last-requires c = elim c.if-job-gt-MAX_BYTES.branch [
  | long w ↦ rw w.print-is (omega arith)
  | short w ↦ rw w.print-is (last_room_lem c.args.job.now (short_said c.args.job.now w.if-job-gt-MAX_BYTES.false w.run_sizes-done.ensures) refl (omega arith))
]

pub returns : goal.returns
returns c = elim c.if-job-gt-MAX_BYTES.branch [
  | long w ↦
      long_print c.args.job.now w.new.result w.if-job-gt-MAX_BYTES.true w.new.ensures (omega arith) (ap (λ x. x.1.0) w.print-is) (ap (λ x. x.0.now) w.print-is) (rw w.done-is at c.put_last.ensures.put)
  | short w ↦
      whole_print c.args.job.now (short_said c.args.job.now w.if-job-gt-MAX_BYTES.false w.run_sizes-done.ensures) refl (omega arith) (ap (λ x. x.1.0) w.print-is) (ap (λ x. x.0.now) w.print-is)
      (rw w.done-is at c.put_last.ensures.put)
]
