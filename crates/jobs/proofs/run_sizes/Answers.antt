-- `run_sizes` puts the sizes line and what the records print: the parts of the zeros that it lends are the table of the job, which stands.
-- Assumes nothing.
use mathlib.Core.Path.{sym}
use native.Mathlib.Omega.{arith}
use lib.Seq.{length-take-le}
use Rattle.std.proofs.lemmas.Result.{err_from_is_err_and}
use Rattle.places.proofs.Limits.{slots_few}
use Rattle.prints.proofs.Lengths.{sizes_most}
use Rattle.locks.proofs.Views.{words_most}
use Rattle.jobs.proofs.Begins.{lent_stood, sizes_bad, sizes_good, first_sizes}
use Rattle.jobs.proofs.run_sizes.Goals as goal

pub returns-in_err-z : goal.returns-in_err-z
returns-in_err-z c =
    let i = c.in-Some-default-Opens in
    let first = first_sizes i.z c.new-reader.ensures i.ensures.steps i.field-0-1-is in
    let p = err_from_is_err_and c.from_residual.result c.from_residual.ensures.1 in
    rw (p.1, p.2, first.print) (sizes_bad _ _ c.new-2.result c.ok_or.result c.new-2.ensures c.ok_or.ensures.value _ _ c.args.out.now _ c.in_err-z.was c.new-3.ensures.0 c.new-3.ensures.1)

pub slice_bounds-table-end : goal.slice_bounds-table-end
slice_bounds-table-end c = sym (length-take-le _ _ (omega (arith, slots_few _ c.in_ok-z.z.fits)))

pub slice_bounds-locks-end : goal.slice_bounds-locks-end
slice_bounds-locks-end c = omega (arith, c.lock_words.ensures, words_most _ c.in_ok-z.z.fits)

pub slice_bounds-table-end-2 : goal.slice_bounds-table-end-2
slice_bounds-table-end-2 c = sym (length-take-le _ _ (omega (arith, c.lock_words.ensures, words_most _ c.in_ok-z.z.fits)))

pub invariant_of-table : goal.invariant_of-table
invariant_of-table c = record { stood = lent_stood c.in_ok-z.z _ _ _ _ c.slot_words.ensures c.lock_words.ensures c.lane_words.ensures c.path_words.ensures }

pub run_records-requires : goal.run_records-requires
run_records-requires c =
    let i = c.in-Some-default-Opens in
    let first = first_sizes i.z c.new-reader.ensures i.ensures.steps i.field-0-1-is in
    rw (← first.bytes)
    (record {
      le_at = omega (arith, first.long);
      at_in_bounds = first.inside;
      job_len_bound = omega arith;
      out_at_bound = omega (arith, first.long, sizes_most c.in_ok-z.z.sizes);
      out_bytes_in_bounds = omega arith;
    })

pub returns : goal.returns
returns c =
    let i = c.in-Some-default-Opens in
    let first = first_sizes i.z c.new-reader.ensures i.ensures.steps i.field-0-1-is in
    rw first.print
    (sizes_good _ _ c.new-2.result c.ok_or.result c.new-2.ensures c.ok_or.ensures.value _ _ c.args.out.now c.in_ok-z.z c.run_records.result c.put_sizes.new.out c.run_records.new.out _ _ _ _ c.in_ok-z.was c.slot_words.ensures c.lock_words.ensures c.lane_words.ensures c.path_words.ensures c.put_sizes.ensures c.run_records.ensures.said)
