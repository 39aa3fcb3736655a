-- How long a print is at most: so many bytes for each byte of the job, and what the end of a job prints.
-- Assumes nothing.
use mathlib.Core.Path.{◌≡◌, refl, sym, ap}
use mathlib.Core.Bool.{Bool, true, false, cond}
use mathlib.Core.List.{List, [], ◌++◌}
use Prim.Native.Nat.{ℕ, zero, suc, ◌+◌, ◌*◌, ◌≤◌, ◌<◌}
use native.Mathlib.Omega.{arith}
use lib.Dec.{ltb}
use lib.ListN.{length, length-append}
use lib.Seq.{length-take-le}
use borrow.Author.Tests.{ltb-false}
use Rattle.std.specs.Prelude.{Option, None, Some, Result, Ok, Err}
use Rattle.linear.specs.declared.Request.{Request}
use Rattle.linear.specs.declared.End.{End}
use Rattle.places.specs.declared.Sizes.{Sizes}
use Rattle.places.specs.Table.{Fits, sizes_ok}
use Rattle.places.proofs.Limits.{ok_fits}
use Rattle.machine.specs.declared.Refusal.{Refusal}
use Rattle.machine.specs.Standing.{Table}
use Rattle.machine.specs.Desk.{start_of, step_of, refusal_number, number_of}
use Rattle.kept.proofs.Kept.{step_tested}
use Rattle.job_records.specs.declared.Record.{Record}
use Rattle.job_records.specs.declared.Record.TheVariants.{Opens, Starts, Steps, Ends}
use Rattle.job_records.specs.declared.Taken.{Taken}
use Rattle.job_records.specs.Records.{record_at}
use Rattle.job_records.proofs.Whole.{record_length, goes_on_lem, item_long}
use Rattle.prints.specs.Put.{Put}
use Rattle.prints.proofs.Puts.{put_length}
use Rattle.prints.specs.Lines.{sizes_line, answer_line, refused_line, end_lines}
use Rattle.prints.proofs.Lengths.{sizes_most, answer_most, refusal_most, end_most}
use Rattle.prints.specs.declared.lines.TheConstants.{REFUSAL_BYTES, END_BYTES}
use Rattle.prints.proofs.Lengths.{answer_bytes}
use Rattle.jobs.specs.declared.TheConstants.{PRINT_RATE, OUT_BYTES}
use Rattle.jobs.specs.Prints.{Prints}
use Rattle.jobs.specs.Job.{max_bytes, malformed, job_table, Came, answered, end_text, came_of, print_from, opened_print, first_print, job_print, print_of}
use Rattle.jobs.proofs.Answered.{never, goes_accepted}

module _ (z : Sizes) (t : Table) (s : List ℕ) (at : ℕ) where
  -- a start that goes on prints nothing
  start_room : (j : ℕ) (r : Request) → (came_of z t s at (Starts j r)).goes ≡ true → length (came_of z t s at (Starts j r)).text ≡ 0
  start_room j r g = let w = goes_accepted (λ u. []) at (start_of z t j r).table (start_of z t j r).answer g in rw w.1

  -- a step that goes on prints a line at most
  step_room : (j byte : ℕ) → (came_of z t s at (Steps j byte)).goes ≡ true → length (came_of z t s at (Steps j byte)).text ≤ answer_bytes
  step_room j byte g =
      let w = goes_accepted (answer_line j) at (step_of z t j byte).table (step_of z t j byte).answer g in
      let a = step_tested z t j byte (ap number_of w.1) in
      let f = ok_fits z a.sizes in
      rw w.1 (answer_most j w.0 (omega (arith, a.lane, f.lanes_high)))

  -- a record that goes on prints at most so many bytes for each of its own
  item_room : (item : Record) → (came_of z t s at item).goes ≡ true → length (came_of z t s at item).text ≤ PRINT_RATE * record_length item
  item_room (Opens y) g = never (sym g)
  item_room (Starts j r) g = omega (arith, start_room j r g)
  item_room (Steps j byte) g = omega (arith, step_room j byte g)
  item_room Ends g = never (sym g)

  -- and lies before the next
  pub goes_room : (taken : Taken) → record_at s at ≡ Some taken → (came_of z t s at taken.item).goes ≡ true
      → (at < taken.next) × (taken.next ≤ length s) × (PRINT_RATE * at + length (came_of z t s at taken.item).text ≤ PRINT_RATE * taken.next)
  goes_room taken e g = let w = goes_on_lem s at taken e in (w.0, w.1, omega (arith, (item_long s at taken e).0, item_room taken.item g))

-- what the last record prints
module _ (z : Sizes) (f : Fits z) (t : Table) (s : List ℕ) (at : ℕ) where
  end_last : length (end_text z t.slots s at) ≤ END_BYTES
  unfolding end_text
  end_last = go (ltb (at + 1) (length s))
    where
      go : (b : Bool) → length (cond b (refused_line malformed (at + 1)) (end_lines z t.slots)) ≤ END_BYTES
      go true = omega (arith, refusal_most malformed (at + 1))
      go false = end_most z t.slots f

  -- where a call of the desk is refused, its refusal
  refused_last : {A : Type 0} (text : A → List ℕ) (u : Table) (r : Result A Refusal) → (answered text at r u).goes ≡ false
      → length (answered text at r u).text ≤ END_BYTES
  refused_last text u (Ok a) g = never g
  refused_last text u (Err why) g = omega (arith, refusal_most (refusal_number why) at)

  pub last_room : (item : Record) → (came_of z t s at item).goes ≡ false → length (came_of z t s at item).text ≤ END_BYTES
  last_room (Opens y) g = omega (arith, refusal_most malformed at)
  last_room (Starts j r) g = refused_last (λ u. []) (start_of z t j r).table (start_of z t j r).answer g
  last_room (Steps j byte) g = refused_last (answer_line j) (step_of z t j byte).table (step_of z t j byte).answer g
  last_room Ends g = end_last

-- ---- a whole print

-- no record, one that goes on, and one that does not
module _ (k : ℕ) (z : Sizes) (t : Table) (s : List ℕ) (at : ℕ) where
  pub print_none : record_at s at ≡ None → print_from (suc k) z t s at ≡ refused_line malformed at
  unfolding print_from
  print_none e = rw (e, print_from)

  pub print_goes : (taken : Taken) → record_at s at ≡ Some taken → (came_of z t s at taken.item).goes ≡ true
      → print_from (suc k) z t s at ≡ (came_of z t s at taken.item).text ++ print_from k z (came_of z t s at taken.item).table s taken.next
  unfolding print_from
  print_goes taken e g = rw (e, g, print_from)

  pub print_stops : (taken : Taken) → record_at s at ≡ Some taken → (came_of z t s at taken.item).goes ≡ false → print_from (suc k) z t s at ≡ (came_of z t s at taken.item).text
  unfolding print_from
  print_stops taken e g = rw (e, g, print_from)

from_fits : (k : ℕ) (z : Sizes) (t : Table) (s : List ℕ) (at : ℕ) → Fits z → at ≤ length s → PRINT_RATE * at + length (print_from k z t s at) ≤ PRINT_RATE * length s + END_BYTES
unfolding print_from
from_fits zero z t s at f h = omega arith
from_fits (suc k) z t s at f h = go (λ u next l. from_fits k z u s next f l) (record_at s at) refl
  where
    by_goes : ((u : Table) (next : ℕ) → next ≤ length s → PRINT_RATE * next + length (print_from k z u s next) ≤ PRINT_RATE * length s + END_BYTES) → (taken : Taken) → record_at s at ≡ Some taken
        → (b : Bool) → (came_of z t s at taken.item).goes ≡ b → PRINT_RATE * at + length (print_from (suc k) z t s at) ≤ PRINT_RATE * length s + END_BYTES
    by_goes rec taken e true g =
        let c : Came = came_of z t s at taken.item in
        let w = goes_room z t s at taken e g in
        omega (arith, ap length (print_goes k z t s at taken e g), length-append c.text (print_from k z c.table s taken.next), w.1, w.2, rec c.table taken.next w.1)
    by_goes rec taken e false g = omega (arith, ap length (print_stops k z t s at taken e g), last_room z f t s at taken.item g)

    go : ((u : Table) (next : ℕ) → next ≤ length s → PRINT_RATE * next + length (print_from k z u s next) ≤ PRINT_RATE * length s + END_BYTES) → (found : Option Taken) → record_at s at ≡ found
        → PRINT_RATE * at + length (print_from (suc k) z t s at) ≤ PRINT_RATE * length s + END_BYTES
    go rec None e = omega (arith, ap length (print_none k z t s at e), refusal_most malformed at)
    go rec (Some taken) e = by_goes rec taken e (came_of z t s at taken.item).goes refl

opened_fits : (z : Sizes) (s : List ℕ) (at : ℕ) → at ≤ length s → length s ≤ max_bytes → length (opened_print z s at) + REFUSAL_BYTES ≤ OUT_BYTES
unfolding opened_print
opened_fits z s at h m = go (sizes_ok z) refl
  where
    go : (b : Bool) → sizes_ok z ≡ b → length (cond b (sizes_line z ++ print_from (length s) z (job_table z) s at) (refused_line 1 0)) + REFUSAL_BYTES ≤ OUT_BYTES
    go true e =
        omega (arith, length-append (sizes_line z) (print_from (length s) z (job_table z) s at), sizes_most z, from_fits (length s) z (job_table z) s at (ok_fits z e) h)
    go false e = omega (arith, refusal_most 1 0)

-- THE BOUND: whatever the job, its print and one line more have at most OUT_BYTES bytes
pub line_fits : (s : List ℕ) → length (print_of s) + REFUSAL_BYTES ≤ OUT_BYTES
unfolding print_of
line_fits s = go (ltb max_bytes (length s)) refl
  where
    first : length s ≤ max_bytes → (next : ℕ) → next ≤ length s → (item : Record) → length (first_print s next item) + REFUSAL_BYTES ≤ OUT_BYTES
    first m next h (Opens z) = opened_fits z s next h m
    first m next h (Starts j r) = omega (arith, refusal_most malformed 0)
    first m next h (Steps j byte) = omega (arith, refusal_most malformed 0)
    first m next h Ends = omega (arith, refusal_most malformed 0)

    by_record : length s ≤ max_bytes → (found : Option Taken) → record_at s 0 ≡ found → length (job_print s found) + REFUSAL_BYTES ≤ OUT_BYTES
    by_record m None e = omega (arith, refusal_most malformed 0)
    by_record m (Some taken) e = first m taken.next (goes_on_lem s 0 taken e).1 taken.item

    go : (b : Bool) → ltb max_bytes (length s) ≡ b → length (cond b (refused_line malformed max_bytes) (job_print s (record_at s 0))) + REFUSAL_BYTES ≤ OUT_BYTES
    go true e = omega (arith, refusal_most malformed max_bytes)
    go false e = by_record (ltb-false max_bytes (length s) e) (record_at s 0) refl

pub print_fits : (s : List ℕ) → length (print_of s) ≤ OUT_BYTES
print_fits s = omega (arith, line_fits s)

-- what `run` answers is within the bytes that it is lent
pub printed : (s : List ℕ) {r : ℕ} {was out : List ℕ} → OUT_BYTES ≤ length was → Put r 0 was out (print_of s) → Prints r was out (print_of s)
printed s {r} {was} {out} h p =
    let l : r ≤ length out = omega (arith, p.offset, put_length p, print_fits s) in
    record { put = p; within = l; front = sym (length-take-le r out l) }
