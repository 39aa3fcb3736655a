-- How a job begins: the parts of the local memory that the sizes call for are the job's table; and the first record.
-- Assumes nothing.
use mathlib.Core.Path.{◌≡◌, refl, sym, ◌∙◌, ap, subst}
use mathlib.Core.Bool.{Bool, true, false, cond}
use mathlib.Core.List.{List, [], ◌∷◌, ◌++◌, append_assoc}
use Prim.Native.Nat.{ℕ, zero, suc, ◌+◌, ◌*◌, ◌≤◌, ◌<◌}
use native.Mathlib.Omega.{arith}
use lib.ListN.{length, take, replicate}
use borrow.Author.Tests.{lt-ltb, le-ltb}
use denote.Ref.{Bor}
use Rattle.std.specs.Prelude.{Option, None, Some, Result, Ok, Err}
use Rattle.std.specs.Option.{option_map, ok_or}
use Rattle.places.specs.declared.Sizes.{Sizes}
use Rattle.places.specs.declared.Layout.{Layout}
use Rattle.places.specs.Table.{sizes_ok}
use Rattle.places.proofs.Limits.{slots_few, fits_ok}
use Rattle.slots.specs.declared.TheConstants.{MAX_SLOT_WORDS}
use Rattle.slots.specs.Slot.{slot_words}
use Rattle.paths.specs.declared.TheConstants.{MAX_PATH_WORDS}
use Rattle.paths.specs.Path.{path_words}
use Rattle.locks.specs.Locks.{lock_words, max_lock_words}
use Rattle.locks.proofs.Views.{words_most}
use Rattle.machine.specs.declared.Refusal.TheVariants.{BadSizes}
use Rattle.machine.specs.Lane.{lane_words}
use Rattle.machine.specs.Standing.{Table}
use Rattle.records.specs.declared.TheConstants.{MAX_LANE_WORDS}
use Rattle.standing.specs.Tables.{table}
use Rattle.kept.specs.Runs.{Stood}
use Rattle.job_records.specs.declared.Record.{Record}
use Rattle.job_records.specs.declared.Record.TheVariants.{Opens}
use Rattle.job_records.specs.declared.Taken.{Taken}
use Rattle.job_records.specs.Records.{record_at}
use Rattle.job_records.proofs.Whole.{record_length, item_long}
use Rattle.job_records.specs.declared.reader.Reader.{Reader}
use Rattle.job_records.specs.Finds.{Finds}
use Rattle.job_records.proofs.Found.{found_some}
use Rattle.prints.specs.declared.text.Out.{Out}
use Rattle.prints.specs.Put.{Put, Puts}
use Rattle.prints.proofs.Puts.{put_then, amid_room, puts_none, puts_then}
use Rattle.prints.specs.Lines.{sizes_line}
use Rattle.prints.specs.declared.lines.TheConstants.{REFUSAL_BYTES}
use Rattle.jobs.specs.declared.TheConstants.{OUT_BYTES}
use Rattle.jobs.specs.declared.stop.Cause.TheVariants.{Malformed, Refused}
use Rattle.jobs.specs.declared.stop.Stop.{Stop}
use Rattle.jobs.specs.Job.{max_bytes, zeros, job_table, print_from, opened_print, job_print, print_of}
use Rattle.jobs.specs.Obeys.{stop_line, last_line, Said}
use Rattle.jobs.specs.Prints.{Prints}
use Rattle.jobs.proofs.Fresh.{fresh_stood, fresh_is}
use Rattle.jobs.proofs.Room.{line_fits, printed}

-- the front of a list of zeros
front : (n m : ℕ) → n ≤ m → ◌≡◌ {A = List ℕ} (take n (replicate m 0)) (replicate n 0)
front zero m h = refl
front (suc n) zero h = absurd (omega arith)
front (suc n) (suc m) h = ap (λ (xs : List ℕ). 0 ∷ xs) (front n m (omega arith))

-- the parts of memory of the largest sizes that these sizes call for
abbrev pub lent : ℕ → ℕ → ℕ → ℕ → Table
lent a b c d =
    table (take a (replicate MAX_SLOT_WORDS 0)) (take b (replicate max_lock_words 0)) (take c (replicate MAX_LANE_WORDS 0)) (take d (replicate MAX_PATH_WORDS 0))

module _ (z : Layout) (a b c d : ℕ) (ea : a ≡ slot_words z.sizes) (eb : b ≡ lock_words z.sizes) (ec : c ≡ lane_words z.sizes) (ed : d ≡ path_words z.sizes) where
  lent_is : lent a b c d ≡ job_table z.sizes
  unfolding zeros
  lent_is =
      rw (ea, eb, ec, ed) (λ k. record {
        slots = front (slot_words z.sizes) MAX_SLOT_WORDS (omega (arith, slots_few z.sizes z.fits)) k;
        locks = front (lock_words z.sizes) max_lock_words (words_most z.sizes z.fits) k;
        lanes = front (lane_words z.sizes) MAX_LANE_WORDS (omega (arith, z.fits.lanes_high)) k;
        path = front (path_words z.sizes) MAX_PATH_WORDS (omega (arith, z.fits.rows_high)) k;
      })
      ∙ sym (fresh_is z.sizes (fits_ok z.sizes z.fits))

  pub lent_stood : Stood z.sizes (lent a b c d)
  lent_stood = rw lent_is (fresh_stood z.sizes (fits_ok z.sizes z.fits))

-- ---- the sizes

-- what `Layout::new` and the `ok_or` after it come to
module _ (sizes : Sizes) (stop : Stop) (made : Option Layout) (tried : Result Layout Stop) (e : option_map (λ z. z.sizes) made ≡ cond (sizes_ok sizes) (Some sizes) None) (o : tried ≡ ok_or made stop) where
  not_made : (f : Stop) → tried ≡ Err f → (sizes_ok sizes ≡ false) × (f ≡ stop)
  not_made f i = go made (sizes_ok sizes) (sym o ∙ i) e
    where
      go : (m : Option Layout) (b : Bool) → ok_or m stop ≡ Err f → option_map (λ (z : Layout). z.sizes) m ≡ cond b (Some sizes) None → (b ≡ false) × (f ≡ stop)
      go None true q h = absurd cc
      go None false q h = (refl, cc)
      go (Some z) b q h = absurd cc

  is_made : (z : Layout) → tried ≡ Ok z → (sizes_ok sizes ≡ true) × (z.sizes ≡ sizes)
  is_made z i = go made (sizes_ok sizes) (sym o ∙ i) e
    where
      go : (m : Option Layout) (b : Bool) → ok_or m stop ≡ Ok z → option_map (λ (l : Layout). l.sizes) m ≡ cond b (Some sizes) None → (b ≡ true) × (z.sizes ≡ sizes)
      go None b q h = absurd cc
      go (Some l) true q h = let w : ◌≡◌ {A = Layout} l z = cc in (refl, ap (λ (x : Layout). x.sizes) (sym w) ∙ cc)
      go (Some l) false q h = absurd cc

  module _ (s : List ℕ) (at : ℕ) (out : Out) where
    pub sizes_bad : {A : Type 0} (f : Stop) → tried ≡ Err f → stop.cause ≡ Refused BadSizes → stop.at ≡ 0 → Said {A = A} (Err f) out out (opened_print sizes s at)
    unfolding opened_print
    sizes_bad f i c p = let w = not_made f i in rw (w.0, w.1) (record { front = []; puts = puts_none out; joins = rw (c, p) })

    pub sizes_good : {A : Type 0} (z : Layout) (result : Result A Stop) (mid out' : Out) (a b c d : ℕ) → tried ≡ Ok z
        → a ≡ slot_words z.sizes → b ≡ lock_words z.sizes → c ≡ lane_words z.sizes → d ≡ path_words z.sizes → Puts out mid (sizes_line z.sizes)
        → Said result mid out' (print_from (length s) z.sizes (lent a b c d) s at) → Said result out out' (opened_print sizes s at)
    unfolding opened_print
    sizes_good z result mid out' a b c d i ea eb ec ed p said =
        let w = is_made z i in
        rw (w.0, ← w.1)
        (record {
          front = sizes_line z.sizes ++ said.front;
          puts = puts_then p said.puts;
          joins = append_assoc (sizes_line z.sizes) said.front (last_line result) ∙ ap (λ (xs : List ℕ). sizes_line z.sizes ++ xs) (subst (λ (t : Table). said.front ++ last_line result ≡ print_from (length s) z.sizes t s at) (lent_is z a b c d ea eb ec ed) said.joins);
        })

-- ---- the first record

-- where a reader stands that has found a sizes record first in the bytes s, and what is printed then
pub record First (s : Bor (List ℕ)) (z : Sizes) (r : Reader) : Type 0 where
  pub long : r.at ≡ 5
  pub inside : r.at ≤ length s.now
  pub bytes : s ≡ r.job
  pub print : job_print s.now (record_at s.now 0) ≡ opened_print z r.job.now r.at

pub first_sizes : {reader after : Reader} {s : Bor (List ℕ)} {at : ℕ} {item : Record} (z : Sizes) → (reader.job ≡ s) × (reader.at ≡ 0) → Finds reader (Some (at, item)) after → item ≡ Opens z
    → First s z after
first_sizes {reader} {after} {s} z new f i =
    let w = found_some f in
    let taken : Taken = w.taken in
    let bytes : s ≡ after.job = sym (w.job ∙ new.0) in
    let there : record_at s.now 0 ≡ Some taken = rw (← new.0, ← new.1) w.there in
    let opens : taken.item ≡ Opens z = sym w.item ∙ i in
    let l = item_long s.now 0 taken there in
    record {
      long = omega (arith, w.next, l.0, ap record_length opens);
      inside = omega (arith, w.next, l.1);
      bytes = bytes;
      print = rw (there, opens) (cc (w.next, bytes));
    }

-- ---- the whole

pub long_print : (s : List ℕ) (stop : Stop) {next at : ℕ} {was bytes out : List ℕ} → max_bytes < length s → (stop.cause ≡ Malformed) × (stop.at ≡ max_bytes) → OUT_BYTES ≤ length was → at ≡ 0 → bytes ≡ was
    → Put next at bytes out (stop_line stop) → Prints next was out (print_of s)
unfolding print_of
long_print s stop h e room i k p = printed s room (rw (lt-ltb max_bytes (length s) h) (rw (e.0, e.1, i, k) at p))

pub short_said : {A : Type 0} {d : Result A Stop} {was out : Out} (s : List ℕ) → length s ≤ max_bytes → Said d was out (job_print s (record_at s 0)) → Said d was out (print_of s)
unfolding print_of
short_said s h p = rw (le-ltb max_bytes (length s) h) p

-- one line more has room, and with the last line the print is whole
module _ {A : Type 0} {d : Result A Stop} {was mid : Out} (s : List ℕ) (p : Said d was mid (print_of s)) (start : was.at ≡ 0) (room : OUT_BYTES ≤ length was.bytes.now) where
  pub last_room_lem : mid.at + REFUSAL_BYTES ≤ length mid.bytes.now
  last_room_lem = omega (arith, amid_room (record { done = p.front; put = p.puts.put; joins = p.joins }), p.puts.long, line_fits s)

  pub whole_print : {next at : ℕ} {bytes out : List ℕ} → at ≡ mid.at → bytes ≡ mid.bytes.now → Put next at bytes out (last_line d) → Prints next was.bytes.now out (print_of s)
  whole_print {next} {at} {bytes} {out} e f q =
      let put : Put next mid.at mid.bytes.now out (last_line d) = rw (e, f) at q in
      let all : Put next was.at was.bytes.now out (print_of s) = rw p.joins at (put_then p.puts.put put) in
      printed s room (rw start at all)
