-- The loop over the records: what is put and what is still to come is the whole print.
-- Assumes nothing.
use mathlib.Core.Path.{◌≡◌, refl, sym, ◌∙◌, ap, subst}
use mathlib.Core.Bool.{true, false}
use mathlib.Core.List.{List, [], ◌++◌, append_assoc, append-nil}
use Prim.Native.Nat.{ℕ, suc, ◌+◌, ◌-◌, ◌*◌, ◌≤◌, ◌<◌}
use native.Mathlib.Omega.{arith}
use lib.ListN.{length}
use Rattle.std.specs.Prelude.{None, Some, Result, Ok, Err, ⊤, is_some}
use Rattle.std.specs.ControlFlow.{break_value}
use Rattle.std.specs.declared.ops.ControlFlow.{ControlFlow}
use Rattle.std.specs.declared.ops.ControlFlow.TheVariants.{Continue, Break}
use Rattle.places.specs.declared.Sizes.{Sizes}
use Rattle.machine.specs.Standing.{Table}
use Rattle.job_records.specs.declared.Record.{Record}
use Rattle.job_records.specs.declared.Taken.{Taken}
use Rattle.job_records.specs.Records.{record_at}
use Rattle.job_records.specs.declared.reader.Reader.{Reader}
use Rattle.job_records.specs.Finds.{Finds}
use Rattle.job_records.proofs.Found.{found_some, found_none}
use Rattle.prints.specs.declared.text.Out.{Out}
use Rattle.prints.specs.Put.{Puts}
use Rattle.prints.proofs.Puts.{puts_none, puts_then}
use Rattle.prints.specs.declared.lines.TheConstants.{SIZES_BYTES}
use Rattle.jobs.specs.declared.TheConstants.{PRINT_RATE}
use Rattle.jobs.specs.declared.stop.Cause.TheVariants.{Malformed}
use Rattle.jobs.specs.declared.stop.Stop.{Stop}
use Rattle.jobs.specs.Job.{Came, came_of, print_from}
use Rattle.jobs.specs.Obeys.{last_line, Said, goes_after, Obeys}
use Rattle.jobs.proofs.Answered.{never}
use Rattle.jobs.proofs.Room.{goes_room, print_none, print_goes, print_stops}

-- before the record at offset at: most bounds the records that are left
pub record Left (z : Sizes) (t : Table) (s : List ℕ) (at : ℕ) (was out : Out) (whole : List ℕ) : Type 0 where
  pub most : ℕ
  pub within : length s < at + most
  pub inside : at ≤ length s
  pub low : out.at ≤ SIZES_BYTES + PRINT_RATE * at
  pub front : List ℕ
  pub puts : Puts was out front
  pub joins : front ++ print_from most z t s at ≡ whole

pub left_start : (z : Sizes) (t : Table) (s : List ℕ) (at : ℕ) (out : Out) → 0 < at → at ≤ length s → out.at ≤ SIZES_BYTES + PRINT_RATE * at → Left z t s at out out (print_from (length s) z t s at)
left_start z t s at out p h l = record { most = length s; within = omega arith; inside = h; low = l; front = []; puts = puts_none out; joins = refl }

module _ {z : Sizes} {t : Table} {s : List ℕ} {at : ℕ} {was out : Out} {whole : List ℕ} (l : Left z t s at was out whole) where
  -- there is at least one turn left
  turn : (m : ℕ) × (l.most ≡ suc m)
  turn = (l.most - 1, omega (arith, l.within, l.inside))

  joined : l.front ++ print_from (suc turn.0) z t s at ≡ whole
  joined = subst (λ (m : ℕ). l.front ++ print_from m z t s at ≡ whole) turn.1 l.joins

  -- where no record stands
  pub none_said : {A : Type 0} (r : Result A Stop) (stop : Stop) → r ≡ Err stop → stop.cause ≡ Malformed → stop.at ≡ at → record_at s at ≡ None → Said r was out whole
  none_said r stop q c p e =
      record { front = l.front; puts = l.puts; joins = rw (q, c, p) (rw (print_none turn.0 z t s at e) at joined) }

  module _ (taken : Taken) (e : record_at s at ≡ Some taken) {result : Result (ControlFlow ⊤ ⊤) Stop} {out' : Out} {u : Table} (o : Obeys result out out' u (came_of z t s at taken.item)) where
    -- where the job goes on, all is said
    on_said : goes_after result ≡ true → Puts out out' (came_of z t s at taken.item).text
    on_said g = go result g o.said
      where
        go : (r : Result (ControlFlow ⊤ ⊤) Stop) → goes_after r ≡ true → Said r out out' (came_of z t s at taken.item).text → Puts out out' (came_of z t s at taken.item).text
        go (Ok (Continue v)) h d = subst (λ (xs : List ℕ). Puts out out' xs) (sym (append-nil d.front) ∙ d.joins) d.puts
        go (Ok (Break v)) h d = never (sym h)
        go (Err stop) h d = never (sym h)

    -- a record that the job goes on after
    pub left_goes : goes_after result ≡ true → Left z u s taken.next was out' whole
    left_goes g =
        let c : Came = came_of z t s at taken.item in
        let on : c.goes ≡ true = sym o.goes ∙ g in
        let w = goes_room z t s at taken e on in
        let p = on_said g in
        record {
          most = turn.0;
          within = omega (arith, w.0, turn.1, l.within);
          inside = w.1;
          low = omega (arith, w.2, p.put.offset, l.low);
          front = l.front ++ c.text;
          puts = puts_then l.puts p;
          joins =
              append_assoc l.front c.text (print_from turn.0 z u s taken.next)
              ∙ ap (λ (v : Table). l.front ++ (c.text ++ print_from turn.0 z v s taken.next)) o.table
              ∙ ap (λ (xs : List ℕ). l.front ++ xs) (sym (print_goes turn.0 z t s at taken e on))
              ∙ joined;
        }

    -- the last record
    pub last_said : {A : Type 0} (r : Result A Stop) → last_line r ≡ last_line result → goes_after result ≡ false → Said r was out' whole
    last_said r i g =
        let c : Came = came_of z t s at taken.item in
        let d = o.said in
        record {
          front = l.front ++ d.front;
          puts = puts_then l.puts d.puts;
          joins =
              append_assoc l.front d.front (last_line r)
              ∙ ap (λ (xs : List ℕ). l.front ++ (d.front ++ xs)) i
              ∙ ap (λ (xs : List ℕ). l.front ++ xs) (d.joins ∙ sym (print_stops turn.0 z t s at taken e (sym o.goes ∙ g)))
              ∙ joined;
        }

pub break_stops : (f : ControlFlow ⊤ ⊤) → true ≡ is_some (break_value f) → goes_after (Ok f) ≡ false
break_stops (Continue u) e = never e
break_stops (Break u) e = refl

pub continue_goes : (f : ControlFlow ⊤ ⊤) → false ≡ is_some (break_value f) → goes_after (Ok f) ≡ true
continue_goes (Continue u) e = refl
continue_goes (Break u) e = never (sym e)

-- a turn as the code has it: a reader that stands at the offset finds the record, or none
module _ {z : Sizes} {t : Table} {was out : Out} {whole : List ℕ} {reader after : Reader} (l : Left z t reader.job.now reader.at was out whole) where
  pub none_turn : {A : Type 0} (stop : Stop) → stop.cause ≡ Malformed → stop.at ≡ after.at → Finds reader None after → Said {A = A} (Err stop) was out whole
  none_turn stop c p f = let w = found_none f in none_said l (Err stop) stop refl c (p ∙ w.1) w.0

  module _ {at : ℕ} {item : Record} (f : Finds reader (Some (at, item)) after) {result : Result (ControlFlow ⊤ ⊤) Stop} {out' : Out} {u : Table} (o : Obeys result out out' u (came_of z t after.job.now at item)) where
    o_taken : Obeys result out out' u (came_of z t reader.job.now reader.at (found_some f).taken.item)
    o_taken = let w = found_some f in rw (w.job, w.place, w.item) at o

    pub turn_goes : goes_after result ≡ true → Left z u after.job.now after.at was out' whole
    turn_goes g = let w = found_some f in rw (w.job, w.next) (left_goes l w.taken w.there o_taken g)

    pub last_turn : {A : Type 0} (r : Result A Stop) → last_line r ≡ last_line result → goes_after result ≡ false → Said r was out' whole
    last_turn r i g = let w = found_some f in last_said l w.taken w.there o_taken r i g
