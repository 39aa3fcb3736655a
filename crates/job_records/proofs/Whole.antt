-- A record that is found is whole: the offset after it lies further on, as far as the record is long, and within the job.
-- Assumes nothing.
use mathlib.Core.Path.{◌≡◌, refl, ap}
use mathlib.Core.List.{List}
use mathlib.Core.Bool.{Bool, true, false, cond}
use Prim.Native.Nat.{ℕ, ◌+◌, ◌-◌, ◌≤◌, ◌<◌}
use native.Mathlib.Omega.{arith}
use lib.ListN.{length, get_or}
use lib.Dec.{leb, ltb}
use borrow.Author.Tests.{ltb-true}
use Rattle.std.specs.Prelude.{None, Some, Result, Ok, Err}
use Rattle.linear.specs.declared.Request.{Request}
use Rattle.job_records.specs.declared.Kind.{Kind}
use Rattle.job_records.specs.declared.Kind.TheVariants.{Open, Read, Delete, Insert, Step, End}
use Rattle.job_records.specs.declared.UnknownKind.{UnknownKind}
use Rattle.job_records.specs.declared.Record.{Record}
use Rattle.job_records.specs.declared.Record.TheVariants.{Opens, Starts, Steps, Ends}
use Rattle.job_records.specs.declared.Taken.{Taken}
use Rattle.job_records.specs.Records.{kind_of, body_length, body_at, record_of, record_at}

-- how long each record is
abbrev pub record_length : Record → ℕ
record_length (Opens z) = 5
record_length (Starts j (Request.Read key)) = 6
record_length (Starts j (Request.Delete key)) = 6
record_length (Starts j (Request.Insert key value)) = 10
record_length (Steps j byte) = 3
record_length Ends = 1

body_long : (s : List ℕ) (at : ℕ) (kind : Kind) → record_length (body_at s at kind) ≡ body_length kind + 1
body_long s at Open = refl
body_long s at Read = refl
body_long s at Delete = refl
body_long s at Insert = refl
body_long s at Step = refl
body_long s at End = refl

-- the offset after a record that is found is as far on as the record is long, and within the job
pub item_long : (s : List ℕ) (at : ℕ) (taken : Taken) → record_at s at ≡ Some taken → (taken.next ≡ at + record_length taken.item) × (taken.next ≤ length s)
unfolding record_at
item_long s at taken = by_byte (leb (length s) at) refl
  where
    by_length : (kind : Kind) → leb (length s) at ≡ false → (b : Bool) → ltb (body_length kind) (length s - at) ≡ b
        → cond b (Some (record { item = body_at s at kind; next = at + body_length kind + 1 })) None ≡ Some taken → (taken.next ≡ at + record_length taken.item) × (taken.next ≤ length s)
    by_length kind h true l e =
        let t : ◌≡◌ {A = Taken} (record { item = body_at s at kind; next = at + body_length kind + 1 }) taken = cc in
        let n : at + body_length kind + 1 ≡ taken.next = ap (λ (x : Taken). x.next) t in
        let i : record_length (body_at s at kind) ≡ record_length taken.item = ap (λ (x : Taken). record_length x.item) t in
        (omega (arith, body_long s at kind), omega (arith, ltb-true (body_length kind) (length s - at) l))
    by_length kind h false l e = absurd cc

    by_kind : (k : Result Kind UnknownKind) → leb (length s) at ≡ false → record_of s at k ≡ Some taken → (taken.next ≡ at + record_length taken.item) × (taken.next ≤ length s)
    by_kind (Ok kind) h e = by_length kind h (ltb (body_length kind) (length s - at)) refl e
    by_kind (Err u) h e = absurd cc

    by_byte : (b : Bool) → leb (length s) at ≡ b → cond b None (record_of s at (kind_of (get_or s at 0))) ≡ Some taken → (taken.next ≡ at + record_length taken.item) × (taken.next ≤ length s)
    by_byte true h e = absurd cc
    by_byte false h e = by_kind (kind_of (get_or s at 0)) h e

a_byte_long : (item : Record) → 0 < record_length item
a_byte_long (Opens z) = omega arith
a_byte_long (Starts j (Request.Read key)) = omega arith
a_byte_long (Starts j (Request.Delete key)) = omega arith
a_byte_long (Starts j (Request.Insert key value)) = omega arith
a_byte_long (Steps j byte) = omega arith
a_byte_long Ends = omega arith

-- that offset lies further on
pub goes_on_lem : (s : List ℕ) (at : ℕ) (taken : Taken) → record_at s at ≡ Some taken → (at < taken.next) × (taken.next ≤ length s)
goes_on_lem s at taken e = let long = item_long s at taken e in (omega (arith, long.0, a_byte_long taken.item), long.1)
