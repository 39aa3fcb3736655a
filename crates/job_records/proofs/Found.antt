-- What a reader finds is the record at its place.
-- Assumes nothing.
use mathlib.Core.Path.{◌≡◌, refl, ap}
use Prim.Native.Nat.{ℕ}
use Rattle.std.specs.Prelude.{Option, None, Some}
use Rattle.job_records.specs.declared.Record.{Record}
use Rattle.job_records.specs.declared.Taken.{Taken}
use Rattle.job_records.specs.Records.{record_at}
use Rattle.job_records.specs.declared.reader.Reader.{Reader}
use Rattle.job_records.specs.Finds.{found, place_after, Finds}

-- the record that a reader has found, and where it stands after it
pub record Found (r : Reader) (at : ℕ) (it : Record) (after : Reader) : Type 0 where
  pub taken : Taken
  pub there : record_at r.job.now r.at ≡ Some taken
  pub place : at ≡ r.at
  pub item : it ≡ taken.item
  pub job : after.job ≡ r.job
  pub next : after.at ≡ taken.next

module _ {r after : Reader} where
  pub found_some : {at : ℕ} {item : Record} → Finds r (Some (at, item)) after → Found r at item after
  found_some {at} {item} f = go (record_at r.job.now r.at) refl f.gives f.place
    where
      go : (t : Option Taken) → record_at r.job.now r.at ≡ t → Some (at, item) ≡ found r.at t → after.at ≡ place_after r.at t → Found r at item after
      go None e i n = absurd cc
      go (Some taken) e i n =
          let both : ◌≡◌ {A = ℕ × Record} (at, item) (r.at, taken.item) = cc in
          record { taken = taken; there = e; place = ap (λ (x : ℕ × Record). x.0) both; item = ap (λ (x : ℕ × Record). x.1) both; job = f.job; next = n }

  pub found_none : Finds r None after → (record_at r.job.now r.at ≡ None) × (after.at ≡ r.at)
  found_none f = go (record_at r.job.now r.at) refl f.gives f.place
    where
      go : (t : Option Taken) → record_at r.job.now r.at ≡ t → None ≡ found r.at t → after.at ≡ place_after r.at t → (record_at r.job.now r.at ≡ None) × (after.at ≡ r.at)
      go None e i n = (e, n)
      go (Some taken) e i n = absurd cc
