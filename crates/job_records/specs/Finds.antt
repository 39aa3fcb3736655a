-- What a reader of a job finds, one record after the other.
-- Assumes nothing.
use Rattle.std.specs.Prelude.{ℕ, ◌≡◌, Option, None, Some}
use Rattle.job_records.specs.declared.Record.{Record}
use Rattle.job_records.specs.declared.Taken.{Taken}
use Rattle.job_records.specs.Records.{record_at}
use Rattle.job_records.specs.declared.reader.Reader.{Reader}

-- the record that stands at offset at, with that offset
abbrev pub found : ℕ → Option Taken → Option (ℕ × Record)
found at None = None
found at (Some taken) = Some (at, taken.item)

-- where a reader that stood at offset at goes on
abbrev pub place_after : ℕ → Option Taken → ℕ
place_after at None = at
place_after at (Some taken) = taken.next

-- from r a reader finds the record at its place, and holds the same bytes at the place after it; where no record stands it stays
pub record Finds (r : Reader) (result : Option (ℕ × Record)) (after : Reader) : Type 0 where
  pub gives : result ≡ found r.at (record_at r.job.now r.at)
  pub job : after.job ≡ r.job
  pub place : after.at ≡ place_after r.at (record_at r.job.now r.at)
