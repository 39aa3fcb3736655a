-- 01, "Job file and print": the records of a job. A job is a list of bytes.
-- Assumes nothing.
use Rattle.std.specs.Prelude.{ℕ, ◌+◌, ◌*◌, ◌-◌, List, cond, length, get_or, ltb, leb, eqb, Option, None, Some, Result, Ok, Err}
use Rattle.linear.specs.declared.Request.{Request}
use Rattle.job_records.specs.declared.Kind.{Kind}
use Rattle.job_records.specs.declared.Kind.TheVariants.{Open, Read, Delete, Insert, Step, End}
use Rattle.job_records.specs.declared.UnknownKind.{UnknownKind}
use Rattle.job_records.specs.declared.Record.{Record}
use Rattle.job_records.specs.declared.Record.TheVariants.{Opens, Starts, Steps, Ends}
use Rattle.job_records.specs.declared.Taken.{Taken}

-- the byte that stands k bytes after the byte of kind
abbrev pub byte_at : List ℕ → ℕ → ℕ → ℕ
byte_at s at k = get_or s (at + k) 0

-- "numbers are little-endian": the number of four bytes at i
unfoldable pub number : List ℕ → ℕ → ℕ
number s i = get_or s i 0 + get_or s (i + 1) 0 * 256 + get_or s (i + 2) 0 * 65536 + get_or s (i + 3) 0 * 16777216

-- the kind that a byte stands for: kinds 1 to 6
abbrev pub kind_of : ℕ → Result Kind UnknownKind
kind_of code =
    cond (eqb code 1) (Ok Open)
    (cond (eqb code 2) (Ok Read)
    (cond (eqb code 3) (Ok Delete)
    (cond (eqb code 4) (Ok Insert)
    (cond (eqb code 5) (Ok Step)
    (cond (eqb code 6) (Ok End) (Err (record {})))))))

-- "a body whose length the kind fixes"; "6 end" has none
abbrev pub body_length : Kind → ℕ
body_length Open = 4
body_length Read = 5
body_length Delete = 5
body_length Insert = 9
body_length Step = 2
body_length End = 0

-- the record of a kind whose kind byte stands at offset at
abbrev pub body_at : List ℕ → ℕ → Kind → Record
-- "1 sizes: H, W, L, N."
body_at s at Open = Opens (record { rows = byte_at s at 1; columns = byte_at s at 2; locks = byte_at s at 3; lanes = byte_at s at 4 })
-- "2 read: lane, key (4)."
body_at s at Read = Starts (byte_at s at 1) (Request.Read (number s (at + 2)))
-- "3 delete: lane, key."
body_at s at Delete = Starts (byte_at s at 1) (Request.Delete (number s (at + 2)))
-- "4 insert: lane, key, value (4)."
body_at s at Insert = Starts (byte_at s at 1) (Request.Insert (number s (at + 2)) (number s (at + 6)))
-- "5 step: lane, byte."
body_at s at Step = Steps (byte_at s at 1) (byte_at s at 2)
-- "6 end."
body_at s at End = Ends

-- what a kind, or an unknown one, comes to: "A record cut short is 11 before anything else in it"
abbrev pub record_of : List ℕ → ℕ → Result Kind UnknownKind → Option Taken
record_of s at (Ok kind) = cond (ltb (body_length kind) (length s - at)) (Some (record { item = body_at s at kind; next = at + body_length kind + 1 })) None
record_of s at (Err unknown) = None

-- the record at offset at, and the offset after it. There is none where no byte stands, at an unknown kind, and where the body is not all there
unfoldable pub record_at : List ℕ → ℕ → Option Taken
record_at s at = cond (leb (length s) at) None (record_of s at (kind_of (get_or s at 0)))
