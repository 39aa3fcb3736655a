-- 01, "Job file and print": what a job prints.
-- Assumes nothing.
use Rattle.std.specs.Prelude.{ℕ, zero, suc, ◌+◌, ◌*◌, List, [], ◌++◌, Bool, true, false, cond, ltb, length, replicate, Option, None, Some, Result, Ok, Err}
use Rattle.linear.specs.declared.Request.{Request}
use Rattle.places.specs.declared.Sizes.{Sizes}
use Rattle.places.specs.Table.{sizes_ok}
use Rattle.slots.specs.Slot.{slot_words}
use Rattle.paths.specs.Path.{path_words}
use Rattle.locks.specs.Locks.{lock_words}
use Rattle.machine.specs.declared.Refusal.{Refusal}
use Rattle.machine.specs.Standing.{Table}
use Rattle.machine.specs.Desk.{Called, open_of, start_of, step_of, refusal_number}
use Rattle.machine.specs.Lane.{lane_words}
use Rattle.job_records.specs.declared.Record.{Record}
use Rattle.job_records.specs.declared.Record.TheVariants.{Opens, Starts, Steps, Ends}
use Rattle.job_records.specs.declared.Taken.{Taken}
use Rattle.job_records.specs.Records.{record_at}
use Rattle.prints.specs.Lines.{sizes_line, answer_line, refused_line, end_lines}

-- "At most 60,000 bytes"
abbrev pub max_bytes : ℕ
max_bytes = 60000

-- "11: job file malformed"
abbrev pub malformed : ℕ
malformed = 11

-- the table of a job: its memory is zeros, and is opened
unfoldable pub zeros : Sizes → Table
zeros z =
    record {
      slots = replicate (slot_words z) 0;
      locks = replicate (lock_words z) 0;
      lanes = replicate (lane_words z) 0;
      path = replicate (path_words z) 0;
    }

-- "An accepted opening clears locks, lanes and path and leaves the slots alone"
abbrev pub job_table : Sizes → Table
job_table z = (open_of z (zeros z)).table

-- what a record comes to: whether the job goes on, what is printed, and the table after it
pub record Came : Type 0 where
  pub goes : Bool
  pub text : List ℕ
  pub table : Table

-- the job goes on after this text
abbrev pub goes_on : List ℕ → Table → Came
goes_on text t = record { goes = true; text = text; table = t }

-- the job ends with this text
abbrev pub stopped : List ℕ → Table → Came
stopped text t = record { goes = false; text = text; table = t }

-- "prints `refused N at B`, B the offset of the record's kind byte, and stops"
abbrev pub refused : ℕ → ℕ → Table → Came
refused number at t = stopped (refused_line number at) t

-- what an answer of the desk comes to: its text where the call is accepted, else its refusal
abbrev pub answered : {A : Type 0} → (A → List ℕ) → ℕ → Result A Refusal → Table → Came
answered text at (Ok a) t = goes_on (text a) t
answered text at (Err r) t = refused (refusal_number r) at t

-- and what a call of the desk comes to
abbrev pub came_by : {A : Type 0} → (A → List ℕ) → ℕ → Called (Result A Refusal) → Came
came_by text at c = answered text at c.answer c.table

-- "6 last; a byte after it is a fault at that byte's offset, found before kind 6 prints"
unfoldable pub end_text : Sizes → List ℕ → List ℕ → ℕ → List ℕ
end_text z xs s at = cond (ltb (at + 1) (length s)) (refused_line malformed (at + 1)) (end_lines z xs)

-- the record whose kind byte stands at offset at; "Kind 1 stands first and once". A start prints nothing. "A step answers that the lane goes on, or
-- its end with the result": it prints how the lane's operation ended, if it did
abbrev pub came_of : Sizes → Table → List ℕ → ℕ → Record → Came
came_of z t s at (Opens y) = refused malformed at t
came_of z t s at (Starts j r) = came_by (λ u. []) at (start_of z t j r)
came_of z t s at (Steps j byte) = came_by (answer_line j) at (step_of z t j byte)
came_of z t s at Ends = stopped (end_text z t.slots s at) t

-- what is printed from offset at on, of at most k records: "earlier lines stay". Where no record stands the job is malformed
unfoldable pub print_from : ℕ → Sizes → Table → List ℕ → ℕ → List ℕ
print_from zero z t s at = []
print_from (suc k) z t s at =
    elim (record_at s at) [
      | None ↦ refused_line malformed at
      | Some taken ↦
          let c : Came = came_of z t s at taken.item in
          elim c.goes [ true ↦ c.text ++ print_from k z c.table s taken.next | false ↦ c.text ]
    ]

-- what the sizes record comes to; "1: a size is out of limits". A job has at most as many records as bytes
unfoldable pub opened_print : Sizes → List ℕ → ℕ → List ℕ
opened_print z s at = cond (sizes_ok z) (sizes_line z ++ print_from (length s) z (job_table z) s at) (refused_line 1 0)

-- "Kind 1 stands first"
abbrev pub first_print : List ℕ → ℕ → Record → List ℕ
first_print s next (Opens z) = opened_print z s next
first_print s next (Starts j r) = refused_line malformed 0
first_print s next (Steps j byte) = refused_line malformed 0
first_print s next Ends = refused_line malformed 0

-- what is printed where this is the first record, or none
abbrev pub job_print : List ℕ → Option Taken → List ℕ
job_print s None = refused_line malformed 0
job_print s (Some taken) = first_print s taken.next taken.item

-- "a longer job prints only `refused 11 at 60000`"
unfoldable pub print_of : List ℕ → List ℕ
print_of s = cond (ltb max_bytes (length s)) (refused_line malformed max_bytes) (job_print s (record_at s 0))
