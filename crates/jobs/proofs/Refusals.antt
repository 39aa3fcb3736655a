-- THEOREM: every table that a job comes to stands, so a record of a job is refused with 6, 7, 8, 10 or 11 and no other number: 2, 3, 4, 5 and 9
-- can't arise. (1 is the sizes record's, and `zeros_open` says that the opening is accepted.)
-- Assumes nothing.
use mathlib.Core.Path.{◌≡◌, refl, sym, ap}
use mathlib.Core.Bool.{true}
use mathlib.Core.List.{List, []}
use Prim.Native.Nat.{ℕ}
use native.Mathlib.Omega.{arith}
use Rattle.std.specs.Prelude.{Option, None, Some, ⊤}
use Rattle.linear.specs.declared.Request.{Request}
use Rattle.linear.specs.declared.End.{End}
use Rattle.places.specs.declared.Sizes.{Sizes}
use Rattle.machine.specs.Back.{lane_at}
use Rattle.machine.specs.Stages.{is_idle}
use Rattle.machine.specs.Standing.{Table}
use Rattle.machine.specs.Desk.{start_lane, start_of, turned, step_of, number_of}
use Rattle.kept.specs.Runs.{Stood}
use Rattle.kept.proofs.Kept.{kept_start, kept_step}
use Rattle.job_records.specs.declared.Record.{Record}
use Rattle.job_records.specs.declared.Record.TheVariants.{Opens, Starts, Steps, Ends}
use Rattle.job_records.specs.declared.Taken.{Taken}
use Rattle.job_records.specs.Records.{record_at}
use Rattle.jobs.specs.Job.{came_of}
use Rattle.prints.specs.Lines.{answer_line}
use Rattle.jobs.specs.Course.{Comes, by_sizes, by_record, item_number, record_number, record_numbers, is_one_of}
use Rattle.jobs.proofs.Answered.{never, goes_accepted}
use Rattle.jobs.proofs.Fresh.{fresh_stood}

-- a record that goes on leaves a table that stands
goes_stood : (z : Sizes) (t : Table) (s : List ℕ) (at : ℕ) (item : Record) → (came_of z t s at item).goes ≡ true → Stood z (came_of z t s at item).table
goes_stood z t s at (Opens y) g = never (sym g)
goes_stood z t s at (Starts j r) g =
    let w = goes_accepted (λ (u : ⊤). []) at (start_of z t j r).table (start_of z t j r).answer g in
    rw w.1 (kept_start z t j r (ap number_of w.1))
goes_stood z t s at (Steps j byte) g =
    let w = goes_accepted (answer_line j) at (step_of z t j byte).table (step_of z t j byte).answer g in
    rw w.1 (kept_step z t j byte (ap number_of w.1))
goes_stood z t s at Ends g = never (sym g)

pub comes_stood : {z : Sizes} {s : List ℕ} {at : ℕ} {t : Table} → Comes z s at t → Stood z t
comes_stood {z} (by_sizes next e ok) = fresh_stood z ok
comes_stood {z} {s} (by_record at t taken h e g) = goes_stood z t s at taken.item g

-- ---- which numbers

module _ (z : Sizes) (t : Table) (w : Stood z t) where
  start_number : (j : ℕ) (r : Request) → is_one_of (number_of (start_of z t j r).answer) record_numbers ≡ true
  unfolding start_of start_lane
  start_number j r = grind (arith, w)

  step_number : (j byte : ℕ) → is_one_of (number_of (step_of z t j byte).answer) record_numbers ≡ true
  unfolding step_of turned
  step_number j byte = grind (arith, w)

  item_number_lem : (item : Record) → is_one_of (item_number z t item) record_numbers ≡ true
  item_number_lem (Opens y) = refl
  item_number_lem (Starts j r) = start_number j r
  item_number_lem (Steps j byte) = step_number j byte
  item_number_lem Ends = refl

  record_number_lem : (taken : Option Taken) → is_one_of (record_number z t taken) record_numbers ≡ true
  record_number_lem None = refl
  record_number_lem (Some taken) = item_number_lem taken.item

pub job_numbers : {z : Sizes} {s : List ℕ} {at : ℕ} {t : Table} → Comes z s at t → is_one_of (record_number z t (record_at s at)) record_numbers ≡ true
job_numbers {z} {s} {at} {t} h = record_number_lem z t (comes_stood h) (record_at s at)
