-- The tables that a job comes to, and the numbers with which its records can be refused.
-- Assumes nothing.
use Rattle.std.specs.Prelude.{ℕ, ◌≡◌, Bool, true, false, ◌||◌, List, [], ◌∷◌, eqb, Option, None, Some}
use Rattle.places.specs.declared.Sizes.{Sizes}
use Rattle.places.specs.Table.{sizes_ok}
use Rattle.machine.specs.Standing.{Table}
use Rattle.machine.specs.Desk.{start_of, step_of, number_of}
use Rattle.job_records.specs.declared.Record.{Record}
use Rattle.job_records.specs.declared.Record.TheVariants.{Opens, Starts, Steps, Ends}
use Rattle.job_records.specs.declared.Taken.{Taken}
use Rattle.job_records.specs.Records.{record_at}
use Rattle.jobs.specs.Job.{malformed, job_table, came_of}

-- after its records up to offset at, the job s of sizes z has the table t
pub data Comes (z : Sizes) (s : List ℕ) : ℕ → Table → Type 0 where
  by_sizes : (next : ℕ) → record_at s 0 ≡ Some (record { item = Opens z; next = next }) → sizes_ok z ≡ true → Comes z s next (job_table z)
  by_record : (at : ℕ) (t : Table) (taken : Taken) → Comes z s at t → record_at s at ≡ Some taken → (came_of z t s at taken.item).goes ≡ true
      → Comes z s taken.next (came_of z t s at taken.item).table

-- the number with which a record is refused as it stands, 0 where it is not
abbrev pub item_number : Sizes → Table → Record → ℕ
item_number z t (Opens y) = malformed
item_number z t (Starts j r) = number_of (start_of z t j r).answer
item_number z t (Steps j byte) = number_of (step_of z t j byte).answer
item_number z t Ends = 0

-- the same of what stands at an offset
abbrev pub record_number : Sizes → Table → Option Taken → ℕ
record_number z t None = malformed
record_number z t (Some taken) = item_number z t taken.item

-- 0, or one of the refusals that a record after the first can meet
abbrev pub record_numbers : List ℕ
record_numbers = 0 ∷ 6 ∷ 7 ∷ 8 ∷ 10 ∷ 11 ∷ []

-- n stands in the list
abbrev pub is_one_of : ℕ → List ℕ → Bool
is_one_of n [] = false
is_one_of n (m ∷ ms) = eqb n m || is_one_of n ms
