-- 01, "Numbers the desk answers with": opening, start and step, their refusals and their order.
-- Assumes nothing.
use Rattle.std.specs.Prelude.{ℕ, ◌*◌, [], ◌∷◌, Bool, cond, not, eqb, ltb, length, ⊤, Result, Ok, Err, ◌≡◌, Option, Some, None}
use Rattle.lists.specs.Below.{all_of}
use Rattle.linear.specs.declared.Request.{Request}
use Rattle.linear.specs.declared.End.{End}
use Rattle.linear.specs.declared.End.TheVariants.{ReadNone, ReadValue, Deleted, InsertYes, InsertSearched, InsertWalked}
use Rattle.places.specs.declared.Sizes.{Sizes}
use Rattle.places.specs.Table.{sizes_ok, max_key}
use Rattle.slots.specs.declared.Fault.TheVariants.{Misshapen, Astray, Twice}
use Rattle.slots.specs.Sound.{opening_fault}
use Rattle.slots.specs.Slot.{slot_words}
use Rattle.locks.specs.declared.Mode.TheVariants.{Reading, Writing}
use Rattle.locks.specs.Locks.{lock_words}
use Rattle.locks.specs.Taking.{grab_of}
use Rattle.paths.specs.Path.{emptied, path_words}
use Rattle.machine.specs.declared.Op.TheVariants.{Read, Delete, Insert}
use Rattle.machine.specs.declared.Side.TheVariants.{First}
use Rattle.machine.specs.declared.Stage.TheVariants.{TakeMain, Take}
use Rattle.machine.specs.declared.Task.{Task}
use Rattle.machine.specs.Lane.{lane_words, with_lane, with_task}
use Rattle.machine.specs.Back.{lane_at}
use Rattle.machine.specs.Stages.{is_idle}
use Rattle.machine.specs.Steps.{Memory, LaneStep, step_lane}
use Rattle.machine.specs.declared.Refusal.{Refusal}
use Rattle.machine.specs.declared.Refusal.TheVariants.{BadSizes, BadLengths, Unsound, NoLane, Busy, Idle, NotStanding, BadKey}
use Rattle.machine.specs.Standing.{Table, standing}

-- "a lent length isn't exactly what the sizes need"
unfoldable pub lengths_ok : Sizes → Table → Bool
lengths_ok z t =
    all_of
    (eqb (length t.slots) (slot_words z)
    ∷ eqb (length t.locks) (lock_words z)
    ∷ eqb (length t.lanes) (lane_words z)
    ∷ eqb (length t.path) (path_words z)
    ∷ [])

-- ---- what a call comes to

-- what a call answers, and the table that it leaves
pub record Called (R : Type 0) : Type 0 where
  pub answer : R
  pub table : Table

abbrev pub called : {R : Type 0} → R → Table → Called R
called r t = record { answer = r; table = t }

-- "A refusal changes no lent number."
abbrev pub refused : {A : Type 0} → Refusal → Table → Called (Result A Refusal)
refused r t = called (Err r) t

-- "Order: 1, 2": a call goes on with rest where the sizes and the lengths are as they must be
abbrev pub if_sized : {A : Type 0} → Sizes → Table → Called (Result A Refusal) → Called (Result A Refusal)
if_sized z t rest = cond (not (sizes_ok z)) (refused BadSizes t) (cond (not (lengths_ok z t)) (refused BadLengths t) rest)

-- "1, 2, 9": and where the table stands
abbrev pub if_standing : {A : Type 0} → Sizes → Table → Called (Result A Refusal) → Called (Result A Refusal)
if_standing z t rest = if_sized z t (cond (not (standing z t)) (refused NotStanding t) rest)

-- ---- opening

-- "An accepted opening clears locks, lanes and path and leaves the slots alone."
unfoldable pub opened : Table → Table
opened t = record { slots = t.slots; locks = emptied t.locks; lanes = emptied t.lanes; path = emptied t.path }

-- "Order: 1, 2; then at opening the lowest slot index that breaks a rule, and there 3, 4, 5"
unfoldable pub open_of : Sizes → Table → Called (Result ⊤ Refusal)
open_of z t = if_sized z t (elim (opening_fault z t.slots) [ Ok u ↦ called (Ok tt) (opened t) | Err fault ↦ refused (Unsound fault) t ])

-- ---- start

-- the key that is asked about
abbrev pub key_of : Request → ℕ
key_of (Request.Read key) = key
key_of (Request.Delete key) = key
key_of (Request.Insert key value) = key

-- the task of a lane that has just started: "A start costs no step."
abbrev pub begun : Sizes → Request → Task
begun z (Request.Read key) = record { op = Read; key = key; value = 0; stage = Take First (grab_of z Reading) }
begun z (Request.Delete key) = record { op = Delete; key = key; value = 0; stage = Take First (grab_of z Writing) }
begun z (Request.Insert key value) = record { op = Insert; key = key; value = value; stage = TakeMain (grab_of z Writing) }

-- the start itself: the lane's record, and nothing else
unfoldable pub started : Sizes → Table → ℕ → Request → Table
started z t j r = record { slots = t.slots; locks = t.locks; lanes = with_task t.lanes j (begun z r); path = t.path }

-- "6, 7, 10": a start where the table stands
unfoldable pub start_lane : Sizes → Table → ℕ → Request → Called (Result ⊤ Refusal)
start_lane z t j r =
    cond (not (ltb j z.lanes)) (refused NoLane t)
    (cond (not (is_idle (lane_at t.lanes j))) (refused Busy t)
    (cond (ltb max_key (key_of r)) (refused BadKey t) (called (Ok tt) (started z t j r))))

-- "For start: 1, 2, 9, 6, 7, 10."
unfoldable pub start_of : Sizes → Table → ℕ → Request → Called (Result ⊤ Refusal)
start_of z t j r = if_standing z t (start_lane z t j r)

-- ---- step

-- a table's numbers without its lanes
abbrev pub memory_of : Table → Memory
memory_of t = record { slots = t.slots; locks = t.locks; path = t.path }

-- the table once lane j has taken a step, and its answer
abbrev pub turn_of : Table → ℕ → LaneStep → Called (Result (Option End) Refusal)
turn_of t j s = called (Ok s.answer) (record { slots = s.memory.slots; locks = s.memory.locks; lanes = with_lane t.lanes j s.lane; path = s.memory.path })

-- "A step is one of the items below": one step of lane j, whatever the checks say
unfoldable pub turned : Sizes → Table → ℕ → ℕ → Called (Result (Option End) Refusal)
turned z t j byte = turn_of t j (step_lane z (memory_of t) (lane_at t.lanes j) byte)

-- "For step: 1, 2, 9, 6, 8."
unfoldable pub step_of : Sizes → Table → ℕ → ℕ → Called (Result (Option End) Refusal)
step_of z t j byte =
    if_standing z t (cond (not (ltb j z.lanes)) (refused NoLane t) (cond (is_idle (lane_at t.lanes j)) (refused Idle t) (turned z t j byte)))

-- ---- 01's numbers

-- the number of a refusal
abbrev pub refusal_number : Refusal → ℕ
refusal_number BadSizes = 1
refusal_number BadLengths = 2
refusal_number (Unsound (Misshapen i)) = 3
refusal_number (Unsound (Astray i)) = 4
refusal_number (Unsound (Twice i)) = 5
refusal_number NoLane = 6
refusal_number Busy = 7
refusal_number Idle = 8
refusal_number NotStanding = 9
refusal_number BadKey = 10

-- the slot index that goes with 3, 4 and 5
abbrev pub refusal_index : Refusal → ℕ
refusal_index (Unsound (Misshapen i)) = i
refusal_index (Unsound (Astray i)) = i
refusal_index (Unsound (Twice i)) = i
refusal_index r = 0

-- the number of a call: "0 accepted"
abbrev pub number_of : {A : Type 0} → Result A Refusal → ℕ
number_of (Ok a) = 0
number_of (Err r) = refusal_number r

-- its slot index
abbrev pub index_of : {A : Type 0} → Result A Refusal → ℕ
index_of (Ok a) = 0
index_of (Err r) = refusal_index r

-- an accepted call
abbrev pub Accepts : {A : Type 0} → Called (Result A Refusal) → Type 0
Accepts c = number_of c.answer ≡ 0

-- how an operation ended, and a read's value
pub record EndNumbers : Type 0 where
  pub end : ℕ
  pub value : ℕ

-- "the lane goes on, or its end with the result": 0 goes on, 1 read none, 2 read, 3 delete, 4 insert yes, 5 searched, 6 walked
abbrev pub answer_end : Option End → EndNumbers
answer_end None = record { end = 0; value = 0 }
answer_end (Some ReadNone) = record { end = 1; value = 0 }
answer_end (Some (ReadValue value)) = record { end = 2; value = value }
answer_end (Some Deleted) = record { end = 3; value = 0 }
answer_end (Some InsertYes) = record { end = 4; value = 0 }
answer_end (Some InsertSearched) = record { end = 5; value = 0 }
answer_end (Some InsertWalked) = record { end = 6; value = 0 }

-- of a step; a refused one ends nothing
abbrev pub end_of : Result (Option End) Refusal → EndNumbers
end_of (Ok a) = answer_end a
end_of (Err r) = answer_end None
