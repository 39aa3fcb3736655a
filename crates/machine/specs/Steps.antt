-- 01, "Steps": what the next step of a lane does to the lent memory, and where the lane goes.
-- Assumes nothing.
use Rattle.std.specs.Prelude.{ℕ, ◌+◌, ◌-◌, ◌/◌, ◌%◌, List, cond, ◌&&◌, eqb, ltb, Option, Some, None}
use Rattle.linear.specs.declared.End.{End}
use Rattle.linear.specs.declared.End.TheVariants.{ReadNone, ReadValue, Deleted, InsertYes, InsertSearched, InsertWalked}
use Rattle.places.specs.declared.Sizes.{Sizes}
use Rattle.places.specs.Table.{slot_index}
use Rattle.slots.specs.declared.Slot.{Slot}
use Rattle.slots.specs.Slot.{slot_at, with_slot, is_empty, empty_slot, has_key}
use Rattle.locks.specs.declared.Mode.TheVariants.{Reading, Writing}
use Rattle.locks.specs.declared.Grab.{Grab}
use Rattle.locks.specs.Locks.{lock_at, with_lock}
use Rattle.locks.specs.Taking.{grab_of, try_lock, released}
use Rattle.paths.specs.declared.Place.{Place}
use Rattle.paths.specs.Path.{with_place, no_place, emptied, last_of, other_row}
use Rattle.machine.specs.declared.Op.{Op}
use Rattle.machine.specs.declared.Op.TheVariants.{Again}
use Rattle.machine.specs.declared.Side.{Side}
use Rattle.machine.specs.declared.Side.TheVariants.{First, Second}
use Rattle.machine.specs.declared.Trail.{Trail}
use Rattle.machine.specs.declared.Outcome.{Outcome}
use Rattle.machine.specs.declared.Outcome.TheVariants.{Hit, Wrote, Filled, Miss, Picked, Stuck}
use Rattle.machine.specs.declared.Ending.{Ending}
use Rattle.machine.specs.declared.Ending.TheVariants.{Yes, Searched, Walked}
use Rattle.machine.specs.declared.Stage.{Stage}
use Rattle.machine.specs.declared.Stage.TheVariants.{TakeMain, Take, Seek, SeekRoom, WriteHit, WriteRoom, Pick, Drop, DropMain, TakeNext, LookNext, PickNext, DropNext, TakeSwing, Swing, DropSwing}
use Rattle.machine.specs.declared.Task.{Task}
use Rattle.machine.specs.declared.Lane.{Lane}
use Rattle.machine.specs.declared.Lane.TheVariants.{Idle, Busy}
use Rattle.machine.specs.declared.Tail.{Tail}
use Rattle.machine.specs.declared.Tail.TheVariants.{Keep, TakeOff, Clear}
use Rattle.machine.specs.declared.Act.{Act}
use Rattle.machine.specs.declared.Act.TheVariants.{Try, Release, Look, Store, PickOne, PickFrom, Move}
use Rattle.machine.specs.declared.Seen.{Seen}
use Rattle.machine.specs.declared.Moved.{Moved}
use Rattle.machine.specs.Sides.{is_last}
use Rattle.machine.specs.Rules.{is_read, is_insert, is_first_pass, mode_of, shared_rows, swing_rows, drops_two}
use Rattle.machine.specs.Stages.{path_length, act_of}

-- ---- what a step does

-- the lent memory that a step may touch beside its lane's record
pub record Memory : Type 0 where
  pub slots : List ℕ
  pub locks : List ℕ
  pub path : List ℕ

-- the memory after an act, and what the act saw
pub record Performed : Type 0 where
  pub memory : Memory
  pub seen : Seen

-- an act that takes no lock and looks at no slot
abbrev pub saw_nothing : Seen
saw_nothing = record { tried = None; slot = empty_slot }

-- a memory with other slots, with other locks, with another path
abbrev pub with_slots : Memory → List ℕ → Memory
with_slots m xs = record { slots = xs; locks = m.locks; path = m.path }

abbrev pub with_locks : Memory → List ℕ → Memory
with_locks m ls = record { slots = m.slots; locks = ls; path = m.path }

abbrev pub with_path : Memory → List ℕ → Memory
with_path m ps = record { slots = m.slots; locks = m.locks; path = ps }

-- "slot index = row x W + column"
abbrev pub slot_in : Sizes → Memory → ℕ → ℕ → Slot
slot_in z m row column = slot_at m.slots (slot_index z row column)

-- "A place that leaves the path becomes zeros in that same step, and the step that releases main empties the path"
abbrev pub tailed : Tail → List ℕ → List ℕ
tailed Keep ps = ps
tailed (TakeOff i) ps = with_place ps i no_place
tailed Clear ps = emptied ps

-- "that place and its key begin the path", "appends place and key"
abbrev pub place_of : Sizes → Memory → ℕ → ℕ → Place
place_of z m row column = record { row = row; column = column; key = (slot_in z m row column).key }

-- "One step moves the pair if the source still holds that key and the target is empty, else skips"
abbrev pub swung : Sizes → List ℕ → Place → ℕ → ℕ → List ℕ
swung z xs from row column =
    cond (has_key (slot_at xs (slot_index z from.row from.column)) from.key && is_empty (slot_at xs (slot_index z row column)))
    (with_slot (with_slot xs (slot_index z from.row from.column) empty_slot) (slot_index z row column) (slot_at xs (slot_index z from.row from.column)))
    xs

-- what an act does to the memory, and what it sees; byte is the scheduler's, "used by pick steps only"
unfoldable pub perform : Sizes → Act → ℕ → Memory → Performed
perform z (Try k g) byte m =
    record {
      memory = with_locks m (with_lock z m.locks k (try_lock z g (lock_at z m.locks k)).lock);
      seen = record { tried = (try_lock z g (lock_at z m.locks k)).tried; slot = empty_slot };
    }
perform z (Release k mode tail) byte m =
    record {
      memory = record { slots = m.slots; locks = with_lock z m.locks k (released z mode (lock_at z m.locks k)); path = tailed tail m.path };
      seen = saw_nothing;
    }
perform z (Look row column) byte m = record { memory = m; seen = record { tried = None; slot = slot_in z m row column } }
perform z (Store row column s) byte m = record { memory = with_slots m (with_slot m.slots (slot_index z row column) s); seen = saw_nothing }
perform z (PickOne one two) byte m =
    -- "byte r even takes h1, odd h2; column (r >> 1) mod W"
    record { memory = with_path m (with_place m.path 0 (place_of z m (cond (eqb (byte % 2) 0) one two) (byte / 2 % z.columns))); seen = saw_nothing }
perform z (PickFrom row i) byte m =
    -- "column r mod W"
    record { memory = with_path m (with_place m.path i (place_of z m row (byte % z.columns))); seen = saw_nothing }
perform z (Move from row column) byte m = record { memory = with_slots m (swung z m.slots from row column); seen = saw_nothing }

-- ---- where the lane goes

-- "the lane goes on"
abbrev pub at_stage : Task → Stage → Task
at_stage l stage = record { op = l.op; key = l.key; value = l.value; stage = stage }

abbrev pub goes_to : Task → Stage → Moved
goes_to l stage = record { lane = Busy (at_stage l stage); answer = None }

-- "an ended lane is idle"
abbrev pub ends : End → Moved
ends e = record { lane = Idle; answer = Some e }

-- "the lock is held, else": on to the next stage once it is held, else the grab goes on
abbrev pub on_try : Option Grab → (Grab → Stage) → Stage → Stage
on_try None stay next = next
on_try (Some g) stay next = stay g

-- "look at one slot a step": the next column, or, past the last, the next stage
abbrev pub next_column : Sizes → ℕ → (ℕ → Stage) → Stage → Stage
next_column z column at next = cond (ltb (column + 1) z.columns) (at (column + 1)) next

-- "Hit: release, end with the value"; for a delete or an insert a hit is written first
abbrev pub on_hit : Task → Op → Side → ℕ → Slot → Moved
on_hit l op side column s = cond (is_read op) (goes_to l (Drop First (Hit side column s.value))) (goes_to l (WriteHit side column))

-- a row without the key: "lock and look through the second"; after that a read or delete releases, an insert looks "for an empty
-- slot in the first row, then the second"
abbrev pub after_second : Op → Stage
after_second op = cond (is_insert op) (SeekRoom First 0) (Drop First Miss)

abbrev pub after_seek : Sizes → Task → Side → Stage
after_seek z l First = cond (shared_rows z l.key) (Seek Second 0) (Take Second (grab_of z (mode_of l.op)))
after_seek z l Second = after_second l.op

-- "If none is empty, a pick step"; in the second pass "release all, end no (walked)"
abbrev pub after_both : Op → Stage
after_both op = cond (is_first_pass op) Pick (Drop First Stuck)

abbrev pub after_room : Op → Side → Stage
after_room op First = SeekRoom Second 0
after_room op Second = after_both op

-- "It has no result beyond its end", "end yes": after the write of a hit
abbrev pub after_write : Task → Op → Moved
after_write l op = cond (is_insert op) (goes_to l (DropMain Yes)) (ends Deleted)

-- "Miss: .. Release first, then second; end."
abbrev pub after_miss : Op → End
after_miss op = cond (is_read op) ReadNone Deleted

-- once a pass has released its rows: the read's or delete's end, main's release, or the search
abbrev pub leave : Sizes → Task → Outcome → Moved
leave z l (Hit side column value) = ends (ReadValue value)
leave z l (Wrote side) = after_write l l.op
leave z l Filled = goes_to l (DropMain Yes)
leave z l Miss = ends (after_miss l.op)
leave z l Picked = goes_to l (TakeNext (grab_of z Reading) (record { picks = 0; places = 1 }))
leave z l Stuck = goes_to l (DropMain Walked)

-- "end yes", "end no (searched)", "end no (walked)"
abbrev pub insert_end : Ending → End
insert_end Yes = InsertYes
insert_end (Searched places) = InsertSearched
insert_end Walked = InsertWalked

-- "the first empty column is free space: release, walk"; "At most H+1 attempts"; "After attempt H+1 finds a full row: release main"
abbrev pub after_attempt : Sizes → Place → Option ℕ → Trail → Stage
after_attempt z last (Some column) t = TakeSwing First (grab_of z Writing) (record { places = t.places; row = other_row z last; column = column })
after_attempt z last None t = cond (ltb z.rows t.picks) (DropMain (Searched t.places)) (TakeNext (grab_of z Reading) t)

-- "With the last of these releases the free slot becomes the place just left, skip or not, and that place leaves the path";
-- once the path is empty the second pass begins, "main being held already"
abbrev pub after_swing : Sizes → Task → Place → ℕ → Moved
after_swing z l last left =
    cond (eqb left 0) (record { lane = Busy (record { op = Again; key = l.key; value = l.value; stage = Take First (grab_of z Writing) }); answer = None })
    (goes_to l (TakeSwing First (grab_of z Writing) (record { places = left; row = last.row; column = last.column })))

-- "a lane turns to its next item at once": where it goes from each stage
unfoldable pub advance_at : Sizes → Task → Place → Seen → Stage → Moved
advance_at z l last seen (TakeMain g) = goes_to l (on_try seen.tried TakeMain (Take First (grab_of z (mode_of l.op))))
advance_at z l last seen (Take side g) = goes_to l (on_try seen.tried (Take side) (Seek side 0))
advance_at z l last seen (Seek side column) =
    cond (has_key seen.slot l.key) (on_hit l l.op side column seen.slot) (goes_to l (next_column z column (Seek side) (after_seek z l side)))
advance_at z l last seen (SeekRoom side column) =
    goes_to l (cond (is_empty seen.slot) (WriteRoom side column) (next_column z column (SeekRoom side) (after_room l.op side)))
advance_at z l last seen (WriteHit side column) = goes_to l (Drop First (Wrote side))
advance_at z l last seen (WriteRoom side column) = goes_to l (Drop First Filled)
advance_at z l last seen Pick = goes_to l (Drop First Picked)
advance_at z l last seen (Drop First o) = cond (drops_two (shared_rows z l.key) o) (goes_to l (Drop Second o)) (leave z l o)
advance_at z l last seen (Drop Second o) = leave z l o
advance_at z l last seen (DropMain e) = ends (insert_end e)
advance_at z l last seen (TakeNext g t) = goes_to l (on_try seen.tried (λ h. TakeNext h t) (LookNext 0 t))
advance_at z l last seen (LookNext column t) =
    goes_to l (cond (is_empty seen.slot) (DropNext (Some column) t) (next_column z column (λ c. LookNext c t) (PickNext t)))
advance_at z l last seen (PickNext t) = goes_to l (DropNext None (record { picks = t.picks + 1; places = t.places + 1 }))
advance_at z l last seen (DropNext f t) = goes_to l (after_attempt z last f t)
advance_at z l last seen (TakeSwing side g w) =
    goes_to l (on_try seen.tried (λ h. TakeSwing side h w) (cond (is_last side (swing_rows z last w).shared) (Swing w) (TakeSwing Second (grab_of z Writing) w)))
advance_at z l last seen (Swing w) = goes_to l (DropSwing First w)
advance_at z l last seen (DropSwing side w) = cond (is_last side (swing_rows z last w).shared) (after_swing z l last (w.places - 1)) (goes_to l (DropSwing Second w))

-- where it goes
abbrev pub advance : Sizes → Task → Place → Seen → Moved
advance z l last seen = advance_at z l last seen l.stage

-- ---- one step of a lane

-- a step: the memory, the lane and the answer after it
pub record LaneStep : Type 0 where
  pub memory : Memory
  pub lane : Lane
  pub answer : Option End

-- one step of a lane that has a task
unfoldable pub step_task : Sizes → Memory → Task → ℕ → LaneStep
step_task z m k byte =
    let last : Place = last_of m.path (path_length k.stage) in
    let p : Performed = perform z (act_of z k last) byte m in
    let a : Moved = advance z k last p.seen in
    record { memory = p.memory; lane = a.lane; answer = a.answer }

-- "A step answers that the lane goes on, or its end with the result": one step of a lane; an idle one stays so
abbrev pub step_lane : Sizes → Memory → Lane → ℕ → LaneStep
step_lane z m Idle byte = record { memory = m; lane = Idle; answer = None }
step_lane z m (Busy k) byte = step_task z m k byte
