-- A small table whose lanes are in each other's way, reached by accepted calls, and the schedule that unties them, by computation.
-- Assumes nothing.
use mathlib.Core.Path.{◌≡◌, ap, refl}
use mathlib.Core.List.{List, [], ◌∷◌, map}
use Prim.Native.Nat.{ℕ, ◌*◌, ◌≤◌}
use native.Mathlib.Omega.{arith}
use lib.ListN.{length, replicate}
use Rattle.linear.specs.declared.Request.TheVariants.{Read, Insert}
use Rattle.lists.specs.Records.{cell}
use Rattle.places.specs.declared.Sizes.{Sizes}
use Rattle.slots.specs.Slot.{slot_words}
use Rattle.locks.specs.Locks.{lock_words}
use Rattle.locks.specs.Taking.{grab_of, try_lock, released}
use Rattle.locks.specs.Parts.{grab_flag, grab_count, lock_tests}
use Rattle.locks.specs.Record.{grab_code, grab_noted, grab_from, grab_in}
use Rattle.locks.specs.Turns.{grab_urgency, grab_turns}
use Rattle.paths.specs.Path.{path_words}
use Rattle.machine.specs.Lane.{lane_numbers, lane_words}
use Rattle.machine.specs.Back.{lane_at, decodes}
use Rattle.machine.specs.Stages.{item_at}
use Rattle.machine.specs.Steps.{step_task}
use Rattle.machine.specs.Standing.{Table}
use Rattle.machine.specs.Desk.{open_of, start_lane, start_of, step_of, Accepts}
use Rattle.machine.proofs.Computing.{computing}
use Rattle.kept.specs.Runs.{Reached, by_opening, by_start, by_step}
use Rattle.finish.specs.Finish.{Call, after_all, Accepted, unfinished, step_bound}
use Rattle.finish.specs.Schedule.{chosen, turns, schedule_for}

-- two rows of one slot, a lock for each, three lanes
abbrev pub z : Sizes
z = record { rows = 2; columns = 1; locks = 2; lanes = 3 }

abbrev lent : Table
lent = record { slots = replicate (slot_words z) 0; locks = replicate 6 0; lanes = replicate (lane_words z) 0; path = replicate (path_words z) 0 }

abbrev empty : Table
empty = (open_of z lent).table

-- two inserts and a read of one key begin
abbrev one : Table
one = (start_of z empty 0 (Insert 0 7)).table

abbrev two : Table
two = (start_of z one 1 (Insert 0 8)).table

abbrev three : Table
three = (start_of z two 2 (Read 0)).table

-- the lanes in this order, with 0 for every byte
abbrev calls : List ℕ → List Call
calls js = map (λ j. record { lane = j; byte = 0 }) js

-- lane 0 has main and the first row's flag; lane 2 has counted itself there before, and has met the flag; lane 1 waits for main
abbrev pub knotted : List ℕ
knotted = 0 ∷ 0 ∷ 2 ∷ 2 ∷ 0 ∷ 0 ∷ 1 ∷ 2 ∷ []

abbrev pub knot : Table
knot = after_all z three (calls knotted)

-- by the lanes' records: stage and grab of each
pub knot_is : map (λ (j : ℕ). cell lane_numbers knot.lanes j 0 ∷ cell lane_numbers knot.lanes j 4 ∷ []) (0 ∷ 1 ∷ 2 ∷ []) ≡ (2 ∷ 6 ∷ []) ∷ (1 ∷ 5 ∷ []) ∷ (2 ∷ 4 ∷ []) ∷ []
unfolding computing
knot_is = refl

-- ---- every call so far was accepted

steps_reached : (u : Table) (cs : List Call) → Reached z u → Accepted z u cs → Reached z (after_all z u cs)
steps_reached u [] r a = r
steps_reached u (c ∷ cs) r a = steps_reached (step_of z u c.lane c.byte).table cs (by_step u c.lane c.byte r a.0) a.1

all_accepted : Accepts (open_of z lent) × Accepts (start_of z empty 0 (Insert 0 7)) × Accepts (start_of z one 1 (Insert 0 8)) × Accepts (start_of z two 2 (Read 0)) × Accepted z three (calls knotted)
unfolding computing
all_accepted = grind arith

pub knot_reached : Reached z knot
knot_reached =
    steps_reached three (calls knotted)
    (by_start two 2 (Read 0) (by_start one 1 (Insert 0 8) (by_start empty 0 (Insert 0 7) (by_opening lent all_accepted.0) all_accepted.1) all_accepted.2) all_accepted.3)
    all_accepted.4

-- ---- its schedule, and its length beside the bound

pub knot_untied : schedule_for z knot ≡ calls (2 ∷ 0 ∷ 0 ∷ 0 ∷ 0 ∷ 0 ∷ 0 ∷ 0 ∷ 0 ∷ 0 ∷ 0 ∷ 2 ∷ 2 ∷ 2 ∷ 2 ∷ 2 ∷ 1 ∷ 1 ∷ 1 ∷ 1 ∷ 1 ∷ 1 ∷ 1 ∷ 1 ∷ [])
unfolding computing chosen turns grab_urgency grab_turns
knot_untied = refl

pub knot_length : length (schedule_for z knot) ≡ 24
knot_length = ap length knot_untied

pub knot_lanes : unfinished z knot ≡ 3
unfolding computing
knot_lanes = refl

-- 24 steps, beside 20 x 4 x 3 for each of three lanes
pub knot_within : length (schedule_for z knot) ≤ step_bound z * unfinished z knot
knot_within = omega (arith, knot_length, knot_lanes)
