-- 01, "What the table holds": a lane record read back, for what stands. By `lane_same` and `decodes_same` (proofs/Numbers) a stored lane
-- is read back and decodes.
use Rattle.std.specs.Prelude.{ℕ, List, [], ◌∷◌, Bool, cond, eqb, get_or, Option, Some, None}
use Rattle.lists.specs.Below.{all_below}
use Rattle.lists.specs.Records.{cell}
use Rattle.locks.specs.Record.{grab_from}
use Rattle.machine.specs.declared.Op.{Op}
use Rattle.machine.specs.declared.Op.TheVariants.{Read, Delete, Insert, Again}
use Rattle.machine.specs.declared.Side.{Side}
use Rattle.machine.specs.declared.Side.TheVariants.{First, Second}
use Rattle.machine.specs.declared.Trail.{Trail}
use Rattle.machine.specs.declared.Walk.{Walk}
use Rattle.machine.specs.declared.Outcome.{Outcome}
use Rattle.machine.specs.declared.Outcome.TheVariants.{Hit, Wrote, Filled, Miss, Picked, Stuck}
use Rattle.machine.specs.declared.Ending.{Ending}
use Rattle.machine.specs.declared.Ending.TheVariants.{Yes, Searched, Walked}
use Rattle.machine.specs.declared.Stage.{Stage}
use Rattle.machine.specs.declared.Stage.TheVariants.{TakeMain, Take, Seek, SeekRoom, WriteHit, WriteRoom, Pick, Drop, DropMain, TakeNext, LookNext, PickNext, DropNext, TakeSwing, Swing, DropSwing}
use Rattle.machine.specs.declared.Task.{Task}
use Rattle.machine.specs.declared.Lane.{Lane}
use Rattle.machine.specs.declared.Lane.TheVariants.{Idle, Busy}
use Rattle.machine.specs.Lane.{Words, lane_numbers, numbers_of}

-- an operation read back
abbrev pub op_of : ℕ → Op
op_of c = get_or (Read ∷ Read ∷ Delete ∷ Insert ∷ Again ∷ []) c Read

-- a side read back
abbrev pub side_of : ℕ → Side
side_of c = get_or (First ∷ First ∷ Second ∷ []) c First

-- an outcome read back
abbrev pub outcome_of : Words → Outcome
outcome_of w =
    get_or (Miss ∷ Hit (side_of w.side) w.column w.seen ∷ Wrote (side_of w.side) ∷ Filled ∷ Miss ∷ Picked ∷ Stuck ∷ []) w.ending Miss

-- an ending read back
abbrev pub ending_of : Words → Ending
ending_of w = get_or (Yes ∷ Yes ∷ Searched w.places ∷ Walked ∷ []) w.ending Yes

-- what it found, read back
abbrev pub found_of : Words → Option ℕ
found_of w = get_or (None ∷ Some w.column ∷ None ∷ []) w.ending None

-- a search read back
abbrev pub trail_of : Words → Trail
trail_of w = record { picks = w.picks; places = w.places }

-- a walk read back
abbrev pub walk_of : Words → Walk
walk_of w = record { places = w.places; row = w.free_row; column = w.free_column }

-- a stage read back: one for each code of docs/LANES.md, and none has the code 0
abbrev pub stage_of : Words → Stage
stage_of w =
    get_or
    (Pick
    ∷ TakeMain (grab_from w.grab w.noted)
    ∷ Take First (grab_from w.grab w.noted) ∷ Seek First w.column ∷ Take Second (grab_from w.grab w.noted) ∷ Seek Second w.column
    ∷ SeekRoom First w.column ∷ SeekRoom Second w.column
    ∷ WriteHit (side_of w.side) w.column ∷ WriteRoom (side_of w.side) w.column ∷ Pick
    ∷ Drop First (outcome_of w) ∷ Drop Second (outcome_of w) ∷ DropMain (ending_of w)
    ∷ TakeNext (grab_from w.grab w.noted) (trail_of w) ∷ LookNext w.column (trail_of w) ∷ PickNext (trail_of w) ∷ DropNext (found_of w) (trail_of w)
    ∷ TakeSwing First (grab_from w.grab w.noted) (walk_of w) ∷ TakeSwing Second (grab_from w.grab w.noted) (walk_of w) ∷ Swing (walk_of w)
    ∷ DropSwing First (walk_of w) ∷ DropSwing Second (walk_of w)
    ∷ [])
    w.code Pick

-- the numbers of the stage in record i
abbrev pub words_at : List ℕ → ℕ → Words
words_at ls i =
    record {
      code = cell lane_numbers ls i 0;
      grab = cell lane_numbers ls i 4;
      noted = cell lane_numbers ls i 5;
      side = cell lane_numbers ls i 6;
      column = cell lane_numbers ls i 7;
      ending = cell lane_numbers ls i 8;
      picks = cell lane_numbers ls i 9;
      places = cell lane_numbers ls i 10;
      free_row = cell lane_numbers ls i 11;
      free_column = cell lane_numbers ls i 12;
      seen = cell lane_numbers ls i 13;
    }

-- the task of a lane that has an operation
abbrev pub task_at : List ℕ → ℕ → Task
task_at ls i =
    record {
      op = op_of (cell lane_numbers ls i 1);
      key = cell lane_numbers ls i 2;
      value = cell lane_numbers ls i 3;
      stage = stage_of (words_at ls i);
    }

-- the lane in record i
unfoldable pub lane_at : List ℕ → ℕ → Lane
lane_at ls i = cond (eqb (cell lane_numbers ls i 1) 0) Idle (Busy (task_at ls i))

-- the numbers of record i are those of a lane, and no others
unfoldable pub decodes : List ℕ → ℕ → Bool
decodes ls i = all_below lane_numbers (λ f. eqb (cell lane_numbers ls i f) (get_or (numbers_of (lane_at ls i)) f 0))
