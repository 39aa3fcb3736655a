-- 01, "What the table holds": the lane record. A lane as lent is 14 numbers; docs/LANES.md has their table.
-- Assumes nothing.
use Rattle.std.specs.Prelude.{ℕ, ◌*◌, List, [], ◌∷◌, Option, Some, None}
use Rattle.lists.specs.Records.{put}
use Rattle.locks.specs.declared.Grab.{Grab}
use Rattle.locks.specs.Record.{grab_code, grab_noted}
use Rattle.places.specs.declared.Sizes.{Sizes}
use Rattle.machine.specs.declared.Op.{Op}
use Rattle.machine.specs.declared.Op.TheVariants.{Read, Delete, Insert, Again}
use Rattle.machine.specs.declared.Side.{Side}
use Rattle.machine.specs.declared.Side.TheVariants.{First, Second}
use Rattle.machine.specs.declared.Trail.{Trail}
use Rattle.machine.specs.declared.Walk.{Walk}
use Rattle.machine.specs.declared.Outcome.{Outcome}
use Rattle.machine.specs.declared.Outcome.TheVariants.{Hit, Wrote, Filled, Miss, Picked, Stuck}
use Rattle.machine.specs.declared.Ending.{Ending}
use Rattle.machine.specs.declared.Ending.TheVariants.{Yes, Searched, Walked}
use Rattle.machine.specs.declared.Stage.{Stage}
use Rattle.machine.specs.declared.Stage.TheVariants.{TakeMain, Take, Seek, SeekRoom, WriteHit, WriteRoom, Pick, Drop, DropMain, TakeNext, LookNext, PickNext, DropNext, TakeSwing, Swing, DropSwing}
use Rattle.machine.specs.declared.Task.{Task}
use Rattle.machine.specs.declared.Lane.{Lane}
use Rattle.machine.specs.declared.Lane.TheVariants.{Idle, Busy}
use Rattle.machine.specs.Sides.{by_side}

-- "Docs/ fixes once how many numbers a lane record takes"
abbrev pub lane_numbers : ℕ
lane_numbers = 14

-- how many all lanes of a table take
abbrev pub lane_words : Sizes → ℕ
lane_words z = z.lanes * lane_numbers

-- the numbers of a stage: its code, grab, noted count, side, column, ending, picks, places, free row, free
-- column, and the value that a read has seen
pub record Words : Type 0 where
  pub code : ℕ
  pub grab : ℕ
  pub noted : ℕ
  pub side : ℕ
  pub column : ℕ
  pub ending : ℕ
  pub picks : ℕ
  pub places : ℕ
  pub free_row : ℕ
  pub free_column : ℕ
  pub seen : ℕ

-- what a stage does not use is 0
abbrev pub zero_words : Words
zero_words =
    record { code = 0; grab = 0; noted = 0; side = 0; column = 0; ending = 0; picks = 0; places = 0; free_row = 0; free_column = 0; seen = 0 }

-- docs/LANES.md, number 1: the operation
abbrev pub op_code : Op → ℕ
op_code Read = 1
op_code Delete = 2
op_code Insert = 3
op_code Again = 4

-- docs/LANES.md, number 6: which home row
abbrev pub side_code : Side → ℕ
side_code First = 1
side_code Second = 2

-- the numbers of a lock that is being taken
abbrev pub grab_words : Words → Grab → Words
grab_words w g = record w { grab = grab_code g; noted = grab_noted g }

-- the numbers of a pass that releases its rows; after a pick the path has one place
abbrev pub outcome_words : Words → Outcome → Words
outcome_words w (Hit side column value) = record w { ending = 1; side = side_code side; column = column; seen = value }
outcome_words w (Wrote side) = record w { ending = 2; side = side_code side }
outcome_words w Filled = record w { ending = 3 }
outcome_words w Miss = record w { ending = 4 }
outcome_words w Picked = record w { ending = 5; places = 1 }
outcome_words w Stuck = record w { ending = 6 }

-- the numbers of an insert's release of main
abbrev pub ending_words : Words → Ending → Words
ending_words w Yes = record w { ending = 1 }
ending_words w (Searched places) = record w { ending = 2; places = places }
ending_words w Walked = record w { ending = 3 }

-- the numbers of the search
abbrev pub trail_words : Words → Trail → Words
trail_words w t = record w { picks = t.picks; places = t.places }

-- the numbers of what an attempt came to
abbrev pub found_words : Words → Option ℕ → Words
found_words w (Some column) = record w { ending = 1; column = column }
found_words w None = record w { ending = 2 }

-- the numbers of the walk
abbrev pub walk_words : Words → Walk → Words
walk_words w u = record w { places = u.places; free_row = u.row; free_column = u.column }

-- a stage by its code alone
abbrev pub code_words : ℕ → Words
code_words c = record zero_words { code = c }

-- docs/LANES.md: the numbers of each stage
abbrev pub stage_words : Stage → Words
stage_words (TakeMain g) = grab_words (code_words 1) g
stage_words (Take side g) = grab_words (code_words (by_side side 2 4)) g
stage_words (Seek side column) = record zero_words { code = by_side side 3 5; column = column }
stage_words (SeekRoom side column) = record zero_words { code = by_side side 6 7; column = column }
stage_words (WriteHit side column) = record zero_words { code = 8; side = side_code side; column = column }
stage_words (WriteRoom side column) = record zero_words { code = 9; side = side_code side; column = column }
stage_words Pick = code_words 10
stage_words (Drop side o) = outcome_words (code_words (by_side side 11 12)) o
stage_words (DropMain e) = ending_words (code_words 13) e
stage_words (TakeNext g t) = trail_words (grab_words (code_words 14) g) t
stage_words (LookNext column t) = trail_words (record zero_words { code = 15; column = column }) t
stage_words (PickNext t) = trail_words (code_words 16) t
stage_words (DropNext f t) = trail_words (found_words (code_words 17) f) t
stage_words (TakeSwing side g w) = walk_words (grab_words (code_words (by_side side 18 19)) g) w
stage_words (Swing w) = walk_words (code_words 20) w
stage_words (DropSwing side w) = walk_words (code_words (by_side side 21 22)) w

-- docs/LANES.md: the 14 numbers in a row, by operation, key, value and the numbers of the stage
abbrev pub in_a_row : ℕ → ℕ → ℕ → Words → List ℕ
in_a_row op key value w =
    w.code ∷ op ∷ key ∷ value ∷ w.grab ∷ w.noted ∷ w.side ∷ w.column ∷ w.ending ∷ w.picks ∷ w.places ∷ w.free_row ∷ w.free_column ∷ w.seen ∷ []

-- the numbers of a lane as they are lent: "an idle lane's are 0"
unfoldable pub numbers_of : Lane → List ℕ
numbers_of Idle = in_a_row 0 0 0 zero_words
numbers_of (Busy k) = in_a_row (op_code k.op) k.key k.value (stage_words k.stage)

-- the lane records with l in place of lane i
unfoldable pub with_lane : List ℕ → ℕ → Lane → List ℕ
with_lane ls i l = put lane_numbers ls i (numbers_of l)

-- the same with a lane that has the task k
abbrev pub with_task : List ℕ → ℕ → Task → List ℕ
with_task ls i k = with_lane ls i (Busy k)
