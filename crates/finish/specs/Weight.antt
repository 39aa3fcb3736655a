-- The weight of a lane: a number that its steps use up, whatever the slots hold. From the end backwards, each stage weighs more than what may follow.
-- No promise rests on these numbers, only the proof.
-- Assumes nothing.
use Rattle.std.specs.Prelude.{ℕ, ◌+◌, ◌-◌, ◌*◌, cond, Option, Some, None}
use Rattle.places.specs.declared.Sizes.{Sizes}
use Rattle.locks.specs.Turns.{grab_weight, first_weight}
use Rattle.machine.specs.declared.Op.{Op}
use Rattle.machine.specs.declared.Side.TheVariants.{First, Second}
use Rattle.machine.specs.declared.Stage.{Stage}
use Rattle.machine.specs.declared.Stage.TheVariants.{TakeMain, Take, Seek, SeekRoom, WriteHit, WriteRoom, Pick, Drop, DropMain, TakeNext, LookNext, PickNext, DropNext, TakeSwing, Swing, DropSwing}
use Rattle.machine.specs.declared.Trail.{Trail}
use Rattle.machine.specs.declared.Lane.{Lane}
use Rattle.machine.specs.declared.Lane.TheVariants.{Idle, Busy}
use Rattle.machine.specs.Sides.{by_side}
use Rattle.machine.specs.Rules.{is_first_pass}

-- the second pass, from its first grab
abbrev pub pass_weight : Sizes → ℕ
pass_weight z = 4 * z.columns + 4 + 2 * first_weight

-- a walk with that many places still to come: two grabs and 3 steps a place, then the second pass
abbrev pub walk_weight : Sizes → ℕ → ℕ
walk_weight z left = (2 * first_weight + 3) * left + pass_weight z

-- a search that has made that many picks, before its next grab: a grab and columns + 2 steps an attempt, then a walk of at most rows + 1 places
unfoldable pub search_weight : Sizes → ℕ → ℕ
search_weight z picks = (z.columns + 2 + first_weight) * (z.rows + 1 - picks) + walk_weight z (z.rows + 1) + 1

-- what may follow a pass over the home rows: for an insert's first pass the search
abbrev pub later_weight : Sizes → Op → ℕ
later_weight z op = cond (is_first_pass op) (search_weight z 0) 0

-- an attempt that found room, or a full row, before its release
abbrev pub found_weight : Sizes → Option ℕ → Trail → ℕ
found_weight z (Some column) t = walk_weight z t.places + 1
found_weight z None t = search_weight z t.picks + 1

-- what each stage weighs
abbrev pub stage_weight : Sizes → Op → Stage → ℕ
stage_weight z op (DropMain e) = 1
stage_weight z op (Drop side o) = later_weight z op + by_side side 3 2
stage_weight z op Pick = later_weight z op + 4
stage_weight z op (WriteRoom side column) = later_weight z op + 4
stage_weight z op (WriteHit side column) = later_weight z op + 4
stage_weight z op (SeekRoom side column) = later_weight z op + 4 + by_side side z.columns 0 + (z.columns - column)
stage_weight z op (Seek side column) = later_weight z op + 4 + 2 * z.columns + by_side side (first_weight + z.columns) 0 + (z.columns - column)
stage_weight z op (Take side g) = later_weight z op + 4 + 3 * z.columns + by_side side (first_weight + z.columns) 0 + grab_weight g
stage_weight z op (TakeMain g) = later_weight z op + 4 + 2 * first_weight + 4 * z.columns + grab_weight g
stage_weight z op (DropSwing side w) = walk_weight z (w.places - 1) + by_side side 2 1
stage_weight z op (Swing w) = walk_weight z (w.places - 1) + 3
stage_weight z op (TakeSwing side g w) = walk_weight z (w.places - 1) + 3 + by_side side first_weight 0 + grab_weight g
stage_weight z op (DropNext f t) = found_weight z f t
stage_weight z op (PickNext t) = search_weight z (t.picks + 1) + 2
stage_weight z op (LookNext column t) = search_weight z (t.picks + 1) + 2 + (z.columns - column)
stage_weight z op (TakeNext g t) = search_weight z (t.picks + 1) + 2 + z.columns + grab_weight g

-- what a lane weighs
abbrev pub weight : Sizes → Lane → ℕ
weight z Idle = 0
weight z (Busy k) = stage_weight z k.op k.stage
