-- What the counts of an operation's history are at each stage of its lane.
-- Assumes nothing.
use mathlib.Core.Path.{◌≡◌}
use mathlib.Core.Bool.{cond}
use mathlib.Core.List.{List}
use Prim.Native.Nat.{ℕ, ◌+◌, ◌-◌, ◌≤◌, ◌<◌}
use lib.Dec.{eqb, ltb}
use Rattle.lists.specs.Below.{bit}
use Rattle.places.specs.declared.Sizes.{Sizes}
use Rattle.slots.specs.Slot.{is_full, has_key}
use Rattle.paths.specs.Path.{path_places}
use Rattle.machine.specs.declared.Op.{Op}
use Rattle.machine.specs.declared.Outcome.{Outcome}
use Rattle.machine.specs.declared.Outcome.TheVariants.{Hit, Wrote, Filled, Miss, Picked, Stuck}
use Rattle.machine.specs.declared.Ending.{Ending}
use Rattle.machine.specs.declared.Ending.TheVariants.{Yes, Searched, Walked}
use Rattle.machine.specs.declared.Stage.{Stage}
use Rattle.machine.specs.declared.Stage.TheVariants.{TakeMain, Take, Seek, SeekRoom, WriteHit, WriteRoom, Pick, Drop, DropMain, TakeNext, LookNext, PickNext, DropNext, TakeSwing, Swing, DropSwing}
use Rattle.machine.specs.declared.Task.{Task}
use Rattle.machine.specs.declared.Lane.{Lane}
use Rattle.machine.specs.declared.Lane.TheVariants.{Idle, Busy}
use Rattle.machine.specs.declared.Seen.{Seen}
use Rattle.machine.specs.Sides.{by_side}
use Rattle.machine.specs.Rules.{is_second_pass}
use Rattle.order.specs.History.{Sight, Item, is_write, is_pick, is_swing, writes_in, picks_in, swings_in, after_walk, full_on, full_columns, full_attempts, miss_on, missed, room_on, crowded}

-- the counts of a history
pub record Tally : Type 0 where
  pub writes : ℕ
  pub picks : ℕ
  pub swings : ℕ
  pub columns : ℕ
  pub full : ℕ
  pub missed : ℕ
  pub crowded : ℕ

abbrev pub tally : Sizes → List Sight → Tally
tally z h =
    record { writes = writes_in z h; picks = picks_in z h; swings = swings_in z h; columns = full_columns z h; full = full_attempts z h; missed = missed z h; crowded = crowded z h }

-- and with one step more
abbrev pub more : Sizes → Task → Seen → Item → Tally → Tally
more z l seen i c =
    record {
      writes = c.writes + bit (is_write i);
      picks = c.picks + bit (is_pick i);
      swings = c.swings + bit (is_swing i);
      columns = full_on i (is_full seen.slot) c.columns;
      full = c.full + bit (eqb (full_on i (is_full seen.slot) c.columns) z.columns);
      missed = miss_on (after_walk c.picks c.swings) i (has_key seen.slot l.key) c.missed;
      crowded = room_on (after_walk c.picks c.swings) i (is_full seen.slot) c.crowded;
    }

-- ---- what the counts are

-- in a pass: no write yet; picks, full attempts and looks after the walk only in the second, and every place picked has had its swing
pub record InPass (z : Sizes) (op : Op) (m k : ℕ) (c : Tally) : Type 0 where
  pub writes : c.writes ≡ 0
  pub picks : ltb 0 c.picks ≡ is_second_pass op
  pub swings : c.swings ≡ c.picks
  pub full : c.full ≤ cond (is_second_pass op) z.rows 0
  pub missed : c.missed ≡ cond (is_second_pass op) m 0
  pub crowded : c.crowded ≡ cond (is_second_pass op) k 0

-- in the search: n attempts have found full rows, p places are picked and none has had its swing
pub record InSearch (n p : ℕ) (c : Tally) : Type 0 where
  pub writes : c.writes ≡ 0
  pub picks : c.picks ≡ p
  pub swings : c.swings ≡ 0
  pub full : c.full ≡ n
  pub missed : c.missed ≡ 0
  pub crowded : c.crowded ≡ 0

-- in the walk: n of the places picked have still to have their swing
pub record InWalk (z : Sizes) (n : ℕ) (c : Tally) : Type 0 where
  pub writes : c.writes ≡ 0
  pub picks : 1 ≤ c.picks
  pub swings : c.swings + n ≡ c.picks
  pub full : c.full ≤ z.rows
  pub missed : c.missed ≡ 0
  pub crowded : c.crowded ≡ 0

-- before and after the write: the search did not fail, nor did the second pass
pub record InWrite (z : Sizes) (n : ℕ) (c : Tally) : Type 0 where
  pub writes : c.writes ≡ n
  pub full : c.full ≤ z.rows
  pub crowded : c.crowded < z.columns + z.columns

pub record IsStuck (z : Sizes) (c : Tally) : Type 0 where
  pub writes : c.writes ≡ 0
  pub full : c.full ≤ z.rows
  pub missed : c.missed ≡ z.columns + z.columns
  pub crowded : c.crowded ≡ z.columns + z.columns

abbrev pub OutcomeCounts : Sizes → Outcome → Tally → Type 0
OutcomeCounts z (Hit side column value) c = c.writes ≡ 0
OutcomeCounts z (Wrote side) c = InWrite z 1 c
OutcomeCounts z Filled c = InWrite z 1 c
OutcomeCounts z Miss c = c.writes ≡ 0
OutcomeCounts z Picked c = InSearch 0 1 c
OutcomeCounts z Stuck c = IsStuck z c

abbrev pub EndingCounts : Sizes → Ending → Tally → Type 0
EndingCounts z Yes c = InWrite z 1 c
EndingCounts z (Searched places) c = InSearch (z.rows + 1) (path_places z) c
EndingCounts z Walked c = IsStuck z c

abbrev pub Counts : Sizes → Op → Stage → Tally → Type 0
Counts z op (TakeMain g) c = InPass z op 0 0 c
Counts z op (Take side g) c = InPass z op (by_side side 0 z.columns) 0 c
Counts z op (Seek side column) c = InPass z op (by_side side 0 z.columns + column) 0 c
Counts z op (SeekRoom side column) c = InPass z op (z.columns + z.columns) (by_side side 0 z.columns + column) c
Counts z op (WriteHit side column) c = InWrite z 0 c
Counts z op (WriteRoom side column) c = InWrite z 0 c
Counts z op Pick c = InSearch 0 0 c
Counts z op (Drop side o) c = OutcomeCounts z o c
Counts z op (DropMain e) c = EndingCounts z e c
Counts z op (TakeNext g t) c = InSearch t.picks t.places c
Counts z op (LookNext column t) c = InSearch t.picks t.places c × (c.columns ≡ column)
Counts z op (PickNext t) c = InSearch (t.picks + 1) t.places c
Counts z op (DropNext f t) c = InSearch t.picks t.places c
Counts z op (TakeSwing side g w) c = InWalk z w.places c
Counts z op (Swing w) c = InWalk z w.places c
Counts z op (DropSwing side w) c = InWalk z (w.places - 1) c

-- and in each lane: of an idle one nothing is asked
abbrev pub CountsIn : Sizes → Lane → Tally → Type 0
CountsIn z Idle c = Unit {0}
CountsIn z (Busy k) c = Counts z k.op k.stage c
