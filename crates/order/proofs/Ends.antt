-- How a step ends its operation, by the counts of its history: an insert's yes wrote, its noes did not.
-- Assumes nothing.
use mathlib.Core.Path.{◌≡◌}
use mathlib.Core.Logic.{◌↔◌}
use mathlib.Core.Bool.{true}
use Prim.Native.Nat.{ℕ, ◌+◌, ◌≤◌}
use native.Mathlib.Omega.{arith}
use Rattle.std.specs.Prelude.{Option, None, Some}
use Rattle.lists.specs.Below.{bit}
use Rattle.places.specs.declared.Sizes.{Sizes}
use Rattle.places.specs.Table.{Fits}
use Rattle.paths.specs.declared.Place.{Place}
use Rattle.paths.specs.Path.{path_places}
use Rattle.machine.specs.declared.Op.{Op}
use Rattle.machine.specs.declared.Outcome.{Outcome}
use Rattle.machine.specs.declared.Ending.{Ending}
use Rattle.machine.specs.declared.Stage.{Stage}
use Rattle.machine.specs.declared.Task.{Task}
use Rattle.machine.specs.declared.Seen.{Seen}
use Rattle.machine.specs.declared.Moved.{Moved}
use Rattle.machine.specs.Steps.{after_miss, insert_end}
use Rattle.machine.proofs.Ways.{Leaves, leaves_hit, leaves_ended, leaves_wrote, leaves_filled, leaves_miss, leaves_picked, leaves_stuck, Swings, Goes, drops_one, drops_two_lem, drops_main, drops_last}
use Rattle.linear.specs.declared.End.{End}
use Rattle.linear.specs.declared.End.TheVariants.{ReadNone, ReadValue, Deleted, InsertYes, InsertSearched, InsertWalked}
use Rattle.linear.specs.Map.{said_no}
use Rattle.order.specs.History.{other, item, is_write}
use Rattle.order.specs.Demand2.{ends_insert}
use Rattle.order.proofs.Tally.{Tally, more, InSearch, InWrite, IsStuck, EndingCounts, Counts}

-- what the counts are as an operation ends, this step included
abbrev pub EndCounts : Sizes → Option End → Tally → Type 0
EndCounts z None c = Unit {0}
EndCounts z (Some ReadNone) c = Unit {0}
EndCounts z (Some (ReadValue value)) c = Unit {0}
EndCounts z (Some Deleted) c = Unit {0}
EndCounts z (Some InsertYes) c = InWrite z 1 c
EndCounts z (Some InsertSearched) c = InSearch (z.rows + 1) (path_places z) c
EndCounts z (Some InsertWalked) c = IsStuck z c

module _ (z : Sizes) (f : Fits z) (l : Task) (last : Place) (seen : Seen) (c : Tally) where
  miss_end : (op : Op) (d : Tally) → EndCounts z (Some (after_miss op)) d
  miss_end op d = grind arith

  left_end : (d : Tally) (o : Outcome) (m : Moved) → Leaves z l o m → EndCounts z m.answer d
  left_end d o m leaves_hit = tt
  left_end d o m (leaves_ended e) = tt
  left_end d o m (leaves_wrote e) = tt
  left_end d o m leaves_filled = tt
  left_end d o m leaves_miss = miss_end l.op d
  left_end d o m leaves_picked = tt
  left_end d o m leaves_stuck = tt

  swing_end : (d : Tally) {n : ℕ} (m : Moved) → Swings z l last n m → EndCounts z m.answer d
  swing_end d m h = grind arith

  main_end : (e : Ending) → EndingCounts z e c → EndCounts z (Some (insert_end e)) (more z l seen other c)
  main_end e h = grind arith

  pub end_facts : (s : Stage) (m : Moved) → Counts z l.op s c → Goes z l last seen s m → EndCounts z m.answer (more z l seen (item z s) c)
  end_facts s m h (drops_one {o} {m = n} a p) = left_end (more z l seen other c) o n p
  end_facts s m h (drops_two_lem {o} {m = n} p) = left_end (more z l seen other c) o n p
  end_facts s m h (drops_main {e}) = main_end e h
  end_facts s m h (drops_last {m = n} a p) = swing_end (more z l seen other c) n p
  end_facts s m h w = tt

-- ---- an operation writes at most once

module _ (z : Sizes) (c : Tally) where
  pub once_at : (op : Op) (s : Stage) → Counts z op s c → c.writes + bit (is_write (item z s)) ≤ 1
  once_at op s h = grind arith

-- ---- demand 2's words

pub record Verdict (z : Sizes) (a : Option End) (c : Tally) : Type 0 where
  pub unchanged : said_no a ≡ true → c.writes ≡ 0
  pub searched : ends_insert a ≡ true → (a ≡ Some InsertSearched) ↔ (c.full ≡ z.rows + 1)
  pub walked : ends_insert a ≡ true → (a ≡ Some InsertWalked) ↔ ((c.missed ≡ z.columns + z.columns) × (c.crowded ≡ z.columns + z.columns))

pub verdict : (z : Sizes) (f : Fits z) (a : Option End) (c : Tally) → EndCounts z a c → Verdict z a c
verdict z f a c h = grind arith
