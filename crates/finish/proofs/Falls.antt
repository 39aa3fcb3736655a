-- What a step takes off its lane's weight, by cases on the way it goes: 1 at least, and at a grab as the lock's answer says.
-- Assumes nothing.
use mathlib.Core.Path.{◌≡◌}
use mathlib.Core.Bool.{true}
use Prim.Native.Nat.{ℕ, ◌+◌, ◌-◌, ◌≤◌, ◌<◌}
use native.Mathlib.Omega.{arith}
use lib.Dec.{ltb}
use borrow.Author.Tests.{ltb-true, ltb-false, leb-true, eqb-true}
use Rattle.std.specs.Prelude.{Option}
use Rattle.lists.proofs.Below.{Each}
use Rattle.places.specs.declared.Sizes.{Sizes}
use Rattle.locks.specs.declared.Grab.{Grab}
use Rattle.locks.specs.declared.Mode.TheVariants.{Reading, Writing}
use Rattle.locks.specs.Turns.{grab_weight, tried_weight}
use Rattle.paths.specs.declared.Place.{Place}
use Rattle.locks.proofs.Turns.{fresh_weighs}
use Rattle.machine.specs.declared.Op.{Op}
use Rattle.machine.specs.declared.Outcome.{Outcome}
use Rattle.machine.specs.declared.Side.{Side}
use Rattle.machine.specs.declared.Stage.{Stage}
use Rattle.machine.specs.declared.Task.{Task}
use Rattle.machine.specs.declared.Act.{Act}
use Rattle.machine.specs.declared.Seen.{Seen}
use Rattle.machine.specs.declared.Moved.{Moved}
use Rattle.machine.specs.Sides.{by_side}
use Rattle.machine.specs.Rules.{mode_of, is_first_pass}
use Rattle.machine.specs.Claims.{outcome_in}
use Rattle.machine.specs.Stages.{item_at, act_at, stage_in}
use Rattle.machine.proofs.Ways.{Leaves, leaves_hit, leaves_ended, leaves_wrote, leaves_filled, leaves_miss, leaves_picked, leaves_stuck, Swings, Goes, main_waits, main_held, take_waits, take_held, seek_read, seek_hit, seek_more, seek_shared, seek_apart, seek_miss, seek_room, room_here, room_more, room_second, room_pick, room_stuck, wrote_hit, wrote_room, picked_first, drops_on, drops_one, drops_two_lem, drops_main, next_waits, next_held, next_free, next_more, next_full, next_picked, next_walk, next_over, next_again, swing_waits, swing_held, swing_apart, swings, drops_low, drops_last}
use Rattle.finish.specs.Weight.{walk_weight, search_weight, later_weight, stage_weight, weight}
use Rattle.finish.specs.Schedule.{on_act}
use Rattle.finish.proofs.Search.{search_next, search_walk}

-- what a step spends, and what the lock's answer leaves to be spent
abbrev pub spent : Act → ℕ
spent a = on_act a (λ k g. grab_weight g) 1

abbrev pub owed : Act → Option Grab → ℕ
owed a t = on_act a (λ k g. tried_weight t) 0

-- only an insert's first pass is followed by a search
first_later : (z : Sizes) (op : Op) → is_first_pass op ≡ true → later_weight z op ≡ search_weight z 0
first_later z op e = grind arith

module _ (z : Sizes) (l : Task) (last : Place) (seen : Seen) where
  -- a pass has released its rows
  leave_falls : (o : Outcome) (m : Moved) → Each (outcome_in z l.op o) → Leaves z l o m → weight z m.lane + 1 ≤ later_weight z l.op + 2
  leave_falls o m r leaves_hit = omega arith
  leave_falls o m r (leaves_ended e) = omega arith
  leave_falls o m r (leaves_wrote e) = omega arith
  leave_falls o m r leaves_filled = omega arith
  leave_falls o m r leaves_miss = omega arith
  leave_falls o m r leaves_picked = omega (arith, first_later z l.op r.0, search_next z 0 (omega arith), fresh_weighs z Reading)
  leave_falls o m r leaves_stuck = omega arith

  -- a swing has released its rows
  swing_falls : (left : ℕ) (m : Moved) → Swings z l last left m → weight z m.lane ≤ walk_weight z left
  swing_falls left m h = grind (arith, fresh_weighs)

  last_weighs : (side : Side) → 1 ≤ by_side side 2 1
  last_weighs side = grind arith

  -- a column in range
  column_in_lem : (c : ℕ) → ltb c z.columns ≡ true → c < z.columns
  column_in_lem c e = ltb-true c z.columns e

  pub falls : (s : Stage) (m : Moved) → Each (stage_in z l last s) → Goes z l last seen s m → weight z m.lane + spent (act_at z l last s) ≤ stage_weight z l.op s + owed (act_at z l last s) seen.tried
  unfolding item_at
  falls s m r (main_waits e) = rw e (omega arith)
  falls s m r (main_held e) = rw e (omega (arith, fresh_weighs z (mode_of l.op)))
  falls s m r (take_waits e) = rw e (omega arith)
  falls s m r (take_held e) = rw e (omega arith)
  falls s m r (seek_read {c} h e) = omega (arith, column_in_lem c r.0)
  falls s m r (seek_hit {c} h e) = omega (arith, column_in_lem c r.0)
  falls s m r (seek_more {c} h e) = omega (arith, column_in_lem c r.0)
  falls s m r (seek_shared {c} h n e) = omega (arith, column_in_lem c r.0)
  falls s m r (seek_apart {c} h n e) = omega (arith, column_in_lem c r.0, fresh_weighs z (mode_of l.op))
  falls s m r (seek_miss {c} h n e) = omega (arith, column_in_lem c r.0)
  falls s m r (seek_room {c} h n e) = omega (arith, column_in_lem c r.0)
  falls s m r (room_here {c} h) = omega (arith, column_in_lem c r.1.0)
  falls s m r (room_more {c} h n) = omega (arith, column_in_lem c r.1.0)
  falls s m r (room_second {c} h n) = omega (arith, column_in_lem c r.1.0)
  falls s m r (room_pick {c} h n e) = omega (arith, column_in_lem c r.1.0)
  falls s m r (room_stuck {c} h n e) = omega (arith, column_in_lem c r.1.0)
  falls s m r wrote_hit = omega arith
  falls s m r wrote_room = omega arith
  falls s m r picked_first = omega arith
  falls s m r (drops_on e) = omega arith
  falls s m r (drops_one {o} {m = n} e p) = omega (arith, leave_falls o n r.1 p)
  falls s m r (drops_two_lem {o} {m = n} p) = omega (arith, leave_falls o n r.1 p)
  falls s m r drops_main = omega arith
  falls s m r (next_waits e) = rw e (omega arith)
  falls s m r (next_held e) = rw e (omega arith)
  falls s m r (next_free {c} {t} h) =
      omega (arith, column_in_lem c r.1.0, search_walk z (t.picks + 1), leb-true t.picks z.rows r.1.1.0, eqb-true t.places (t.picks + 1) r.1.1.1.0)
  falls s m r (next_more {c} h n) = omega (arith, column_in_lem c r.1.0)
  falls s m r (next_full {c} h n) = omega (arith, column_in_lem c r.1.0)
  falls s m r next_picked = omega arith
  falls s m r (next_walk {c} {t}) = omega (arith, fresh_weighs z Writing, eqb-true t.places (t.picks + 1) r.1.1.1.0)
  falls s m r (next_over {t} e) = omega (arith, search_walk z t.picks)
  falls s m r (next_again {t} e) = omega (arith, fresh_weighs z Reading, search_next z t.picks (ltb-false z.rows t.picks e))
  falls s m r (swing_waits e) = rw e (omega arith)
  falls s m r (swing_held e h) = rw e (omega arith)
  falls s m r (swing_apart e h) = rw e (omega (arith, fresh_weighs z Writing))
  falls s m r swings = omega arith
  falls s m r (drops_low e) = omega arith
  falls s m r (drops_last {side} {w} {m = n} e p) = omega (arith, swing_falls (w.places - 1) n p, last_weighs side)
