-- Each way a step can go, seen from the order: nobody sees it, or an operation settles, or ends, or does both.
-- Assumes nothing.
use mathlib.Core.Path.{◌≡◌, refl}
use mathlib.Core.Bool.{true, false, not, ◌&&◌}
use Prim.Native.Nat.{ℕ, ◌+◌, ◌-◌, ◌<◌}
use lib.Dec.{ltb}
use borrow.Author.Tests.{ltb-false}
use borrow.Author.Count.{below_more}
use native.Mathlib.Omega.{arith}
use Rattle.std.specs.Prelude.{None, Some}
use Rattle.lists.proofs.Below.{Each}
use Rattle.places.specs.declared.Sizes.{Sizes}
use Rattle.places.specs.Table.{Fits, slot_index, slot_count, home_one, home_two}
use Rattle.places.proofs.Limits.{slot_in_lem}
use Rattle.slots.specs.declared.Slot.{Slot}
use Rattle.slots.specs.Slot.{has_key}
use Rattle.slots.specs.Bound.{bound_in}
use Rattle.slots.proofs.Facts.{SoundSlots}
use Rattle.slots.proofs.Bindings.{bound_at}
use Rattle.slots.proofs.Rows.{Lacks, lacks_unbound}
use Rattle.paths.specs.declared.Place.{Place}
use Rattle.machine.specs.declared.Side.{Side}
use Rattle.machine.specs.declared.Side.TheVariants.{First, Second}
use Rattle.machine.specs.declared.Stage.{Stage}
use Rattle.machine.specs.declared.Task.{Task}
use Rattle.machine.specs.declared.Seen.{Seen}
use Rattle.machine.specs.declared.Moved.{Moved}
use Rattle.machine.specs.Rules.{row_on}
use Rattle.machine.specs.Stages.{item_at, act_at, stage_in, claims_at}
use Rattle.machine.proofs.Claimed.{Claimed}
use Rattle.machine.proofs.Own.{Looks}
use Rattle.kept.proofs.Stores.{row_in_lem, at_homes}
use Rattle.machine.proofs.Ways.{Goes, seek_read, seek_miss, wrote_hit, wrote_room, drops_on, drops_one, drops_two_lem, drops_main, drops_last}
use Rattle.linear.specs.Map.{Bindings}
use Rattle.order.specs.Settle.{waiting_at, waiting}
use Rattle.order.proofs.Binds.{BindsAt}
use Rattle.order.proofs.Dropped.{drop_on, drop_last, swing_last, end_main}
use Rattle.order.proofs.Ghosts.{ghost_at, ghost, Kind, quiet, hit_takes, room_takes, read_takes, miss_takes}

module _ (z : Sizes) (f : Fits z) (v : ℕ → Slot) (sv : SoundSlots z v) (x' : Bindings) (l : Task) (last : Place) (seen : Seen) where
  abbrev X : Bindings
  X = bound_in (slot_count z) v

  -- a hit in a row that is held: the key is bound to the value seen
  hit_bound : (side : Side) (c : ℕ) → ltb c z.columns ≡ true → seen.slot ≡ v (slot_index z (row_on z l.key side) c) → has_key seen.slot l.key ≡ true → X l.key ≡ Some seen.slot.value
  hit_bound side c lc k h = grind (arith, bound_at, slot_in_lem, row_in_lem)

  -- a miss at the last column of the second row: the key is not bound
  miss_bound : (c : ℕ) → ltb (c + 1) z.columns ≡ false → seen.slot ≡ v (slot_index z (row_on z l.key Second) c) → has_key seen.slot l.key ≡ false → Lacks z v (row_on z l.key First) l.key → ((i : ℕ) → i < c → has_key (v (slot_index z (row_on z l.key Second) i)) l.key ≡ false) → X l.key ≡ None
  miss_bound c n k h one two =
      let b : Lacks z v (row_on z l.key Second) l.key = λ i q. below_more (λ (i : ℕ). has_key (v (slot_index z (row_on z l.key Second) i)) l.key ≡ false) c two (rw k at h) i (omega (arith, ltb-false (c + 1) z.columns n)) in
      let both-lack : (Lacks z v (home_one z l.key) l.key) × (Lacks z v (home_two z l.key) l.key) = at_homes z f l.key (λ row. Lacks z v row l.key) one b in
      lacks_unbound z f (home_one z) (home_two z) v sv l.key both-lack.0 both-lack.1

  pub kind : (s : Stage) (m : Moved) → Each (stage_in z l last s) → Claimed z v l.key (claims_at z l last s) → Looks z v seen (act_at z l last s) → BindsAt (bound_in (slot_count z) v) x' l (act_at z l last s) → Goes z l last seen s m
      → Kind (bound_in (slot_count z) v) x' (ghost_at l s) (ghost m.lane) m.answer (waiting_at s && not (waiting m.lane))
  unfolding item_at
  kind s m r h k e (seek_read {side} {c} a w) = read_takes X x' l.key l.value l.op seen.slot.value w (hit_bound side c r.0 k a) e
  kind s m r h k e (seek_miss {c} a n w) = miss_takes X x' l.key l.value l.op w (miss_bound c n k a h.one.lacks h.two.lacks) e
  kind s m r h k e wrote_hit = hit_takes X x' l.key l.value l.op r.0 e
  kind s m r h k e wrote_room = room_takes X x' l.key l.value l.op r.0 e
  kind s m r h k e (drops_on {o} a) = drop_on X x' l o e
  kind s m r h k e (drops_one {o} {m = n} a p) = drop_last X x' l z o n e p
  kind s m r h k e (drops_two_lem {o} {m = n} p) = drop_last X x' l z o n e p
  kind s m r h k e (drops_main {e = end}) = end_main z X x' l end r e
  kind s m r h k e (drops_last {w} {m = n} a p) = swing_last z X x' l last (w.places - 1) n r.0 e p
  kind s m r h k e w = quiet refl e
