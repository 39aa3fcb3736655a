-- Every step keeps the counts of its operation's history to what its lane's stage says.
-- Assumes nothing.
use mathlib.Core.Path.{◌≡◌, refl, ◌∙◌}
use mathlib.Core.Logic.{◌≢◌}
use mathlib.Core.Bool.{Bool, true, false}
use Prim.Native.Nat.{ℕ, ◌+◌, ◌-◌, ◌≤◌, ◌<◌}
use native.Mathlib.Omega.{arith}
use lib.Dec.{eqb, ltb}
use borrow.Author.Tests.{eqb-true, eq-eqb, ne_eqb, ltb-true, ltb-false, leb-true}
use Rattle.lists.specs.Below.{bit}
use Rattle.lists.proofs.Below.{Each}
use Rattle.places.specs.declared.Sizes.{Sizes}
use Rattle.places.specs.Table.{Fits}
use Rattle.slots.specs.Slot.{is_empty, is_full, has_key}
use Rattle.paths.specs.declared.Place.{Place}
use Rattle.paths.specs.Path.{path_places}
use Rattle.machine.specs.declared.Op.{Op}
use Rattle.machine.specs.declared.Side.{Side}
use Rattle.machine.specs.declared.Side.TheVariants.{First, Second}
use Rattle.machine.specs.declared.Outcome.{Outcome}
use Rattle.machine.specs.declared.Walk.{Walk}
use Rattle.machine.specs.declared.Stage.{Stage}
use Rattle.machine.specs.declared.Stage.TheVariants.{Swing}
use Rattle.machine.specs.declared.Task.{Task}
use Rattle.machine.specs.declared.Seen.{Seen}
use Rattle.machine.specs.declared.Moved.{Moved}
use Rattle.machine.specs.Sides.{by_side}
use Rattle.machine.specs.Rules.{is_first_pass, is_second_pass}
use Rattle.machine.specs.Stages.{item_at, stage_in}
use Rattle.machine.proofs.Ops.{insert_second}
use Rattle.machine.proofs.Ways.{Leaves, leaves_hit, leaves_ended, leaves_wrote, leaves_filled, leaves_miss, leaves_picked, leaves_stuck, Swings, Goes, main_waits, main_held, take_waits, take_held, seek_read, seek_hit, seek_more, seek_shared, seek_apart, seek_miss, seek_room, room_here, room_more, room_second, room_pick, room_stuck, wrote_hit, wrote_room, picked_first, drops_on, drops_one, drops_two_lem, drops_main, next_waits, next_held, next_free, next_more, next_full, next_picked, next_walk, next_over, next_again, swing_waits, swing_held, swing_apart, swings, drops_low, drops_last}
use Rattle.order.specs.History.{seeks, rooms, tries, picks, other, item, after_walk, full_on}
use Rattle.order.proofs.Tally.{Tally, more, InPass, InSearch, InWalk, InWrite, IsStuck, OutcomeCounts, Counts, CountsIn}

first_not_second : (op : Op) → is_first_pass op ≡ true → is_second_pass op ≡ false
first_not_second op e = grind arith

pass_to : (z : Sizes) (op : Op) (m m' k k' : ℕ) (c : Tally) → m ≡ m' → k ≡ k' → InPass z op m k c → InPass z op m' k' c
pass_to z op m m' k k' c p q h = grind arith

module _ (z : Sizes) (f : Fits z) (l : Task) (seen : Seen) (c : Tally) where
  abbrev B : Bool
  B = is_second_pass l.op

  -- a step that is no last look of an attempt leaves the full attempts as they are
  full_same : (n : ℕ) → n ≢ z.columns → c.full + bit (eqb n z.columns) ≡ c.full
  full_same n d = rw (ne_eqb n z.columns d) (omega arith)

  full_zero : c.full + bit (eqb 0 z.columns) ≡ c.full
  full_zero = full_same 0 (λ q. omega (arith, f.columns_low))

  -- a pass is after the walk if it is the second
  after_walk_lem : (m k : ℕ) → InPass z l.op m k c → after_walk c.picks c.swings ≡ B
  after_walk_lem m k h = grind arith

  -- ---- a step that is no look, no write, no pick and no swing

  pass : (m k : ℕ) → InPass z l.op m k c → InPass z l.op m k (more z l seen other c)
  pass m k h = grind arith

  pub search : (n p : ℕ) → InSearch n p c → InSearch n p (more z l seen other c)
  search n p h = grind arith

  walk : (n : ℕ) → InWalk z n c → InWalk z n (more z l seen other c)
  walk n h = grind arith

  pub wrote : (n : ℕ) → InWrite z n c → InWrite z n (more z l seen other c)
  wrote n h = grind arith

  pub stuck : IsStuck z c → IsStuck z (more z l seen other c)
  stuck h = grind arith

  outcome : (o : Outcome) → OutcomeCounts z o c → OutcomeCounts z o (more z l seen other c)
  outcome o h = grind arith

  left : (o : Outcome) (m : Moved) → OutcomeCounts z o c → Leaves z l o m → CountsIn z m.lane (more z l seen other c)
  left o m h leaves_hit = tt
  left o m h (leaves_ended a) = tt
  left o m h (leaves_wrote a) = wrote 1 h
  left o m h leaves_filled = wrote 1 h
  left o m h leaves_miss = tt
  left o m h leaves_picked = search 0 1 h
  left o m h leaves_stuck = stuck h

  swung : (last : Place) (n : ℕ) (m : Moved) → InWalk z n c → Swings z l last n m → CountsIn z m.lane (more z l seen other c)
  swung last n m h k = grind arith

  -- ---- a pick, and a swing

  picked : (n p : ℕ) → InSearch n p c → InSearch n (p + 1) (more z l seen picks c)
  picked n p h = grind arith

  swing : (w : Walk) → 1 ≤ w.places → InWalk z w.places c → InWalk z (w.places - 1) (more z l seen (item z (Swing w)) c)
  swing w b h = grind arith

  -- ---- a look for the key

  module _ (n : ℕ) where
    seek_none : (k : ℕ) → has_key seen.slot l.key ≡ false → InPass z l.op n k c → InPass z l.op (n + 1) k (more z l seen (seeks n) c)
    seek_none k q h = grind (arith, after_walk_lem)

    seek_hit_lem : InPass z l.op n 0 c → InWrite z 0 (more z l seen (seeks n) c)
    seek_hit_lem h = grind arith

    seek_ends : (k : ℕ) → InPass z l.op n k c → (more z l seen (seeks n) c).writes ≡ 0
    seek_ends k h = (omega (arith, h.writes))

  -- ---- a look for room

  module _ (n m : ℕ) where
    room_none : is_full seen.slot ≡ true → InPass z l.op m n c → InPass z l.op m (n + 1) (more z l seen (rooms n) c)
    room_none q h = grind (arith, after_walk_lem)

    room_seen : is_empty seen.slot ≡ true → n < z.columns + z.columns → InPass z l.op m n c → InWrite z 0 (more z l seen (rooms n) c)
    room_seen q b h = grind arith

  -- ---- a look of an attempt

  module _ (n p k : ℕ) (here : c.columns ≡ n) where
    try_full : is_full seen.slot ≡ true → full_on (tries n) (is_full seen.slot) c.columns ≡ n + 1
    try_full q = rw (here, q, eq-eqb n n refl) refl

    try_more : is_full seen.slot ≡ true → n + 1 ≢ z.columns → InSearch p k c → InSearch p k (more z l seen (tries n) c)
    try_more q d h = grind arith

    try_last : is_full seen.slot ≡ true → n + 1 ≡ z.columns → InSearch p k c → InSearch (p + 1) k (more z l seen (tries n) c)
    try_last q d h = grind arith

    try_free : is_empty seen.slot ≡ true → InSearch p k c → InSearch p k (more z l seen (tries n) c)
    try_free q h = grind arith

  -- ---- from one part of the steps to the next

  ends : (n : ℕ) → ltb n z.columns ≡ true → ltb (n + 1) z.columns ≡ false → n + 1 ≡ z.columns
  ends n a b = omega (arith, ltb-true n z.columns a, ltb-false (n + 1) z.columns b)

  to_search : {m k : ℕ} {d : Tally} → is_second_pass l.op ≡ false → InPass z l.op m k d → InSearch 0 0 d
  to_search {d} e h =
      let none : d.picks ≡ 0 = omega (arith, ltb-false 0 d.picks (h.picks ∙ e)) in
      record { writes = h.writes; picks = none; swings = h.swings ∙ none; full = (let q : _ = rw e at h.full in omega arith); missed = rw e at h.missed; crowded = rw e at h.crowded }

  to_stuck : {d : Tally} → is_second_pass l.op ≡ true → InPass z l.op (z.columns + z.columns) (z.columns + z.columns) d → IsStuck z d
  to_stuck e h = grind arith

  to_walk : {n p : ℕ} {d : Tally} → n ≤ z.rows → p ≡ n + 1 → InSearch n p d → InWalk z p d
  to_walk q e h = grind arith

  to_over : {n p : ℕ} {d : Tally} → n ≡ z.rows + 1 → p ≡ n + 1 → InSearch n p d → InSearch (z.rows + 1) (path_places z) d
  to_over q e h = grind arith

  side_low : (side : Side) → by_side side 0 z.columns ≤ z.columns
  side_low First = omega arith
  side_low Second = omega arith

  -- ---- every way

  pub counted : (last : Place) (s : Stage) (m : Moved) → (is_empty seen.slot ≡ false → is_full seen.slot ≡ true) → Each (stage_in z l last s) → Counts z l.op s c → Goes z l last seen s m → CountsIn z m.lane (more z l seen (item z s) c)
  unfolding item_at
  counted last s m solid r h (main_waits a) = pass 0 0 h
  counted last s m solid r h (main_held a) = pass 0 0 h
  counted last s m solid r h (take_waits {side} a) = pass (by_side side 0 z.columns) 0 h
  counted last s m solid r h (take_held {side} a) = pass_to z l.op (by_side side 0 z.columns) (by_side side 0 z.columns + 0) 0 0 _ (omega arith) refl (pass (by_side side 0 z.columns) 0 h)
  counted last s m solid r h (seek_read {side} {c = n} a w) = seek_ends (by_side side 0 z.columns + n) 0 h
  counted last s m solid r h (seek_hit {side} {c = n} a w) = seek_hit_lem (by_side side 0 z.columns + n) h
  counted last s m solid r h (seek_more {side} {c = n} a w) = pass_to z l.op (by_side side 0 z.columns + n + 1) (by_side side 0 z.columns + (n + 1)) 0 0 _ (omega arith) refl (seek_none (by_side side 0 z.columns + n) 0 a h)
  counted last s m solid r h (seek_shared {c = n} a w b) = pass_to z l.op (0 + n + 1) (z.columns + 0) 0 0 _ (omega (arith, ends n r.0 w)) refl (seek_none (0 + n) 0 a h)
  counted last s m solid r h (seek_apart {c = n} a w b) = pass_to z l.op (0 + n + 1) z.columns 0 0 _ (omega (arith, ends n r.0 w)) refl (seek_none (0 + n) 0 a h)
  counted last s m solid r h (seek_miss {c = n} a w b) = seek_ends (z.columns + n) 0 h
  counted last s m solid r h (seek_room {c = n} a w b) = pass_to z l.op (z.columns + n + 1) (z.columns + z.columns) 0 (0 + 0) _ (omega (arith, ends n r.0 w)) (omega arith) (seek_none (z.columns + n) 0 a h)
  counted last s m solid r h (room_here {side} {c = n} a) = room_seen (by_side side 0 z.columns + n) (z.columns + z.columns) a (omega (arith, side_low side, ltb-true n z.columns r.1.0)) h
  counted last s m solid r h (room_more {side} {c = n} a w) = pass_to z l.op _ _ (by_side side 0 z.columns + n + 1) (by_side side 0 z.columns + (n + 1)) _ refl (omega arith) (room_none (by_side side 0 z.columns + n) (z.columns + z.columns) (solid a) h)
  counted last s m solid r h (room_second {c = n} a w) = pass_to z l.op _ _ (0 + n + 1) (z.columns + 0) _ refl (omega (arith, ends n r.1.0 w)) (room_none (0 + n) (z.columns + z.columns) (solid a) h)
  counted last s m solid r h (room_pick {c = n} a w b) = to_search (first_not_second l.op b) (room_none (z.columns + n) (z.columns + z.columns) (solid a) h)
  counted last s m solid r h (room_stuck {c = n} a w b) = to_stuck (insert_second l.op r.0 b) (pass_to z l.op _ _ (z.columns + n + 1) (z.columns + z.columns) _ refl (omega (arith, ends n r.1.0 w)) (room_none (z.columns + n) (z.columns + z.columns) (solid a) h))
  counted last s m solid r h wrote_hit = record { writes = omega (arith, h.writes); full = rw full_zero h.full; crowded = h.crowded }
  counted last s m solid r h wrote_room = record { writes = omega (arith, h.writes); full = rw full_zero h.full; crowded = h.crowded }
  counted last s m solid r h picked_first = picked 0 0 h
  counted last s m solid r h (drops_on {o} a) = outcome o h
  counted last s m solid r h (drops_one {o} {m = n} a p) = left o n h p
  counted last s m solid r h (drops_two_lem {o} {m = n} p) = left o n h p
  counted last s m solid r h drops_main = tt
  counted last s m solid r h (next_waits {t} a) = search t.picks t.places h
  counted last s m solid r h (next_held {t} a) = (search t.picks t.places h, refl)
  counted last s m solid r h (next_free {c = n} {t} a) = try_free n t.picks t.places h.1 a h.0
  counted last s m solid r h (next_more {c = n} {t} a w) = (try_more n t.picks t.places h.1 (solid a) (λ q. omega (arith, ltb-true (n + 1) z.columns w)) h.0, try_full n t.picks t.places h.1 (solid a))
  counted last s m solid r h (next_full {c = n} {t} a w) = try_last n t.picks t.places h.1 (solid a) (ends n r.1.0 w) h.0
  counted last s m solid r h (next_picked {t}) = picked (t.picks + 1) t.places h
  counted last s m solid r h (next_walk {t}) = to_walk (leb-true t.picks z.rows r.1.1.0) (eqb-true t.places (t.picks + 1) r.1.1.1.0) (search t.picks t.places h)
  counted last s m solid r h (next_over {t} a) = to_over (omega (arith, ltb-true z.rows t.picks a, leb-true t.picks (z.rows + 1) r.1.1.0)) (eqb-true t.places (t.picks + 1) r.1.1.1.0) (search t.picks t.places h)
  counted last s m solid r h (next_again {t} a) = search t.picks t.places h
  counted last s m solid r h (swing_waits {w} a) = walk w.places h
  counted last s m solid r h (swing_held {w} a e) = walk w.places h
  counted last s m solid r h (swing_apart {w} a e) = walk w.places h
  counted last s m solid r h (swings {w}) = swing w (leb-true 1 w.places r.1.0) h
  counted last s m solid r h (drops_low {w} a) = walk (w.places - 1) h
  counted last s m solid r h (drops_last {w} {m = n} a p) = swung last (w.places - 1) n h p
