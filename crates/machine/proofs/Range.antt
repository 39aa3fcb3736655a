-- The lane that a step leaves is in range, where a grab that it waits with fits and the last place is in range.
-- Assumes nothing.
use mathlib.Core.Path.{◌≡◌, refl}
use mathlib.Core.Logic.{◌≢◌}
use mathlib.Core.Bool.{true, false, not, ◌||◌}
use Prim.Native.Nat.{◌+◌, ◌-◌, ◌<◌}
use native.Mathlib.Omega.{arith}
use lib.Dec.{eqb, ltb, leb}
use borrow.Author.Tests.{eqb-true, eq-eqb, ltb-true, ltb-false, leb-true, lt-ltb, le-leb}
use Rattle.std.specs.Prelude.{Some}
use Rattle.lists.proofs.Below.{Each}
use Rattle.places.specs.declared.Sizes.{Sizes}
use Rattle.places.specs.Table.{Fits, max_key}
use Rattle.locks.specs.declared.Mode.{Mode}
use Rattle.locks.specs.declared.Mode.TheVariants.{Reading, Writing}
use Rattle.locks.specs.declared.Grab.{Grab}
use Rattle.locks.specs.Record.{grab_in}
use Rattle.paths.specs.declared.Place.{Place}
use Rattle.paths.specs.Path.{path_places, other_row}
use Rattle.machine.specs.declared.Walk.{Walk}
use Rattle.machine.specs.declared.Outcome.{Outcome}
use Rattle.machine.specs.declared.Stage.{Stage}
use Rattle.machine.specs.declared.Task.{Task}
use Rattle.machine.specs.declared.Seen.{Seen}
use Rattle.machine.specs.declared.Moved.{Moved}
use Rattle.locks.proofs.Record.{fresh_in}
use Rattle.machine.specs.Claims.{outcome_in, walk_in}
use Rattle.machine.proofs.Ways.{Leaves, leaves_hit, leaves_ended, leaves_wrote, leaves_filled, leaves_miss, leaves_picked, leaves_stuck, Swings, swings_again, swings_on, Goes, main_waits, main_held, room_second, room_pick, room_stuck, wrote_hit, wrote_room, picked_first, drops_on, drops_one, drops_two_lem, drops_main, next_waits, next_held, next_free, next_more, next_full, next_picked, next_walk, next_over, next_again, swings, drops_low, take_waits, take_held, seek_read, seek_hit, seek_more, seek_shared, seek_apart, seek_miss, seek_room, room_here, room_more, swing_waits, swing_held, swing_apart, drops_last}
use Rattle.machine.specs.Sides.{apart_at}
use Rattle.machine.specs.Rules.{mode_of, swing_rows, is_insert, is_first_pass}
use Rattle.machine.specs.Stages.{path_length, lane_in, stage_in, item_at, act_at}
use Rattle.machine.proofs.Follows.{Follows}
use Rattle.machine.proofs.Ops.{busy_writes, busy_seeks, insert_second}
use Rattle.machine.specs.declared.Act.{Act}
use Rattle.machine.specs.declared.Act.TheVariants.{Try, Release, Look, Store, PickOne, PickFrom, Move}
use Rattle.machine.specs.declared.Side.{Side}

-- a grab that a try leaves fits the stage that it waits at
abbrev pub TryFits : Sizes → Seen → Act → Type 0
TryFits z seen (Try k g) = (m : Mode) → grab_in z m g ≡ true → (g' : Grab) → seen.tried ≡ Some g' → grab_in z m g' ≡ true
TryFits z seen (Release k mode tail) = Unit {0}
TryFits z seen (Look row c) = Unit {0}
TryFits z seen (Store row c s) = Unit {0}
TryFits z seen (PickOne one two) = Unit {0}
TryFits z seen (PickFrom row i) = Unit {0}
TryFits z seen (Move from row c) = Unit {0}

-- the last place of a lane that has any is in range
abbrev pub LastIn : Sizes → Place → Stage → Type 0
LastIn z last s = path_length s ≢ 0 → last.column < z.columns

module _ (z : Sizes) (f : Fits z) (l : Task) (last last' : Place) (seen : Seen) (hk : leb l.key max_key ≡ true) (hv : (is_insert l.op || eqb l.value 0) ≡ true) where
  first_column : ltb 0 z.columns ≡ true
  first_column = lt-ltb 0 z.columns f.columns_low

  leave_in : (o : Outcome) (m : Moved) → Each (outcome_in z l.op o) → Leaves z l o m → Each (lane_in z m.lane last')
  unfolding item_at
  leave_in o m r leaves_hit = tt
  leave_in o m r (leaves_ended e) = tt
  leave_in o m r (leaves_wrote e) = (hk, (hv, (e, tt)))
  leave_in o m r leaves_filled = (hk, (hv, r))
  leave_in o m r leaves_miss = tt
  leave_in o m r leaves_picked = (hk, (hv, (r.0, (fresh_in z Reading, (le-leb 0 z.rows (omega arith), (refl, tt))))))
  leave_in o m r leaves_stuck = (hk, (hv, r))

  swing_in : (w : Walk) (m : Moved) → is_first_pass l.op ≡ true → Each (walk_in z last w) → last.column < z.columns → (w.places - 1 ≢ 0 → last.row ≡ other_row z last') → Swings z l last (w.places - 1) m → Each (lane_in z m.lane last')
  unfolding item_at
  swing_in w m b r c h (swings_again e) = (hk, (refl, (fresh_in z Writing, (refl, tt))))
  swing_in w m b r c h (swings_on d) =
      (hk, (hv, (b, (fresh_in z Writing, (refl, (le-leb 1 (w.places - 1) (omega arith), (le-leb (w.places - 1) (z.rows + 1) (omega (arith, leb-true w.places (z.rows + 1) r.1.0)), (lt-ltb last.column z.columns c, (eq-eqb last.row (other_row z last') (h d), tt)))))))))

  -- a walk stays in range where the last place stays
  walk_on : (w : Walk) → last' ≡ last → Each (walk_in z last w) → Each (walk_in z last' w)
  walk_on w e r = rw e r

  apart_on : (w : Walk) → last' ≡ last → (swing_rows z last w).shared ≡ false → not (swing_rows z last' w).shared ≡ true
  apart_on w e h = rw (e, h) refl

  side_on : (side : Side) (w : Walk) → last' ≡ last → apart_at side (swing_rows z last w).shared ≡ true → apart_at side (swing_rows z last' w).shared ≡ true
  side_on side w e r = rw e r

  pub range_at : (s : Stage) (m : Moved) → Each (stage_in z l last s) → TryFits z seen (act_at z l last s) → LastIn z last s → Follows z last last' (act_at z l last s) → Goes z l last seen s m → Each (lane_in z m.lane last')
  unfolding item_at
  range_at s m r t c w (main_waits {g'} e) = (hk, (hv, (r.0, (t Writing r.1.0 g' e, tt))))
  range_at s m r t c w (main_held e) = (hk, (hv, (fresh_in z (mode_of l.op), (refl, tt))))
  range_at s m r t c w (take_waits {g'} e) = (hk, (hv, (t (mode_of l.op) r.0 g' e, r.1)))
  range_at s m r t c w (take_held e) = (hk, (hv, (first_column, tt)))
  range_at s m r t c w (seek_read h e) = (hk, (hv, (refl, (e, r))))
  range_at s m r t c w (seek_hit h e) = (hk, (hv, (busy_writes l.op e, r)))
  range_at s m r t c w (seek_more h n) = (hk, (hv, (n, tt)))
  range_at s m r t c w (seek_shared h n e) = (hk, (hv, (first_column, tt)))
  range_at s m r t c w (seek_apart h n e) = (hk, (hv, (fresh_in z (mode_of l.op), (rw e refl, tt))))
  range_at s m r t c w (seek_miss h n e) = (hk, (hv, (refl, (busy_seeks l.op e, tt))))
  range_at s m r t c w (seek_room h n e) = (hk, (hv, (e, (first_column, tt))))
  range_at s m r t c w (room_here h) = (hk, (hv, r))
  range_at s m r t c w (room_more h n) = (hk, (hv, (r.0, (n, tt))))
  range_at s m r t c w (room_second h n) = (hk, (hv, (r.0, (first_column, tt))))
  range_at s m r t c w (room_pick h n e) = (hk, (hv, (e, tt)))
  range_at s m r t c w (room_stuck h n e) = (hk, (hv, (refl, (insert_second l.op r.0 e, tt))))
  range_at s m r t c w wrote_hit = (hk, (hv, (refl, (r.0, tt))))
  range_at s m r t c w wrote_room = (hk, (hv, (refl, (r.0, tt))))
  range_at s m r t c w picked_first = (hk, (hv, (refl, r)))
  range_at s m r t c w (drops_on e) = (hk, (hv, (e, r.1)))
  range_at s m r t c w (drops_one {o} {m = n} e p) = leave_in o n r.1 p
  range_at s m r t c w (drops_two_lem {o} {m = n} p) = leave_in o n r.1 p
  range_at s m r t c w drops_main = tt
  range_at s m r t c w (next_waits {g'} e) = (hk, (hv, (r.0, (t Reading r.1.0 g' e, r.1.1))))
  range_at s m r t c w (next_held e) = (hk, (hv, (r.0, (first_column, r.1.1))))
  range_at s m r t c w (next_free h) = (hk, (hv, r))
  range_at s m r t c w (next_more h n) = (hk, (hv, (r.0, (n, r.1.1))))
  range_at s m r t c w (next_full h n) = (hk, (hv, (r.0, r.1.1)))
  range_at s m r t c w (next_picked {t = u}) =
      (hk, (hv, (r.0, (le-leb 1 (u.picks + 1) (omega arith), (le-leb (u.picks + 1) (z.rows + 1) (omega (arith, leb-true u.picks z.rows r.1.0)), (eq-eqb (u.places + 1) (u.picks + 1 + 1) (omega (arith, eqb-true u.places (u.picks + 1) r.1.1.0)), tt))))))
  range_at s m r t c w (next_walk {t = u}) =
      (hk, (hv, (r.0, (fresh_in z Writing, (refl, (le-leb 1 u.places (omega (arith, eqb-true u.places (u.picks + 1) r.1.1.1.0)), (le-leb u.places (z.rows + 1) (omega (arith, leb-true u.picks z.rows r.1.1.0, eqb-true u.places (u.picks + 1) r.1.1.1.0)), (r.1.0, (eq-eqb (other_row z last) (other_row z last') (rw w refl), tt)))))))))
  range_at s m r t c w (next_over {t = u} e) =
      (hk, (hv, (r.0, (eq-eqb u.places (path_places z) (omega (arith, ltb-true z.rows u.picks e, leb-true u.picks (z.rows + 1) r.1.1.0, eqb-true u.places (u.picks + 1) r.1.1.1.0)), tt))))
  range_at s m r t c w (next_again {t = u} e) = (hk, (hv, (r.0, (fresh_in z Reading, (le-leb u.picks z.rows (ltb-false z.rows u.picks e), r.1.1.1)))))
  range_at s m r t c w (swing_waits {side} {g' = g'} {w = u} e) = (hk, (hv, (r.0, (t Writing r.1.0 g' e, (side_on side u w r.1.1.0, walk_on u w r.1.1.1)))))
  range_at s m r t c w (swing_held {w = u} e h) = (hk, (hv, (r.0, walk_on u w r.1.1.1)))
  range_at s m r t c w (swing_apart {w = u} e h) = (hk, (hv, (r.0, (fresh_in z Writing, (apart_on u w h, walk_on u w r.1.1.1)))))
  range_at s m r t c w (swings {w = u}) = (hk, (hv, (r.0, (refl, walk_on u w r.1))))
  range_at s m r t c w (drops_low {w = u} e) = (hk, (hv, (r.0, (apart_on u (rw e at w) e, walk_on u (rw e at w) r.1.1))))
  range_at s m r t c w (drops_last {w = u} {m = n} e p) = swing_in u n r.0 r.1.1 (c (λ q. omega (arith, leb-true 1 u.places r.1.1.0))) (rw e at w) p
