-- What a step does to its lane's part in the locks: one part in one lock changes, and fresh grabs count for nothing.
-- Assumes nothing.
use mathlib.Core.Path.{◌≡◌, refl, ap, sym, ◌∙◌}
use Prim.Native.Nat.{ℕ, ◌+◌, ◌≤◌}
use native.Mathlib.Omega.{arith}
use borrow.Author.Tests.{not-true}
use Rattle.lists.proofs.Below.{Each}
use Rattle.places.specs.declared.Sizes.{Sizes}
use Rattle.places.specs.Table.{lock_of}
use Rattle.locks.specs.declared.Mode.{Mode}
use Rattle.locks.specs.declared.Mode.TheVariants.{Reading, Writing}
use Rattle.locks.specs.declared.Part.{Part}
use Rattle.locks.specs.declared.Part.TheVariants.{NoPart, Tries, Holds}
use Rattle.locks.specs.Locks.{main_lock}
use Rattle.locks.specs.Taking.{grab_of}
use Rattle.locks.specs.Parts.{part_after}
use Rattle.locks.proofs.Measures.{Measure}
use Rattle.paths.specs.declared.Place.{Place}
use Rattle.paths.specs.Path.{other_row}
use Rattle.machine.specs.declared.Side.{Side}
use Rattle.machine.specs.declared.Side.TheVariants.{First, Second}
use Rattle.machine.specs.declared.Trail.{Trail}
use Rattle.machine.specs.declared.Walk.{Walk}
use Rattle.machine.specs.declared.Outcome.{Outcome}
use Rattle.machine.specs.declared.Ending.{Ending}
use Rattle.machine.specs.declared.Ending.TheVariants.{Yes, Searched, Walked}
use Rattle.machine.specs.declared.Stage.{Stage}
use Rattle.machine.specs.declared.Stage.TheVariants.{Take, Drop, DropMain, TakeNext, TakeSwing, DropSwing}
use Rattle.machine.specs.declared.Task.{Task}
use Rattle.machine.specs.declared.Seen.{Seen}
use Rattle.machine.specs.declared.Moved.{Moved}
use Rattle.machine.specs.Steps.{goes_to}
use Rattle.machine.specs.Claims.{outcome_in, ending_in, main_part, on_lock, share, pair_grip}
use Rattle.machine.proofs.Ways.{Leaves, leaves_hit, leaves_ended, leaves_wrote, leaves_filled, leaves_miss, leaves_picked, leaves_stuck, Swings, Goes, main_waits, main_held, wrote_hit, drops_on, drops_one, drops_two_lem, drops_main, next_waits, next_held, next_free, next_more, next_full, next_picked, next_walk, next_over, next_again, swings, drops_low, swings_again, swings_on, take_waits, take_held, seek_read, seek_shared, seek_apart, swing_waits, swing_held, swing_apart, drops_last}
use Rattle.machine.specs.Sides.{by_side, side_row}
use Rattle.machine.specs.Rules.{mode_of, row_on, shared_rows, swing_rows}
use Rattle.machine.specs.Stages.{stage_in, grip_at, grip_of, item_at, act_at}
use Rattle.locks.specs.Taking.{grab_mode}
use Rattle.machine.proofs.Follows.{Follows}
use Rattle.machine.proofs.Ops.{first_inserts, seeks_not_insert, read_not_insert, main_held_by, main_free_of}
use Rattle.machine.specs.declared.Act.{Act}
use Rattle.machine.specs.declared.Act.TheVariants.{Try, Release, Look, Store, PickOne, PickFrom, Move}
use Rattle.machine.specs.declared.Lane.TheVariants.{Idle}
use Rattle.locks.proofs.Record.{in_mode}
use Rattle.machine.specs.declared.Side.{Side}
use Rattle.places.specs.declared.RowPair.{RowPair}
use Rattle.places.specs.Locking.{rows_of}

-- the part that a step changes: in which lock, from what, to what
pub record Touch : Type 0 where
  pub lock : ℕ
  pub before : Part
  pub after : Part

abbrev pub touch : ℕ → Part → Part → Touch
touch k p q = record { lock = k; before = p; after = q }

abbrev pub untouched : Touch
untouched = touch 0 NoPart NoPart

abbrev pub touch_of : Seen → Act → Touch
touch_of seen (Try k g) = touch k (Tries g) (part_after (grab_mode g) seen.tried)
touch_of seen (Release k mode tail) = touch k (Holds mode) NoPart
touch_of seen (Look row c) = untouched
touch_of seen (Store row c s) = untouched
touch_of seen (PickOne one two) = untouched
touch_of seen (PickFrom row i) = untouched
touch_of seen (Move from row c) = untouched

module _ (z : Sizes) (f : Part → ℕ) (μ : Measure z f) (k : ℕ) where
  abbrev at : ℕ → Part → ℕ
  at x p = on_lock k x (f p)

  nil : (x n : ℕ) → n ≡ 0 → on_lock k x n ≡ 0
  nil x n e = grind arith

  pub none_at : (x : ℕ) → on_lock k x (f NoPart) ≡ 0
  none_at x = nil x (f NoPart) μ.none

  pub fresh_at : (x : ℕ) (m : Mode) → on_lock k x (f (Tries (grab_of z m))) ≡ 0
  fresh_at x m = nil x (f (Tries (grab_of z m))) (μ.first m)

  -- of two rows a grip has the part on either side
  own_part : (side : Side) (main p a b : Part) (r : RowPair) → on_lock k (lock_of z (side_row r side)) (f p) ≤ share z f (pair_grip z main r (by_side side p a) (by_side side b p)) k
  own_part First main p a b r = omega arith
  own_part Second main p a b r = omega arith

  module _ (l : Task) (last last' : Place) (seen : Seen) where
    abbrev Shifts : Stage → Moved → Type 0
    Shifts s m =
        share z f (grip_of z m.lane last') k + on_lock k (touch_of seen (act_at z l last s)).lock (f (touch_of seen (act_at z l last s)).before)
        ≡ share z f (grip_at z l last s) k + on_lock k (touch_of seen (act_at z l last s)).lock (f (touch_of seen (act_at z l last s)).after)

    abbrev M : ℕ
    M = main_lock z

    abbrev A : ℕ
    A = lock_of z (row_on z l.key First)

    abbrev B : ℕ
    B = lock_of z (row_on z l.key Second)

    -- a lane that goes to search, to walk or to its second pass has main and a fresh grab
    to_search : (t : Trail) → share z f (grip_of z (goes_to l (TakeNext (grab_of z Reading) t)).lane last') k ≡ on_lock k (main_lock z) (f (Holds Writing))
    unfolding item_at
    to_search t = grind arith

    to_walk : (w : Walk) → share z f (grip_of z (goes_to l (TakeSwing First (grab_of z Writing) w)).lane last') k ≡ on_lock k (main_lock z) (f (Holds Writing))
    unfolding item_at
    to_walk w = grind arith

    to_main : (e : Ending) → share z f (grip_of z (goes_to l (DropMain e)).lane last') k ≡ on_lock k (main_lock z) (f (main_part l.op))
    unfolding item_at
    to_main e = omega (arith, none_at A, none_at B)

    to_end : share z f (grip_of z Idle last') k ≡ 0
    unfolding item_at
    to_end = grind arith

    leave_shift : (o : Outcome) (m : Moved) → Each (outcome_in z l.op o) → Leaves z l o m → share z f (grip_of z m.lane last') k ≡ on_lock k (main_lock z) (f (main_part l.op))
    leave_shift o m r leaves_hit = to_end ∙ sym (rw (main_free_of l.op (read_not_insert l.op r.0)) (none_at M))
    leave_shift o m r (leaves_ended e) = to_end ∙ sym (rw e (none_at M))
    leave_shift o m r (leaves_wrote e) = to_main Yes
    leave_shift o m r leaves_filled = to_main Yes
    leave_shift o m r leaves_miss = to_end ∙ sym (rw (main_free_of l.op (seeks_not_insert l.op r.0)) (none_at M))
    leave_shift o m r leaves_picked = to_search (record { picks = 0; places = 1 }) ∙ sym (rw (main_held_by l.op (first_inserts l.op r.0)) refl)
    leave_shift o m r leaves_stuck = to_main Walked

    swing_shift : (left : ℕ) (m : Moved) → Swings z l last left m → share z f (grip_of z m.lane last') k ≡ on_lock k (main_lock z) (f (Holds Writing))
    unfolding item_at
    swing_shift left m (swings_again e) = omega (arith, fresh_at A Writing, none_at B)
    swing_shift left m (swings_on e) = to_walk (record { places = left; row = last.row; column = last.column })

    ends_main : (e : Ending) → Each (ending_in z l.op e) → main_part l.op ≡ Holds Writing
    ends_main e r = grind arith

    pub shift : (s : Stage) (m : Moved) → Each (stage_in z l last s) → Follows z last last' (act_at z l last s) → Goes z l last seen s m → Shifts s m
    unfolding item_at
    shift s m r w (main_waits e) = rw e (omega arith)
    shift s m r w (main_held {g} e) = rw (e, in_mode z Writing g r.1.0, first_inserts l.op r.0) (omega (arith, none_at M, none_at B, fresh_at A (mode_of l.op)))
    shift s m r w (seek_read {side = First} h e) = refl
    shift s m r w (seek_read {side = Second} h e) = refl
    shift s m r w (wrote_hit {side = First}) = refl
    shift s m r w (wrote_hit {side = Second}) = refl
    shift s m r w (take_waits {side = First} e) = rw e (omega arith)
    shift s m r w (take_waits {side = Second} e) = rw e (omega arith)
    shift s m r w (take_held {side = First} {g} e) = rw (e, in_mode z (mode_of l.op) g r.0) (omega arith)
    shift s m r w (take_held {side = Second} {g} e) = rw (e, in_mode z (mode_of l.op) g r.0, not-true (shared_rows z l.key) r.1.0) (omega arith)
    shift s m r w (seek_shared h n e) = rw e refl
    shift s m r w (seek_apart h n e) = omega (arith, fresh_at B (mode_of l.op), none_at B)
    shift s m r w (drops_on e) = rw e (omega (arith, none_at A))
    shift s m r w (drops_one {o} {m = n} e p) = rw e (omega (arith, leave_shift o n r.1 p, none_at A, none_at B))
    shift s m r w (drops_two_lem {o} {m = n} p) = omega (arith, leave_shift o n r.1 p, none_at A, none_at B)
    shift s m r w (drops_main {e}) = omega (arith, to_end, none_at M, none_at A, none_at B, ap (λ (p : Part). on_lock k M (f p)) (ends_main e r))
    shift s m r w (next_waits e) = rw (w, e) (omega arith)
    shift s m r w (next_held {g} e) = rw (w, e, in_mode z Reading g r.1.0) (omega arith)
    shift s m r w (next_free h) = rw w refl
    shift s m r w (next_more h n) = rw w refl
    shift s m r w (next_full h n) = rw w refl
    shift s m r w next_picked = rw w refl
    shift s m r w (next_walk {c} {t}) = omega (arith, to_walk (record { places = t.places; row = other_row z last; column = c }), none_at (lock_of z (other_row z last)))
    shift s m r w (next_over {t} e) = omega (arith, to_main (Searched t.places), none_at (lock_of z last.row), ap (λ (p : Part). on_lock k M (f p)) (main_held_by l.op (first_inserts l.op r.0)))
    shift s m r w (next_again {t} e) = omega (arith, to_search t, none_at (lock_of z last.row))
    shift s m r w (swing_waits {side = First} e) = rw (w, e) (omega arith)
    shift s m r w (swing_waits {side = Second} e) = rw (w, e) (omega arith)
    shift s m r w (swing_held {side = First} {g} e h) = rw (w, e, in_mode z Writing g r.1.0, h) (omega arith)
    shift s m r w (swing_held {side = Second} {g} {w = u} e h) = rw (w, e, in_mode z Writing g r.1.0, not-true (swing_rows z last u).shared r.1.1.0) (omega arith)
    shift s m r w (swing_apart {g} {w = u} e h) = rw (w, e, in_mode z Writing g r.1.0) (omega (arith, fresh_at (lock_of z (swing_rows z last u).second) Writing, none_at (lock_of z (swing_rows z last u).second)))
    shift s m r w swings = rw w refl
    shift s m r w (drops_low {w = u} e) = rw (rw e at w, e) (omega (arith, none_at (lock_of z (swing_rows z last u).first)))
    shift s m r w (drops_last {side = First} {w = u} {m = n} e p) = rw e (omega (arith, swing_shift _ n p, none_at (lock_of z (swing_rows z last u).first), none_at (lock_of z (swing_rows z last u).second)))
    shift s m r w (drops_last {side = Second} {w = u} {m = n} e p) = omega (arith, swing_shift _ n p, none_at (lock_of z (swing_rows z last u).first), none_at (lock_of z (swing_rows z last u).second))
    shift s m r w p = refl

    -- the part that a step changes is one the lane has
    pub touched : (s : Stage) → Each (stage_in z l last s) → on_lock k (touch_of seen (act_at z l last s)).lock (f (touch_of seen (act_at z l last s)).before) ≤ share z f (grip_at z l last s) k
    unfolding item_at
    touched (Take side g) r = own_part side _ _ _ _ (rows_of z l.key)
    touched (Drop side o) r = own_part side _ _ _ _ (rows_of z l.key)
    touched (TakeSwing side g w) r = own_part side _ _ _ _ (swing_rows z last w)
    touched (DropSwing side w) r = own_part side _ _ _ _ (swing_rows z last w)
    touched s r = grind arith
