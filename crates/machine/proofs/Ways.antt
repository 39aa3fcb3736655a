-- The ways a step can go, as a relation: one constructor for each, with what its tests found. `goes` says that `advance` is one of them.
-- Assumes nothing.
use mathlib.Core.Path.{◌≡◌, refl}
use mathlib.Core.Logic.{◌≢◌}
use mathlib.Core.Bool.{Bool, true, false, cond}
use Prim.Native.Nat.{ℕ, ◌+◌, ◌-◌}
use lib.Dec.{eqb, ltb}
use borrow.Author.Tests.{eqb-true, eqb-false}
use Rattle.std.specs.Prelude.{Option, Some, None}
use Rattle.linear.specs.declared.End.TheVariants.{ReadValue, Deleted}
use Rattle.places.specs.declared.Sizes.{Sizes}
use Rattle.slots.specs.Slot.{is_empty, has_key}
use Rattle.locks.specs.declared.Mode.TheVariants.{Reading, Writing}
use Rattle.locks.specs.declared.Grab.{Grab}
use Rattle.locks.specs.Taking.{grab_of}
use Rattle.paths.specs.declared.Place.{Place}
use Rattle.paths.specs.Path.{other_row}
use Rattle.machine.specs.declared.Op.TheVariants.{Again}
use Rattle.machine.specs.declared.Side.{Side}
use Rattle.machine.specs.declared.Side.TheVariants.{First, Second}
use Rattle.machine.specs.declared.Trail.{Trail}
use Rattle.machine.specs.declared.Walk.{Walk}
use Rattle.machine.specs.declared.Outcome.{Outcome}
use Rattle.machine.specs.declared.Outcome.TheVariants.{Hit, Wrote, Filled, Miss, Picked, Stuck}
use Rattle.machine.specs.declared.Ending.{Ending}
use Rattle.machine.specs.declared.Ending.TheVariants.{Yes, Searched, Walked}
use Rattle.machine.specs.declared.Stage.{Stage}
use Rattle.machine.specs.declared.Stage.TheVariants.{TakeMain, Take, Seek, SeekRoom, WriteHit, WriteRoom, Pick, Drop, DropMain, TakeNext, LookNext, PickNext, DropNext, TakeSwing, Swing, DropSwing}
use Rattle.machine.specs.declared.Task.{Task}
use Rattle.machine.specs.declared.Seen.{Seen}
use Rattle.machine.specs.declared.Moved.{Moved}
use Rattle.machine.specs.Sides.{is_last}
use Rattle.machine.specs.Rules.{mode_of, shared_rows, swing_rows, drops_two, is_read, is_insert, is_first_pass}
use Rattle.machine.specs.Steps.{goes_to, ends, on_try, next_column, on_hit, after_seek, after_room, after_miss, leave, insert_end, after_swing, advance_at}
use Rattle.machine.specs.declared.Lane.TheVariants.{Busy}

-- a pass has released its rows
pub data Leaves (z : Sizes) (l : Task) : Outcome → Moved → Type 0 where
  leaves_hit : {side : Side} {column value : ℕ} → Leaves z l (Hit side column value) (ends (ReadValue value))
  leaves_ended : {side : Side} → is_insert l.op ≡ false → Leaves z l (Wrote side) (ends Deleted)
  leaves_wrote : {side : Side} → is_insert l.op ≡ true → Leaves z l (Wrote side) (goes_to l (DropMain Yes))
  leaves_filled : Leaves z l Filled (goes_to l (DropMain Yes))
  leaves_miss : Leaves z l Miss (ends (after_miss l.op))
  leaves_picked : Leaves z l Picked (goes_to l (TakeNext (grab_of z Reading) (record { picks = 0; places = 1 })))
  leaves_stuck : Leaves z l Stuck (goes_to l (DropMain Walked))

-- a swing has released its rows, and that many places are left
pub data Swings (z : Sizes) (l : Task) (last : Place) (left : ℕ) : Moved → Type 0 where
  swings_again : left ≡ 0 → Swings z l last left (record { lane = Busy (record { op = Again; key = l.key; value = l.value; stage = Take First (grab_of z Writing) }); answer = None })
  swings_on : left ≢ 0 → Swings z l last left (goes_to l (TakeSwing First (grab_of z Writing) (record { places = left; row = last.row; column = last.column })))

pub data Goes (z : Sizes) (l : Task) (last : Place) (seen : Seen) : Stage → Moved → Type 0 where
  main_waits : {g g' : Grab} → seen.tried ≡ Some g' → Goes z l last seen (TakeMain g) (goes_to l (TakeMain g'))
  main_held : {g : Grab} → seen.tried ≡ None → Goes z l last seen (TakeMain g) (goes_to l (Take First (grab_of z (mode_of l.op))))
  take_waits : {side : Side} {g g' : Grab} → seen.tried ≡ Some g' → Goes z l last seen (Take side g) (goes_to l (Take side g'))
  take_held : {side : Side} {g : Grab} → seen.tried ≡ None → Goes z l last seen (Take side g) (goes_to l (Seek side 0))
  seek_read : {side : Side} {c : ℕ} → has_key seen.slot l.key ≡ true → is_read l.op ≡ true → Goes z l last seen (Seek side c) (goes_to l (Drop First (Hit side c seen.slot.value)))
  seek_hit : {side : Side} {c : ℕ} → has_key seen.slot l.key ≡ true → is_read l.op ≡ false → Goes z l last seen (Seek side c) (goes_to l (WriteHit side c))
  seek_more : {side : Side} {c : ℕ} → has_key seen.slot l.key ≡ false → ltb (c + 1) z.columns ≡ true → Goes z l last seen (Seek side c) (goes_to l (Seek side (c + 1)))
  seek_shared : {c : ℕ} → has_key seen.slot l.key ≡ false → ltb (c + 1) z.columns ≡ false → shared_rows z l.key ≡ true → Goes z l last seen (Seek First c) (goes_to l (Seek Second 0))
  seek_apart : {c : ℕ} → has_key seen.slot l.key ≡ false → ltb (c + 1) z.columns ≡ false → shared_rows z l.key ≡ false → Goes z l last seen (Seek First c) (goes_to l (Take Second (grab_of z (mode_of l.op))))
  seek_miss : {c : ℕ} → has_key seen.slot l.key ≡ false → ltb (c + 1) z.columns ≡ false → is_insert l.op ≡ false → Goes z l last seen (Seek Second c) (goes_to l (Drop First Miss))
  seek_room : {c : ℕ} → has_key seen.slot l.key ≡ false → ltb (c + 1) z.columns ≡ false → is_insert l.op ≡ true → Goes z l last seen (Seek Second c) (goes_to l (SeekRoom First 0))
  room_here : {side : Side} {c : ℕ} → is_empty seen.slot ≡ true → Goes z l last seen (SeekRoom side c) (goes_to l (WriteRoom side c))
  room_more : {side : Side} {c : ℕ} → is_empty seen.slot ≡ false → ltb (c + 1) z.columns ≡ true → Goes z l last seen (SeekRoom side c) (goes_to l (SeekRoom side (c + 1)))
  room_second : {c : ℕ} → is_empty seen.slot ≡ false → ltb (c + 1) z.columns ≡ false → Goes z l last seen (SeekRoom First c) (goes_to l (SeekRoom Second 0))
  room_pick : {c : ℕ} → is_empty seen.slot ≡ false → ltb (c + 1) z.columns ≡ false → is_first_pass l.op ≡ true → Goes z l last seen (SeekRoom Second c) (goes_to l Pick)
  room_stuck : {c : ℕ} → is_empty seen.slot ≡ false → ltb (c + 1) z.columns ≡ false → is_first_pass l.op ≡ false → Goes z l last seen (SeekRoom Second c) (goes_to l (Drop First Stuck))
  wrote_hit : {side : Side} {c : ℕ} → Goes z l last seen (WriteHit side c) (goes_to l (Drop First (Wrote side)))
  wrote_room : {side : Side} {c : ℕ} → Goes z l last seen (WriteRoom side c) (goes_to l (Drop First Filled))
  picked_first : Goes z l last seen Pick (goes_to l (Drop First Picked))
  drops_on : {o : Outcome} → drops_two (shared_rows z l.key) o ≡ true → Goes z l last seen (Drop First o) (goes_to l (Drop Second o))
  drops_one : {o : Outcome} {m : Moved} → drops_two (shared_rows z l.key) o ≡ false → Leaves z l o m → Goes z l last seen (Drop First o) m
  drops_two_lem : {o : Outcome} {m : Moved} → Leaves z l o m → Goes z l last seen (Drop Second o) m
  drops_main : {e : Ending} → Goes z l last seen (DropMain e) (ends (insert_end e))
  next_waits : {g g' : Grab} {t : Trail} → seen.tried ≡ Some g' → Goes z l last seen (TakeNext g t) (goes_to l (TakeNext g' t))
  next_held : {g : Grab} {t : Trail} → seen.tried ≡ None → Goes z l last seen (TakeNext g t) (goes_to l (LookNext 0 t))
  next_free : {c : ℕ} {t : Trail} → is_empty seen.slot ≡ true → Goes z l last seen (LookNext c t) (goes_to l (DropNext (Some c) t))
  next_more : {c : ℕ} {t : Trail} → is_empty seen.slot ≡ false → ltb (c + 1) z.columns ≡ true → Goes z l last seen (LookNext c t) (goes_to l (LookNext (c + 1) t))
  next_full : {c : ℕ} {t : Trail} → is_empty seen.slot ≡ false → ltb (c + 1) z.columns ≡ false → Goes z l last seen (LookNext c t) (goes_to l (PickNext t))
  next_picked : {t : Trail} → Goes z l last seen (PickNext t) (goes_to l (DropNext None (record { picks = t.picks + 1; places = t.places + 1 })))
  next_walk : {c : ℕ} {t : Trail} → Goes z l last seen (DropNext (Some c) t) (goes_to l (TakeSwing First (grab_of z Writing) (record { places = t.places; row = other_row z last; column = c })))
  next_over : {t : Trail} → ltb z.rows t.picks ≡ true → Goes z l last seen (DropNext None t) (goes_to l (DropMain (Searched t.places)))
  next_again : {t : Trail} → ltb z.rows t.picks ≡ false → Goes z l last seen (DropNext None t) (goes_to l (TakeNext (grab_of z Reading) t))
  swing_waits : {side : Side} {g g' : Grab} {w : Walk} → seen.tried ≡ Some g' → Goes z l last seen (TakeSwing side g w) (goes_to l (TakeSwing side g' w))
  swing_held : {side : Side} {g : Grab} {w : Walk} → seen.tried ≡ None → is_last side (swing_rows z last w).shared ≡ true → Goes z l last seen (TakeSwing side g w) (goes_to l (Swing w))
  swing_apart : {g : Grab} {w : Walk} → seen.tried ≡ None → (swing_rows z last w).shared ≡ false → Goes z l last seen (TakeSwing First g w) (goes_to l (TakeSwing Second (grab_of z Writing) w))
  swings : {w : Walk} → Goes z l last seen (Swing w) (goes_to l (DropSwing First w))
  drops_low : {w : Walk} → (swing_rows z last w).shared ≡ false → Goes z l last seen (DropSwing First w) (goes_to l (DropSwing Second w))
  drops_last : {side : Side} {w : Walk} {m : Moved} → is_last side (swing_rows z last w).shared ≡ true → Swings z l last (w.places - 1) m → Goes z l last seen (DropSwing side w) m

leaves : (z : Sizes) (l : Task) (o : Outcome) → Leaves z l o (leave z l o)
leaves z l (Hit side column value) = leaves_hit
leaves z l (Wrote side) = go (is_insert l.op) refl
  where
    go : (b : Bool) → is_insert l.op ≡ b → Leaves z l (Wrote side) (cond b (goes_to l (DropMain Yes)) (ends Deleted))
    go true e = leaves_wrote e
    go false e = leaves_ended e
leaves z l Filled = leaves_filled
leaves z l Miss = leaves_miss
leaves z l Picked = leaves_picked
leaves z l Stuck = leaves_stuck

swung : (z : Sizes) (l : Task) (last : Place) (left : ℕ) → Swings z l last left (after_swing z l last left)
swung z l last left = go (eqb left 0) refl
  where
    go : (b : Bool) → eqb left 0 ≡ b → Swings z l last left (cond b (record { lane = Busy (record { op = Again; key = l.key; value = l.value; stage = Take First (grab_of z Writing) }); answer = None }) (goes_to l (TakeSwing First (grab_of z Writing) (record { places = left; row = last.row; column = last.column }))))
    go true e = swings_again (eqb-true left 0 e)
    go false e = swings_on (eqb-false left 0 e)

module _ (z : Sizes) (l : Task) (last : Place) (seen : Seen) where
  -- a test splits once for all, at the top or in the stage gone to
  by_test : (s : Stage) (m m' : Moved) (b : Bool) → (b ≡ true → Goes z l last seen s m) → (b ≡ false → Goes z l last seen s m') → Goes z l last seen s (cond b m m')
  by_test s m m' true f g = f refl
  by_test s m m' false f g = g refl

  to_test : (s p q : Stage) (b : Bool) → (b ≡ true → Goes z l last seen s (goes_to l p)) → (b ≡ false → Goes z l last seen s (goes_to l q)) → Goes z l last seen s (goes_to l (cond b p q))
  to_test s p q true f g = f refl
  to_test s p q false f g = g refl

  by_try : (s : Stage) (stay : Grab → Stage) (next : Stage) (t : Option Grab) → ((g : Grab) → t ≡ Some g → Goes z l last seen s (goes_to l (stay g))) → (t ≡ None → Goes z l last seen s (goes_to l next)) → Goes z l last seen s (goes_to l (on_try t stay next))
  by_try s stay next None f g = g refl
  by_try s stay next (Some h) f g = f h refl

  -- a look for the key, and for room: what comes after the last column is left open
  seeks : (side : Side) (c : ℕ) → (has_key seen.slot l.key ≡ false → ltb (c + 1) z.columns ≡ false → Goes z l last seen (Seek side c) (goes_to l (after_seek z l side))) → Goes z l last seen (Seek side c) (advance_at z l last seen (Seek side c))
  unfolding advance_at
  seeks side c after =
      by_test (Seek side c) (on_hit l l.op side c seen.slot) (goes_to l (next_column z c (Seek side) (after_seek z l side))) (has_key seen.slot l.key)
      (λ h. by_test (Seek side c) (goes_to l (Drop First (Hit side c seen.slot.value))) (goes_to l (WriteHit side c)) (is_read l.op) (λ e. seek_read h e) (λ e. seek_hit h e))
      (λ h. to_test (Seek side c) (Seek side (c + 1)) (after_seek z l side) (ltb (c + 1) z.columns) (λ n. seek_more h n) (λ n. after h n))

  rooms : (side : Side) (c : ℕ) → (is_empty seen.slot ≡ false → ltb (c + 1) z.columns ≡ false → Goes z l last seen (SeekRoom side c) (goes_to l (after_room l.op side))) → Goes z l last seen (SeekRoom side c) (advance_at z l last seen (SeekRoom side c))
  unfolding advance_at
  rooms side c after =
      to_test (SeekRoom side c) (WriteRoom side c) (next_column z c (SeekRoom side) (after_room l.op side)) (is_empty seen.slot) (λ h. room_here h)
      (λ h. to_test (SeekRoom side c) (SeekRoom side (c + 1)) (after_room l.op side) (ltb (c + 1) z.columns) (λ n. room_more h n) (λ n. after h n))

  pub goes : (s : Stage) → Goes z l last seen s (advance_at z l last seen s)
  unfolding advance_at
  goes (TakeMain g) = by_try (TakeMain g) TakeMain (Take First (grab_of z (mode_of l.op))) seen.tried (λ h e. main_waits e) (λ e. main_held e)
  goes (Take side g) = by_try (Take side g) (Take side) (Seek side 0) seen.tried (λ h e. take_waits e) (λ e. take_held e)
  goes (Seek First c) =
      seeks First c (λ h n. to_test (Seek First c) (Seek Second 0) (Take Second (grab_of z (mode_of l.op))) (shared_rows z l.key) (λ e. seek_shared h n e) (λ e. seek_apart h n e))
  goes (Seek Second c) = seeks Second c (λ h n. to_test (Seek Second c) (SeekRoom First 0) (Drop First Miss) (is_insert l.op) (λ e. seek_room h n e) (λ e. seek_miss h n e))
  goes (SeekRoom First c) = rooms First c (λ h n. room_second h n)
  goes (SeekRoom Second c) = rooms Second c (λ h n. to_test (SeekRoom Second c) Pick (Drop First Stuck) (is_first_pass l.op) (λ e. room_pick h n e) (λ e. room_stuck h n e))
  goes (WriteHit side c) = wrote_hit
  goes (WriteRoom side c) = wrote_room
  goes Pick = picked_first
  goes (Drop First o) = by_test (Drop First o) (goes_to l (Drop Second o)) (leave z l o) (drops_two (shared_rows z l.key) o) (λ e. drops_on e) (λ e. drops_one e (leaves z l o))
  goes (Drop Second o) = drops_two_lem (leaves z l o)
  goes (DropMain e) = drops_main
  goes (TakeNext g t) = by_try (TakeNext g t) (λ h. TakeNext h t) (LookNext 0 t) seen.tried (λ h e. next_waits e) (λ e. next_held e)
  goes (LookNext c t) =
      to_test (LookNext c t) (DropNext (Some c) t) (next_column z c (λ d. LookNext d t) (PickNext t)) (is_empty seen.slot) (λ h. next_free h)
      (λ h. to_test (LookNext c t) (LookNext (c + 1) t) (PickNext t) (ltb (c + 1) z.columns) (λ n. next_more h n) (λ n. next_full h n))
  goes (PickNext t) = next_picked
  goes (DropNext (Some c) t) = next_walk
  goes (DropNext None t) = to_test (DropNext None t) (DropMain (Searched t.places)) (TakeNext (grab_of z Reading) t) (ltb z.rows t.picks) (λ e. next_over e) (λ e. next_again e)
  goes (TakeSwing First g w) =
      by_try (TakeSwing First g w) (λ h. TakeSwing First h w) (cond (swing_rows z last w).shared (Swing w) (TakeSwing Second (grab_of z Writing) w)) seen.tried (λ h e. swing_waits e)
      (λ e. to_test (TakeSwing First g w) (Swing w) (TakeSwing Second (grab_of z Writing) w) (swing_rows z last w).shared (λ s. swing_held e s) (λ s. swing_apart e s))
  goes (TakeSwing Second g w) = by_try (TakeSwing Second g w) (λ h. TakeSwing Second h w) (Swing w) seen.tried (λ h e. swing_waits e) (λ e. swing_held e refl)
  goes (Swing w) = swings
  goes (DropSwing First w) = by_test (DropSwing First w) (after_swing z l last (w.places - 1)) (goes_to l (DropSwing Second w)) (swing_rows z last w).shared (λ e. drops_last e (swung z l last (w.places - 1))) (λ e. drops_low e)
  goes (DropSwing Second w) = drops_last refl (swung z l last (w.places - 1))
