-- Claims are guarded by locks: a lane holds the lock of each row that it claims something of, and for writing where it stores.
-- Assumes nothing.
use mathlib.Core.Path.{◌≡◌, refl}
use mathlib.Core.Logic.{◌⊎◌}
use mathlib.Core.Bool.{Bool, true, false, cond}
use Prim.Native.Nat.{ℕ, ◌+◌, ◌≤◌}
use native.Mathlib.Omega.{arith}
use Rattle.std.specs.Prelude.{Option}
use Rattle.lists.proofs.Below.{Each}
use Rattle.places.specs.declared.Sizes.{Sizes}
use Rattle.places.specs.Table.{home_one, home_two, lock_of}
use Rattle.places.specs.Locking.{lock_order}
use Rattle.places.proofs.Locking.{order_rows, order_shared}
use Rattle.locks.specs.declared.Mode.{Mode}
use Rattle.locks.specs.declared.Mode.TheVariants.{Reading, Writing}
use Rattle.locks.specs.declared.Part.{Part}
use Rattle.locks.specs.declared.Part.TheVariants.{NoPart, Holds}
use Rattle.locks.specs.Parts.{part_writes, part_reads}
use Rattle.paths.specs.declared.Place.{Place}
use Rattle.machine.specs.declared.Op.{Op}
use Rattle.machine.specs.declared.Side.{Side}
use Rattle.machine.specs.declared.Side.TheVariants.{First, Second}
use Rattle.machine.specs.declared.Walk.{Walk}
use Rattle.machine.specs.declared.Outcome.{Outcome}
use Rattle.machine.specs.declared.Stage.{Stage}
use Rattle.machine.specs.declared.Stage.TheVariants.{Take, Seek, SeekRoom, WriteHit, WriteRoom, Drop, Swing}
use Rattle.machine.specs.declared.Lane.{Lane}
use Rattle.machine.specs.declared.RowClaim.{RowClaim}
use Rattle.machine.specs.declared.SlotClaim.{SlotClaim}
use Rattle.machine.specs.declared.SlotClaim.TheVariants.{NoClaim, HasKey, HasPair, HasRoom}
use Rattle.machine.specs.declared.Claims.{Claims}
use Rattle.machine.specs.declared.Grip.{Grip}
use Rattle.machine.specs.Rules.{mode_of, row_on, shared_rows, drops_two, sought_row, writes_hit}
use Rattle.machine.specs.Claims.{grip, main_part, second_part, pass_grip, search_grip, both_rows, hit_rows, share, drop_claims, found_claims}
use Rattle.machine.specs.Stages.{stage_in, lane_in, grip_at, grip_of, claims_at, claims_of, item_at, task_in}
use Rattle.machine.specs.declared.Task.{Task}
use Rattle.machine.specs.declared.Lane.TheVariants.{Idle, Busy}

-- ---- what guards a claim

-- a part that holds the lock, for writing or for reading
abbrev pub part_holds : Part → ℕ
part_holds p = part_writes p + part_reads p

-- the grip has the row's lock
abbrev pub RowHeld : Sizes → Grip → ℕ → Type 0
RowHeld z g row = 1 ≤ share z part_holds g (lock_of z row)

abbrev pub ClaimHeld : Sizes → Grip → RowClaim → Type 0
ClaimHeld z g c = ((c.lacking ≡ 0) × (c.full ≡ 0)) ⊎ RowHeld z g c.row

abbrev pub SlotHeld : Sizes → Grip → SlotClaim → Type 0
SlotHeld z g NoClaim = Unit {0}
SlotHeld z g (HasKey row column) = RowHeld z g row
SlotHeld z g (HasPair row column value) = RowHeld z g row
SlotHeld z g (HasRoom row column) = RowHeld z g row

record AllHeld (z : Sizes) (g : Grip) (c : Claims) : Type 0 where
  one : ClaimHeld z g c.one
  two : ClaimHeld z g c.two
  slot : SlotHeld z g c.slot

-- the same of a lane
abbrev pub Guard : Sizes → Lane → Place → ℕ → Type 0
Guard z l last row = RowHeld z (grip_of z l last) row

abbrev pub SlotGuard : Sizes → Lane → Place → SlotClaim → Type 0
SlotGuard z l last c = SlotHeld z (grip_of z l last) c

-- ---- shares of a lock

-- two rows in locking order; the second has a part of its own where the locks differ
module _ (z : Sizes) (f : Part → ℕ) (a b : ℕ) (main p : Part) (c : Bool → Part) (hp : 1 ≤ f p) (hc : 1 ≤ f (c false)) where
  abbrev pair : Grip
  pair = grip main (lock_of z (lock_order z a b).first) p (lock_of z (lock_order z a b).second) (c (lock_order z a b).shared)

  shared_locks : (lock_order z a b).shared ≡ true → lock_of z (lock_order z a b).second ≡ lock_of z (lock_order z a b).first
  shared_locks e = grind (arith, order_rows, order_shared)

  pair_second : 1 ≤ share z f pair (lock_of z (lock_order z a b).second)
  pair_second = grind (arith, shared_locks)

  pair_a : 1 ≤ share z f pair (lock_of z a)
  pair_a = grind (arith, order_rows, pair_second)

  pair_b : 1 ≤ share z f pair (lock_of z b)
  pair_b = grind (arith, order_rows, pair_second)

-- ---- the parts of a lane at each stage

holds_one : (m : Mode) → 1 ≤ part_holds (Holds m)
holds_one m = grind arith

held_second : (z : Sizes) (l : Task) (c : Bool → Part) → c false ≡ Holds (mode_of l.op) → RowHeld z (pass_grip z l (Holds (mode_of l.op)) (c (shared_rows z l.key))) (row_on z l.key Second)
held_second z l c e =
    pair_second z part_holds (home_one z l.key) (home_two z l.key) (main_part l.op) (Holds (mode_of l.op)) c (holds_one (mode_of l.op)) (rw e (holds_one (mode_of l.op)))

module _ (z : Sizes) (l : Task) (last : Place) where
  both_first : RowHeld z (both_rows z l) (row_on z l.key First)
  both_first = grind arith

  both_second : RowHeld z (both_rows z l) (row_on z l.key Second)
  both_second = held_second z l (λ t. second_part t (Holds (mode_of l.op))) refl

  -- before the first release: the second row's part is there unless it was never taken or the lock is shared
  abbrev drop_grip : Outcome → Grip
  drop_grip o = pass_grip z l (Holds (mode_of l.op)) (cond (drops_two (shared_rows z l.key) o) (Holds (mode_of l.op)) NoPart)

  drop_first : (o : Outcome) → RowHeld z (drop_grip o) (row_on z l.key First)
  drop_first o = grind arith

  hit_held : (side : Side) → RowHeld z (hit_rows z l side) (row_on z l.key side)
  hit_held First = grind arith
  hit_held Second = both_second

  both_held : (side : Side) → RowHeld z (both_rows z l) (row_on z l.key side)
  both_held side = grind (arith, both_first, both_second)

  drop_held : (o : Outcome) → AllHeld z (drop_grip o) (drop_claims z l First o)
  drop_held o = grind (arith, drop_first, both_second)

  late_held : (o : Outcome) → drops_two (shared_rows z l.key) o ≡ true → AllHeld z (pass_grip z l NoPart (Holds (mode_of l.op))) (drop_claims z l Second o)
  late_held o e = grind arith

  found_held : (f : Option ℕ) → AllHeld z (search_grip z (sought_row z last f) (Holds Reading)) (found_claims z last f)
  found_held f = grind arith

  all_held : (s : Stage) → Each (stage_in z l last s) → AllHeld z (grip_at z l last s) (claims_at z l last s)
  unfolding item_at
  all_held (Take First g) h = grind arith
  all_held (Take Second g) h = grind arith
  all_held (Seek First column) h = grind arith
  all_held (Seek Second column) h = grind (arith, both_first, both_second)
  all_held (SeekRoom side column) h = grind (arith, both_first, both_second)
  all_held (WriteHit side column) h = grind (arith, hit_held)
  all_held (WriteRoom side column) h = grind (arith, both_first, both_second, both_held)
  all_held (Drop First o) h = drop_held o
  all_held (Drop Second o) h = late_held o h.0
  all_held s h = grind (arith, both_second, found_held)

-- ---- claims are guarded

lane_held : (z : Sizes) (l : Lane) (last : Place) → Each (lane_in z l last) → AllHeld z (grip_of z l last) (claims_of z l last)
lane_held z Idle last h = grind arith
lane_held z (Busy l) last h = all_held z l last l.stage h.1.1

pub guarded_one : (z : Sizes) (l : Lane) (last : Place) → Each (lane_in z l last) → ClaimHeld z (grip_of z l last) (claims_of z l last).one
guarded_one z l last h = (lane_held z l last h).one

pub guarded_two : (z : Sizes) (l : Lane) (last : Place) → Each (lane_in z l last) → ClaimHeld z (grip_of z l last) (claims_of z l last).two
guarded_two z l last h = (lane_held z l last h).two

pub guarded_slot : (z : Sizes) (l : Lane) (last : Place) → Each (lane_in z l last) → SlotGuard z l last (claims_of z l last).slot
guarded_slot z l last h = (lane_held z l last h).slot

-- ---- who stores holds the row for writing

hit_writes : (op : Op) → writes_hit op ≡ true → 1 ≤ part_writes (Holds (mode_of op))
hit_writes op e = grind arith

module _ (z : Sizes) (l : Task) (last : Place) where
  two_write : 1 ≤ part_writes (Holds (mode_of l.op)) → 1 ≤ share z part_writes (both_rows z l) (lock_of z (row_on z l.key Second))
  two_write h =
      pair_second z part_writes (home_one z l.key) (home_two z l.key) (main_part l.op) (Holds (mode_of l.op)) (λ t. second_part t (Holds (mode_of l.op))) h h

  hit_at : (side : Side) (column : ℕ) → Each (stage_in z l last (WriteHit side column)) → 1 ≤ share z part_writes (grip_at z l last (WriteHit side column)) (lock_of z (row_on z l.key side))
  unfolding item_at
  hit_at side column h = grind (arith, hit_writes, two_write)

  room_at : (side : Side) (column : ℕ) → Each (stage_in z l last (WriteRoom side column)) → 1 ≤ share z part_writes (grip_at z l last (WriteRoom side column)) (lock_of z (row_on z l.key side))
  unfolding item_at
  room_at side column h = grind (arith, two_write)

  from_at : (w : Walk) → 1 ≤ share z part_writes (grip_at z l last (Swing w)) (lock_of z last.row)
  unfolding item_at
  from_at w = pair_a z part_writes last.row w.row (Holds Writing) (Holds Writing) (λ t. second_part t (Holds Writing)) (omega arith) (omega arith)

  to_at : (w : Walk) → 1 ≤ share z part_writes (grip_at z l last (Swing w)) (lock_of z w.row)
  unfolding item_at
  to_at w = pair_b z part_writes last.row w.row (Holds Writing) (Holds Writing) (λ t. second_part t (Holds Writing)) (omega arith) (omega arith)

  pub store_hit : (side : Side) (column : ℕ) → l.stage ≡ WriteHit side column → Each (task_in z l last) → 1 ≤ share z part_writes (grip_of z (Busy l) last) (lock_of z (row_on z l.key side))
  store_hit side column e h = grind (arith, hit_at)

  pub store_room : (side : Side) (column : ℕ) → l.stage ≡ WriteRoom side column → Each (task_in z l last) → 1 ≤ share z part_writes (grip_of z (Busy l) last) (lock_of z (row_on z l.key side))
  store_room side column e h = grind (arith, room_at)

  pub swing_from : (w : Walk) → l.stage ≡ Swing w → Each (task_in z l last) → 1 ≤ share z part_writes (grip_of z (Busy l) last) (lock_of z last.row)
  swing_from w e h = grind (arith, from_at)

  pub swing_to : (w : Walk) → l.stage ≡ Swing w → Each (task_in z l last) → 1 ≤ share z part_writes (grip_of z (Busy l) last) (lock_of z w.row)
  swing_to w e h = grind (arith, to_at)
