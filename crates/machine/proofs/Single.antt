-- Of a lane in range by itself: it has at most one part in a lock's count, and one with places on the path is an insert in its
-- first pass that holds main, with at most H+2 places.
-- Assumes nothing.
use mathlib.Core.Path.{◌≡◌, refl}
use mathlib.Core.Logic.{◌≢◌}
use mathlib.Core.Bool.{Bool, true, false, cond}
use Prim.Native.Nat.{ℕ, ◌+◌, ◌≤◌}
use native.Mathlib.Omega.{arith}
use borrow.Author.Tests.{eq-eqb}
use Rattle.lists.proofs.Below.{Each}
use Rattle.places.specs.declared.Sizes.{Sizes}
use Rattle.places.proofs.Locking.{order_locks}
use Rattle.locks.specs.declared.Grab.{Grab}
use Rattle.locks.specs.declared.Mode.TheVariants.{Writing}
use Rattle.locks.specs.declared.Part.{Part}
use Rattle.locks.specs.declared.Part.TheVariants.{NoPart, Holds}
use Rattle.locks.specs.Locks.{main_lock}
use Rattle.locks.specs.Parts.{part_count, part_writes}
use Rattle.locks.proofs.Measures.{mode_few, grab_few}
use Rattle.paths.specs.declared.Place.{Place}
use Rattle.paths.specs.Path.{path_places}
use Rattle.machine.specs.declared.Op.{Op}
use Rattle.machine.specs.declared.Outcome.{Outcome}
use Rattle.machine.specs.declared.Stage.{Stage}
use Rattle.machine.specs.declared.Lane.{Lane}
use Rattle.machine.specs.declared.Grip.{Grip}
use Rattle.machine.specs.Claims.{main_part, second_part, pass_grip, both_rows, on_lock, share, hit_rows}
use Rattle.machine.specs.Sides.{by_side, apart_at}
use Rattle.machine.specs.Rules.{mode_of, shared_rows, drops_two, is_first_pass}
use Rattle.machine.specs.Stages.{path_length, stage_in, lane_in, grip_at, grip_of, item_at, places_of, task_in}
use Rattle.machine.specs.declared.Task.{Task}
use Rattle.machine.specs.declared.Lane.TheVariants.{Idle, Busy}
use Rattle.machine.specs.declared.Side.{Side}
use Rattle.machine.specs.declared.Side.TheVariants.{First, Second}
use Rattle.locks.specs.declared.Part.TheVariants.{Tries}
use Rattle.machine.specs.declared.Stage.TheVariants.{Take, Seek, WriteHit, Drop}
use borrow.Author.Tests.{not-true}

-- ---- one part in the count

-- main is never held for reading
main_none : (op : Op) → part_count (main_part op) ≡ 0
main_none op = grind arith

second_none : (b : Bool) → part_count (second_part b (Holds Writing)) ≡ 0
second_none b = grind arith

pub on_le : (k lock n : ℕ) → on_lock k lock n ≤ n
on_le k lock n = grind arith

-- two parts in different locks
on_apart : (k x y a b : ℕ) → x ≢ y → a ≤ 1 → b ≤ 1 → on_lock k x a + on_lock k y b ≤ 1
on_apart k x y a b d p q = grind arith

module _ (z : Sizes) (k : ℕ) where
  -- at most one of the three parts counts
  few : (g : Grip) → part_count g.main + part_count g.one.part + part_count g.two.part ≤ 1 → share z part_count g k ≤ 1
  few g h = grind (arith, on_le)

  module _ (l : Task) where
    apart : (p q : Part) → part_count p ≤ 1 → part_count q ≤ 1 → shared_rows z l.key ≡ false → share z part_count (pass_grip z l p q) k ≤ 1
    apart p q a b e = grind (arith, order_locks, on_apart)

    one_only : (p : Part) → part_count p ≤ 1 → share z part_count (pass_grip z l p NoPart) k ≤ 1
    one_only p h = few (pass_grip z l p NoPart) (omega (arith, main_none l.op))

    -- the second row's part is there only where the rows do not share
    by_shared : (c : Bool → Part) → c true ≡ NoPart → part_count (c false) ≤ 1 → share z part_count (pass_grip z l (Holds (mode_of l.op)) (c (shared_rows z l.key))) k ≤ 1
    by_shared c e h = go (shared_rows z l.key) refl
      where
        go : (b : Bool) → shared_rows z l.key ≡ b → share z part_count (pass_grip z l (Holds (mode_of l.op)) (c b)) k ≤ 1
        go true q = rw e (one_only (Holds (mode_of l.op)) (mode_few (mode_of l.op)))
        go false q = apart (Holds (mode_of l.op)) (c false) (mode_few (mode_of l.op)) h q

    both_few : share z part_count (both_rows z l) k ≤ 1
    both_few = by_shared (λ b. second_part b (Holds (mode_of l.op))) refl (mode_few (mode_of l.op))

    drop_few : (o : Outcome) → share z part_count (pass_grip z l (Holds (mode_of l.op)) (cond (drops_two (shared_rows z l.key) o) (Holds (mode_of l.op)) NoPart)) k ≤ 1
    drop_few o = grind (arith, one_only, both_few)

    hit_few : (side : Side) → share z part_count (hit_rows z l side) k ≤ 1
    hit_few First = one_only (Holds (mode_of l.op)) (mode_few (mode_of l.op))
    hit_few Second = both_few

    -- of two rows one is held, and one that is being taken or released counts
    take_few : (side : Side) (g : Grab) → apart_at side (shared_rows z l.key) ≡ true → share z part_count (pass_grip z l (by_side side (Tries g) (Holds (mode_of l.op))) (by_side side NoPart (Tries g))) k ≤ 1
    take_few First g h = one_only (Tries g) (grab_few g)
    take_few Second g h = apart (Holds (mode_of l.op)) (Tries g) (mode_few (mode_of l.op)) (grab_few g) (not-true (shared_rows z l.key) h)

    count_at : (last : Place) (s : Stage) → Each (stage_in z l last s) → share z part_count (grip_at z l last s) k ≤ 1
    unfolding item_at
    count_at last (Take side g) h = take_few side g h.1.0
    count_at last (Seek side column) h = hit_few side
    count_at last (WriteHit side column) h = hit_few side
    count_at last (Drop First o) h = drop_few o
    count_at last s h = grind (arith, both_few, hit_few, take_few, drop_few, second_none, grab_few, mode_few, main_none, few)

pub count_one : (z : Sizes) (l : Lane) (last : Place) → Each (lane_in z l last) → (k : ℕ) → share z part_count (grip_of z l last) k ≤ 1
count_one z Idle last h k = grind arith
count_one z (Busy l) last h k = count_at z k l last l.stage h.1.1

-- ---- places on the path

module _ (z : Sizes) (l : Task) (last : Place) where
  first_at : (s : Stage) → Each (stage_in z l last s) → path_length s ≢ 0 → is_first_pass l.op ≡ true
  unfolding item_at
  first_at s h d = grind arith

  -- such a lane's part in main
  main_held : (s : Stage) → Each (stage_in z l last s) → path_length s ≢ 0 → (grip_at z l last s).main ≡ Holds Writing
  unfolding item_at
  main_held s h d = grind arith

  short_at : (s : Stage) → Each (stage_in z l last s) → path_length s ≤ path_places z
  unfolding item_at
  short_at s h = grind arith

main_writes : (z : Sizes) (g : Grip) → g.main ≡ Holds Writing → 1 ≤ share z part_writes g (main_lock z)
main_writes z g e = rw (e, eq-eqb (main_lock z) (main_lock z) refl) (omega arith)

pub path_main : (z : Sizes) (l : Lane) (last : Place) → Each (lane_in z l last) → places_of l ≢ 0 → 1 ≤ share z part_writes (grip_of z l last) (main_lock z)
path_main z Idle last h d = absurd (d refl)
path_main z (Busy l) last h d = main_writes z (grip_of z (Busy l) last) (main_held z l last l.stage h.1.1 d)

pub path_first : (z : Sizes) (l : Task) (last : Place) → Each (task_in z l last) → path_length l.stage ≢ 0 → is_first_pass l.op ≡ true
path_first z l last h d = first_at z l last l.stage h.1.1 d

pub path_short : (z : Sizes) (l : Lane) (last : Place) → Each (lane_in z l last) → places_of l ≤ path_places z
path_short z Idle last h = omega arith
path_short z (Busy l) last h = short_at z l last l.stage h.1.1
