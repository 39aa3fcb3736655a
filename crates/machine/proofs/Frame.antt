-- What an accepted step may change: by its act, one lock, at most the two slots of a swing, one place of the path or all of it; and
-- of the lane records only its own. It goes on, or it ends and leaves an idle lane.
-- Assumes nothing.
use mathlib.Core.Path.{◌≡◌, refl, sym}
use mathlib.Core.Logic.{◌⊎◌, inl, inr, ◌≢◌}
use mathlib.Core.Bool.{false}
use Prim.Native.Nat.{ℕ}
use native.Mathlib.Omega.{arith}
use Rattle.std.specs.Prelude.{Some, None}
use Rattle.std.proofs.lemmas.Option.{none-some}
use Rattle.linear.specs.declared.End.{End}
use Rattle.places.specs.declared.Sizes.{Sizes}
use Rattle.places.specs.Table.{slot_index}
use Rattle.slots.specs.Slot.{slot_at}
use Rattle.slots.proofs.Views.{slot_other}
use Rattle.locks.specs.Locks.{lock_at}
use Rattle.locks.proofs.Views.{lock_other}
use Rattle.paths.specs.declared.Place.{Place}
use Rattle.paths.specs.Path.{place_at}
use Rattle.paths.proofs.Views.{place_other}
use Rattle.machine.specs.declared.Outcome.{Outcome}
use Rattle.machine.specs.declared.Stage.{Stage}
use Rattle.machine.specs.declared.Task.{Task}
use Rattle.machine.specs.declared.Seen.{Seen}
use Rattle.machine.specs.declared.Moved.{Moved}
use Rattle.machine.specs.declared.Act.{Act}
use Rattle.machine.specs.declared.Act.TheVariants.{Try, Release, Look, Store, PickOne, PickFrom, Move}
use Rattle.machine.specs.declared.Tail.TheVariants.{Keep, TakeOff, Clear}
use Rattle.machine.specs.Stages.{is_idle}
use Rattle.machine.specs.Steps.{Memory, perform}
use Rattle.machine.proofs.Ways.{Leaves, leaves_hit, leaves_ended, leaves_miss, Swings, Goes, drops_one, drops_two_lem, drops_main, drops_last}
use Rattle.machine.specs.declared.Lane.TheVariants.{Idle}

module _ (z : Sizes) (byte : ℕ) (m : Memory) where
  -- locks: only the one that the act names
  abbrev pub SameLock : Act → ℕ → Type 0
  SameLock a k = lock_at z (perform z a byte m).memory.locks k ≡ lock_at z m.locks k

  abbrev pub NotTaken : Act → ℕ → Type 0
  NotTaken (Try i g) k = k ≢ i
  NotTaken (Release i mode tail) k = k ≢ i
  NotTaken (Look row column) k = Unit {0}
  NotTaken (Store row column s) k = Unit {0}
  NotTaken (PickOne one two) k = Unit {0}
  NotTaken (PickFrom row i) k = Unit {0}
  NotTaken (Move from row column) k = Unit {0}

  pub locks_framed : (a : Act) (k : ℕ) → NotTaken a k → SameLock a k
  unfolding perform
  locks_framed a k d = grind (arith, lock_other)

  -- slots: only the one stored, or the two of a swing
  abbrev pub NotStored : Act → ℕ → Type 0
  NotStored (Try i g) k = Unit {0}
  NotStored (Release i mode tail) k = Unit {0}
  NotStored (Look row column) k = Unit {0}
  NotStored (Store row column s) k = k ≢ slot_index z row column
  NotStored (PickOne one two) k = Unit {0}
  NotStored (PickFrom row i) k = Unit {0}
  NotStored (Move from row column) k = (k ≢ slot_index z from.row from.column) × (k ≢ slot_index z row column)

  pub slots_framed : (a : Act) (k : ℕ) → NotStored a k → slot_at (perform z a byte m).memory.slots k ≡ slot_at m.slots k
  unfolding perform
  slots_framed a k d = grind (arith, slot_other)

  -- the path: only the place put on it or taken off, unless main's release empties it. That the lane then holds main is `main_at`
  abbrev pub NotPlaced : Act → ℕ → Type 0
  NotPlaced (Try i g) k = Unit {0}
  NotPlaced (Release i mode Keep) k = Unit {0}
  NotPlaced (Release i mode (TakeOff n)) k = k ≢ n
  NotPlaced (Release i mode Clear) k = ⊥
  NotPlaced (Look row column) k = Unit {0}
  NotPlaced (Store row column s) k = Unit {0}
  NotPlaced (PickOne one two) k = k ≢ 0
  NotPlaced (PickFrom row i) k = k ≢ i
  NotPlaced (Move from row column) k = Unit {0}

  pub path_framed : (a : Act) (k : ℕ) → NotPlaced a k → place_at (perform z a byte m).memory.path k ≡ place_at m.path k
  unfolding perform
  path_framed a k d = grind (arith, place_other)

-- ---- it goes on, or it ends

abbrev pub Answers : Moved → Type 0
Answers m = ((m.answer ≡ None) × (is_idle m.lane ≡ false)) ⊎ ((m.answer ≢ None) × (m.lane ≡ Idle))

ended : (e : End) → Some e ≢ None
ended e h = none-some e (sym h)

module _ (z : Sizes) (l : Task) where
  leaves_answer : (o : Outcome) (m : Moved) → Leaves z l o m → Answers m
  leaves_answer o m leaves_hit = inr (ended _, refl)
  leaves_answer o m (leaves_ended e) = inr (ended _, refl)
  leaves_answer o m leaves_miss = inr (ended _, refl)
  leaves_answer o m p = inl (refl, refl)

module _ (z : Sizes) (l : Task) (last : Place) (seen : Seen) where
  swings_answer : (left : ℕ) (m : Moved) → Swings z l last left m → Answers m
  swings_answer left m h = grind arith

  pub answers : (s : Stage) (m : Moved) → Goes z l last seen s m → Answers m
  answers s m (drops_one {o} {m = n} e p) = leaves_answer z l o n p
  answers s m (drops_two_lem {o} {m = n} p) = leaves_answer z l o n p
  answers s m (drops_main {e}) = inr (ended _, refl)
  answers s m (drops_last {w = u} {m = n} e p) = swings_answer _ n p
  answers s m w = inl (refl, refl)
