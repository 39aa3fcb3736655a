-- What an act does to the lent memory, by the act: one lock word at most, at most the two slots of a swing, and the path.
-- Assumes nothing.
use mathlib.Core.Path.{◌≡◌, refl}
use mathlib.Core.Logic.{◌≢◌}
use Prim.Native.Nat.{ℕ, ◌+◌, ◌<◌}
use native.Mathlib.Omega.{arith}
use Rattle.places.specs.declared.Sizes.{Sizes}
use Rattle.places.specs.Table.{Fits, slot_index}
use Rattle.slots.specs.declared.Slot.{Slot}
use Rattle.locks.specs.declared.Mode.{Mode}
use Rattle.locks.specs.declared.Grab.{Grab}
use Rattle.locks.specs.declared.Part.TheVariants.{NoPart, Tries, Holds}
use Rattle.paths.specs.declared.Place.{Place}
use Rattle.machine.specs.Steps.{Memory, perform}
use Prim.Native.Nat.{◌*◌}
use lib.ListN.{length}
use mathlib.Core.List.{List}
use Rattle.lists.specs.Records.{HasRecord}
use Rattle.places.proofs.Limits.{slot_in_lem}
use Rattle.slots.specs.Slot.{slot_numbers, slot_at}
use Rattle.slots.proofs.Views.{Sets, store_sets}
use Rattle.locks.specs.Locks.{lock_words, lock_at, with_lock}
use Rattle.locks.proofs.Record.{in_mode}
use Rattle.locks.proofs.Views.{lock_same, lock_other}
use Rattle.locks.specs.Taking.{try_lock, released, grab_mode}
use Rattle.locks.specs.Parts.{part_after}
use Rattle.locks.proofs.Counts.{Turned, same_word, tried_word, freed_word}
use Rattle.machine.proofs.Shift.{Touch, touch, untouched}
use Rattle.machine.proofs.Swaps.{Swaps, swap_slots}
use Rattle.kept.proofs.Long.{Lengths}
use Rattle.machine.specs.declared.Act.{Act}
use Rattle.machine.specs.declared.Act.TheVariants.{Try, Release, Look, Store, PickOne, PickFrom, Move}
use Rattle.kept.proofs.Fitting.{ActFits}
use Rattle.machine.proofs.Shift.{touch_of}

-- ---- locks: no word but the touched lock's changes, and that one as its part does

pub record LocksDo (z : Sizes) (ls ls' : List ℕ) (t : Touch) : Type 0 where
  pub off : (k : ℕ) → k ≢ t.lock → lock_at z ls' k ≡ lock_at z ls k
  pub on : (k : ℕ) → k < z.locks + 1 → k ≡ t.lock → Turned z t.before t.after (lock_at z ls k) (lock_at z ls' k)

module _ (z : Sizes) (ls : List ℕ) where
  locks_stay : LocksDo z ls ls untouched
  locks_stay = record { off = λ k d. refl; on = λ k h e. same_word refl refl }

  locks_tried : (k : ℕ) (g : Grab) → length ls ≡ lock_words z → LocksDo z ls (with_lock z ls k (try_lock z g (lock_at z ls k)).lock) (touch k (Tries g) (part_after (grab_mode g) (try_lock z g (lock_at z ls k)).tried))
  locks_tried k g e = grind (arith, lock_other, tried_word, lock_same)

  locks_freed : (k : ℕ) (m : Mode) → length ls ≡ lock_words z → LocksDo z ls (with_lock z ls k (released z m (lock_at z ls k))) (touch k (Holds m) NoPart)
  locks_freed k m e = grind (arith, lock_other, freed_word, lock_same)

module _ (z : Sizes) (byte : ℕ) (mem : Memory) (len : Lengths z mem) where
  pub locks_do : (a : Act) → LocksDo z mem.locks (perform z a byte mem).memory.locks (touch_of (perform z a byte mem).seen a)
  unfolding perform
  locks_do (Try k g) = locks_tried z mem.locks k g len.locks
  locks_do (Release k mode tail) = locks_freed z mem.locks k mode len.locks
  locks_do a = locks_stay z mem.locks

-- ---- slots: one slot of a write, the two of a swing that moves, and no other

abbrev pub Quiet : (ℕ → Slot) → (ℕ → Slot) → Type 0
Quiet v v' = (j : ℕ) → v' j ≡ v j

abbrev pub SlotsDo : Sizes → (ℕ → Slot) → (ℕ → Slot) → Act → Type 0
SlotsDo z v v' (Try k g) = Quiet v v'
SlotsDo z v v' (Release k mode tail) = Quiet v v'
SlotsDo z v v' (Look row c) = Quiet v v'
SlotsDo z v v' (Store row c s) = Sets v v' (slot_index z row c) s
SlotsDo z v v' (PickOne one two) = Quiet v v'
SlotsDo z v v' (PickFrom row i) = Quiet v v'
SlotsDo z v v' (Move from row c) = Swaps z v v' from row c

module _ (z : Sizes) (f : Fits z) (last : Place) (n byte : ℕ) (mem : Memory) (len : Lengths z mem) where
  pub slots_do : (a : Act) → ActFits z (slot_at mem.slots) last n a → SlotsDo z (slot_at mem.slots) (slot_at (perform z a byte mem).memory.slots) a
  unfolding perform
  slots_do (Store row c s) h = store_sets mem.slots (slot_index z row c) s (omega (arith, slot_in_lem z f row c h.0 h.1, len.slots))
  slots_do (Move from row c) h =
      swap_slots z mem.slots from row c len.slots (slot_in_lem z f from.row from.column h.0.row_in h.0.column_in) (slot_in_lem z f row c h.1.0 h.1.1)
  slots_do a h = λ j. refl
