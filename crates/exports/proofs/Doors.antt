-- The index of a slot that an opening names is small.
-- Assumes nothing.
use mathlib.Core.Path.{◌≡◌, ◌∙◌, refl, sym}
use mathlib.Core.Bool.{Bool, true, false}
use mathlib.Core.List.{List}
use Prim.Native.Nat.{ℕ, ◌≤◌}
use native.Mathlib.Omega.{arith}
use Rattle.std.specs.Prelude.{Err}
use Rattle.lists.proofs.Below.{Sought, found, nowhere, seek, first_stop}
use Rattle.places.specs.declared.Sizes.{Sizes}
use Rattle.places.specs.Table.{slot_count, max_slots}
use Rattle.places.proofs.Limits.{ok_fits, slots_few}
use Rattle.slots.specs.Slot.{slot_at}
use Rattle.slots.specs.declared.Fault.{Fault}
use Rattle.slots.specs.Sound.{fault_of, is_faulty, lowest_fault, sound, opening_fault}
use Rattle.machine.specs.declared.Refusal.TheVariants.{Unsound}
use Rattle.machine.specs.Standing.{Table}
use Rattle.machine.specs.Desk.{open_of, refusal_index, index_of}

lowest_few : (z : Sizes) (xs : List ℕ) → sound z xs ≡ false → lowest_fault z xs ≤ slot_count z
unfolding sound
lowest_few z xs e = go (seek (slot_count z) (is_faulty z xs))
  where
    go : Sought (slot_count z) (is_faulty z xs) → lowest_fault z xs ≤ slot_count z
    go (found i l n h) = rw (first_stop (is_faulty z xs) (slot_count z) i l n h) (omega arith)
    go (nowhere n) = absurd (let q : ◌≡◌ {A = Bool} true false = sym (rw n refl) ∙ e in let o : ◌≡◌ {A = ℕ} 0 1 = cc in omega arith)

-- a fault names the slot that it is of
fault_few : (z : Sizes) (xs : List ℕ) (i : ℕ) (f : Fault) → fault_of z xs i (slot_at xs i) ≡ Err f → refusal_index (Unsound f) ≡ i
unfolding fault_of
fault_few z xs i f e = grind arith

pub opening_index : (z : Sizes) (t : Table) → index_of (open_of z t).answer ≤ max_slots
unfolding open_of opening_fault
opening_index z t = grind (arith, lowest_few, slots_few, ok_fits, fault_few)
