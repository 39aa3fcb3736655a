-- What a swing does to the slots: it moves the pair as it stands, or it skips and changes nothing.
-- Assumes nothing.
use mathlib.Core.Path.{◌≡◌, refl}
use mathlib.Core.List.{List}
use mathlib.Core.Bool.{Bool, true, false, cond, ◌&&◌}
use Prim.Native.Nat.{ℕ, ◌<◌}
use native.Mathlib.Omega.{arith}
use lib.ListN.{length}
use Rattle.places.specs.declared.Sizes.{Sizes}
use Rattle.places.specs.Table.{slot_index, slot_count}
use Rattle.slots.specs.declared.Slot.{Slot}
use Rattle.slots.specs.Slot.{slot_words, slot_at, with_slot, is_empty, empty_slot, has_key}
use Rattle.slots.proofs.Views.{Sets, store_sets, slot_length}
use Rattle.paths.specs.declared.Place.{Place}
use Rattle.machine.specs.Steps.{swung}

pub data Swaps (z : Sizes) (v v' : ℕ → Slot) (last : Place) (row column : ℕ) : Type 0 where
  moves : (v₁ : ℕ → Slot) → has_key (v (slot_index z last.row last.column)) last.key ≡ true → is_empty (v (slot_index z row column)) ≡ true → Sets v v₁ (slot_index z last.row last.column) empty_slot → Sets v₁ v' (slot_index z row column) (v (slot_index z last.row last.column)) → Swaps z v v' last row column
  skips : has_key (v (slot_index z last.row last.column)) last.key && is_empty (v (slot_index z row column)) ≡ false → ((j : ℕ) → v' j ≡ v j) → Swaps z v v' last row column

pub swap_slots : (z : Sizes) (xs : List ℕ) (last : Place) (row column : ℕ) → length xs ≡ slot_words z → slot_index z last.row last.column < slot_count z → slot_index z row column < slot_count z → Swaps z (slot_at xs) (slot_at (swung z xs last row column)) last row column
swap_slots z xs last row column e a b = go (has_key (slot_at xs i) last.key) (is_empty (slot_at xs j)) refl refl
  where
    i : ℕ
    i = slot_index z last.row last.column

    j : ℕ
    j = slot_index z row column

    go : (p q : Bool) → has_key (slot_at xs i) last.key ≡ p → is_empty (slot_at xs j) ≡ q → Swaps z (slot_at xs) (slot_at (cond (p && q) (with_slot (with_slot xs i empty_slot) j (slot_at xs i)) xs)) last row column
    go true true h k =
        moves (slot_at (with_slot xs i empty_slot)) h k (store_sets xs i empty_slot (omega arith))
        (store_sets (with_slot xs i empty_slot) j (slot_at xs i) (omega (arith, slot_length xs i empty_slot)))
    go true false h k = skips (rw (h, k)) (λ m. refl)
    go false q h k = skips (rw h) (λ m. refl)
