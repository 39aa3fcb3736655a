-- What a lane claims of the slots, as facts.
-- Assumes nothing.
use mathlib.Core.Path.{◌≡◌}
use mathlib.Core.Bool.{true, false}
use Prim.Native.Nat.{ℕ, ◌<◌}
use Rattle.places.specs.declared.Sizes.{Sizes}
use Rattle.places.specs.Table.{slot_index}
use Rattle.slots.specs.declared.Slot.{Slot}
use Rattle.slots.specs.Slot.{is_full, is_empty, has_key}
use Rattle.machine.specs.declared.RowClaim.{RowClaim}
use Rattle.machine.specs.declared.SlotClaim.{SlotClaim}
use Rattle.machine.specs.declared.SlotClaim.TheVariants.{NoClaim, HasKey, HasPair, HasRoom}
use Rattle.machine.specs.declared.Claims.{Claims}

pub record RowClaimed (z : Sizes) (v : ℕ → Slot) (key : ℕ) (c : RowClaim) : Type 0 where
  pub lacks : (i : ℕ) → i < c.lacking → has_key (v (slot_index z c.row i)) key ≡ false
  pub fulls : (i : ℕ) → i < c.full → is_full (v (slot_index z c.row i)) ≡ true

abbrev pub SlotClaimed : Sizes → (ℕ → Slot) → ℕ → SlotClaim → Type 0
SlotClaimed z v key NoClaim = Unit {0}
SlotClaimed z v key (HasKey row column) = has_key (v (slot_index z row column)) key ≡ true
SlotClaimed z v key (HasPair row column value) = (has_key (v (slot_index z row column)) key ≡ true) × ((v (slot_index z row column)).value ≡ value)
SlotClaimed z v key (HasRoom row column) = is_empty (v (slot_index z row column)) ≡ true

pub record Claimed (z : Sizes) (v : ℕ → Slot) (key : ℕ) (c : Claims) : Type 0 where
  pub one : RowClaimed z v key c.one
  pub two : RowClaimed z v key c.two
  pub slot : SlotClaimed z v key c.slot
