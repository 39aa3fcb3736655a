-- What the write of a hit leaves in its slot: nothing after a delete, the insert's pair after an insert.
-- Assumes nothing.
use mathlib.Core.Path.{◌≡◌, ◌∙◌, ap}
use Prim.Native.Nat.{ℕ}
use Rattle.lists.specs.Records.{HasRecord}
use Rattle.places.specs.declared.Sizes.{Sizes}
use Rattle.places.specs.Table.{slot_index}
use Rattle.slots.specs.declared.Slot.{Slot}
use Rattle.slots.specs.Slot.{slot_numbers, slot_at, empty_slot, full_slot}
use Rattle.slots.proofs.Views.{slot_same}
use Rattle.paths.specs.declared.Place.{Place}
use Rattle.machine.specs.declared.Op.{Op}
use Rattle.machine.specs.declared.Op.TheVariants.{Delete, Insert, Again}
use Rattle.machine.specs.declared.Side.{Side}
use Rattle.machine.specs.declared.Stage.TheVariants.{WriteHit}
use Rattle.machine.specs.declared.Task.{Task}
use Rattle.machine.specs.Rules.{row_on, written}
use Rattle.machine.specs.Stages.{item_at, act_at}
use Rattle.machine.specs.Steps.{Memory, perform}

module _ (z : Sizes) (l : Task) (last : Place) (side : Side) (column byte : ℕ) (m : Memory) where
  abbrev pub hit_index : ℕ
  hit_index = slot_index z (row_on z l.key side) column

  -- the hit's slot after the write
  abbrev pub hit_left : Slot
  hit_left = slot_at (perform z (act_at z l last (WriteHit side column)) byte m).memory.slots hit_index

  module _ (h : HasRecord slot_numbers m.slots hit_index) where
    hit_left_lem : hit_left ≡ written l.op l.key l.value
    unfolding item_at perform
    hit_left_lem = slot_same m.slots hit_index (written l.op l.key l.value) h

    pub delete_empties : l.op ≡ Delete → hit_left ≡ empty_slot
    delete_empties e = hit_left_lem ∙ ap (λ (o : Op). written o l.key l.value) e

    pub insert_overwrites : l.op ≡ Insert → hit_left ≡ full_slot l.key l.value
    insert_overwrites e = hit_left_lem ∙ ap (λ (o : Op). written o l.key l.value) e

    pub again_overwrites : l.op ≡ Again → hit_left ≡ full_slot l.key l.value
    again_overwrites e = hit_left_lem ∙ ap (λ (o : Op). written o l.key l.value) e
