-- Lent lists are as long as the sizes call for: as facts, and after every act.
-- Assumes nothing.
use mathlib.Core.Path.{◌≡◌, ◌∙◌, refl}
use mathlib.Core.Bool.{Bool, true, false, cond, ◌&&◌}
use mathlib.Core.List.{List, [], ◌∷◌}
use Prim.Native.Nat.{ℕ, ◌*◌}
use lib.Dec.{eqb}
use lib.ListN.{length}
use borrow.Author.Tests.{eqb-true, eq-eqb}
use Rattle.lists.proofs.Below.{Each, all_each, each_all}
use Rattle.places.specs.declared.Sizes.{Sizes}
use Rattle.places.specs.Table.{slot_index}
use Rattle.slots.specs.Slot.{slot_words, slot_at, with_slot, is_empty, empty_slot, has_key}
use Rattle.slots.proofs.Views.{slot_length}
use Rattle.locks.specs.Locks.{lock_words}
use Rattle.locks.proofs.Views.{lock_length}
use Rattle.paths.specs.declared.Place.{Place}
use Rattle.paths.specs.Path.{path_words, no_place}
use Rattle.paths.proofs.Views.{place_length, emptied_length}
use Rattle.machine.specs.declared.Act.{Act}
use Rattle.machine.specs.declared.Act.TheVariants.{Try, Release, Look, Store, PickOne, PickFrom, Move}
use Rattle.machine.specs.declared.Tail.{Tail}
use Rattle.machine.specs.declared.Tail.TheVariants.{Keep, TakeOff, Clear}
use Rattle.machine.specs.Steps.{Memory, perform, tailed, swung}
use Rattle.machine.specs.Standing.{Table}
use Rattle.machine.specs.Desk.{lengths_ok, memory_of}
use Rattle.machine.specs.Lane.{lane_words}

pub record Lengths (z : Sizes) (m : Memory) : Type 0 where
  pub slots : length m.slots ≡ slot_words z
  pub locks : length m.locks ≡ lock_words z
  pub path : length m.path ≡ path_words z

abbrev length_tests : Sizes → Table → List Bool
length_tests z t =
    eqb (length t.slots) (slot_words z) ∷ eqb (length t.locks) (lock_words z) ∷ eqb (length t.lanes) (lane_words z) ∷ eqb (length t.path) (path_words z) ∷ []

module _ (z : Sizes) (t : Table) where
  pub lengths_of : lengths_ok z t ≡ true → Lengths z (memory_of t)
  unfolding lengths_ok
  lengths_of e =
      let q : Each (length_tests z t) = all_each (length_tests z t) e in
      record { slots = eqb-true _ _ q.0; locks = eqb-true _ _ q.1.0; path = eqb-true _ _ q.1.1.1.0 }

  pub lanes_of : lengths_ok z t ≡ true → length t.lanes ≡ lane_words z
  unfolding lengths_ok
  lanes_of e = eqb-true _ _ (all_each (length_tests z t) e).1.1.0

  pub lengths_ok_lem : Lengths z (memory_of t) → length t.lanes ≡ lane_words z → lengths_ok z t ≡ true
  unfolding lengths_ok
  lengths_ok_lem l n = each_all (length_tests z t) (eq-eqb _ _ l.slots, (eq-eqb _ _ l.locks, (eq-eqb _ _ n, (eq-eqb _ _ l.path, tt))))

tail_length : (a : Tail) (ps : List ℕ) → length (tailed a ps) ≡ length ps
tail_length Keep ps = refl
tail_length (TakeOff i) ps = place_length ps i no_place
tail_length Clear ps = emptied_length ps

swung_length : (z : Sizes) (xs : List ℕ) (from : Place) (row column : ℕ) → length (swung z xs from row column) ≡ length xs
swung_length z xs from row column = go (has_key (slot_at xs i) from.key && is_empty (slot_at xs (slot_index z row column)))
  where
    i : ℕ
    i = slot_index z from.row from.column

    go : (b : Bool) → length (cond b (with_slot (with_slot xs i empty_slot) (slot_index z row column) (slot_at xs i)) xs) ≡ length xs
    go true = slot_length _ _ _ ∙ slot_length _ _ _
    go false = refl

-- no act changes a length
pub act_lengths : (z : Sizes) (a : Act) (byte : ℕ) (m : Memory) → Lengths z m → Lengths z (perform z a byte m).memory
unfolding perform
act_lengths z (Try k g) byte m h = record { slots = h.slots; locks = lock_length z _ _ _ ∙ h.locks; path = h.path }
act_lengths z (Release k mode tail) byte m h = record { slots = h.slots; locks = lock_length z _ _ _ ∙ h.locks; path = tail_length tail m.path ∙ h.path }
act_lengths z (Look row column) byte m h = h
act_lengths z (Store row column s) byte m h = record { slots = slot_length _ _ _ ∙ h.slots; locks = h.locks; path = h.path }
act_lengths z (PickOne one two) byte m h = record { slots = h.slots; locks = h.locks; path = place_length _ _ _ ∙ h.path }
act_lengths z (PickFrom row i) byte m h = record { slots = h.slots; locks = h.locks; path = place_length _ _ _ ∙ h.path }
act_lengths z (Move from row column) byte m h = record { slots = swung_length z m.slots from row column ∙ h.slots; locks = h.locks; path = h.path }
