-- Where a record points past the end of the lent numbers, they are read as zeros.
-- Assumes nothing.
use mathlib.Core.Path.{◌≡◌, ◌∙◌, ap, refl, sym}
use mathlib.Core.List.{List}
use Prim.Native.Nat.{ℕ, ◌+◌, ◌-◌, ◌*◌, ◌≤◌, ◌<◌}
use native.Mathlib.Omega.{arith}
use lib.ListN.{length}
use borrow.Author.Tests.{ne_eqb}
use Rattle.lists.specs.Records.{cell}
use Rattle.lists.proofs.Records.{cell_past}
use Rattle.places.specs.declared.Sizes.{Sizes}
use Rattle.places.specs.Table.{slot_index, slot_count}
use Rattle.slots.specs.Slot.{slot_numbers, slot_words, slot_at, empty_slot}
use Rattle.paths.specs.declared.Place.{Place}
use Rattle.paths.specs.Path.{place_numbers, path_words, path_places, place_at, no_place, last_of}
use Rattle.machine.specs.declared.Lane.{Lane}
use Rattle.machine.specs.Stages.{places_of}

pub slot_past : (z : Sizes) (xs : List ℕ) (row column n : ℕ) → length xs ≡ slot_words z → n ≡ slot_count z → n ≤ row * z.columns + column → empty_slot ≡ slot_at xs (slot_index z row column)
unfolding slot_at slot_index
slot_past z xs row column n e en l =
    sym (λ i. record { mark = past 0 i; key = past 1 i; value = past 2 i })
  where
    past : (f : ℕ) → cell slot_numbers xs (row * z.columns + column) f ≡ 0
    past f = cell_past slot_numbers xs (slot_count z) (row * z.columns + column) f e (omega arith)

module _ (z : Sizes) (ps : List ℕ) (e : length ps ≡ path_words z) where
  pub place_past : (i count : ℕ) (p : Place) → count ≡ path_places z → count ≤ i → p ≡ no_place → p ≡ place_at ps i
  unfolding place_at
  place_past i count p en l ep = ep ∙ sym (λ j. record { row = past 0 j; column = past 1 j; key = past 2 j })
    where
      past : (f : ℕ) → cell place_numbers ps i f ≡ 0
      past f = cell_past place_numbers ps (path_places z) i f e (omega arith)

  last_few : (n : ℕ) (p : Place) → path_places z < n → p ≡ no_place → p ≡ last_of ps n
  unfolding last_of
  last_few n p l ep = rw (ne_eqb n 0 (λ q. omega arith)) (place_past (n - 1) (path_places z) p refl (omega arith) ep)

  -- the last of more places than there are
  pub last_past : (k : Lane) (n count : ℕ) (p : Place) → n ≡ places_of k → count ≡ path_places z → count < n → p ≡ no_place → p ≡ last_of ps (places_of k)
  last_past k n count p en ec l ep = last_few n p (omega arith) ep ∙ ap (last_of ps) en
