-- What the writing steps do to the slots: they stay sound, one key is bound anew or none is, and no other lane's claims break.
-- Assumes nothing.
use mathlib.Core.Path.{◌≡◌, ◌∙◌, subst}
use mathlib.Core.Logic.{◌⊎◌, inl, inr}
use mathlib.Core.Bool.{true, false≢true}
use Prim.Native.Nat.{ℕ, ◌≤◌, ◌<◌}
use mathlib.Core.Logic.{◌⊎◌, inl, inr}
use mathlib.Core.Bool.{true, false≢true, cond}
use Prim.Native.Nat.{ℕ, ◌≤◌, ◌<◌}
use borrow.Author.Tests.{eqb-true}
use Rattle.std.specs.Prelude.{Option, None, Some}
use Rattle.lists.proofs.Below.{Each}
use Rattle.places.specs.declared.Sizes.{Sizes}
use Rattle.places.specs.Table.{Fits, lock_of, max_key, slot_index}
use Rattle.slots.specs.declared.Slot.{Slot}
use Rattle.slots.specs.Slot.{is_empty, has_key}
use Rattle.paths.specs.declared.Place.{Place}
use Rattle.paths.specs.Path.{other_row}
use Rattle.machine.specs.declared.Op.{Op}
use Rattle.machine.specs.declared.Op.TheVariants.{Read, Delete, Insert, Again}
use Rattle.machine.specs.declared.Side.{Side}
use Rattle.machine.specs.declared.Side.TheVariants.{First, Second}
use Rattle.machine.specs.declared.Walk.{Walk}
use Rattle.machine.specs.declared.Task.{Task}
use Rattle.machine.specs.declared.SlotClaim.{SlotClaim}
use Rattle.machine.specs.declared.SlotClaim.TheVariants.{NoClaim, HasKey, HasPair, HasRoom}
use Rattle.machine.specs.Claims.{share}
use Rattle.machine.specs.Rules.{is_insert, row_on, writes_hit, written}
use Rattle.machine.specs.Stages.{claim_key, grip_of, claims_of, lane_in}
use Rattle.places.specs.Table.{home_one, home_two, slot_count, row_at}
use Rattle.places.specs.Locking.{rows_of}
use Rattle.places.proofs.Limits.{slot_in_lem, slot_row}
use Rattle.places.proofs.Homes.{homes}
use Rattle.places.proofs.Locking.{order_rows}
use Rattle.slots.specs.Slot.{empty_slot, full_slot}
use Rattle.slots.proofs.Views.{Sets}
use Rattle.slots.proofs.Facts.{SoundSlots, has_key_full, has_key_is}
use Rattle.slots.proofs.Bindings.{Stored, Moved as PairMoved, emptied, overwritten, filled, moved}
use Rattle.slots.proofs.Rows.{Lacks, stands_nowhere}
use Rattle.paths.proofs.Other.{other_in, other_home}
use Rattle.machine.proofs.Claimed.{Claimed}
use Rattle.kept.proofs.Facts.{PlaceFacts}
use Rattle.machine.proofs.Guards.{part_holds}
use Rattle.kept.proofs.Others.{SlotAgrees, claimed_same, others_claims, sets_off}
use Rattle.machine.specs.declared.Lane.{Lane}

-- ---- the rows of a key

module _ (z : Sizes) (f : Fits z) (key : ℕ) where
  pub row_home : (side : Side) → (row_on z key side ≡ home_one z key) ⊎ (row_on z key side ≡ home_two z key)
  row_home First = go (order_rows z (home_one z key) (home_two z key))
    where
      go : (((rows_of z key).first ≡ home_one z key) × ((rows_of z key).second ≡ home_two z key)) ⊎ (((rows_of z key).first ≡ home_two z key) × ((rows_of z key).second ≡ home_one z key)) → ((rows_of z key).first ≡ home_one z key) ⊎ ((rows_of z key).first ≡ home_two z key)
      go (inl e) = inl e.0
      go (inr e) = inr e.0
  row_home Second = go (order_rows z (home_one z key) (home_two z key))
    where
      go : (((rows_of z key).first ≡ home_one z key) × ((rows_of z key).second ≡ home_two z key)) ⊎ (((rows_of z key).first ≡ home_two z key) × ((rows_of z key).second ≡ home_one z key)) → ((rows_of z key).second ≡ home_one z key) ⊎ ((rows_of z key).second ≡ home_two z key)
      go (inl e) = inr e.1
      go (inr e) = inl e.1

  pub row_in_lem : (side : Side) → row_on z key side < z.rows
  row_in_lem side = go (row_home side)
    where
      go : (row_on z key side ≡ home_one z key) ⊎ (row_on z key side ≡ home_two z key) → row_on z key side < z.rows
      go (inl e) = rw e ((homes z f).one_in key)
      go (inr e) = rw e ((homes z f).two_in key)

  -- what holds of both rows in locking order holds of both home rows
  pub at_homes : (P : ℕ → Type 0) → P (row_on z key First) → P (row_on z key Second) → P (home_one z key) × P (home_two z key)
  at_homes P a b = go (order_rows z (home_one z key) (home_two z key))
    where
      go : (((rows_of z key).first ≡ home_one z key) × ((rows_of z key).second ≡ home_two z key)) ⊎ (((rows_of z key).first ≡ home_two z key) × ((rows_of z key).second ≡ home_one z key)) → P (home_one z key) × P (home_two z key)
      go (inl e) = (subst P e.0 a, subst P e.1 b)
      go (inr e) = (subst P e.1 b, subst P e.0 a)

-- ---- the writing steps

-- what a hit's write binds its key to
abbrev pub binds_to : Op → ℕ → Option ℕ
binds_to op value = cond (is_insert op) (Some value) None

abbrev pub StoredIn : Sizes → (ℕ → Slot) → (ℕ → Slot) → ℕ → Option ℕ → Type 0
StoredIn z v v' key b = Stored (slot_count z) (row_at z) (home_one z) (home_two z) v v' key b

abbrev pub MovedIn : Sizes → (ℕ → Slot) → (ℕ → Slot) → Type 0
MovedIn z v v' = PairMoved (slot_count z) (row_at z) (home_one z) (home_two z) v v'

-- a slot that holds a key is that pair
pub pair_of : (s : Slot) (key : ℕ) → has_key s key ≡ true → s ≡ full_slot key s.value
pair_of s key h =
    let a : s.mark ≡ 1 = eqb-true s.mark 1 (has_key_full s key h) in
    let b : s.key ≡ key = has_key_is s key h in
    λ t. record { mark = a t; key = b t; value = s.value }

module _ (z : Sizes) (f : Fits z) (v v' : ℕ → Slot) (sv : SoundSlots z v) where
  module _ (l : Task) (side : Side) (c : ℕ) (lc : c < z.columns) where
    abbrev Spot : ℕ
    Spot = slot_index z (row_on z l.key side) c

    spot_in : slot_index z (row_on z l.key side) c < slot_count z
    spot_in = slot_in_lem z f (row_on z l.key side) c (row_in_lem z f l.key side) lc

    spot_home : (row_at z (slot_index z (row_on z l.key side) c) ≡ home_one z l.key) ⊎ (row_at z (slot_index z (row_on z l.key side) c) ≡ home_two z l.key)
    spot_home = rw (slot_row z f (row_on z l.key side) c lc) (row_home z f l.key side)

    pub hit_stored : writes_hit l.op ≡ true → has_key (v (slot_index z (row_on z l.key side) c)) l.key ≡ true → Sets v v' (slot_index z (row_on z l.key side) c) (written l.op l.key l.value) → StoredIn z v v' l.key (binds_to l.op l.value)
    hit_stored = go l.op
      where
        go : (op : Op) → writes_hit op ≡ true → has_key (v Spot) l.key ≡ true → Sets v v' Spot (written op l.key l.value) → StoredIn z v v' l.key (binds_to op l.value)
        go Read e h t = absurd (false≢true e)
        go Delete e h t = emptied (slot_count z) (row_at z) (home_one z) (home_two z) v v' Spot l.key spot_in sv h t
        go Insert e h t = overwritten (slot_count z) (row_at z) (home_one z) (home_two z) v v' Spot l.key spot_in sv l.value t h
        go Again e h t = overwritten (slot_count z) (row_at z) (home_one z) (home_two z) v v' Spot l.key spot_in sv l.value t h

    pub room_stored : l.key ≤ max_key → is_empty (v (slot_index z (row_on z l.key side) c)) ≡ true → Lacks z v (row_on z l.key First) l.key → Lacks z v (row_on z l.key Second) l.key → Sets v v' (slot_index z (row_on z l.key side) c) (full_slot l.key l.value) → StoredIn z v v' l.key (Some l.value)
    room_stored small e a b t =
        let k : (Lacks z v (home_one z l.key) l.key) × (Lacks z v (home_two z l.key) l.key) = at_homes z f l.key (λ row. Lacks z v row l.key) a b in
        filled (slot_count z) (row_at z) (home_one z) (home_two z) v v' Spot l.key spot_in sv l.value t e small spot_home
        (stands_nowhere z f (home_one z) (home_two z) v sv l.key k.0 k.1)

  -- the pair at the last place moves to the free place, in its key's other row
  pub swing_moved : (last : Place) (w : Walk) (v₁ : ℕ → Slot) → PlaceFacts z last → w.row ≡ other_row z last → w.column < z.columns → has_key (v (slot_index z last.row last.column)) last.key ≡ true → is_empty (v (slot_index z w.row w.column)) ≡ true → Sets v v₁ (slot_index z last.row last.column) empty_slot → Sets v₁ v' (slot_index z w.row w.column) (v (slot_index z last.row last.column)) → MovedIn z v v'
  swing_moved last w v₁ p er lc h e t u =
      moved (slot_count z) (row_at z) (home_one z) (home_two z) v v₁ v' (slot_index z last.row last.column) (slot_index z w.row w.column) last.key
      (slot_in_lem z f last.row last.column p.row_in p.column_in) (slot_in_lem z f w.row w.column (rw er (other_in z f last)) lc) sv h e home t
      (record { here = u.here ∙ pair_of (v (slot_index z last.row last.column)) last.key h; there = u.there })
    where
      home : (row_at z (slot_index z w.row w.column) ≡ home_one z last.key) ⊎ (row_at z (slot_index z w.row w.column) ≡ home_two z last.key)
      home = rw (slot_row z f w.row w.column lc, er) (other_home z f last)

-- ---- the claims of another lane, that holds none of the rows written

module _ (z : Sizes) (f : Fits z) (v : ℕ → Slot) (j : Lane) (last : Place) (r : Each (lane_in z j last)) where
  pub claims_quiet : (v' : ℕ → Slot) → ((i : ℕ) → v' i ≡ v i) → Claimed z v (claim_key j) (claims_of z j last) → Claimed z v' (claim_key j) (claims_of z j last)
  claims_quiet v' same h =
      claimed_same z v v' (claim_key j) (claims_of z j last) h (record { lacking = λ i l. same _; full = λ i l. same _ }) (record { lacking = λ i l. same _; full = λ i l. same _ }) (at (claims_of z j last).slot)
    where
      at : (s : SlotClaim) → SlotAgrees z v v' s
      at NoClaim = tt
      at (HasKey row column) = same (slot_index z row column)
      at (HasPair row column value) = same (slot_index z row column)
      at (HasRoom row column) = same (slot_index z row column)

  pub claims_stored : (v' : ℕ → Slot) (row c : ℕ) (s : Slot) → row < z.rows → c < z.columns → share z part_holds (grip_of z j last) (lock_of z row) ≡ 0 → Sets v v' (slot_index z row c) s → Claimed z v (claim_key j) (claims_of z j last) → Claimed z v' (claim_key j) (claims_of z j last)
  claims_stored v' row c s lr lc free t h =
      others_claims z f v v' j last row lr r free (sets_off z f v v' row c s lr lc t) h
