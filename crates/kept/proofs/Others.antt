-- Who writes a row holds it alone, so the claims of the other lanes stand.
-- Assumes nothing.
use mathlib.Core.Path.{◌≡◌, ◌∙◌, sym, ap}
use mathlib.Core.Logic.{◌≢◌}
use mathlib.Core.Bool.{Bool, cond}
use Prim.Native.Nat.{ℕ, ◌+◌, ◌≤◌, ◌<◌, min}
use native.Mathlib.Omega.{arith}
use Rattle.lists.proofs.Below.{Each}
use Rattle.lists.proofs.Sums.{sum_at, sum_at_two}
use Rattle.places.specs.declared.Sizes.{Sizes}
use Rattle.places.specs.Table.{Fits, lock_of, slot_index, row_at}
use Rattle.places.proofs.Limits.{slot_row}
use Rattle.slots.specs.declared.Slot.{Slot}
use Rattle.slots.proofs.Views.{Sets}
use Rattle.locks.specs.declared.Lock.{Lock}
use Rattle.locks.specs.declared.Part.{Part}
use Rattle.locks.specs.Parts.{part_flag, part_writes, part_reads}
use Rattle.locks.proofs.Counts.{Counts}
use Rattle.paths.specs.declared.Place.{Place}
use Rattle.machine.specs.declared.Stage.{Stage}
use Rattle.machine.specs.declared.Lane.{Lane}
use Rattle.machine.specs.declared.RowClaim.{RowClaim}
use Rattle.machine.specs.declared.SlotClaim.{SlotClaim}
use Rattle.machine.specs.declared.SlotClaim.TheVariants.{NoClaim, HasKey, HasPair, HasRoom}
use Rattle.machine.specs.declared.Claims.{Claims}
use Rattle.machine.specs.declared.Grip.{Grip}
use Rattle.machine.specs.Claims.{share}
use Rattle.machine.specs.Stages.{stage_in, lane_in, grip_of, claims_at, claims_of, item_at, claim_key}
use Rattle.machine.proofs.Claimed.{Claimed}
use Rattle.kept.proofs.Facts.{last_for, parts}
use Rattle.machine.proofs.Guards.{part_holds, ClaimHeld, SlotHeld, guarded_one, guarded_two, guarded_slot}
use Rattle.machine.specs.declared.Task.{Task}
use Rattle.machine.specs.declared.Lane.TheVariants.{Idle, Busy}

-- ---- a writer is alone

-- a part that holds for writing has a part in the flag
writes_flag : (p : Part) → part_writes p ≤ part_flag p
writes_flag p = grind arith

on_sum : (b : Bool) (m n : ℕ) → cond b (m + n) 0 ≡ cond b m 0 + cond b n 0
on_sum b m n = grind arith

share_le : (z : Sizes) (g : Grip) (k : ℕ) → share z part_writes g k ≤ share z part_flag g k
share_le z g k = grind (arith, writes_flag)

pub share_sum : (z : Sizes) (g : Grip) (k : ℕ) → share z part_holds g k ≡ share z part_writes g k + share z part_reads g k
share_sum z g k = grind (arith, on_sum)

-- while lane i holds lock k for writing, no other lane holds it
pub alone : (z : Sizes) (w : ℕ → Lock) (σ : ℕ → Lane) (π : ℕ → Place) (i j k : ℕ) → ((k : ℕ) → k < z.locks + 1 → Counts z (w k) (λ f. parts z f σ π k)) → i < z.lanes → j < z.lanes → j ≢ i → k < z.locks + 1 → 1 ≤ share z part_writes (grip_of z (σ i) (last_for π (σ i))) k → share z part_holds (grip_of z (σ j) (last_for π (σ j))) k ≡ 0
alone z w σ π i j k counts hi hj d hk h =
    core (by part_writes i) (by part_flag i) (by part_writes j) (by part_reads j) (by part_flag j) (by part_holds j) (parts z part_flag σ π k) (parts z part_writes σ π k) (parts z part_reads σ π k)
    h (share_le z (grips i) k) (share_le z (grips j) k) (share_sum z (grips j) k) (sum_at_two z.lanes i j (by part_flag) hi hj (λ e. d (sym e))) (sum_at z.lanes i (by part_writes) hi) (sum_at z.lanes j (by part_reads) hj) (counts k hk).single (counts k hk).apart
  where
    grips : ℕ → Grip
    grips m = grip_of z (σ m) (last_for π (σ m))

    by : (Part → ℕ) → ℕ → ℕ
    by f m = share z f (grips m) k

    core : (wi fi wj rj fj hj f wr rd : ℕ) → 1 ≤ wi → wi ≤ fi → wj ≤ fj → hj ≡ wj + rj → fi + fj ≤ f → wi ≤ wr → rj ≤ rd → f ≤ 1 → min wr rd ≡ 0 → hj ≡ 0
    core wi fi wj rj fj hj f wr rd a b c d e g h m n = omega arith

-- ---- claims and the slots they speak of

-- two views agree on the columns that a row claim speaks of, and on the slot of a slot claim
pub record RowAgrees (z : Sizes) (v v' : ℕ → Slot) (c : RowClaim) : Type 0 where
  pub lacking : (i : ℕ) → i < c.lacking → v' (slot_index z c.row i) ≡ v (slot_index z c.row i)
  pub full : (i : ℕ) → i < c.full → v' (slot_index z c.row i) ≡ v (slot_index z c.row i)

abbrev pub SlotAgrees : Sizes → (ℕ → Slot) → (ℕ → Slot) → SlotClaim → Type 0
SlotAgrees z v v' NoClaim = Unit {0}
SlotAgrees z v v' (HasKey row column) = v' (slot_index z row column) ≡ v (slot_index z row column)
SlotAgrees z v v' (HasPair row column value) = v' (slot_index z row column) ≡ v (slot_index z row column)
SlotAgrees z v v' (HasRoom row column) = v' (slot_index z row column) ≡ v (slot_index z row column)

module _ (z : Sizes) (v v' : ℕ → Slot) (key : ℕ) where
  pub claimed_same : (c : Claims) → Claimed z v key c → RowAgrees z v v' c.one → RowAgrees z v v' c.two → SlotAgrees z v v' c.slot → Claimed z v' key c
  claimed_same c h a b s = grind arith

-- ---- claims keep within their rows

abbrev pub SlotNarrow : Sizes → SlotClaim → Type 0
SlotNarrow z NoClaim = Unit {0}
SlotNarrow z (HasKey row column) = column < z.columns
SlotNarrow z (HasPair row column value) = column < z.columns
SlotNarrow z (HasRoom row column) = column < z.columns

pub record Narrow (z : Sizes) (c : Claims) : Type 0 where
  pub lack_one : c.one.lacking ≤ z.columns
  pub full_one : c.one.full ≤ z.columns
  pub lack_two : c.two.lacking ≤ z.columns
  pub full_two : c.two.full ≤ z.columns
  pub slot : SlotNarrow z c.slot

module _ (z : Sizes) where
  module _ (l : Task) (last : Place) where
    stage_narrow : (s : Stage) → Each (stage_in z l last s) → Narrow z (claims_at z l last s)
    unfolding item_at
    stage_narrow s h = grind arith

  pub claims_narrow : (l : Lane) (last : Place) → Each (lane_in z l last) → Narrow z (claims_of z l last)
  claims_narrow Idle last h = grind arith
  claims_narrow (Busy l) last h = stage_narrow l last l.stage h.1.1

-- ---- the claims of others stand

-- v' differs from v only in one row, whose lock the lane does not hold
module _ (z : Sizes) (v v' : ℕ → Slot) (g : Grip) (row : ℕ) (n : share z part_holds g (lock_of z row) ≡ 0) (same : (r c : ℕ) → c < z.columns → r ≢ row → v' (slot_index z r c) ≡ v (slot_index z r c)) where
  row_agrees : (c : RowClaim) → ClaimHeld z g c → c.lacking ≤ z.columns → c.full ≤ z.columns → RowAgrees z v v' c
  row_agrees c h p q = grind arith

  slot_agrees : (c : SlotClaim) → SlotHeld z g c → SlotNarrow z c → SlotAgrees z v v' c
  slot_agrees c h p = grind arith

pub others_claims : (z : Sizes) → Fits z → (v v' : ℕ → Slot) (l : Lane) (last : Place) (row : ℕ) → row < z.rows → Each (lane_in z l last) → share z part_holds (grip_of z l last) (lock_of z row) ≡ 0 → ((r c : ℕ) → c < z.columns → r ≢ row → v' (slot_index z r c) ≡ v (slot_index z r c)) → Claimed z v (claim_key l) (claims_of z l last) → Claimed z v' (claim_key l) (claims_of z l last)
others_claims z f v v' l last row _ range n same h =
    claimed_same z v v' (claim_key l) (claims_of z l last) h
    (row_agrees z v v' (grip_of z l last) row n same (claims_of z l last).one (guarded_one z l last range) narrow.lack_one narrow.full_one)
    (row_agrees z v v' (grip_of z l last) row n same (claims_of z l last).two (guarded_two z l last range) narrow.lack_two narrow.full_two)
    (slot_agrees z v v' (grip_of z l last) row n same (claims_of z l last).slot (guarded_slot z l last range) narrow.slot)
  where
    narrow : Narrow z (claims_of z l last)
    narrow = claims_narrow z l last range

-- a store into one row leaves the slots of every other row as they were
pub sets_off : (z : Sizes) → Fits z → (v v' : ℕ → Slot) (row column : ℕ) (s : Slot) → row < z.rows → column < z.columns → Sets v v' (slot_index z row column) s → (r c : ℕ) → c < z.columns → r ≢ row → v' (slot_index z r c) ≡ v (slot_index z r c)
sets_off z f v v' row column s _ hc t r c h d =
    t.there (slot_index z r c) (λ e. d (sym (slot_row z f r c h) ∙ ap (row_at z) e ∙ slot_row z f row column hc))
