-- A step keeps every fact of the standing check: locks, range, claims, soundness and path, put together.
-- Assumes nothing.
use mathlib.Core.Path.{◌≡◌}
use mathlib.Core.Logic.{◌≢◌}
use Prim.Native.Nat.{ℕ, ◌≤◌, ◌<◌}
use native.Mathlib.Omega.{arith}
use borrow.Author.Tests.{eqb-true, ltb-true, leb-true}
use Rattle.lists.proofs.Below.{Each}
use Rattle.places.specs.declared.Sizes.{Sizes}
use Rattle.places.specs.Table.{Fits, lock_of, max_key, slot_index}
use Rattle.slots.specs.declared.Slot.{Slot}
use Rattle.slots.specs.Slot.{has_key}
use Rattle.paths.specs.declared.Place.{Place}
use Rattle.paths.specs.Path.{other_row}
use Rattle.machine.specs.declared.Side.{Side}
use Rattle.machine.specs.declared.Walk.{Walk}
use Rattle.machine.specs.declared.Stage.{Stage}
use Rattle.machine.specs.declared.Stage.TheVariants.{WriteHit, WriteRoom, Swing}
use Rattle.machine.specs.declared.Lane.{Lane}
use Rattle.machine.specs.declared.Seen.{Seen}
use Rattle.machine.specs.declared.Moved.{Moved}
use Rattle.machine.specs.Rules.{row_on, written}
use Rattle.machine.specs.Claims.{share}
use Rattle.machine.specs.Stages.{claim_key, item_at, act_at, path_length, grip_of, claims_at, claims_of, stage_in, task_in, lane_in}
use Rattle.machine.proofs.Ways.{Goes, wrote_hit, wrote_room, swings}
use Rattle.places.proofs.Locking.{lock_in}
use Rattle.slots.specs.Slot.{empty_slot, full_slot}
use Rattle.slots.proofs.Facts.{SoundSlots}
use Rattle.slots.proofs.Views.{Sets}
use Rattle.locks.specs.declared.Lock.{Lock}
use Rattle.locks.specs.Parts.{part_writes}
use Rattle.paths.proofs.Other.{other_in}
use Rattle.machine.proofs.Claimed.{Claimed}
use Rattle.kept.proofs.Facts.{last_for, PlaceFacts, Stands}
use Rattle.machine.proofs.Guards.{store_hit, store_room, swing_from, swing_to}
use Rattle.kept.proofs.Others.{alone}
use Rattle.machine.proofs.Own.{no_claims_lem}
use Rattle.kept.proofs.Stores.{row_in_lem, hit_stored, room_stored, swing_moved, claims_quiet, claims_stored}
use Rattle.machine.proofs.Swaps.{moves, skips}
use Rattle.kept.proofs.Does.{Quiet, SlotsDo}
use Rattle.machine.specs.declared.Lane.TheVariants.{Busy}
use Rattle.machine.specs.declared.Task.{Task}
use mathlib.Core.Path.{subst, subst⁻¹}

-- ---- a lane that has written or swung claims nothing

module _ (z : Sizes) (v : ℕ → Slot) (l : Task) (last last' : Place) (seen : Seen) where
  after_hit : (side : Side) (c : ℕ) (m : Moved) → Goes z l last seen (WriteHit side c) m → Claimed z v (claim_key m.lane) (claims_of z m.lane last')
  unfolding item_at
  after_hit side c m wrote_hit = no_claims_lem z v l.key

  after_room_lem : (side : Side) (c : ℕ) (m : Moved) → Goes z l last seen (WriteRoom side c) m → Claimed z v (claim_key m.lane) (claims_of z m.lane last')
  unfolding item_at
  after_room_lem side c m wrote_room = no_claims_lem z v l.key

  after_swing_lem : (w : Walk) (m : Moved) → Goes z l last seen (Swing w) m → Claimed z v (claim_key m.lane) (claims_of z m.lane last')
  unfolding item_at
  after_swing_lem w m swings = no_claims_lem z v l.key

-- ---- the slots after a step: sound, and every lane's claims still hold

module _ (z : Sizes) (f : Fits z) (v v' : ℕ → Slot) (w : ℕ → Lock) (σ : ℕ → Lane) (π : ℕ → Place) (st : Stands z v w σ π) (i : ℕ) (hi : i < z.lanes) (l : Task) (busy : σ i ≡ Busy l) (last' : Place) (seen : Seen) (m : Moved) (r' : Each (lane_in z m.lane last')) where
  abbrev P : Place
  P = last_for π (Busy l)

  mine : Each (task_in z l (last_for π (Busy l)))
  mine = subst (λ (x : Lane). Each (lane_in z x (last_for π x))) busy (st.range i hi)

  -- what the lane holds, as it stands among the lanes
  held : (k : ℕ) → 1 ≤ share z part_writes (grip_of z (Busy l) (last_for π (Busy l))) k → 1 ≤ share z part_writes (grip_of z (σ i) (last_for π (σ i))) k
  held k h = subst⁻¹ (λ (x : Lane). 1 ≤ share z part_writes (grip_of z x (last_for π x)) k) busy h

  pub record SlotsKept : Type 0 where
    pub sound : SoundSlots z v'
    pub own : Claimed z v (claim_key m.lane) (claims_of z m.lane last') → Claimed z v' (claim_key m.lane) (claims_of z m.lane last')
    pub others : (j : ℕ) → j < z.lanes → j ≢ i → Claimed z v' (claim_key (σ j)) (claims_of z (σ j) (last_for π (σ j)))

  quiet : Quiet v v' → SlotsKept
  quiet same =
      record {
        sound = record {
          shaped = λ k l. rw (same k) (st.sound.shaped k l);
          at_home = λ k l. rw (same k) (st.sound.at_home k l);
          once = λ a b key la lb. rw (same a, same b) (st.sound.once a b key la lb);
        };
        own = claims_quiet z f v m.lane last' r' v' same;
        others = λ j hj d. claims_quiet z f v (σ j) (last_for π (σ j)) (st.range j hj) v' same (st.claims j hj);
      }

  -- while this lane holds a row for writing, another lane's claims survive a store there
  other_store : (u u' : ℕ → Slot) (row c : ℕ) (s : Slot) → row < z.rows → c < z.columns → 1 ≤ share z part_writes (grip_of z (σ i) (last_for π (σ i))) (lock_of z row) → Sets u u' (slot_index z row c) s → (j : ℕ) → j < z.lanes → j ≢ i → Claimed z u (claim_key (σ j)) (claims_of z (σ j) (last_for π (σ j))) → Claimed z u' (claim_key (σ j)) (claims_of z (σ j) (last_for π (σ j)))
  other_store u u' row c s lr lc holds_row t j hj d h =
      claims_stored z f u (σ j) (last_for π (σ j)) (st.range j hj) u' row c s lr lc
      (alone z w σ π i j (lock_of z row) st.locks hi hj d (omega (arith, lock_in z f row)) holds_row) t h

  pub slots_kept : (s : Stage) → l.stage ≡ s → Each (stage_in z l (last_for π (Busy l)) s) → Claimed z v l.key (claims_at z l (last_for π (Busy l)) s) → (path_length s ≢ 0 → PlaceFacts z (last_for π (Busy l))) → SlotsDo z v v' (act_at z l (last_for π (Busy l)) s) → Goes z l (last_for π (Busy l)) seen s m → SlotsKept
  unfolding item_at
  slots_kept (WriteHit side c) e r h p d g =
      let lc : c < z.columns = ltb-true c z.columns r.1.0 in
      record {
        sound = (hit_stored z f v v' st.sound l side c lc r.0 h.slot d).sound;
        own = λ x. after_hit z v' l (last_for π (Busy l)) last' seen side c m g;
        others = λ j hj q. other_store v v' (row_on z l.key side) c (written l.op l.key l.value) (row_in_lem z f l.key side) lc (held _ (store_hit z l (last_for π (Busy l)) side c e mine)) d j hj q (st.claims j hj);
      }
  slots_kept (WriteRoom side c) e r h p d g =
      let lc : c < z.columns = ltb-true c z.columns r.1.0 in
      record {
        sound = (room_stored z f v v' st.sound l side c lc (leb-true l.key max_key mine.0) h.slot h.one.lacks h.two.lacks d).sound;
        own = λ x. after_room_lem z v' l (last_for π (Busy l)) last' seen side c m g;
        others = λ j hj q. other_store v v' (row_on z l.key side) c (full_slot l.key l.value) (row_in_lem z f l.key side) lc (held _ (store_room z l (last_for π (Busy l)) side c e mine)) d j hj q (st.claims j hj);
      }
  slots_kept (Swing u) e r h p (skips stayed same) g = quiet same
  slots_kept (Swing u) e r h p (moves v₁ full room t s) g =
      record {
        sound = (swing_moved z f v v' st.sound (last_for π (Busy l)) u v₁ facts row lc full room t s).sound;
        own = λ x. after_swing_lem z v' l (last_for π (Busy l)) last' seen u m g;
        others = λ j hj q. other_store v₁ v' u.row u.column (v (slot_index z (last_for π (Busy l)).row (last_for π (Busy l)).column)) (rw row (other_in z f (last_for π (Busy l)))) lc (held _ (swing_to z l (last_for π (Busy l)) u e mine)) s j hj q
            (other_store v v₁ (last_for π (Busy l)).row (last_for π (Busy l)).column empty_slot facts.row_in facts.column_in (held _ (swing_from z l (last_for π (Busy l)) u e mine)) t j hj q (st.claims j hj));
      }
    where
      lc : u.column < z.columns
      lc = ltb-true u.column z.columns r.1.1.1.0

      row : u.row ≡ other_row z (last_for π (Busy l))
      row = eqb-true u.row (other_row z (last_for π (Busy l))) r.1.1.1.1.0

      facts : PlaceFacts z (last_for π (Busy l))
      facts = p (λ q. omega (arith, leb-true 1 u.places r.1.0))
  slots_kept s e r h p d g = quiet d
