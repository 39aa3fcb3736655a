-- What a step does to the path, by its act, and how the lane's last place follows.
-- Assumes nothing.
use mathlib.Core.Path.{◌≡◌, refl, ap, sym, ◌∙◌}
use mathlib.Core.Logic.{◌≢◌}
use mathlib.Core.Bool.{Bool, true, false, cond}
use Prim.Native.Nat.{ℕ, ◌+◌, ◌-◌, ◌<◌}
use native.Mathlib.Omega.{arith}
use lib.Dec.{eqb}
use borrow.Author.Tests.{ne_eqb}
use Rattle.places.specs.declared.Sizes.{Sizes}
use Rattle.places.specs.Table.{Fits, slot_index}
use Rattle.slots.specs.Slot.{is_full}
use Rattle.paths.specs.declared.Place.{Place}
use Rattle.paths.specs.Path.{path_places, other_row}
use Rattle.machine.specs.Steps.{Memory, perform, place_of}
use Prim.Native.Nat.{◌/◌, ◌%◌}
use native.Mathlib.Nat.{mod-lt}
use Rattle.places.proofs.Limits.{slot_in_lem, slot_row}
use Rattle.slots.specs.Slot.{slot_at}
use Rattle.slots.proofs.Facts.{SoundSlots}
use Rattle.slots.proofs.Bindings.{key_range}
use Rattle.paths.specs.Path.{place_at, with_place, no_place}
use Rattle.paths.proofs.Views.{place_same, place_other, emptied_at}
use Rattle.machine.specs.declared.Tail.TheVariants.{TakeOff}
use Rattle.kept.proofs.Facts.{last_in, PlaceFacts}
use Rattle.kept.proofs.Long.{Lengths}
use Rattle.machine.proofs.Follows.{Follows}
use Rattle.machine.proofs.Route.{changes_path}
use Rattle.kept.proofs.Path.{PathDoes, stays, grows, clears}
use Rattle.machine.specs.declared.Act.{Act}
use Rattle.machine.specs.declared.Act.TheVariants.{Release, PickOne, PickFrom}
use Rattle.machine.specs.declared.Tail.TheVariants.{TakeOff, Clear}
use Rattle.machine.proofs.Route.{length_after, changes_path}
use Rattle.kept.proofs.Fitting.{FullRow, ActFits}
use Rattle.kept.proofs.Path.{shrinks}

module _ (z : Sizes) (f : Fits z) (byte : ℕ) (mem : Memory) (len : Lengths z mem) (sv : SoundSlots z (slot_at mem.slots)) (N : Type 0) where
  -- a pair picked from a full row is in range and at home
  picked_facts : (row c : ℕ) → row < z.rows → c < z.columns → ((i : ℕ) → i < z.columns → is_full (slot_at mem.slots (slot_index z row i)) ≡ true) → PlaceFacts z (place_of z mem row c)
  picked_facts row c lr lc full = grind (arith, key_range, slot_in_lem, slot_row)

  chosen : (b : Bool) (one two : ℕ) → FullRow z (slot_at mem.slots) one → FullRow z (slot_at mem.slots) two → FullRow z (slot_at mem.slots) (cond b one two)
  chosen true one two p q = p
  chosen false one two p q = q

  put_at : (i n : ℕ) (p : Place) → n ≡ i → i < path_places z → N → PlaceFacts z p → (n ≢ 0 → p.row ≡ other_row z (place_at mem.path (n - 1))) → PathDoes N z (place_at mem.path) (place_at (with_place mem.path i p)) n (n + 1)
  put_at i n p e h nobody good link =
      grows nobody p refl good link (rw e (place_same mem.path i p (omega (arith, len.path)))) (λ j d. place_other mem.path i p j (λ q. d (q ∙ sym e)))

  pub path_do : (last : Place) (n : ℕ) (a : Act) → ActFits z (slot_at mem.slots) last n a → last ≡ last_in (place_at mem.path) n → (changes_path a ≡ true → N) → PathDoes N z (place_at mem.path) (place_at (perform z a byte mem).memory.path) n (length_after n a)
  unfolding perform
  path_do last n (Release m mode (TakeOff i)) h e k =
      shrinks (k refl) h.1.0 (place_same mem.path i no_place (omega (arith, h.1.0, h.1.1, len.path))) (λ j d. place_other mem.path i no_place j d)
  path_do last n (Release i mode Clear) h e k = clears (k refl) refl (λ j. emptied_at mem.path j)
  path_do last n (PickOne one two) h e k =
      let q = chosen (eqb (byte % 2) 0) one two h.1.0 h.1.1 in
      rw h.0 (put_at 0 0 (place_of z mem (cond (eqb (byte % 2) 0) one two) (byte / 2 % z.columns)) refl (omega arith) (k refl)
      (picked_facts _ _ q.within (mod-lt (byte / 2) f.columns_low) q.full) (λ d. absurd (d refl)))
  path_do last n (PickFrom row i) h e k =
      rw h.0 (put_at i i (place_of z mem row (byte % z.columns)) refl h.1.0 (k refl)
      (picked_facts _ _ h.1.1.1.within (mod-lt byte f.columns_low) h.1.1.1.full)
      (λ d. h.1.1.0 ∙ ap (λ (p : Place). other_row z p) (rw (h.0, ne_eqb i 0 d) at e)))
  path_do last n a h e k = stays refl (λ j. refl)

-- ---- the last place

module _ (z : Sizes) (last last' : Place) (n byte : ℕ) (mem : Memory) (len : Lengths z mem) where
  -- a place before the last: the last one is in its other row
  before_last : (i : ℕ) → ((k : ℕ) → k + 1 < n → (place_at mem.path (k + 1)).row ≡ other_row z (place_at mem.path k)) → n ≡ i + 1 → i ≢ 0 → last ≡ last_in (place_at mem.path) n → last' ≡ last_in (place_at (with_place mem.path i no_place)) i → last.row ≡ other_row z last'
  before_last i h q d e e' = grind (arith, place_other)

  pub follows : (a : Act) → ActFits z (slot_at mem.slots) last n a → ((i : ℕ) → i + 1 < n → (place_at mem.path (i + 1)).row ≡ other_row z (place_at mem.path i)) → last ≡ last_in (place_at mem.path) n → last' ≡ last_in (place_at (perform z a byte mem).memory.path) (length_after n a) → Follows z last last' a
  unfolding perform
  follows a r h e e' = grind (arith, before_last, place_same)
