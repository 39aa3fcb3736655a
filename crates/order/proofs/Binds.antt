-- What a step does to the bindings, by its act: a write binds its lane's key anew, every other step leaves all alone.
-- Assumes nothing.
use mathlib.Core.Path.{◌≡◌, refl}
use mathlib.Core.Logic.{◌≢◌}
use Prim.Native.Nat.{ℕ, ◌≤◌}
use native.Mathlib.Omega.{arith}
use borrow.Author.Tests.{eq-eqb, ne_eqb, eqb-true, ltb-true, leb-true}
use Rattle.std.specs.Prelude.{Option, Some}
use Rattle.lists.proofs.Below.{Each}
use Rattle.places.specs.declared.Sizes.{Sizes}
use Rattle.places.specs.Table.{Fits, max_key, slot_count}
use Rattle.slots.specs.declared.Slot.{Slot}
use Rattle.slots.specs.Bound.{bound_in}
use Rattle.slots.proofs.Facts.{SoundSlots}
use Rattle.slots.proofs.Bindings.{Rebinds}
use Rattle.paths.specs.declared.Place.{Place}
use Rattle.paths.specs.Path.{other_row}
use Rattle.machine.specs.declared.Stage.{Stage}
use Rattle.machine.specs.declared.Stage.TheVariants.{WriteHit, WriteRoom, Swing}
use Rattle.machine.specs.declared.Act.{Act}
use Rattle.machine.specs.declared.Act.TheVariants.{Store}
use Rattle.machine.specs.declared.Task.{Task}
use Rattle.machine.specs.Stages.{item_at, act_at, claims_at, path_length, stage_in}
use Rattle.machine.proofs.Claimed.{Claimed}
use Rattle.kept.proofs.Facts.{PlaceFacts}
use Rattle.kept.proofs.Stores.{binds_to, hit_stored, room_stored, swing_moved}
use Rattle.machine.proofs.Swaps.{moves, skips}
use Rattle.kept.proofs.Does.{Quiet, SlotsDo}
use Rattle.linear.specs.Map.{Bindings, binds}

-- ---- the plain map

pub binds_own : (x : Bindings) (key : ℕ) (b : Option ℕ) → binds x key b key ≡ b
unfolding binds
binds_own x key b = rw (eq-eqb key key refl)

pub binds_other : (x : Bindings) (key : ℕ) (b : Option ℕ) (k : ℕ) → k ≢ key → binds x key b k ≡ x k
unfolding binds
binds_other x key b k d = rw (ne_eqb k key d)

-- a map that is x but for key, where it has b
pub binds_is : (x x' : Bindings) (key : ℕ) (b : Option ℕ) → x' key ≡ b → ((k : ℕ) → k ≢ key → x' k ≡ x k) → x' ≡ binds x key b
binds_is x x' key b own others = grind (arith, binds_own, binds_other)

-- ---- the acts

abbrev pub BindsAt : Bindings → Bindings → Task → Act → Type 0
BindsAt x x' l (Store row c s) = x' ≡ binds x l.key (binds_to l.op l.value)
BindsAt x x' l a = x' ≡ x

module _ (z : Sizes) (f : Fits z) (v v' : ℕ → Slot) (sv : SoundSlots z v) (l : Task) (last : Place) (small : l.key ≤ max_key) where
  abbrev X : Bindings
  X = bound_in (slot_count z) v

  abbrev X' : Bindings
  X' = bound_in (slot_count z) v'

  quiet : Quiet v v' → X' ≡ X
  quiet same = grind arith

  stored : (b : Option ℕ) → Rebinds (slot_count z) v v' l.key b → X' ≡ binds X l.key b
  stored b r = binds_is X X' l.key b r.own r.others

  pub binds_at : (s : Stage) → Each (stage_in z l last s) → Claimed z v l.key (claims_at z l last s) → (path_length s ≢ 0 → PlaceFacts z last) → SlotsDo z v v' (act_at z l last s) → BindsAt (bound_in (slot_count z) v) (bound_in (slot_count z) v') l (act_at z l last s)
  unfolding item_at
  binds_at (WriteHit side c) r h p d = stored (binds_to l.op l.value) (hit_stored z f v v' sv l side c (ltb-true c z.columns r.1.0) r.0 h.slot d).binds
  binds_at (WriteRoom side c) r h p d = rw r.0 (stored (Some l.value) (room_stored z f v v' sv l side c (ltb-true c z.columns r.1.0) small h.slot h.one.lacks h.two.lacks d).binds)
  binds_at (Swing w) r h p (skips stayed same) = quiet same
  binds_at (Swing w) r h p (moves v₁ full room t s) =
      λ i k. (swing_moved z f v v' sv last w v₁ (p (λ q. omega (arith, leb-true 1 w.places r.1.0))) (eqb-true w.row (other_row z last) r.1.1.1.1.0) (ltb-true w.column z.columns r.1.1.1.0) full room t s).same k i
  binds_at s r h p d = quiet d
