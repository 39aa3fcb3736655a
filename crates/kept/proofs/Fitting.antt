-- What an act needs of the table, and that the act of a lane in range has it: the one law by stage that the laws by act rest on.
use mathlib.Core.Path.{◌≡◌, refl}
use mathlib.Core.Logic.{◌≢◌}
use mathlib.Core.Bool.{Bool, true, false, cond}
use Prim.Native.Nat.{ℕ, ◌+◌, ◌-◌, ◌≤◌, ◌<◌}
use native.Mathlib.Omega.{arith}
use lib.Dec.{ltb}
use borrow.Author.Tests.{eqb-true, leb-true, ltb-true}
use Rattle.lists.proofs.Below.{Each}
use Rattle.places.specs.declared.Sizes.{Sizes}
use Rattle.places.specs.Table.{Fits, lock_of, slot_index}
use Rattle.places.proofs.Locking.{lock_in}
use Rattle.places.proofs.Homes.{homes}
use Rattle.slots.specs.declared.Slot.{Slot}
use Rattle.slots.specs.Slot.{is_full}
use Rattle.locks.specs.declared.Mode.TheVariants.{Writing}
use Rattle.paths.specs.declared.Place.{Place}
use Rattle.paths.specs.Path.{other_row}
use Rattle.paths.proofs.Other.{other_in}
use Rattle.machine.specs.declared.Side.{Side}
use Rattle.machine.specs.declared.Stage.{Stage}
use Rattle.machine.specs.declared.Stage.TheVariants.{TakeMain, Take, Seek, SeekRoom, WriteHit, WriteRoom, Pick, Drop, DropMain, TakeNext, LookNext, PickNext, DropNext, TakeSwing, Swing, DropSwing}
use Rattle.machine.specs.declared.Task.{Task}
use Rattle.machine.specs.declared.Act.{Act}
use Rattle.machine.specs.declared.Act.TheVariants.{Try, Release, Look, Store, PickOne, PickFrom, Move}
use Rattle.machine.specs.declared.Tail.TheVariants.{Keep, TakeOff, Clear}
use Rattle.machine.specs.Sides.{side_row, is_last}
use Rattle.machine.specs.Rules.{row_on, swing_rows}
use Rattle.machine.specs.Stages.{item_at, act_at, claims_at, path_length, stage_in}
use Rattle.machine.proofs.Claimed.{Claimed}
use Rattle.kept.proofs.Facts.{PlaceFacts}
use Rattle.kept.proofs.Stores.{row_in_lem, at_homes}
use Rattle.machine.specs.Rules.{sought_row}

-- a row of the table, all of it full
pub record FullRow (z : Sizes) (v : ℕ → Slot) (row : ℕ) : Type 0 where
  pub within : row < z.rows
  pub full : (i : ℕ) → i < z.columns → is_full (v (slot_index z row i)) ≡ true

-- of n places on the path, the last one last
abbrev pub ActFits : Sizes → (ℕ → Slot) → Place → ℕ → Act → Type 0
ActFits z v last n (Try k g) = k < z.locks + 1
ActFits z v last n (Release k mode Keep) = k < z.locks + 1
ActFits z v last n (Release k mode (TakeOff i)) = (k < z.locks + 1) × ((n ≡ i + 1) × (n ≤ z.rows + 2))
ActFits z v last n (Release k mode Clear) = k < z.locks + 1
ActFits z v last n (Look row c) = (row < z.rows) × (c < z.columns)
ActFits z v last n (Store row c s) = (row < z.rows) × (c < z.columns)
ActFits z v last n (PickOne one two) = (n ≡ 0) × (FullRow z v one × FullRow z v two)
ActFits z v last n (PickFrom row i) = (n ≡ i) × ((i < z.rows + 2) × ((row ≡ other_row z last) × FullRow z v row))
ActFits z v last n (Move from row c) = PlaceFacts z from × ((row < z.rows) × (c < z.columns))

module _ (z : Sizes) (f : Fits z) (v : ℕ → Slot) (l : Task) (last : Place) where
  lock_fits : (row : ℕ) → lock_of z row < z.locks + 1
  lock_fits row = omega (arith, lock_in z f row)

  key_fits : (side : Side) (c : ℕ) → ltb c z.columns ≡ true → (row_on z l.key side < z.rows) × (c < z.columns)
  key_fits side c h = (row_in_lem z f l.key side, ltb-true c z.columns h)

  pub act_fits : (s : Stage) → Each (stage_in z l last s) → (path_length s ≢ 0 → PlaceFacts z last) → Claimed z v l.key (claims_at z l last s) → ActFits z v last (path_length s) (act_at z l last s)
  unfolding item_at
  act_fits (TakeMain g) r p h = omega arith
  act_fits (Take side g) r p h = lock_fits (row_on z l.key side)
  act_fits (Seek side c) r p h = key_fits side c r.0
  act_fits (SeekRoom side c) r p h = key_fits side c r.1.0
  act_fits (WriteHit side c) r p h = key_fits side c r.1.0
  act_fits (WriteRoom side c) r p h = key_fits side c r.1.0
  act_fits Pick r p h =
      let q = at_homes z f l.key (λ row. (i : ℕ) → i < z.columns → is_full (v (slot_index z row i)) ≡ true) h.one.fulls h.two.fulls in
      (refl, (record { within = (homes z f).one_in l.key; full = q.0 }, record { within = (homes z f).two_in l.key; full = q.1 }))
  act_fits (TakeNext g t) r p h = lock_fits (other_row z last)
  act_fits (LookNext c t) r p h = (other_in z f last, ltb-true c z.columns r.1.0)
  act_fits (PickNext t) r p h = (refl, (omega (arith, leb-true t.picks z.rows r.1.0, eqb-true t.places (t.picks + 1) r.1.1.0), (refl, record { within = other_in z f last; full = h.one.fulls })))
  act_fits (TakeSwing side g w) r p h = lock_fits (side_row (swing_rows z last w) side)
  act_fits (Swing w) r p h = (
    p (λ q. omega (arith, leb-true 1 w.places r.1.0)),
    (rw (eqb-true w.row (other_row z last) r.1.1.1.1.0) (other_in z f last), ltb-true w.column z.columns r.1.1.1.0),
  )
  act_fits (Drop side o) r p h = lock_fits (row_on z l.key side)
  act_fits (DropMain e) r p h = omega arith
  act_fits (DropNext x t) r p h = lock_fits (sought_row z last x)
  act_fits (DropSwing side w) r p h = go (is_last side (swing_rows z last w).shared)
    where
      go : (b : Bool) → ActFits z v last w.places (Release (lock_of z (side_row (swing_rows z last w) side)) Writing (cond b (TakeOff (w.places - 1)) Keep))
      go true = (lock_fits _, (omega (arith, leb-true 1 w.places r.1.1.0), omega (arith, leb-true w.places (z.rows + 1) r.1.1.1.0)))
      go false = lock_fits _
