-- What a busy lane's next act is, by its stage: it takes a lock, or it takes none.
-- Assumes nothing.
use mathlib.Core.Path.{◌≡◌, refl, subst}
use Prim.Native.Nat.{ℕ, ◌+◌, ◌<◌}
use native.Mathlib.Omega.{arith}
use Rattle.std.specs.Prelude.{Some}
use Rattle.places.specs.declared.Sizes.{Sizes}
use Rattle.places.specs.Table.{Fits, lock_of}
use Rattle.places.proofs.Locking.{lock_in}
use Rattle.locks.specs.declared.Grab.{Grab}
use Rattle.locks.specs.Locks.{main_lock}
use Rattle.paths.specs.declared.Place.{Place}
use Rattle.paths.specs.Path.{other_row}
use Rattle.machine.specs.declared.Side.{Side}
use Rattle.machine.specs.declared.Trail.{Trail}
use Rattle.machine.specs.declared.Walk.{Walk}
use Rattle.machine.specs.declared.Stage.{Stage}
use Rattle.machine.specs.declared.Stage.TheVariants.{TakeMain, Take, TakeNext, TakeSwing}
use Rattle.machine.specs.declared.Task.{Task}
use Rattle.machine.specs.declared.Lane.{Lane}
use Rattle.machine.specs.declared.Lane.TheVariants.{Busy}
use Rattle.machine.specs.declared.Act.{Act}
use Rattle.machine.specs.declared.Act.TheVariants.{Try}
use Rattle.machine.specs.declared.Seen.{Seen}
use Rattle.machine.specs.Sides.{side_row}
use Rattle.machine.specs.Rules.{row_on, swing_rows}
use Rattle.machine.specs.Stages.{item_at, path_length, act_at, act_of}
use Rattle.machine.specs.Steps.{at_stage, advance_at}
use Rattle.finish.specs.Schedule.{on_act}

-- a stage at which lock k is taken, with its grab
pub data Takes (z : Sizes) (l : Task) (last : Place) : Stage → ℕ → Grab → Type 0 where
  at_main : {g : Grab} → Takes z l last (TakeMain g) (main_lock z) g
  at_row : {side : Side} {g : Grab} → Takes z l last (Take side g) (lock_of z (row_on z l.key side)) g
  at_next : {g : Grab} {t : Trail} → Takes z l last (TakeNext g t) (lock_of z (other_row z last)) g
  at_swing : {side : Side} {g : Grab} {w : Walk} → Takes z l last (TakeSwing side g w) (lock_of z (side_row (swing_rows z last w) side)) g

-- an act that takes no lock
abbrev pub Plain : Act → Type 0
Plain a = (taking : ℕ → Grab → ℕ) (other : ℕ) → on_act a taking other ≡ other

pub data Aims (z : Sizes) (l : Task) (last : Place) : Stage → Act → Type 0 where
  takes : {s : Stage} {k : ℕ} {g : Grab} → Takes z l last s k g → Aims z l last s (Try k g)
  plain : {s : Stage} {a : Act} → Plain a → Aims z l last s a

pub aims : (z : Sizes) (l : Task) (last : Place) (s : Stage) → Aims z l last s (act_at z l last s)
unfolding item_at
aims z l last (TakeMain g) = takes at_main
aims z l last (Take side g) = takes at_row
aims z l last (TakeNext g t) = takes at_next
aims z l last (TakeSwing side g w) = takes at_swing
aims z l last s = plain (λ t o. refl)

-- an act that takes a lock is a stage's that takes it
aims_take : {z : Sizes} {l : Task} {last : Place} {s : Stage} {k : ℕ} {g : Grab} → Aims z l last s (Try k g) → Takes z l last s k g
aims_take (takes t) = t
aims_take (plain e) = absurd (let q : ◌≡◌ {A = ℕ} 0 1 = e (λ k g. 0) 1 in omega arith)

pub taking : (z : Sizes) (l : Task) (last : Place) (s : Stage) {k : ℕ} {g : Grab} → act_at z l last s ≡ Try k g → Takes z l last s k g
taking z l last s e = aims_take (subst (Aims z l last s) e (aims z l last s))

-- the lock is there
pub takes_in : {z : Sizes} {l : Task} {last : Place} {s : Stage} {k : ℕ} {g : Grab} → Fits z → Takes z l last s k g → k < z.locks + 1
takes_in {z} f at_main = omega arith
takes_in {z} {l} f (at_row {side}) = omega (arith, lock_in z f (row_on z l.key side))
takes_in {z} {l} {last} f at_next = omega (arith, lock_in z f (other_row z last))
takes_in {z} {l} {last} f (at_swing {side} {w = w}) = omega (arith, lock_in z f (side_row (swing_rows z last w) side))

-- a lane that has to wait still takes that lock, with the grab that was answered, and with the same places
pub record Same (z : Sizes) (last : Place) (s : Stage) (k : ℕ) (g : Grab) (m : Lane) : Type 0 where
  pub next : Task
  pub is : m ≡ Busy next
  pub act : act_of z next last ≡ Try k g
  pub path : path_length next.stage ≡ path_length s

pub takes_on : {z : Sizes} {l : Task} {last : Place} {s : Stage} {k : ℕ} {g : Grab} → Takes z l last s k g → (seen : Seen) (g' : Grab) → seen.tried ≡ Some g' → Same z last s k g' (advance_at z l last seen s).lane
unfolding item_at advance_at
takes_on {l} at_main seen g' e = rw e record { next = at_stage l (TakeMain g'); is = refl; act = refl; path = refl }
takes_on {l} (at_row {side}) seen g' e = rw e record { next = at_stage l (Take side g'); is = refl; act = refl; path = refl }
takes_on {l} (at_next {t}) seen g' e = rw e record { next = at_stage l (TakeNext g' t); is = refl; act = refl; path = refl }
takes_on {l} (at_swing {side} {w = w}) seen g' e = rw e record { next = at_stage l (TakeSwing side g' w); is = refl; act = refl; path = refl }
