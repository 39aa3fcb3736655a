-- A step, said of the values that its calls give: refused before the lane is looked at, or one law for each way through it.
use mathlib.Core.Path.{◌≡◌, refl, sym, ◌∙◌, ap, subst}
use mathlib.Core.Bool.{cond, not}
use mathlib.Core.List.{List}
use Prim.Native.Nat.{ℕ, ◌≤◌, ◌<◌}
use native.Mathlib.Omega.{arith}
use lib.Dec.{ltb}
use borrow.Author.Tests.{lt-ltb, le-ltb}
use Rattle.std.specs.Prelude.{Result, Ok, Err, Option}
use Rattle.lists.specs.Records.{HasRecord}
use Rattle.linear.specs.declared.End.{End}
use Rattle.places.specs.declared.Sizes.{Sizes}
use Rattle.machine.specs.declared.Task.{Task}
use Rattle.machine.specs.declared.Lane.{Lane}
use Rattle.machine.specs.declared.Lane.TheVariants as lane
use Rattle.machine.specs.declared.Moved.{Moved}
use Rattle.machine.specs.declared.Refusal.{Refusal}
use Rattle.machine.specs.declared.Refusal.TheVariants.{NoLane, Idle}
use Rattle.machine.specs.Lane.{lane_numbers, with_lane}
use Rattle.machine.specs.Steps.{LaneStep, step_lane, step_task}
use Rattle.machine.specs.Back.{lane_at}
use Rattle.machine.specs.Stages.{is_idle}
use Rattle.machine.specs.Standing.{Table}
use Rattle.machine.specs.Desk.{Called, called, refused, memory_of, turned, step_of}
use Rattle.machine.proofs.Still.{step_still}
use Rattle.acts.specs.Fitting.{memory}
use Rattle.acts.specs.declared.doing.LentMemory.{LentMemory}
use Rattle.lanes.specs.Fitting.{StepFits, Steps}
use Rattle.kept.specs.Runs.{Stood}
use Rattle.kept.proofs.Kept.{kept_step}
use Rattle.kept.proofs.Long.{lanes_of}
use Rattle.standing.specs.Tables.{table}
use Rattle.desk.specs.Tests.{tested}
use Rattle.desk.proofs.Fits.{fits}
use Rattle.desk.proofs.Tested.{tested_first, tested_stood, stood_last}

module _ (z : Sizes) (t : Table) (j byte : ℕ) where
  -- accepted, it leaves what stands by the theorem; refused, it changes nothing
  stood_step : Stood z t → Stood z (step_of z t j byte).table
  stood_step st = go (step_of z t j byte).answer refl
    where
      go : (r : Result (Option End) Refusal) → (step_of z t j byte).answer ≡ r → Stood z (step_of z t j byte).table
      go (Ok a) e = kept_step z t j byte (rw e)
      go (Err r) e = rw (step_still z t r j byte e) st

  -- what is left of a step that is its definition stands
  pub steps_stood : (r : Result (Option End) Refusal) (u : Table) → Stood z t → called r u ≡ step_of z t j byte → Stood z u
  steps_stood r u st k = rw (ap (λ (c : Called (Result (Option End) Refusal)). c.table) k) (stood_step st)

  -- what the tests that come first refuse
  pub steps_not : (r : Refusal) → Err r ≡ tested z t → refused r t ≡ step_of z t j byte
  unfolding step_of
  steps_not r e = tested_first z t r e _

  -- a step of a table that stands by its type, made after the tests
  pub steps : (y : Sizes) (c : Called (Result (Option End) Refusal)) → Ok y ≡ tested z t → c ≡ step_of y t j byte → c ≡ step_of z t j byte
  steps y c e k = subst (λ x. c ≡ step_of x t j byte) (tested_stood z y t e).0 k

-- a step of the lent memory, as one value
pub moves : (r : Moved) (m n : LentMemory) (o : LaneStep) → Steps r m n o → record { memory = memory n.slots.now n.locks.now n.path.now; lane = r.lane; answer = r.answer } ≡ o
moves r m n o s = λ i. record { memory = record { slots = s.memory.slots i; locks = s.memory.locks i; path = s.memory.path i }; lane = s.lane i; answer = s.answer i }

-- what stands gives what the step asks
pub step_fits : (z : Sizes) (xs ls vs ps : List ℕ) (j : ℕ) (l : Lane) (k : Task) → Stood z (table xs ls vs ps) → j < z.lanes → l ≡ lane_at vs j → l ≡ lane.Busy k → StepFits z (memory xs ls ps) k
step_fits z xs ls vs ps j l k st h el ek = fits z (table xs ls vs ps) j st h k (sym el ∙ ek)

module _ (z : Sizes) (t : Table) (j byte : ℕ) (st : Stood z t) where
  -- a lane that is there has all its numbers
  pub lane_long : j < z.lanes → HasRecord lane_numbers t.lanes j
  lane_long h = omega (arith, lanes_of z t st.lengths)

  -- what stands is tested no more
  stood_is : step_of z t j byte ≡ cond (not (ltb j z.lanes)) (refused NoLane t) (cond (is_idle (lane_at t.lanes j)) (refused Idle t) (turned z t j byte))
  unfolding step_of
  stood_is = stood_last z t st _

  pub steps_nowhere : z.lanes ≤ j → refused NoLane t ≡ step_of z t j byte
  steps_nowhere h = sym (stood_is ∙ rw (le-ltb j z.lanes h))

  module _ (h : j < z.lanes) (l : Lane) (el : l ≡ lane_at t.lanes j) where
    pub steps_idle : l ≡ lane.Idle → refused Idle t ≡ step_of z t j byte
    steps_idle e = sym (stood_is ∙ rw (lt-ltb j z.lanes h, ← el, e))

    module _ (k : Task) (ek : l ≡ lane.Busy k) (m : Moved) (xs ls vs ps : List ℕ) (s : record { memory = memory xs ls ps; lane = m.lane; answer = m.answer } ≡ step_task z (memory_of t) k byte) (ev : vs ≡ with_lane t.lanes j m.lane) where
      stepped : record { memory = memory xs ls ps; lane = m.lane; answer = m.answer } ≡ step_lane z (memory_of t) (lane_at t.lanes j) byte
      stepped = rw (← el, ek) s

      turns : called (Ok m.answer) (table xs ls vs ps) ≡ turned z t j byte
      unfolding turned
      turns = grind (arith, stepped)

      pub steps_lane : called (Ok m.answer) (table xs ls vs ps) ≡ step_of z t j byte
      steps_lane = turns ∙ sym (stood_is ∙ rw (lt-ltb j z.lanes h, ← el, ek))
