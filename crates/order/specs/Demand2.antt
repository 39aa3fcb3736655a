-- DEMAND 2 over runs: which steps change bindings, and when an insert says no.
-- Assumes nothing.
use Rattle.std.specs.Prelude.{◌≡◌, ◌↔◌, Bool, true, false, List, ◌∷◌, ℕ, ◌+◌, ◌≤◌, Option, None, Some}
use Rattle.places.specs.declared.Sizes.{Sizes}
use Rattle.machine.specs.declared.Task.{Task}
use Rattle.machine.specs.declared.Lane.TheVariants.{Busy}
use Rattle.machine.specs.Back.{lane_at}
use Rattle.machine.specs.Standing.{Table}
use Rattle.machine.specs.Desk.{step_of}
use Rattle.linear.specs.declared.End.{End}
use Rattle.linear.specs.declared.End.TheVariants.{ReadNone, ReadValue, Deleted, InsertYes, InsertSearched, InsertWalked}
use Rattle.linear.specs.Map.{said_no, after}
use Rattle.order.specs.Run.{Event, table_after, bindings, op_at, end_by}
use Rattle.order.specs.History.{Sight, sight, history, item, is_write, writes_in, full_attempts, missed, crowded}

-- the end is an insert's: yes, no (searched) or no (walked)
abbrev pub ends_insert : Option End → Bool
ends_insert None = false
ends_insert (Some ReadNone) = false
ends_insert (Some (ReadValue value)) = false
ends_insert (Some Deleted) = false
ends_insert (Some InsertYes) = true
ends_insert (Some InsertSearched) = true
ends_insert (Some InsertWalked) = true

-- "rows plus one search attempts have all found full rows"
abbrev pub AllFull : Sizes → List Sight → Type 0
AllFull z h = full_attempts z h ≡ z.rows + 1

-- "after the walk its second pass finds neither the key nor an empty slot": in no slot of its two home rows. Only looks after the walk count
abbrev pub NothingFound : Sizes → List Sight → Type 0
NothingFound z h = (missed z h ≡ z.columns + z.columns) × (crowded z h ≡ z.columns + z.columns)

-- what an accepted step of lane j, whose task is k, at table t owes; its operation has seen h, this step included
pub record StepDoes (z : Sizes) (t : Table) (j byte : ℕ) (k : Task) (h : List Sight) : Type 0 where
  -- a step changes no key's binding, unless it is a write
  pub quiet : is_write (item z k.stage) ≡ false → (key : ℕ) → bindings z (step_of z t j byte).table key ≡ bindings z t key
  -- a write does what its operation does to a plain map
  pub writes : is_write (item z k.stage) ≡ true → (key : ℕ)
      → bindings z (step_of z t j byte).table key ≡ after (op_at k) None (bindings z t) key
  -- an operation writes at most once
  pub once : writes_in z h ≤ 1
  -- "An insert that says no changes no key's binding."
  pub unchanged : said_no (end_by (step_of z t j byte).answer) ≡ true → writes_in z h ≡ 0
  -- "It says no exactly when rows plus one search attempts have all found full rows,"
  pub searched : ends_insert (end_by (step_of z t j byte).answer) ≡ true → (end_by (step_of z t j byte).answer ≡ Some InsertSearched) ↔ AllFull z h
  -- "or when after the walk its second pass finds neither the key nor an empty slot."
  pub walked : ends_insert (end_by (step_of z t j byte).answer) ≡ true → (end_by (step_of z t j byte).answer ≡ Some InsertWalked) ↔ NothingFound z h
  -- and otherwise yes
  pub otherwise : ends_insert (end_by (step_of z t j byte).answer) ≡ true → (AllFull z h → ⊥) → (NothingFound z h → ⊥)
      → end_by (step_of z t j byte).answer ≡ Some InsertYes

-- of the step of lane j that follows a run from t: the lane has a task k, and the step does what it owes
abbrev pub Demand2 : Sizes → Table → List Event → ℕ → ℕ → Type 0
Demand2 z t es j byte =
    (k : Task) × (lane_at (table_after z t es).lanes j ≡ Busy k) × StepDoes z (table_after z t es) j byte k (sight z (table_after z t es) k byte ∷ history z j t es)
