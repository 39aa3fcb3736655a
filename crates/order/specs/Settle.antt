-- How the order is computed. Need not be believed: `order` names it and says that it meets `Ordered`.
-- An operation settles, and comes next in the order, once it is certain what it does: a read at the look that ends its seeking, a
-- delete at that look or at its write, an insert at its write, or, if it says no, at its end.
-- Assumes nothing.
use Rattle.std.specs.Prelude.{Bool, true, false, cond, not, ◌&&◌, List, [], ◌∷◌, ◌++◌, ℕ, ◌+◌, eqb}
use Rattle.places.specs.declared.Sizes.{Sizes}
use Rattle.machine.specs.declared.Outcome.{Outcome}
use Rattle.machine.specs.declared.Outcome.TheVariants.{Hit, Wrote, Filled, Miss, Picked, Stuck}
use Rattle.machine.specs.declared.Ending.{Ending}
use Rattle.machine.specs.declared.Ending.TheVariants.{Yes, Searched, Walked}
use Rattle.machine.specs.declared.Stage.{Stage}
use Rattle.machine.specs.declared.Stage.TheVariants.{WriteHit, WriteRoom, Drop, DropMain}
use Rattle.machine.specs.declared.Lane.{Lane}
use Rattle.machine.specs.declared.Lane.TheVariants.{Idle, Busy}
use Rattle.machine.specs.Back.{lane_at}
use Rattle.machine.specs.Standing.{Table}
use Rattle.machine.specs.Desk.{step_of}
use Rattle.order.specs.Run.{Event, start, step, next}

-- after a pass with this outcome the operation has not yet settled
abbrev pub unsettled : Outcome → Bool
unsettled (Hit side column value) = false
unsettled (Wrote side) = false
unsettled Filled = false
unsettled Miss = false
unsettled Picked = true
unsettled Stuck = true

-- with this ending it settles only at its end
abbrev pub says_no : Ending → Bool
says_no Yes = false
says_no (Searched places) = true
says_no Walked = true

-- at this stage it has not yet settled
abbrev pub waiting_at : Stage → Bool
waiting_at (WriteHit side column) = true
waiting_at (WriteRoom side column) = true
waiting_at (Drop side o) = unsettled o
waiting_at (DropMain e) = says_no e
waiting_at s = true

-- this lane has an operation that has not yet settled
abbrev pub waiting : Lane → Bool
waiting Idle = false
waiting (Busy k) = waiting_at k.stage

-- the step with which it stops waiting is the one at which it settles
abbrev pub settles : Lane → Lane → Bool
settles before after = waiting before && not (waiting after)

-- the next step of lane j is such a step
abbrev pub settles_now : Sizes → Table → ℕ → ℕ → Bool
settles_now z t j byte = settles (lane_at t.lanes j) (lane_at (step_of z t j byte).table.lanes j)

-- the number of each lane's operation, when lane i has started operation k
unfoldable pub owning : (ℕ → ℕ) → ℕ → ℕ → ℕ → ℕ
owning own i k j = cond (eqb j i) k (own j)

-- the rest of the order, when k operations have started and own says which is whose
abbrev pub order_from : Sizes → ℕ → (ℕ → ℕ) → Table → List Event → List ℕ
order_from z k own t [] = []
order_from z k own t (start j r ∷ es) = order_from z (k + 1) (owning own j k) (next z t (start j r)) es
order_from z k own t (step j byte ∷ es) = cond (settles_now z t j byte) (own j ∷ []) [] ++ order_from z k own (next z t (step j byte)) es

-- the order of a run, by the operations' numbers
abbrev pub order_of : Sizes → Table → List Event → List ℕ
order_of z t es = order_from z 0 (λ j. 0) t es
