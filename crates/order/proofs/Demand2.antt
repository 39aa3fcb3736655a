-- THE THEOREM for demand 2: of every accepted step that follows a run from an opened table.
-- Assumes nothing.
use mathlib.Core.List.{List, [], ◌∷◌}
use Prim.Native.Nat.{ℕ}
use native.Mathlib.Decide.{ℕ_discrete}
use Rattle.places.specs.declared.Sizes.{Sizes}
use Rattle.machine.specs.Standing.{Table}
use Rattle.machine.specs.Desk.{open_of, step_of, Accepts}
use Rattle.order.specs.Run.{Event, start, step, next, Run, table_after}
use Rattle.order.specs.History.{Sight, history_from}
use Rattle.order.specs.Demand2.{Demand2}
use Rattle.order.proofs.Moves.{lane_of, step_busy}
use Rattle.order.proofs.Begins.{opening_lanes}
use Rattle.order.proofs.OneStep.{CountsOf, by_start, by_step, step_does}

module _ (z : Sizes) (j : ℕ) where
  counts_run : (t : Table) (h : List Sight) → CountsOf z (lane_of t j) h → (es : List Event) → Run z t es → CountsOf z (lane_of (table_after z t es) j) (history_from z j h t es)
  counts_run t h k [] a = k
  counts_run t h k (start i r ∷ es) a = counts_run (next z t (start i r)) _ (by_start z j t i r h a.0 k (ℕ_discrete i j)) es a.1
  counts_run t h k (step i byte ∷ es) a = counts_run (next z t (step i byte)) _ (by_step z j t i byte h a.0 k (ℕ_discrete i j)) es a.1

-- ---- the theorem

pub demand_2 : (z : Sizes) (t : Table) (es : List Event) (j byte : ℕ) → Accepts (open_of z t) → Run z (open_of z t).table es
    → Accepts (step_of z (table_after z (open_of z t).table es) j byte)
    → Demand2 z (open_of z t).table es j byte
demand_2 z t es j byte e a b =
    let k : CountsOf z (lane_of (open_of z t).table j) [] = rw (opening_lanes z t e j) tt in
    let u : Table = table_after z (open_of z t).table es in
    let l = step_busy z u j byte b in
    (l.0, l.1, step_does z u j byte b (history_from z j [] (open_of z t).table es) l.0 l.1 (rw l.1 at (counts_run z j (open_of z t).table [] k es a)))
