-- Each step finds what it asks, and leaves the state after one step more.
-- Assumes nothing.
use native.Mathlib.Omega.{arith}
use Rattle.in_place_tapes.proofs.Stepping.{fits, stands_on}
use Rattle.in_place_tapes.proofs.insert_alone.Goals as goal

pub invariant_of-m : goal.invariant_of-m
invariant_of-m g c = record { fits = (fits _ _ _ _ _ 0 c.small_layout.ensures c.requires (omega arith)).memory }

pub step_local-moved-requires : goal.step_local-moved-requires
step_local-moved-requires g c = let at = c.loop.invariant in fits _ _ _ _ _ _ at.sizes at.stands (omega arith)

pub loop-preserved : goal.loop-preserved
loop-preserved g c =
    let at = c.loop.invariant in
    let left = c.step_local-moved.ensures in
    record { sizes = rw left.memory.sizes at.sizes; stands = stands_on _ _ _ _ _ _ at.sizes at.stands _ _ _ left }
