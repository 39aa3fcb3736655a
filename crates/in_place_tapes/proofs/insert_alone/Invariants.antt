-- `insert_alone` finds at each turn the state after so many steps.
use Rattle.std.proofs.Common.{◌≡◌}
use Rattle.in_place_tapes.specs.Tape.{small_sizes, Stands}
use Rattle.in_place_tapes.proofs.insert_alone.Given as goal

abbrev pub invariant-loop : goal.invariant-loop
invariant-loop g l = record { sizes : l.m.z.sizes ≡ small_sizes; stands : Stands l.m.slots.now l.m.locks.now l.m.path.now l.lane l.counter }
