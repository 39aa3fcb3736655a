-- `check` finds what opening finds: none of the slots passed so far breaks a rule, and the key of slot i stands in none of the lower
-- ones passed so far.
use mathlib.Core.Bool.{false}
use mathlib.Core.Path.{◌≡◌}
use Rattle.slots.specs.Sound.{is_faulty, stands_below}
use Rattle.lists.specs.Below.{any_below}
use Rattle.slots.proofs.Slots.check.Given as goal

abbrev pub invariant-loop-i : goal.invariant-loop-i
invariant-loop-i l = any_below l.i (is_faulty l.self.z.sizes l.self.numbers.now) ≡ false

abbrev pub invariant-loop-j : goal.invariant-loop-j
invariant-loop-j l = stands_below l.self.numbers.now l.j l.s.key ≡ false
