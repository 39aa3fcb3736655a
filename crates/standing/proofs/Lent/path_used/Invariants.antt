-- `path_used` is the sum of the lanes' path lengths, each a number of 32 bits: so far that of the lanes passed.
use mathlib.Core.Path.{◌≡◌}
use Prim.Native.Nat.{◌≤◌, ◌*◌}
use Rattle.lists.specs.Below.{sum_below}
use Rattle.lists.specs.Numbers.{max_number}
use Rattle.standing.specs.Looks.{length_at}
use Rattle.standing.proofs.Lent.path_used.Given as goal

abbrev pub invariant-loop-j : goal.invariant-loop-j
invariant-loop-j l = (l.used ≤ l.j * max_number) × (l.used ≡ sum_below l.j (length_at l.self.lanes.now))
