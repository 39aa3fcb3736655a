-- `all_shares` is its definition: what the lanes passed so far add, at most 3 each.
use mathlib.Core.Path.{◌≡◌}
use Rattle.standing.specs.Parts.{shares_to}
use Rattle.standing.proofs.Lent.all_shares.Given as goal

abbrev pub invariant-loop-j : goal.invariant-loop-j
invariant-loop-j l = l.sum ≡ shares_to l.self.z.sizes l.self.lanes.now l.self.path.now l.k l.j
