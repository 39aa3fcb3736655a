-- `put_stroke` puts the stroke: the characters so far and those of the bits that are left are the whole stroke.
use mathlib.Core.Path.{◌≡◌}
use Prim.Native.Nat.{◌+◌}
use lib.ListN.{drop}
use Rattle.prints.proofs.Puts.{Amid}
use Rattle.prints.specs.Text.{letters, stroke_from, stroke_of}
use Rattle.prints.proofs.text.Out.put_stroke.Given as goal

abbrev pub invariant-loop-letter : goal.invariant-loop-letter
invariant-loop-letter l =
    (l.self.at ≡ l.initial.self.at + l.letter-index)
    × Amid l.self.at l.initial.self.at l.initial.self.bytes.now l.self.bytes.now (stroke_from (drop l.letter-index letters) l.rest) (stroke_of l.key)
    × (l.self.bytes.ghost_name ≡ l.initial.self.bytes.ghost_name)
