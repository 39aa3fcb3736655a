-- `put_slots` puts the lines of all full slots: those so far and those of the slots that are left are the whole.
use mathlib.Core.Path.{◌≡◌}
use Prim.Native.Nat.{◌+◌, ◌-◌, ◌*◌, ◌≤◌}
use Rattle.prints.specs.Lines.{slot_lines_from, slot_lines}
use Rattle.prints.specs.declared.lines.TheConstants.{SLOT_BYTES}
use Rattle.prints.proofs.Puts.{Amid}
use Rattle.prints.proofs.lines.put_slots.Given as goal

abbrev pub invariant-loop-i : goal.invariant-loop-i
invariant-loop-i l =
    (l.out.at ≤ l.initial.out.at + SLOT_BYTES * l.i)
    × Amid l.out.at l.initial.out.at l.initial.out.bytes.now l.out.bytes.now (slot_lines_from l.slots.z.sizes l.slots.numbers.now (l.i-end - l.i) l.i) (slot_lines l.slots.z.sizes l.slots.numbers.now)
    × (l.out.bytes.ghost_name ≡ l.initial.out.bytes.ghost_name)
