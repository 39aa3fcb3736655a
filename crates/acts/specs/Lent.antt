-- The lent memory as the rules' memory, and what is owed of it after an act.
-- Assumes nothing.
use Rattle.std.specs.Prelude.{◌≡◌}
use Rattle.acts.specs.declared.doing.LentMemory.{LentMemory}
use Rattle.machine.specs.declared.Seen.{Seen}
use Rattle.machine.specs.Steps.{Memory, Performed}

-- the numbers that stand in it
abbrev pub memory_of : LentMemory → Memory
memory_of m = record { slots = m.slots.now; locks = m.locks.now; path = m.path.now }

-- the same lists, of the same sizes, are lent, with these numbers in them
pub record Becomes (m n : LentMemory) (numbers : Memory) : Type 0 where
  pub slots : n.slots.now ≡ numbers.slots
  pub locks : n.locks.now ≡ numbers.locks
  pub path : n.path.now ≡ numbers.path
  pub sizes : n.z.sizes ≡ m.z.sizes
  pub same_slots : n.slots.ghost_name ≡ m.slots.ghost_name
  pub same_locks : n.locks.ghost_name ≡ m.locks.ghost_name
  pub same_path : n.path.ghost_name ≡ m.path.ghost_name

-- what an act saw, and the memory as it is left, against an outcome
pub record Performs (r : Seen) (m n : LentMemory) (o : Performed) : Type 0 where
  pub seen : r ≡ o.seen
  pub memory : Becomes m n o.memory
