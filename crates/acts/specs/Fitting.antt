-- What the code of a step asks of the lent memory and the lane: plain bounds, which the standing check gives.
-- Assumes nothing.
use Rattle.std.specs.Prelude.{ℕ, ◌+◌, ◌*◌, ◌≤◌, ◌<◌, ◌≡◌, Bool, ◌&&◌, List, length}
use Rattle.lists.specs.Records.{HasRecord}
use Rattle.lists.specs.Numbers.{max_number}
use Rattle.places.specs.declared.Sizes.{Sizes}
use Rattle.places.specs.Table.{slot_index}
use Rattle.slots.specs.Slot.{slot_at, is_empty, slot_words, has_key}
use Rattle.locks.specs.Locks.{lock_at, lock_words}
use Rattle.locks.specs.Parts.{grab_count, mode_count}
use Rattle.paths.specs.declared.Place.{Place}
use Rattle.paths.specs.Path.{place_numbers, path_words, path_places}
use Rattle.machine.specs.declared.Stage.{Stage}
use Rattle.machine.specs.declared.Stage.TheVariants.{Seek, SeekRoom, LookNext, PickNext, DropSwing}
use Rattle.machine.specs.declared.Tail.{Tail}
use Rattle.machine.specs.declared.Tail.TheVariants.{Keep, TakeOff, Clear}
use Rattle.machine.specs.declared.Act.{Act}
use Rattle.machine.specs.declared.Act.TheVariants.{Try, Release, Look, Store, PickOne, PickFrom, Move}
use Rattle.machine.specs.Steps.{Memory}

abbrev pub memory : List ℕ → List ℕ → List ℕ → Memory
memory xs ls ps = record { slots = xs; locks = ls; path = ps }

-- a swing is done, not skipped
unfoldable pub can_move : Sizes → List ℕ → Place → ℕ → ℕ → Bool
can_move z xs from row column = has_key (slot_at xs (slot_index z from.row from.column)) from.key && is_empty (slot_at xs (slot_index z row column))

-- the numbers of a stage that the step adds to or subtracts from
unfoldable pub StageFits : Sizes → Stage → Type 0
StageFits z (Seek side column) = column < z.columns
StageFits z (SeekRoom side column) = column < z.columns
StageFits z (LookNext column t) = column < z.columns
StageFits z (PickNext t) = (t.picks < max_number) × (t.places < max_number)
StageFits z (DropSwing side w) = 1 ≤ w.places
StageFits z s = Unit {0}

-- the lent lists are as long as the sizes call for
pub record MemoryFits (z : Sizes) (m : Memory) : Type 0 where
  pub slots : length m.slots ≡ slot_words z
  pub locks : length m.locks ≡ lock_words z
  pub path : length m.path ≡ path_words z

-- a place that leaves the path stands in the store
unfoldable pub TailFits : List ℕ → Tail → Type 0
TailFits ps Keep = Unit {0}
TailFits ps (TakeOff i) = HasRecord place_numbers ps i
TailFits ps Clear = Unit {0}

-- what an act names is there, and a count that it changes can be changed
unfoldable pub ActFits : Sizes → Memory → Act → Type 0
ActFits z m (Try k g) = (k < z.locks + 1) × ((lock_at z m.locks k).count < max_number) × (grab_count g ≤ (lock_at z m.locks k).count)
ActFits z m (Release k mode tail) = (k < z.locks + 1) × (mode_count mode ≤ (lock_at z m.locks k).count) × TailFits m.path tail
ActFits z m (Look row column) = (row < z.rows) × (column < z.columns)
ActFits z m (Store row column s) = (row < z.rows) × (column < z.columns)
ActFits z m (PickOne one two) = (one < z.rows) × (two < z.rows)
ActFits z m (PickFrom row i) = (row < z.rows) × (i < path_places z)
ActFits z m (Move from row column) = (from.row < z.rows) × (from.column < z.columns) × (row < z.rows) × (column < z.columns)
