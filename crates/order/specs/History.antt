-- What the steps of an operation saw since its start, and how to count it. The lane's own counters are not read.
-- Assumes nothing.
use Rattle.std.specs.Prelude.{Bool, true, false, cond, not, ◌&&◌, List, [], ◌∷◌, ℕ, ◌+◌, eqb, ltb}
use Rattle.lists.specs.Below.{bit}
use Rattle.places.specs.declared.Sizes.{Sizes}
use Rattle.slots.specs.declared.Slot.{Slot}
use Rattle.slots.specs.Slot.{is_full, has_key}
use Rattle.paths.specs.Path.{last_of}
use Rattle.machine.specs.declared.Stage.{Stage}
use Rattle.machine.specs.declared.Stage.TheVariants.{Seek, SeekRoom, WriteHit, WriteRoom, Pick, LookNext, PickNext, Swing}
use Rattle.machine.specs.declared.Task.{Task}
use Rattle.machine.specs.declared.Lane.{Lane}
use Rattle.machine.specs.declared.Lane.TheVariants.{Idle, Busy}
use Rattle.machine.specs.Back.{lane_at}
use Rattle.machine.specs.Sides.{by_side}
use Rattle.machine.specs.Stages.{path_length, act_of}
use Rattle.machine.specs.Steps.{perform}
use Rattle.machine.specs.Standing.{Table}
use Rattle.machine.specs.Desk.{memory_of}
use Rattle.order.specs.Run.{Event, start, step, next}

-- ---- the history

-- a step: its lane's task as it stood, and the slot that it looked at, zeros where it looked at none
pub record Sight : Type 0 where
  pub task : Task
  pub slot : Slot

-- of the step that a lane with the task k takes with this byte
abbrev pub sight : Sizes → Table → Task → ℕ → Sight
sight z t k byte = record { task = k; slot = (perform z (act_of z k (last_of t.path (path_length k.stage))) byte (memory_of t)).seen.slot }

-- what a lane has seen once it has taken the step, where it had seen h; an idle lane takes none
abbrev pub seen_after : Sizes → Table → Lane → ℕ → List Sight → List Sight
seen_after z t Idle byte h = h
seen_after z t (Busy k) byte h = sight z t k byte ∷ h

-- the newest step first, from nothing at each start of lane j; h is what was seen before
abbrev pub history_from : Sizes → ℕ → List Sight → Table → List Event → List Sight
history_from z j h t [] = h
history_from z j h t (start i r ∷ es) = history_from z j (cond (eqb i j) [] h) (next z t (start i r)) es
history_from z j h t (step i byte ∷ es) = history_from z j (cond (eqb i j) (seen_after z t (lane_at t.lanes i) byte h) h) (next z t (step i byte)) es

-- what the operation that lane j started last has seen in a run
abbrev pub history : Sizes → ℕ → Table → List Event → List Sight
history z j t es = history_from z j [] t es

-- ---- what a step is, by its stage

-- a look for the key or for room, at the n-th slot of the first row and then the second; an attempt's look at a column; a write; a pick; a swing
pub data Item : Type 0 where
  seeks : ℕ → Item
  rooms : ℕ → Item
  tries : ℕ → Item
  writes : Item
  picks : Item
  swings : Item
  other : Item

-- "A step is one of the items below"
abbrev pub item : Sizes → Stage → Item
item z (Seek side column) = seeks (by_side side 0 z.columns + column)
item z (SeekRoom side column) = rooms (by_side side 0 z.columns + column)
item z (WriteHit side column) = writes
item z (WriteRoom side column) = writes
item z Pick = picks
item z (LookNext column t) = tries column
item z (PickNext t) = picks
item z (Swing w) = swings
item z s = other

-- "A hit is overwritten in one step", "one step empties the slot", "fill it in one step"
abbrev pub is_write : Item → Bool
is_write (seeks n) = false
is_write (rooms n) = false
is_write (tries n) = false
is_write writes = true
is_write picks = false
is_write swings = false
is_write other = false

-- "a pick step", of the first pass or of an attempt
abbrev pub is_pick : Item → Bool
is_pick (seeks n) = false
is_pick (rooms n) = false
is_pick (tries n) = false
is_pick writes = false
is_pick picks = true
is_pick swings = false
is_pick other = false

-- "One step moves the pair if the source still holds that key and the target is empty, else skips"
abbrev pub is_swing : Item → Bool
is_swing (seeks n) = false
is_swing (rooms n) = false
is_swing (tries n) = false
is_swing writes = false
is_swing picks = false
is_swing swings = true
is_swing other = false

-- what a step was
abbrev pub item_of : Sizes → Sight → Item
item_of z s = item z s.task.stage

-- ---- counts

-- its writes
abbrev pub writes_in : Sizes → List Sight → ℕ
writes_in z [] = 0
writes_in z (s ∷ h) = writes_in z h + bit (is_write (item_of z s))

-- its picks: "that place and its key begin the path", "appends place and key"
abbrev pub picks_in : Sizes → List Sight → ℕ
picks_in z [] = 0
picks_in z (s ∷ h) = picks_in z h + bit (is_pick (item_of z s))

-- its swings
abbrev pub swings_in : Sizes → List Sight → ℕ
swings_in z [] = 0
swings_in z (s ∷ h) = swings_in z h + bit (is_swing (item_of z s))

-- "after the walk": some place was picked, and every place that was has had its swing, "skip or not"
abbrev pub after_walk : ℕ → ℕ → Bool
after_walk picked swung = ltb 0 picked && eqb swung picked

-- a step's part in `full_columns`
abbrev pub full_on : Item → Bool → ℕ → ℕ
full_on (seeks n) full m = 0
full_on (rooms n) full m = 0
full_on (tries n) full m = cond (eqb n m && full) (m + 1) 0
full_on writes full m = 0
full_on picks full m = 0
full_on swings full m = 0
full_on other full m = 0

-- the columns that the present attempt has looked at and found full, from 0 on and one after the other
abbrev pub full_columns : Sizes → List Sight → ℕ
full_columns z [] = 0
full_columns z (s ∷ h) = full_on (item_of z s) (is_full s.slot) (full_columns z h)

-- "attempts have all found full rows": the attempts that looked at all columns and found every one full
abbrev pub full_attempts : Sizes → List Sight → ℕ
full_attempts z [] = 0
full_attempts z (s ∷ h) = full_attempts z h + bit (eqb (full_columns z (s ∷ h)) z.columns)

-- a step's part in `missed`; second says that it comes after the walk
abbrev pub miss_on : Bool → Item → Bool → ℕ → ℕ
miss_on second (seeks n) hit m = cond (second && (eqb n m && not hit)) (m + 1) m
miss_on second (rooms n) hit m = m
miss_on second (tries n) hit m = m
miss_on second writes hit m = m
miss_on second picks hit m = m
miss_on second swings hit m = m
miss_on second other hit m = m

-- the slots of its two home rows where it has looked for the key after the walk and not seen it, one after the other
abbrev pub missed : Sizes → List Sight → ℕ
missed z [] = 0
missed z (s ∷ h) = miss_on (after_walk (picks_in z h) (swings_in z h)) (item_of z s) (has_key s.slot s.task.key) (missed z h)

-- a step's part in `crowded`; second says that it comes after the walk
abbrev pub room_on : Bool → Item → Bool → ℕ → ℕ
room_on second (seeks n) full m = m
room_on second (rooms n) full m = cond (second && (eqb n m && full)) (m + 1) m
room_on second (tries n) full m = m
room_on second writes full m = m
room_on second picks full m = m
room_on second swings full m = m
room_on second other full m = m

-- the slots of its two home rows where it has looked for room after the walk and seen none, one after the other
abbrev pub crowded : Sizes → List Sight → ℕ
crowded z [] = 0
crowded z (s ∷ h) = room_on (after_walk (picks_in z h) (swings_in z h)) (item_of z s) (is_full s.slot) (crowded z h)
