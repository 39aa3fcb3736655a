-- A worked run, by computation: an insert that walks, a delete that waits behind it, and two reads beside it. The run stops before
-- the insert's last steps, and still has it in its order, since the last read saw what it wrote. Then short runs that show when a
-- delete, a yes and a no settle.
-- Assumes nothing.
use mathlib.Core.Path.{◌≡◌, refl}
use mathlib.Core.Bool.{Bool, true, ◌&&◌}
use mathlib.Core.List.{List, [], ◌∷◌, ◌++◌}
use Rattle.std.specs.Prelude.{Option, None, Some}
use Prim.Native.Nat.{ℕ}
use lib.Dec.{eqb}
use lib.ListN.{replicate}
use borrow.Author.Tests.{eqb-true}
use Rattle.lists.proofs.Below.{and_left, and_right}
use Rattle.linear.specs.declared.Request.TheVariants.{Read, Delete, Insert}
use Rattle.places.specs.declared.Sizes.{Sizes}
use Rattle.slots.specs.Bound.{bound_in}
use Rattle.locks.specs.Locks.{lock_words}
use Rattle.locks.specs.Taking.{try_lock, released, grab_of}
use Rattle.paths.specs.Path.{path_words}
use Rattle.machine.specs.Lane.{lane_words}
use Rattle.machine.specs.Steps.{step_task}
use Rattle.machine.specs.Desk.{open_of, start_lane, start_of, step_of, number_of, Accepts}
use Rattle.locks.specs.Parts.{grab_flag, grab_count, lock_tests}
use Rattle.locks.specs.Record.{grab_code, grab_noted, grab_from, grab_in}
use Rattle.machine.specs.Back.{lane_at, decodes}
use Rattle.machine.specs.Stages.{item_at}
use Rattle.machine.specs.Standing.{Table}
use Rattle.machine.proofs.Computing.{computing}
use Rattle.linear.specs.declared.End.TheVariants.{ReadValue, Deleted, InsertSearched}
use Rattle.linear.specs.Log.{starts, ends}
use Rattle.linear.specs.Map.{binds}
use Rattle.linear.specs.Order.{map_after, Ordered}
use Rattle.order.specs.Run.{Event, start, step, next, Run, table_after, bindings, log_of}
use Rattle.order.specs.Settle.{owning, order_of}
use Rattle.order.specs.History.{history}
use Rattle.order.specs.Demand2.{AllFull}
use Rattle.order.proofs.Order.{order}

-- ---- runs, tested

accepts : Sizes → Table → Event → Bool
accepts z t (start j r) = eqb (number_of (start_of z t j r).answer) 0
accepts z t (step j byte) = eqb (number_of (step_of z t j byte).answer) 0

runs : Sizes → Table → List Event → Bool
runs z t [] = true
runs z t (e ∷ es) = accepts z t e && runs z (next z t e) es

runs_run : (z : Sizes) (t : Table) (es : List Event) → runs z t es ≡ true → Run z t es
unfolding accepts runs
runs_run z t [] e = tt
runs_run z t (start j r ∷ es) e = (
  eqb-true (number_of (start_of z t j r).answer) 0 (and_left (accepts z t (start j r)) (runs z (next z t (start j r)) es) e),
  runs_run z (next z t (start j r)) es (and_right (accepts z t (start j r)) (runs z (next z t (start j r)) es) e),
)
runs_run z t (step j byte ∷ es) e = (
  eqb-true (number_of (step_of z t j byte).answer) 0 (and_left (accepts z t (step j byte)) (runs z (next z t (step j byte)) es) e),
  runs_run z (next z t (step j byte)) es (and_right (accepts z t (step j byte)) (runs z (next z t (step j byte)) es) e),
)

-- ---- rows 3 / 1 / empty, each key with itself as value

sizes : Sizes
sizes = record { rows = 3; columns = 1; locks = 3; lanes = 3 }

table : Table
table =
    record {
      slots = 1 ∷ 3 ∷ 3 ∷ 1 ∷ 1 ∷ 1 ∷ 0 ∷ 0 ∷ 0 ∷ [];
      locks = replicate 8 0;
      lanes = replicate (lane_words sizes) 0;
      path = replicate (path_words sizes) 0;
    }

-- n steps of a lane with byte 0
goes : ℕ → ℕ → List Event
goes j n = replicate n (step j 0)

events : List Event
events =
    -- 6 has the full rows 0 and 1. The search finds room for 3 in row 2, and the walk takes the lock of row 0
    start 0 (Insert 6 7) ∷ goes 0 20
    -- a delete of 3 waits for row 0; a read of 1 sees it and holds row 1
    ++ start 2 (Delete 3) ∷ step 2 0 ∷ start 1 (Read 1) ∷ goes 1 4
    -- 3 moves to row 2. Now the insert waits for row 0, the delete finds 3 in row 2 and empties the slot
    ++ goes 0 5 ++ goes 2 3 ++ step 0 0 ∷ goes 2 5
    -- the read ends, the delete ends, the second pass fills row 0 and releases it
    ++ step 1 0 ∷ step 2 0 ∷ goes 0 9
    -- a read of 6 sees what was written, and ends
    ++ start 1 (Read 6) ∷ goes 1 5

t₀ : Table
t₀ = (open_of sizes table).table

accepted : Accepts (open_of sizes table)
unfolding computing sizes table
accepted = refl

all_run : runs sizes t₀ events ≡ true
unfolding computing accepts runs sizes table goes events t₀
all_run = refl

-- ---- its log and its order

the_log : log_of sizes t₀ events
    ≡ starts 0 (Insert 6 7) ∷ starts 2 (Delete 3) ∷ starts 1 (Read 1) ∷ ends 1 (ReadValue 1) ∷ ends 2 Deleted ∷ starts 1 (Read 6) ∷ ends 1 (ReadValue 7) ∷ []
unfolding computing sizes table goes events t₀ owning
the_log = refl

-- read 1, delete 3, insert 6 7, read 6
the_order : order_of sizes t₀ events ≡ 2 ∷ 1 ∷ 0 ∷ 3 ∷ []
unfolding computing sizes table goes events t₀ owning
the_order = refl

-- so the theorem speaks of this log and this order
example : Ordered (bindings sizes table) (starts 0 (Insert 6 7) ∷ starts 2 (Delete 3) ∷ starts 1 (Read 1) ∷ ends 1 (ReadValue 1) ∷ ends 2 Deleted ∷ starts 1 (Read 6) ∷ ends 1 (ReadValue 7) ∷ []) (2 ∷ 1 ∷ 0 ∷ 3 ∷ []) (bindings sizes (table_after sizes t₀ events))
unfolding t₀
example = rw (the_log, the_order) at (order sizes table events accepted (runs_run sizes t₀ events all_run))

-- ---- when an operation settles: two rows of one column under one lock

tiny : Sizes
tiny = record { rows = 2; columns = 1; locks = 1; lanes = 1 }

-- these slots, as an opening leaves the rest
opened₀ : List ℕ → Table
opened₀ xs = record { slots = xs; locks = replicate 4 0; lanes = replicate (lane_words tiny) 0; path = replicate (path_words tiny) 0 }

-- what a key is bound to in the map of the run's order, and in the slots
beside : Table → List Event → ℕ → Option ℕ × Option ℕ
beside t es key = (map_after (log_of tiny t es) (bindings tiny t) (order_of tiny t es) key, bindings tiny (table_after tiny t es) key)

abbrev deletes : ℕ → List Event
deletes n = start 0 (Delete 2) ∷ goes 0 n

abbrev inserts : ℕ → List Event
inserts n = start 0 (Insert 4 7) ∷ goes 0 n

-- 2 has 5. A delete that has seen it has not settled yet; its write settles it
abbrev held : Table
held = opened₀ (0 ∷ 0 ∷ 0 ∷ 1 ∷ 2 ∷ 5 ∷ [])

delete_takes : (beside held (deletes 3) 2 ≡ (Some 5, Some 5)) × (beside held (deletes 4) 2 ≡ (None, None))
unfolding computing owning bound_in binds goes tiny opened₀ beside
delete_takes = (refl, refl)

-- so of an insert that has seen room
insert_takes : (beside held (inserts 8) 4 ≡ (None, None)) × (order_of tiny held (inserts 9) ≡ 0 ∷ [])
unfolding computing owning bound_in binds goes tiny opened₀ beside
insert_takes = (refl, refl)

-- both rows are full: three attempts find full rows, and the insert says no. It settles at its end; before, it would count as a yes
abbrev crowd : Table
crowd = opened₀ (1 ∷ 2 ∷ 2 ∷ 1 ∷ 3 ∷ 3 ∷ [])

no_takes : (order_of tiny crowd (inserts 28) ≡ []) × (order_of tiny crowd (inserts 29) ≡ 0 ∷ [])
unfolding computing owning bound_in binds goes tiny opened₀ beside
no_takes = (refl, refl)

-- what it saw, and what it said
no_saw : AllFull tiny (history tiny 0 crowd (inserts 29)) × (log_of tiny crowd (inserts 29) ≡ starts 0 (Insert 4 7) ∷ ends 0 InsertSearched ∷ [])
unfolding computing owning bound_in binds goes tiny opened₀ beside
no_saw = (refl, refl)
