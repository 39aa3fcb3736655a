-- 01, "Tapes to try": the starred cases as one table.
-- Assumes nothing.
use Rattle.std.specs.Prelude.{ℕ, zero, suc, ◌+◌, ◌*◌, List, [], ◌∷◌, ◌++◌, Bool, false, cond, not, ◌&&◌, ◌||◌, eqb, length, get_or, replicate, ⊤, Option, None, Result, Ok, Err}
use Rattle.lists.specs.Below.{all_of, all_below}
use Rattle.linear.specs.declared.Request.{Request}
use Rattle.linear.specs.declared.Request.TheVariants.{Read, Delete, Insert}
use Rattle.places.specs.declared.Sizes.{Sizes}
use Rattle.places.specs.Table.{home_one, home_two}
use Rattle.paths.specs.Path.{path_words}
use Rattle.machine.specs.declared.Lane.{Lane}
use Rattle.machine.specs.declared.Lane.TheVariants.{Idle, Busy}
use Rattle.machine.specs.Lane.{stage_words, lane_words}
use Rattle.machine.specs.Back.{lane_at}
use Rattle.linear.specs.declared.End.{End}
use Rattle.machine.specs.declared.Refusal.{Refusal}
use Rattle.slots.specs.Slot.{slot_words}
use Rattle.locks.specs.Locks.{lock_words}
use Rattle.machine.specs.Standing.{Table}
use Rattle.machine.specs.Desk.{Called, open_of, start_of, step_of, number_of, end_of}

-- ---- a lane run alone

-- "Alone": one lane
abbrev pub sizes : ℕ → ℕ → ℕ → Sizes
sizes rows columns locks = record { rows = rows; columns = columns; locks = locks; lanes = 1 }

-- a table with these slots, opened
abbrev pub table_of : Sizes → List ℕ → Table
table_of z xs =
    (open_of z (record { slots = xs; locks = replicate (lock_words z) 0; lanes = replicate (lane_words z) 0; path = replicate (path_words z) 0 })).table

-- "empty table"
abbrev pub empty_table : Sizes → Table
empty_table z = table_of z (replicate (slot_words z) 0)

-- where a run stands: the table, the steps taken, the last answer
pub record Run : Type 0 where
  pub table : Table
  pub steps : ℕ
  pub last : Result (Option End) Refusal

-- a step that picks takes the next byte of the list; any other is given 0
abbrev pub picks : Lane → Bool
picks Idle = false
picks (Busy k) = eqb (stage_words k.stage).code 10 || eqb (stage_words k.stage).code 16

-- the byte of the next step
abbrev pub byte_for : Lane → List ℕ → ℕ
byte_for l bytes = cond (picks l) (get_or bytes 0 0) 0

-- and the bytes left after it
abbrev pub bytes_after : Lane → List ℕ → List ℕ
bytes_after l [] = []
bytes_after l (b ∷ bytes) = cond (picks l) bytes (b ∷ bytes)

-- a step has ended its operation, or was refused
abbrev pub ended : Result (Option End) Refusal → Bool
ended a = not (eqb (number_of a) 0) || not (eqb (end_of a).end 0)

-- lane 0 by itself for n steps, or until a step ends it or is refused
unfoldable pub run_alone : ℕ → Sizes → List ℕ → Run → Run
run_alone zero z bytes r = r
run_alone (suc n) z bytes r =
    let l : Lane = lane_at r.table.lanes 0 in
    let c : Called (Result (Option End) Refusal) = step_of z r.table 0 (byte_for l bytes) in
    let on : Run = record { table = c.table; steps = r.steps + 1; last = c.answer } in
    cond (ended c.answer) on (run_alone n z (bytes_after l bytes) on)

-- a request started: an answer so far is that the lane goes on
abbrev pub begin : Sizes → Table → Request → Run
begin z t r =
    let c : Called (Result ⊤ Refusal) = start_of z t 0 r in
    record { table = c.table; steps = 0; last = elim c.answer [ Ok u ↦ Ok None | Err why ↦ Err why ] }

-- ---- the cases

-- "Tapes to try": a case of the table
pub data Case : Type 0 where
  -- home rows of a key
  rows_are : ℕ → ℕ → ℕ → ℕ → Case
  -- sizes, request, steps to its end alone in an empty table, and the number of that end
  takes : Sizes → Request → ℕ → ℕ → Case
  -- sizes, slots, request, pick bytes: steps, the number of the end, and the slots then; every lock clear, path and lane zeros
  walks : Sizes → List ℕ → Request → List ℕ → ℕ → ℕ → List ℕ → Case
  -- sizes, slots, request, pick bytes, steps: the places then on the path
  picked : Sizes → List ℕ → Request → List ℕ → ℕ → List ℕ → Case

-- two lists are the same
abbrev pub same : List ℕ → List ℕ → Bool
same xs ys = eqb (length xs) (length ys) && all_below (length xs) (λ i. eqb (get_or xs i 0) (get_or ys i 0))

-- all numbers are 0
abbrev pub zeros : List ℕ → Bool
zeros xs = all_below (length xs) (λ i. eqb (get_or xs i 0) 0)

-- more steps than any case takes
abbrev pub plenty : ℕ
plenty = 200

-- the definitions give what a case says
unfoldable pub passes : Case → Bool
passes (rows_are rows key one two) = eqb (home_one (sizes rows 1 1) key) one && eqb (home_two (sizes rows 1 1) key) two
passes (takes z r steps end) =
    let e : Run = run_alone plenty z [] (begin z (empty_table z) r) in
    all_of (eqb e.steps steps ∷ eqb (number_of e.last) 0 ∷ eqb (end_of e.last).end end ∷ [])
passes (walks z xs r bytes steps end ys) =
    let e : Run = run_alone plenty z bytes (begin z (table_of z xs) r) in
    all_of
    (eqb e.steps steps ∷ eqb (number_of e.last) 0 ∷ eqb (end_of e.last).end end ∷ same e.table.slots ys
    ∷ zeros e.table.locks ∷ zeros e.table.lanes ∷ zeros e.table.path ∷ [])
passes (picked z xs r bytes steps ps) =
    let e : Run = run_alone steps z bytes (begin z (table_of z xs) r) in
    all_of (eqb e.steps steps ∷ eqb (number_of e.last) 0 ∷ same e.table.path ps ∷ [])

-- ---- the table

-- "11 + 2W", "6 + 2W", "8 + 2W" at distinct locks and "4 + 2W" at a shared one, for a table of 4 rows
abbrev pub counts_at : ℕ → List Case
counts_at w =
    takes (sizes 4 w 4) (Insert 8 7) (11 + 2 * w) 4
    ∷ takes (sizes 4 w 4) (Delete 8) (6 + 2 * w) 3
    ∷ takes (sizes 4 w 4) (Read 8) (8 + 2 * w) 1
    ∷ takes (sizes 4 w 1) (Read 8) (4 + 2 * w) 1
    ∷ []

-- rows 24, 12 / 9, 1 / empty / 11, 23, each key with itself as value
abbrev pub walk_slots : List ℕ
walk_slots = 1 ∷ 24 ∷ 24 ∷ 1 ∷ 12 ∷ 12 ∷ 1 ∷ 9 ∷ 9 ∷ 1 ∷ 1 ∷ 1 ∷ 0 ∷ 0 ∷ 0 ∷ 0 ∷ 0 ∷ 0 ∷ 1 ∷ 11 ∷ 11 ∷ 1 ∷ 23 ∷ 23 ∷ []

-- rows 9, 12 / empty, 24 / 1, empty / 11, 23
abbrev pub walked_slots : List ℕ
walked_slots = 1 ∷ 9 ∷ 9 ∷ 1 ∷ 12 ∷ 12 ∷ 0 ∷ 0 ∷ 0 ∷ 1 ∷ 24 ∷ 24 ∷ 1 ∷ 1 ∷ 1 ∷ 0 ∷ 0 ∷ 0 ∷ 1 ∷ 11 ∷ 11 ∷ 1 ∷ 23 ∷ 23 ∷ []

-- "The starred cases form a single table". The walk's 86 steps: 17 to the search (main 2, rows 2 x (2 + 2), room 4, pick 1, releases 2), 3 x 7 + 5
-- in the search, 4 x 7 in the walk, 12 + 3 in the second pass; the last pick is step 37, the first step 15
unfoldable pub cases : List Case
cases =
    rows_are 3 1024 1 0 ∷ rows_are 2 5 1 0 ∷ rows_are 4 8 0 3 ∷ rows_are 4 9 1 0 ∷ rows_are 4 11 3 2
    ∷ counts_at 1 ++ counts_at 2 ++ counts_at 5 ++ counts_at 8
    ++ walks (sizes 4 2 4) walk_slots (Insert 8 7) (0 ∷ 0 ∷ 0 ∷ 1 ∷ []) 86 6 walked_slots
    -- its path after the last pick: (0,0), (1,0), (0,0), (1,1)
    ∷ picked (sizes 4 2 4) walk_slots (Insert 8 7) (0 ∷ 0 ∷ 0 ∷ 1 ∷ []) 37 (0 ∷ 0 ∷ 24 ∷ 1 ∷ 0 ∷ 9 ∷ 0 ∷ 0 ∷ 24 ∷ 1 ∷ 1 ∷ 1 ∷ 0 ∷ 0 ∷ 0 ∷ 0 ∷ 0 ∷ 0 ∷ [])
    -- byte 3: row h2, column 1
    ∷ picked (sizes 4 2 4) walk_slots (Insert 8 7) (3 ∷ []) 15 (3 ∷ 1 ∷ 23 ∷ 0 ∷ 0 ∷ 0 ∷ 0 ∷ 0 ∷ 0 ∷ 0 ∷ 0 ∷ 0 ∷ 0 ∷ 0 ∷ 0 ∷ 0 ∷ 0 ∷ 0 ∷ [])
    -- key 21 has h1 = 1, h2 = 0, so l1 > l2: byte 0 takes h1 all the same
    ∷ picked (sizes 4 2 4) walk_slots (Insert 21 7) (0 ∷ []) 15 (1 ∷ 0 ∷ 9 ∷ 0 ∷ 0 ∷ 0 ∷ 0 ∷ 0 ∷ 0 ∷ 0 ∷ 0 ∷ 0 ∷ 0 ∷ 0 ∷ 0 ∷ 0 ∷ 0 ∷ 0 ∷ [])
    ∷ []
