-- 01, "Standing check": words of a lane by itself, the range of its numbers, its part in the locks, and what it claims of the slots.
-- Assumes nothing.
use Rattle.std.specs.Prelude.{ℕ, ◌+◌, List, [], ◌∷◌, Bool, cond, not, eqb, ltb, leb, Option, Some, None}
use Rattle.places.specs.declared.Sizes.{Sizes}
use Rattle.places.specs.Table.{lock_of}
use Rattle.places.specs.declared.RowPair.{RowPair}
use Rattle.places.specs.Locking.{rows_of}
use Rattle.locks.specs.declared.Mode.TheVariants.{Reading, Writing}
use Rattle.locks.specs.declared.Part.{Part}
use Rattle.locks.specs.declared.Part.TheVariants.{NoPart, Holds}
use Rattle.locks.specs.Locks.{main_lock}
use Rattle.paths.specs.declared.Place.{Place}
use Rattle.paths.specs.Path.{path_places, other_row}
use Rattle.machine.specs.declared.Op.{Op}
use Rattle.machine.specs.declared.Side.{Side}
use Rattle.machine.specs.declared.Side.TheVariants.{First, Second}
use Rattle.machine.specs.declared.Trail.{Trail}
use Rattle.machine.specs.declared.Walk.{Walk}
use Rattle.machine.specs.declared.Outcome.{Outcome}
use Rattle.machine.specs.declared.Outcome.TheVariants.{Hit, Wrote, Filled, Miss, Picked, Stuck}
use Rattle.machine.specs.declared.Ending.{Ending}
use Rattle.machine.specs.declared.Ending.TheVariants.{Yes, Searched, Walked}
use Rattle.machine.specs.declared.Task.{Task}
use Rattle.machine.specs.declared.RowClaim.{RowClaim}
use Rattle.machine.specs.declared.SlotClaim.{SlotClaim}
use Rattle.machine.specs.declared.SlotClaim.TheVariants.{NoClaim, HasPair, HasRoom}
use Rattle.machine.specs.declared.Claims.{Claims}
use Rattle.machine.specs.declared.Grip.{Grip}
use Rattle.machine.specs.Sides.{by_side}
use Rattle.machine.specs.Rules.{mode_of, row_on, shared_rows, swing_rows, is_read, only_seeks, writes_hit, is_insert, is_first_pass, is_second_pass}

-- ---- "every lane number is in range for its place in the steps"

-- "Hit: release", "Miss", "a pick step", "nothing is found or empty": which operation may come to which outcome
abbrev pub outcome_in : Sizes → Op → Outcome → List Bool
outcome_in z op (Hit side column value) = is_read op ∷ ltb column z.columns ∷ []
outcome_in z op (Wrote side) = writes_hit op ∷ []
outcome_in z op Filled = is_insert op ∷ []
outcome_in z op Miss = only_seeks op ∷ []
outcome_in z op Picked = is_first_pass op ∷ []
outcome_in z op Stuck = is_second_pass op ∷ []

-- "end yes", "end no (searched)", "end no (walked)": which insert may come to which ending; "The path then has H+2 places"
abbrev pub ending_in : Sizes → Op → Ending → List Bool
ending_in z op Yes = is_insert op ∷ []
ending_in z op (Searched places) = is_first_pass op ∷ eqb places (path_places z) ∷ []
ending_in z op Walked = is_second_pass op ∷ []

-- "from the first pick to the walk the path is one longer than the search picks made"; "at most H+1 attempts"
abbrev pub trail_in : Sizes → Trail → List Bool
trail_in z t = leb t.picks z.rows ∷ eqb t.places (t.picks + 1) ∷ []

-- what an attempt may have found; "After attempt H+1 finds a full row" one pick more is made
abbrev pub found_in : Sizes → Option ℕ → Trail → List Bool
found_in z (Some column) t = ltb column z.columns ∷ trail_in z t
found_in z None t = leb 1 t.picks ∷ leb t.picks (z.rows + 1) ∷ eqb t.places (t.picks + 1) ∷ []

-- "a search that succeeds has at most H+1" places; "the free place in that key's other row"
abbrev pub walk_in : Sizes → Place → Walk → List Bool
walk_in z last w = leb 1 w.places ∷ leb w.places (z.rows + 1) ∷ ltb w.column z.columns ∷ eqb w.row (other_row z last) ∷ []

-- ---- "each lane holds the locks its place calls for"

-- a part in main, and parts in two row locks
abbrev pub grip : Part → ℕ → Part → ℕ → Part → Grip
grip main lockOne one lockTwo two = record { main = main; one = record { lock = lockOne; part = one }; two = record { lock = lockTwo; part = two } }

-- "Main lock (writing), first row ..": an insert holds main from its first row to its end
abbrev pub main_part : Op → Part
main_part op = cond (is_insert op) (Holds Writing) NoPart

-- "equal locks are taken once": the second of two rows has no part of its own where both share a lock
abbrev pub second_part : Bool → Part → Part
second_part shared p = cond (not shared) p NoPart

-- parts in main and in two rows in locking order
abbrev pub pair_grip : Sizes → Part → RowPair → Part → Part → Grip
pair_grip z main p one two = grip main (lock_of z p.first) one (lock_of z p.second) two

-- of a pass: the lane's part in main, and in its home rows
abbrev pub pass_grip : Sizes → Task → Part → Part → Grip
pass_grip z l one two = pair_grip z (main_part l.op) (rows_of z l.key) one two

-- of the search: "read-lock the key's other row"
abbrev pub search_grip : Sizes → ℕ → Part → Grip
search_grip z row one = grip (Holds Writing) (lock_of z row) one (lock_of z row) NoPart

-- of the walk: "take both rows' locks, lower first"
abbrev pub walk_grip : Sizes → Place → Walk → Part → Part → Grip
walk_grip z last w one two = pair_grip z (Holds Writing) (swing_rows z last w) one two

-- a pass that has taken both rows
abbrev pub both_rows : Sizes → Task → Grip
both_rows z l = pass_grip z l (Holds (mode_of l.op)) (second_part (shared_rows z l.key) (Holds (mode_of l.op)))

-- a pass that looks through a row, or has found its key there: in the first row before the second is taken
abbrev pub hit_rows : Sizes → Task → Side → Grip
hit_rows z l side = pass_grip z l (Holds (mode_of l.op)) (by_side side NoPart (second_part (shared_rows z l.key) (Holds (mode_of l.op))))

-- what a lane adds to lock k, by a measure of parts
abbrev pub on_lock : ℕ → ℕ → ℕ → ℕ
on_lock k lock n = cond (eqb k lock) n 0

-- what a lane adds to lock k in all
abbrev pub share : Sizes → (Part → ℕ) → Grip → ℕ → ℕ
share z f g k = on_lock k (main_lock z) (f g.main) + on_lock k g.one.lock (f g.one.part) + on_lock k g.two.lock (f g.two.part)

-- ---- "what a lane's looks have seen since it took a row's lock is, until the write they were for, still so in the rows it holds"

-- columns of a row that lack the key, and columns that are full
abbrev pub row_claim : ℕ → ℕ → ℕ → RowClaim
row_claim row lacking full = record { row = row; lacking = lacking; full = full }

-- nothing is claimed
abbrev pub no_claims : Claims
no_claims = record { one = row_claim 0 0 0; two = row_claim 0 0 0; slot = NoClaim }

-- "columns passed seeking its key lack it, those passed seeking an empty slot are full": of the first and second row
abbrev pub pass_claims : Sizes → Task → ℕ → ℕ → ℕ → ℕ → SlotClaim → Claims
pass_claims z l lack_one lack_two full_one full_two s =
    record { one = row_claim (row_on z l.key First) lack_one full_one; two = row_claim (row_on z l.key Second) lack_two full_two; slot = s }

-- of the search, of the one row it has locked
abbrev pub search_claims : ℕ → ℕ → SlotClaim → Claims
search_claims row full s = record { one = row_claim row 0 full; two = row_claim 0 0 0; slot = s }

-- of a row it looks through for its key: "columns passed seeking its key lack it"
abbrev pub seek_claims : Sizes → Task → Side → ℕ → Claims
seek_claims z l side column = pass_claims z l (by_side side column z.columns) (by_side side 0 column) 0 0 NoClaim

-- "a slot to fill is empty and its key in neither home row", and those before it are full
abbrev pub room_claims : Sizes → Task → Side → ℕ → SlotClaim → Claims
room_claims z l side column s = pass_claims z l z.columns z.columns (by_side side column z.columns) (by_side side 0 column) s

-- before a release: "a hit holds its key", a miss lacks it in both rows, "a pick stands over full rows"; of the rows still held
abbrev pub drop_claims : Sizes → Task → Side → Outcome → Claims
drop_claims z l at (Hit side column value) = pass_claims z l 0 0 0 0 (HasPair (row_on z l.key side) column value)
drop_claims z l at (Wrote side) = no_claims
drop_claims z l at Filled = no_claims
drop_claims z l at Miss = pass_claims z l (by_side at z.columns 0) z.columns 0 0 NoClaim
drop_claims z l at Picked = pass_claims z l (by_side at z.columns 0) z.columns (by_side at z.columns 0) z.columns NoClaim
drop_claims z l at Stuck = pass_claims z l (by_side at z.columns 0) z.columns (by_side at z.columns 0) z.columns NoClaim

-- of an attempt: its free column is empty, or its row is full
abbrev pub found_claims : Sizes → Place → Option ℕ → Claims
found_claims z last (Some column) = search_claims (other_row z last) column (HasRoom (other_row z last) column)
found_claims z last None = search_claims last.row z.columns NoClaim
