-- Tables that the standing check refuses: each breaks one clause of it, in a table that stands otherwise. By computation.
-- Assumes nothing.
use mathlib.Core.Path.{◌≡◌, refl}
use mathlib.Core.Bool.{Bool, true, false}
use mathlib.Core.List.{List, [], ◌∷◌, ◌++◌}
use Prim.Native.Nat.{ℕ}
use lib.ListN.{replicate}
use Rattle.std.specs.Prelude.{Option, Some, None}
use Rattle.places.specs.declared.Sizes.{Sizes}
use Rattle.locks.specs.declared.Mode.TheVariants.{Reading, Writing}
use Rattle.locks.specs.Taking.{grab_of}
use Rattle.locks.specs.Parts.{grab_flag, grab_count, lock_tests}
use Rattle.locks.specs.Record.{grab_code, grab_noted, grab_from, grab_in}
use Rattle.machine.specs.declared.Op.TheVariants.{Read, Delete, Insert}
use Rattle.machine.specs.declared.Stage.TheVariants.{DropNext, Take, Seek}
use Rattle.machine.specs.declared.Task.{Task}
use Rattle.machine.specs.Lane.{numbers_of}
use Rattle.machine.specs.Back.{lane_at, decodes}
use Rattle.machine.specs.Stages.{item_at}
use Rattle.machine.specs.Standing.{standing}
use Rattle.machine.specs.declared.Lane.TheVariants.{Busy}
use Rattle.machine.specs.declared.Side.TheVariants.{Second}
use Rattle.machine.proofs.Computing.{computing}

-- three rows of one column, a lock for each, two lanes
abbrev z : Sizes
z = record { rows = 3; columns = 1; locks = 3; lanes = 2 }

abbrev stands : List ℕ → List ℕ → Task → Task → List ℕ → Bool
stands xs ls l m ps = standing z (record { slots = xs; locks = ls; lanes = numbers_of (Busy l) ++ numbers_of (Busy m); path = ps })

-- row 0 has 6, row 1 has 1, and row 2 is empty
abbrev rows : List ℕ
rows = 1 ∷ 6 ∷ 60 ∷ 1 ∷ 1 ∷ 10 ∷ 0 ∷ 0 ∷ 0 ∷ []

-- lane 0 inserts 0: its search went from row 0 to row 1 and found room in row 2
abbrev searcher : Option ℕ → Task
searcher f = record { op = Insert; key = 0; value = 7; stage = DropNext f (record { picks = 1; places = 2 }) }

-- lane 1 reads, has looked through row 0 and goes to lock its second row
abbrev reader : ℕ → ℕ → Task
reader key value = record { op = Read; key = key; value = value; stage = Take Second (grab_of z Reading) }

-- rows 0 and 2 are held for reading, main for writing
abbrev held : List ℕ
held = 0 ∷ 1 ∷ 0 ∷ 0 ∷ 0 ∷ 1 ∷ 1 ∷ 0 ∷ []

-- the keys of the two places on the path, and of the place after them
abbrev path : ℕ → ℕ → ℕ → List ℕ
path one two left = 0 ∷ 0 ∷ one ∷ 1 ∷ 0 ∷ two ∷ 0 ∷ 0 ∷ left ∷ replicate 6 0

it_stands : stands rows held (searcher (Some 0)) (reader 2 0) (path 6 1 0) ≡ true
unfolding computing
it_stands = refl

-- an empty slot with a value; a read that brings a value
lanes_checked : stands (1 ∷ 6 ∷ 60 ∷ 1 ∷ 1 ∷ 10 ∷ 0 ∷ 0 ∷ 5 ∷ []) held (searcher (Some 0)) (reader 2 0) (path 6 1 0)
    ∷ stands rows held (searcher (Some 0)) (reader 2 9) (path 6 1 0) ∷ []
    ≡ false ∷ false ∷ []
unfolding computing
lanes_checked = refl

-- main's flag is clear; row 0 has lost its reader; two inserts hold main; a delete holds row 2 for writing, beside its reader
locks_checked : stands rows (0 ∷ 1 ∷ 0 ∷ 0 ∷ 0 ∷ 1 ∷ 0 ∷ 0 ∷ []) (searcher (Some 0)) (reader 2 0) (path 6 1 0)
    ∷ stands rows (0 ∷ 0 ∷ 0 ∷ 0 ∷ 0 ∷ 1 ∷ 1 ∷ 0 ∷ []) (searcher (Some 0)) (reader 2 0) (path 6 1 0)
    ∷ stands rows (1 ∷ 0 ∷ 0 ∷ 0 ∷ 0 ∷ 1 ∷ 2 ∷ 0 ∷ []) (searcher (Some 0)) (record { op = Insert; key = 2; value = 9; stage = Take Second (grab_of z Writing) }) (path 6 1 0)
    ∷ stands rows (0 ∷ 0 ∷ 1 ∷ 0 ∷ 1 ∷ 1 ∷ 1 ∷ 0 ∷ []) (searcher (Some 0)) (record { op = Delete; key = 5; value = 0; stage = Seek Second 0 }) (path 6 1 0) ∷ []
    ≡ false ∷ false ∷ false ∷ false ∷ []
unfolding computing
locks_checked = refl

-- a place outside its key's home rows; a place that is not in the other row of the key before; a place left over
path_checked : stands rows held (searcher (Some 0)) (reader 2 0) (path 6 2 0)
    ∷ stands rows held (searcher (Some 0)) (reader 2 0) (path 3 1 0)
    ∷ stands rows held (searcher (Some 0)) (reader 2 0) (path 6 1 1) ∷ []
    ≡ false ∷ false ∷ false ∷ []
unfolding computing
path_checked = refl

-- row 0 has the key that was not seen there; the room in row 2 is taken; the row that was picked from has room
claims_checked : stands rows held (searcher (Some 0)) (reader 6 0) (path 6 1 0)
    ∷ stands (1 ∷ 6 ∷ 60 ∷ 1 ∷ 1 ∷ 10 ∷ 1 ∷ 2 ∷ 20 ∷ []) held (searcher (Some 0)) (reader 2 0) (path 6 1 0)
    ∷ stands (1 ∷ 6 ∷ 60 ∷ 0 ∷ 0 ∷ 0 ∷ 0 ∷ 0 ∷ 0 ∷ []) (0 ∷ 1 ∷ 0 ∷ 1 ∷ 0 ∷ 0 ∷ 1 ∷ 0 ∷ []) (searcher None) (reader 2 0) (path 6 1 0) ∷ []
    ≡ false ∷ false ∷ false ∷ []
unfolding computing
claims_checked = refl
