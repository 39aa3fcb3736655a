-- What a table that stands, by its type, lends: four lists, as one table, and the same lists after a call.
-- Assumes nothing.
use Rattle.std.specs.Prelude.{◌≡◌}
use Rattle.machine.specs.Standing.{Table}
use Rattle.standing.specs.Tables.{table}
use Rattle.desk.specs.declared.table.Standing.{Standing}

-- its four lists, as one table
abbrev pub lent_table : Standing → Table
lent_table s = table s.slots.now s.locks.now s.lanes.now s.path.now

-- it lends the same lists, in the same layout
abbrev pub SameLists : Standing → Standing → Type 0
SameLists s t =
    (s.z ≡ t.z)
    × (s.slots.ghost_name ≡ t.slots.ghost_name)
    × (s.locks.ghost_name ≡ t.locks.ghost_name)
    × (s.lanes.ghost_name ≡ t.lanes.ghost_name)
    × (s.path.ghost_name ≡ t.path.ghost_name)
