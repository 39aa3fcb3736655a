-- What runs of the machine compute with. A proof by computation names `computing` on its `unfolding` line, and with it all of these.
use Rattle.lists.specs.Below.{sum_below, all_below, any_below, first_from}
use Rattle.lists.specs.Records.{cell, put}
use Rattle.places.specs.Locking.{lock_order}
use Rattle.places.specs.Table.{in_limits, sizes_ok, slot_index, slot_count, row_at, home_one, home_two, lock_of}
use Rattle.slots.specs.Slot.{slot_at, with_slot, has_key}
use Rattle.slots.specs.Sound.{bad_shape, strays, stands_below, fault_of, is_faulty, sound, opening_fault}
use Rattle.locks.specs.Locks.{lock_words, lock_at, with_lock}
use Rattle.locks.specs.Taking.{grab_of, try_lock, released}
use Rattle.locks.specs.Parts.{grab_flag, grab_count, lock_tests}
use Rattle.locks.specs.Record.{grab_code, grab_noted, grab_from, grab_in}
use Rattle.paths.specs.Path.{place_at, with_place, emptied, last_of, other_row}
use Rattle.machine.specs.Desk.{lengths_ok, opened, open_of, started, start_lane, start_of, turned, step_of}
use Rattle.machine.specs.Lane.{numbers_of, with_lane}
use Rattle.machine.specs.Back.{lane_at, decodes}
use Rattle.machine.specs.Stages.{item_at}
use Rattle.machine.specs.Standing.{lock_stands, place_stands, linked, unused, path_stands, row_stands, slot_stands, lane_stands, standing}
use Rattle.machine.specs.Steps.{perform, advance_at, step_task}

-- sums, tests and cells of lists
unfoldable pub sums : Unit {0}
unfolding sum_below all_below any_below first_from cell put
sums = tt

-- sizes, rows and the locks of rows
unfoldable pub rows : Unit {0}
unfolding lock_order in_limits sizes_ok slot_index slot_count row_at home_one home_two lock_of
rows = tt

-- slots and the slot check
unfoldable pub looks : Unit {0}
unfolding slot_at with_slot has_key bad_shape strays stands_below fault_of is_faulty sound opening_fault
looks = tt

-- lock words and the path
unfoldable pub words : Unit {0}
unfolding lock_words lock_at with_lock grab_of try_lock released grab_flag grab_count lock_tests grab_code grab_noted grab_from grab_in place_at with_place emptied last_of other_row
words = tt

-- a lane and its steps
unfoldable pub steps : Unit {0}
unfolding numbers_of lane_at with_lane decodes item_at perform advance_at step_task
steps = tt

-- the calls
unfoldable pub calls : Unit {0}
unfolding lengths_ok opened open_of started start_lane start_of turned step_of
calls = tt

-- the standing check
unfoldable pub checks : Unit {0}
unfolding lock_stands place_stands linked unused path_stands row_stands slot_stands lane_stands standing
checks = tt

-- all of it
unfoldable pub computing : Unit {0}
unfolding sums rows looks words steps calls checks
computing = tt
