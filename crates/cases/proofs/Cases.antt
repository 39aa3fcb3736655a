-- The definitions give every case of the table, by computation.
-- Assumes nothing.
use mathlib.Core.Path.{◌≡◌, refl}
use mathlib.Core.Bool.{true}
use mathlib.Core.List.{map}
use Rattle.lists.specs.Below.{all_of}
use Rattle.locks.specs.Locks.{lock_words}
use Rattle.locks.specs.Taking.{grab_of, try_lock, released}
use Rattle.locks.specs.Parts.{grab_flag, grab_count, lock_tests}
use Rattle.locks.specs.Record.{grab_code, grab_noted, grab_from, grab_in}
use Rattle.machine.specs.Back.{lane_at, decodes}
use Rattle.machine.specs.Stages.{item_at}
use Rattle.machine.specs.Steps.{step_task}
use Rattle.machine.specs.Desk.{open_of, start_of, start_lane, step_of, Accepts}
use Rattle.machine.proofs.Computing.{computing}
use Rattle.cases.specs.Cases.{cases, passes, run_alone}

-- to find a case that fails, state `passes (..) ≡ true` for one case at a time in a copy of this file
pub all_cases : all_of (map passes cases) ≡ true
unfolding computing cases passes run_alone
all_cases = refl
