-- An accepted opening, and an accepted start, taken apart: the slots stay, one lane begins.
-- Assumes nothing.
use mathlib.Core.Path.{◌≡◌}
use mathlib.Core.Logic.{◌≢◌}
use Prim.Native.Nat.{ℕ}
use native.Mathlib.Omega.{arith}
use Rattle.linear.specs.declared.Request.{Request}
use Rattle.places.specs.declared.Sizes.{Sizes}
use Rattle.paths.specs.Path.{emptied}
use Rattle.machine.specs.declared.Lane.TheVariants.{Idle, Busy}
use Rattle.machine.specs.Lane.{with_task}
use Rattle.machine.specs.Back.{lane_at}
use Rattle.machine.proofs.Numbers.{lane_same, lane_other, opened_lane}
use Rattle.machine.specs.Standing.{Table}
use Rattle.machine.specs.Desk.{open_of, opened, begun, start_of, started, Accepts}
use Rattle.kept.proofs.Long.{lanes_of}
use Rattle.kept.proofs.Opening.{open_is}
use Rattle.kept.proofs.Starting.{Accepted, start_tested, start_is}
use Rattle.linear.proofs.Deeds.{waits}
use Rattle.order.proofs.Ghosts.{ghost}

-- ---- opening

module _ (z : Sizes) (t : Table) (e : Accepts (open_of z t)) where
  pub opening_slots : (open_of z t).table.slots ≡ t.slots
  unfolding opened
  opening_slots = rw (open_is z t e)

  pub opening_lanes : (i : ℕ) → lane_at (open_of z t).table.lanes i ≡ Idle
  unfolding opened emptied
  opening_lanes i = grind (arith, open_is, opened_lane)

-- ---- start

abbrev pub started_by : Sizes → Table → ℕ → Request → Table
started_by z t j r = record { slots = t.slots; locks = t.locks; lanes = with_task t.lanes j (begun z r); path = t.path }

module _ (z : Sizes) (t : Table) (j : ℕ) (r : Request) (e : Accepts (start_of z t j r)) where
  passed : Accepted z t j r
  passed = start_tested z t j r e

  pub start_table : (start_of z t j r).table ≡ started_by z t j r
  unfolding started
  start_table = rw (start_is z t j r e)

  pub start_idle : lane_at t.lanes j ≡ Idle
  start_idle = grind (arith, passed)

  pub start_here : lane_at (started_by z t j r).lanes j ≡ Busy (begun z r)
  start_here = grind (arith, passed, lanes_of, lane_same)

  pub start_there : (i : ℕ) → i ≢ j → lane_at (started_by z t j r).lanes i ≡ lane_at t.lanes i
  start_there = lane_other t.lanes j (Busy (begun z r))

pub begun_waits : (z : Sizes) (r : Request) → ghost (Busy (begun z r)) ≡ waits r
begun_waits z r = grind arith
