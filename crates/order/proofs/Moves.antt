-- An accepted step, taken apart: its lane before and after, what it saw, what it did to the bindings, what it answered.
-- Assumes nothing.
use mathlib.Core.Path.{◌≡◌, refl, ◌∙◌, subst}
use mathlib.Core.Logic.{◌≢◌}
use mathlib.Core.Bool.{true, false}
use Prim.Native.Nat.{ℕ}
use native.Mathlib.Omega.{arith}
use borrow.Author.Tests.{leb-true}
use Rattle.std.specs.Prelude.{Ok}
use Rattle.lists.proofs.Below.{Each}
use Rattle.places.specs.declared.Sizes.{Sizes}
use Rattle.places.specs.Table.{Fits, max_key}
use Rattle.places.proofs.Limits.{ok_fits}
use Rattle.slots.specs.Slot.{slot_at, is_empty, is_full}
use Rattle.paths.specs.declared.Place.{Place}
use Rattle.paths.specs.Path.{place_at, last_of}
use Rattle.machine.specs.declared.Task.{Task}
use Rattle.machine.specs.declared.Lane.{Lane}
use Rattle.machine.specs.declared.Lane.TheVariants.{Busy}
use Rattle.machine.specs.declared.Act.{Act}
use Rattle.machine.specs.declared.Seen.{Seen}
use Rattle.machine.specs.declared.Moved.{Moved}
use Rattle.machine.specs.Lane.{with_lane}
use Rattle.machine.specs.Back.{lane_at}
use Rattle.machine.specs.Stages.{act_at, path_length, task_in, lane_in, claim_key, claims_of}
use Rattle.machine.specs.Steps.{Memory, perform, advance_at, step_task}
use Rattle.machine.proofs.Numbers.{lane_same, lane_other}
use Rattle.machine.specs.Standing.{Table}
use Rattle.machine.specs.Desk.{called, memory_of, turned, step_of, Accepts}
use Rattle.machine.proofs.Claimed.{Claimed}
use Rattle.kept.proofs.Facts.{last_for, PlaceFacts}
use Rattle.kept.proofs.Checked.{Standing, standing_facts}
use Rattle.kept.proofs.Long.{Lengths, lengths_of, lanes_of}
use Rattle.machine.proofs.Ways.{Goes, goes}
use Rattle.kept.proofs.Does.{slots_do}
use Rattle.kept.proofs.Stepping.{looks, solid, last_facts}
use Rattle.kept.proofs.Fitting.{ActFits, act_fits}
use Rattle.kept.proofs.Kept.{StepAccepted, step_tested, step_is, busy_task}
use Rattle.order.specs.Run.{bindings}
use Rattle.order.specs.Settle.{settles_now}
use Rattle.order.proofs.Binds.{BindsAt, binds_at}
use Rattle.order.proofs.Ghosts.{ghost, Kind}
use Rattle.order.proofs.Settled.{kind}

-- what a lane of t that has the task l does in its step: its last place, what its act does and sees, where it goes
abbrev pub lane_of : Table → ℕ → Lane
lane_of t j = lane_at t.lanes j

abbrev pub last_on : Table → Task → Place
last_on t l = last_for (place_at t.path) (Busy l)

abbrev pub act_by : Sizes → Table → Task → Act
act_by z t l = act_at z l (last_on t l) l.stage

abbrev pub seen_by : Sizes → Table → Task → ℕ → Seen
seen_by z t l byte = (perform z (act_by z t l) byte (memory_of t)).seen

abbrev pub memory_by : Sizes → Table → Task → ℕ → Memory
memory_by z t l byte = (perform z (act_by z t l) byte (memory_of t)).memory

abbrev pub moved_by : Sizes → Table → Task → ℕ → Moved
moved_by z t l byte = advance_at z l (last_on t l) (seen_by z t l byte) l.stage

abbrev pub table_by : Sizes → Table → ℕ → Task → ℕ → Table
table_by z t j l byte =
    record { slots = (memory_by z t l byte).slots; locks = (memory_by z t l byte).locks; lanes = with_lane t.lanes j (moved_by z t l byte).lane; path = (memory_by z t l byte).path }

module _ (z : Sizes) (t : Table) (j byte : ℕ) (e : Accepts (step_of z t j byte)) where
  accepted : StepAccepted z t j
  accepted = step_tested z t j byte e

  pub step_busy : (l : Task) × (lane_of t j ≡ Busy l)
  step_busy = busy_task (lane_of t j) accepted.busy

  fits : Fits z
  fits = ok_fits z accepted.sizes

  lengths : Lengths z (memory_of t)
  lengths = lengths_of z t accepted.lengths

  standing : Standing z t
  standing = standing_facts z t accepted.stands

  pub step_fits : Fits z
  step_fits = fits

  module _ (l : Task) (busy : lane_of t j ≡ Busy l) where
    does : step_of z t j byte ≡ called (Ok (moved_by z t l byte).answer) (table_by z t j l byte)
    unfolding turned step_task last_of
    does = step_is z t j byte e ∙ rw busy refl

    pub step_table : (step_of z t j byte).table ≡ table_by z t j l byte
    step_table = rw does

    pub step_answer : (step_of z t j byte).answer ≡ Ok (moved_by z t l byte).answer
    step_answer = rw does

    pub step_here : lane_of (table_by z t j l byte) j ≡ (moved_by z t l byte).lane
    step_here = grind (arith, accepted, lane_same, lanes_of)

    pub step_there : (i : ℕ) → i ≢ j → lane_of (table_by z t j l byte) i ≡ lane_of t i
    step_there i d = lane_other t.lanes j (moved_by z t l byte).lane i d

    pub step_range : Each (task_in z l (last_on t l))
    step_range = subst (λ (x : Lane). Each (lane_in z x (last_for (place_at t.path) x))) busy (standing.stands.range j accepted.lane)

    claimed : Claimed z (slot_at t.slots) l.key (claims_of z (Busy l) (last_on t l))
    claimed = subst (λ (x : Lane). Claimed z (slot_at t.slots) (claim_key x) (claims_of z x (last_for (place_at t.path) x))) busy (standing.stands.claims j accepted.lane)

    pub step_goes : Goes z l (last_on t l) (seen_by z t l byte) l.stage (moved_by z t l byte)
    step_goes = goes z l (last_on t l) (seen_by z t l byte) l.stage

    on_path : path_length l.stage ≢ 0 → PlaceFacts z (last_on t l)
    on_path = last_facts z fits t lengths (lanes_of z t accepted.lengths) j byte accepted.lane standing l busy

    act_fit : ActFits z (slot_at t.slots) (last_on t l) (path_length l.stage) (act_by z t l)
    act_fit = act_fits z fits (slot_at t.slots) l (last_on t l) l.stage step_range.1.1 on_path claimed

    pub step_binds : BindsAt (bindings z t) (bindings z (table_by z t j l byte)) l (act_by z t l)
    step_binds =
        binds_at z fits (slot_at t.slots) (slot_at (memory_by z t l byte).slots) standing.stands.sound l (last_on t l) (leb-true l.key max_key step_range.0)
        l.stage step_range.1.1 claimed on_path
        (slots_do z fits (last_on t l) (path_length l.stage) byte (memory_of t) lengths (act_by z t l) act_fit)

    pub step_kind : Kind (bindings z t) (bindings z (table_by z t j l byte)) (ghost (Busy l)) (ghost (moved_by z t l byte).lane) (moved_by z t l byte).answer (settles_now z t j byte)
    step_kind =
        rw (step_table, step_here, busy)
        (kind z fits (slot_at t.slots) standing.stands.sound (bindings z (table_by z t j l byte)) l (last_on t l) (seen_by z t l byte) l.stage (moved_by z t l byte)
        step_range.1.1 claimed (looks z fits (last_on t l) (path_length l.stage) byte (memory_of t) (act_by z t l)) step_binds step_goes)

    -- a slot that was looked at is empty or full
    pub step_solid : is_empty (seen_by z t l byte).slot ≡ false → is_full (seen_by z t l byte).slot ≡ true
    step_solid = solid z fits (last_on t l) (path_length l.stage) byte (memory_of t) standing.stands.sound (act_by z t l) act_fit
