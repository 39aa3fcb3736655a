-- What stands gives what the code of a step asks: a lock's count has the lane's own part in it, and at most one for each lane.
-- Assumes nothing.
use mathlib.Core.Path.{◌≡◌, refl}
use Prim.Native.Nat.{ℕ, ◌+◌, ◌≤◌, ◌<◌}
use native.Mathlib.Omega.{arith}
use borrow.Author.Tests.{eqb-true, eq-eqb, ltb-true, leb-true}
use Rattle.lists.proofs.Below.{Each}
use Rattle.lists.proofs.Sums.{sum_at}
use Rattle.lists.specs.Numbers.{max_number}
use Rattle.places.specs.declared.Sizes.{Sizes}
use Rattle.places.specs.Table.{Fits}
use Rattle.places.proofs.Limits.{ok_fits}
use Rattle.locks.specs.Locks.{lock_at, main_lock}
use Rattle.locks.specs.Parts.{part_count}
use Rattle.locks.proofs.Measures.{count_measure}
use Rattle.paths.specs.declared.Place.{Place}
use Rattle.paths.specs.Path.{place_at, last_of}
use Rattle.machine.specs.declared.Stage.{Stage}
use Rattle.machine.specs.declared.Stage.TheVariants.{Seek, SeekRoom, LookNext, PickNext, DropSwing}
use Rattle.machine.specs.declared.Tail.TheVariants.{Keep, TakeOff, Clear}
use Rattle.machine.specs.declared.Act.{Act}
use Rattle.machine.specs.declared.Act.TheVariants.{Try, Release, Look, Store, PickOne, PickFrom, Move}
use Rattle.machine.specs.declared.Task.{Task}
use Rattle.machine.specs.declared.Lane.{Lane}
use Rattle.machine.specs.Steps.{Memory, saw_nothing}
use Rattle.machine.specs.Claims.{on_lock, share}
use Rattle.machine.specs.declared.Lane.TheVariants.{Busy}
use Rattle.machine.specs.Back.{lane_at}
use Rattle.machine.specs.Stages.{item_at, task_in, lane_in, path_length, act_at, stage_in, grip_at, grip_of}
use Rattle.machine.specs.Standing.{Table}
use Rattle.machine.specs.Desk.{memory_of}
use Rattle.machine.proofs.Shift.{touched, touch_of}
use Rattle.slots.specs.Slot.{slot_at}
use mathlib.Core.Path.{subst}
use Rattle.machine.proofs.Single.{path_short}
use Rattle.acts.specs.Fitting.{StageFits, MemoryFits, TailFits, ActFits}
use Rattle.lanes.specs.Fitting.{StepFits}
use Rattle.kept.specs.Runs.{Stood}
use Rattle.kept.proofs.Facts.{last_for, parts}
use Rattle.kept.proofs.Checked.{Standing, standing_facts}
use Rattle.kept.proofs.Long.{Lengths, lengths_of, lanes_of}
use Rattle.kept.proofs.Words.{counts_few}
use Rattle.kept.proofs.Fitting.{ActFits as InRange}
use Rattle.kept.proofs.Stepping.{fitting}

-- ---- the stage

module _ (z : Sizes) (f : Fits z) (l : Task) (last : Place) where
  stage_fits : (s : Stage) → Each (stage_in z l last s) → StageFits z s
  unfolding StageFits item_at
  stage_fits (Seek side c) r = ltb-true c z.columns r.0
  stage_fits (SeekRoom side c) r = ltb-true c z.columns r.1.0
  stage_fits (LookNext c t) r = ltb-true c z.columns r.1.0
  stage_fits (PickNext t) r =
      (omega (arith, leb-true t.picks z.rows r.1.0), omega (arith, leb-true t.picks z.rows r.1.0, eqb-true t.places (t.picks + 1) r.1.1.0))
  stage_fits (DropSwing side w) r = leb-true 1 w.places r.1.1.0
  stage_fits s r = tt

-- ---- the act

-- a lock's count takes one more, and has the part that the act changes in it
record CountFits (z : Sizes) (mem : Memory) (a : Act) : Type 0 where
  few : (k : ℕ) → k < z.locks + 1 → (lock_at z mem.locks k).count < max_number
  mine : (touch_of saw_nothing a).lock < z.locks + 1 → part_count (touch_of saw_nothing a).before ≤ (lock_at z mem.locks (touch_of saw_nothing a).lock).count

module _ (z : Sizes) (f : Fits z) (last : Place) (n : ℕ) (mem : Memory) (len : MemoryFits z mem) where
  acts_fit : (a : Act) → InRange z (slot_at mem.slots) last n a → CountFits z mem a → ActFits z mem a
  unfolding ActFits TailFits
  acts_fit (Try k g) h c = (h, c.few k h, c.mine h)
  acts_fit (Release k mode Keep) h c = (h, c.mine h, tt)
  acts_fit (Release k mode (TakeOff i)) h c = (h.0, c.mine h.0, omega (arith, len.path, h.1.0, h.1.1))
  acts_fit (Release k mode Clear) h c = (h, c.mine h, tt)
  acts_fit (Look row column) h c = h
  acts_fit (Store row column s) h c = h
  acts_fit (PickOne one two) h c = (h.1.0.within, h.1.1.within)
  acts_fit (PickFrom row i) h c = (h.1.1.1.within, h.1.0)
  acts_fit (Move from row column) h c = (h.0.row_in, h.0.column_in, h.1.0, h.1.1)

-- ---- all of it

module _ (z : Sizes) (t : Table) (j : ℕ) (st : Stood z t) (hj : j < z.lanes) (k : Task) (busy : lane_at t.lanes j ≡ Busy k) where
  sized : Fits z
  sized = ok_fits z st.sizes

  long : Lengths z (memory_of t)
  long = lengths_of z t st.lengths

  facts : Standing z t
  facts = standing_facts z t st.stands

  fitted : MemoryFits z (memory_of t)
  fitted = record { slots = long.slots; locks = long.locks; path = long.path }

  abbrev last : Place
  last = last_for (place_at t.path) (Busy k)

  abbrev act : Act
  act = act_at z k last k.stage

  range : Each (task_in z k last)
  range = subst (λ (x : Lane). Each (lane_in z x (last_for (place_at t.path) x))) busy (facts.stands.range j hj)

  -- the lane's own part is in each lock's count
  own : (i : ℕ) → i < z.locks + 1 → share z part_count (grip_at z k last k.stage) i ≤ (lock_at z t.locks i).count
  own i h =
      omega (
        arith,
        (facts.stands.locks i h).count_is,
        subst (λ (x : Lane). share z part_count (grip_of z x (last_for (place_at t.path) x)) i ≤ parts z part_count (lane_at t.lanes) (place_at t.path) i) busy
            (sum_at z.lanes j (λ m. share z part_count (grip_of z (lane_at t.lanes m) (last_for (place_at t.path) (lane_at t.lanes m))) i) hj),
      )

  counts : CountFits z (memory_of t) act
  counts =
      record {
        few = λ i h. omega (arith, sized.lanes_high, (facts.stands.locks i h).count_is, counts_few z (lane_at t.lanes) (place_at t.path) facts.stands.range i);
        mine = λ h. omega (arith, here, touched z part_count (count_measure z) changed k last last saw_nothing k.stage range.1.1, own changed h);
      }
    where
      changed : ℕ
      changed = (touch_of saw_nothing act).lock

      here : on_lock changed changed (part_count (touch_of saw_nothing act).before) ≡ part_count (touch_of saw_nothing act).before
      here = rw (eq-eqb changed changed refl)

  pub fits : StepFits z (memory_of t) k
  unfolding last_of
  fits =
      record {
        sizes = sized;
        memory = fitted;
        places = path_short z (Busy k) last range;
        stage = stage_fits z sized k last k.stage range.1.1;
        act =
            acts_fit z sized last (path_length k.stage) (memory_of t) fitted act
            (fitting z sized t long (lanes_of z t st.lengths) j 0 hj facts k busy) counts;
      }
