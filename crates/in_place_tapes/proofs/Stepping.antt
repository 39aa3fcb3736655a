-- Each of the thirteen steps finds what the code of a step asks: where the insert stands after so many steps is computed.
-- Assumes nothing.
use Prim.Native.Nat.{ℕ, ◌+◌, ◌≤◌, ◌<◌}
use mathlib.Core.Path.{◌≡◌, refl, subst}
use mathlib.Core.List.{List}
use native.Mathlib.Numerals.{add-one}
use native.Mathlib.Decide.{ℕ_discrete}
use native.Mathlib.Omega.{arith}
use lib.ListN.{length}
use Rattle.places.specs.declared.Sizes.{Sizes}
use Rattle.places.specs.Table.{in_limits, sizes_ok, slot_count}
use Rattle.places.proofs.Limits.{ok_fits}
use Rattle.slots.specs.Slot.{slot_words}
use Rattle.locks.specs.Taking.{try_lock, released, grab_of}
use Rattle.paths.specs.Path.{last_of, path_words, path_places}
use Rattle.locks.specs.Locks.{lock_words}
use Rattle.locks.specs.Parts.{grab_count}
use Rattle.machine.specs.declared.Task.{Task}
use Rattle.machine.specs.declared.Lane.{Lane}
use Rattle.machine.specs.declared.Moved.{Moved}
use Rattle.machine.specs.Steps.{Memory, step_lane, step_task}
use Rattle.machine.proofs.Computing.{computing}
use Rattle.machine.specs.Stages.{path_length, act_of, item_at}
use Rattle.acts.specs.declared.doing.LentMemory.{LentMemory}
use Rattle.acts.specs.Fitting.{memory, StageFits, TailFits, ActFits}
use Rattle.lanes.specs.Fitting.{StepFits, LaneFits, Steps}
use Rattle.in_place_tapes.specs.Tape.{small_sizes, after_steps, Stands}

module _ (m : Memory) (k : Task) where
  made : length m.slots ≡ slot_words small_sizes → length m.locks ≡ lock_words small_sizes → length m.path ≡ path_words small_sizes
      → path_length k.stage ≤ path_places small_sizes → StageFits small_sizes k.stage → ActFits small_sizes m (act_of small_sizes k (last_of m.path (path_length k.stage))) → StepFits small_sizes m k
  unfolding sizes_ok in_limits
  made es el ep places stage act = record { sizes = ok_fits small_sizes refl; memory = record { slots = es; locks = el; path = ep }; places = places; stage = stage; act = act }

abbrev At : ℕ → Type 0
At n = LaneFits small_sizes (after_steps n).memory (after_steps n).lane

-- one step, and then those after it
turn : (i : ℕ) → At i → ((n : ℕ) → i + 1 ≤ n → n < 13 → At n) → (n : ℕ) → i ≤ n → n < 13 → At n
turn i p q n a b = elim (ℕ_discrete i n) [
  | yes e ↦ subst At e p
  | no e ↦ q n (omega arith) b
]

fits_from : (n : ℕ) → 0 ≤ n → n < 13 → At n
unfolding computing StageFits TailFits ActFits after_steps
fits_from =
    turn 0 (made _ _ refl refl refl (omega arith) tt (omega arith, omega arith, omega arith))
    (turn 1 (made _ _ refl refl refl (omega arith) tt (omega arith, omega arith, omega arith))
    (turn 2 (made _ _ refl refl refl (omega arith) tt (omega arith, omega arith, omega arith))
    (turn 3 (made _ _ refl refl refl (omega arith) tt (omega arith, omega arith, omega arith))
    (turn 4 (made _ _ refl refl refl (omega arith) (omega arith) (omega arith, omega arith))
    (turn 5 (made _ _ refl refl refl (omega arith) tt (omega arith, omega arith, omega arith))
    (turn 6 (made _ _ refl refl refl (omega arith) tt (omega arith, omega arith, omega arith))
    (turn 7 (made _ _ refl refl refl (omega arith) (omega arith) (omega arith, omega arith))
    (turn 8 (made _ _ refl refl refl (omega arith) (omega arith) (omega arith, omega arith))
    (turn 9 (made _ _ refl refl refl (omega arith) tt (omega arith, omega arith))
    (turn 10 (made _ _ refl refl refl (omega arith) tt (omega arith, omega arith, tt))
    (turn 11 (made _ _ refl refl refl (omega arith) tt (omega arith, omega arith, tt))
    (turn 12 (made _ _ refl refl refl (omega arith) tt (omega arith, omega arith, tt))
    (λ n a b. absurd (omega arith))))))))))))))

module _ (z : Sizes) (xs ls ps : List ℕ) (l : Lane) (n : ℕ) (ez : z ≡ small_sizes) (s : Stands xs ls ps l n) where
  pub fits : n < 13 → LaneFits z (memory xs ls ps) l
  fits below = rw (ez, s.slots, s.locks, s.path, s.lane) (fits_from n (omega arith) below)

  pub stands_on : (r : Moved) (before after : LentMemory) → Steps r before after (step_lane z (memory xs ls ps) l 0) → Stands after.slots.now after.locks.now after.path.now r.lane (n + 1)
  unfolding after_steps
  stands_on r before after t =
      let e : step_lane z (memory xs ls ps) l 0 ≡ after_steps (n + 1) = rw (add-one, ez, s.slots, s.locks, s.path, s.lane) in
      record { slots = rw (← e) t.memory.slots; locks = rw (← e) t.memory.locks; path = rw (← e) t.memory.path; lane = rw (← e) t.lane }
