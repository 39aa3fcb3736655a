-- How many places a lane has on the path after a step, which steps may change it, and that the lane then holds main.
-- Assumes nothing.
use mathlib.Core.Path.{◌≡◌, refl}
use mathlib.Core.Bool.{Bool, true, false}
use Prim.Native.Nat.{ℕ, ◌+◌, ◌-◌, ◌≤◌}
use native.Mathlib.Omega.{arith}
use Rattle.lists.proofs.Below.{Each}
use Rattle.places.specs.declared.Sizes.{Sizes}
use Rattle.paths.specs.declared.Place.{Place}
use Rattle.machine.specs.declared.Outcome.{Outcome}
use Rattle.machine.specs.declared.Stage.{Stage}
use Rattle.machine.specs.declared.Task.{Task}
use Rattle.machine.specs.declared.Seen.{Seen}
use Rattle.machine.specs.declared.Moved.{Moved}
use Rattle.machine.specs.Claims.{share}
use Rattle.machine.proofs.Ways.{Leaves, leaves_hit, leaves_ended, leaves_wrote, leaves_filled, leaves_miss, leaves_picked, leaves_stuck, Swings, Goes, main_waits, main_held, room_second, room_pick, room_stuck, wrote_hit, wrote_room, picked_first, drops_on, drops_one, drops_two_lem, drops_main, next_waits, next_held, next_free, next_more, next_full, next_picked, next_walk, next_over, next_again, swings, drops_low, take_waits, take_held, seek_read, seek_hit, seek_more, seek_shared, seek_apart, seek_miss, seek_room, room_here, room_more, swing_waits, swing_held, swing_apart, drops_last}
use Rattle.locks.specs.Locks.{main_lock}
use Rattle.locks.specs.Parts.{part_writes}
use Rattle.machine.specs.Rules.{outcome_places}
use Rattle.machine.specs.Stages.{path_length, stage_in, grip_at, item_at, places_of, act_at}
use Rattle.machine.specs.declared.Act.{Act}
use Rattle.machine.specs.declared.Act.TheVariants.{Try, Release, Look, Store, PickOne, PickFrom, Move}
use Rattle.machine.specs.declared.Tail.TheVariants.{Keep, TakeOff, Clear}

-- how many of n places are on the path after an act
abbrev pub length_after : ℕ → Act → ℕ
length_after n (Try k g) = n
length_after n (Release k mode Keep) = n
length_after n (Release k mode (TakeOff i)) = i
length_after n (Release k mode Clear) = 0
length_after n (Look row c) = n
length_after n (Store row c s) = n
length_after n (PickOne one two) = 1
length_after n (PickFrom row i) = i + 1
length_after n (Move from row c) = n

module _ (z : Sizes) (l : Task) (last : Place) (seen : Seen) where
  left_length : (o : Outcome) (m : Moved) → Leaves z l o m → places_of m.lane ≡ outcome_places o
  unfolding item_at
  left_length o m p = grind arith

  swung_length : (left : ℕ) (m : Moved) → Swings z l last left m → places_of m.lane ≡ left
  unfolding item_at
  swung_length left m h = grind arith

  pub length_goes : (s : Stage) (m : Moved) → Goes z l last seen s m → places_of m.lane ≡ length_after (path_length s) (act_at z l last s)
  unfolding item_at
  length_goes s m (drops_one {o} {m = n} e p) = left_length o n p
  length_goes s m (drops_two_lem {o} {m = n} p) = left_length o n p
  length_goes s m (drops_low e) = rw e refl
  length_goes s m (drops_last {w = u} {m = n} e p) = rw e (swung_length (u.places - 1) n p)
  length_goes s m w = refl

-- the acts that change the path
abbrev pub changes_path : Act → Bool
changes_path (Try k g) = false
changes_path (Release k mode Keep) = false
changes_path (Release k mode (TakeOff i)) = true
changes_path (Release k mode Clear) = true
changes_path (Look row c) = false
changes_path (Store row c s) = false
changes_path (PickOne one two) = true
changes_path (PickFrom row i) = true
changes_path (Move from row c) = false

-- a lane whose step changes the path holds main
module _ (z : Sizes) (l : Task) (last : Place) where
  pub main_at : (s : Stage) → changes_path (act_at z l last s) ≡ true → Each (stage_in z l last s) → 1 ≤ share z part_writes (grip_at z l last s) (main_lock z)
  unfolding item_at
  main_at s c r = grind arith
