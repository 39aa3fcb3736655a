-- Who holds a lock and waits for another waits for a higher one: so nobody holds the highest lock that is waited for.
-- Assumes nothing.
use mathlib.Core.Path.{◌≡◌, refl, sym, subst, ◌∙◌}
use mathlib.Core.Logic.{◌≢◌}
use mathlib.Core.List.{List}
use Prim.Native.Nat.{ℕ, ◌+◌, ◌*◌, ◌≤◌, ◌<◌}
use native.Mathlib.Decide.{ℕ_discrete}
use native.Mathlib.Omega.{arith}
use borrow.Author.Tests.{ne_eqb, not-true}
use Rattle.lists.proofs.Below.{Each}
use Rattle.places.specs.declared.Sizes.{Sizes}
use Rattle.places.specs.Table.{Fits, lock_of, home_one, home_two}
use Rattle.places.proofs.Locking.{lock_in, order_locks}
use Rattle.locks.specs.declared.Mode.TheVariants.{Writing}
use Rattle.locks.specs.declared.Grab.{Grab}
use Rattle.locks.specs.declared.Part.{Part}
use Rattle.locks.specs.declared.Part.TheVariants.{NoPart, Tries, Holds}
use Rattle.locks.specs.Locks.{lock_at, main_lock}
use Rattle.locks.specs.Parts.{grab_flag, part_flag, part_count}
use Rattle.locks.specs.Turns.{rank_of, top_urgency, grab_urgency}
use Rattle.locks.proofs.Measures.{Measure, flag_measure, count_measure}
use Rattle.locks.proofs.Turns.{urgent_rank}
use Rattle.paths.specs.declared.Place.{Place}
use Rattle.paths.specs.Path.{other_row}
use Rattle.machine.specs.declared.Side.TheVariants.{First, Second}
use Rattle.machine.specs.declared.Stage.{Stage}
use Rattle.machine.specs.declared.Task.{Task}
use Rattle.machine.specs.declared.Lane.{Lane}
use Rattle.machine.specs.declared.Lane.TheVariants.{Idle, Busy}
use Rattle.machine.specs.declared.Act.{Act}
use Rattle.machine.specs.Rules.{mode_of, row_on, shared_rows, swing_rows}
use Rattle.machine.specs.Claims.{main_part, on_lock, share}
use Rattle.machine.specs.Stages.{item_at, grip_at, grip_of, stage_in, lane_in}
use Rattle.machine.proofs.Shift.{none_at}
use Rattle.kept.proofs.Fresh.{idle_share}
use Rattle.finish.specs.Schedule.{act_urgency, lane_urgency}
use Rattle.finish.proofs.Aims.{Takes, at_main, at_row, at_next, at_swing, Aims, takes, plain, aims, takes_in}

off : (k x n : ℕ) → k ≢ x → on_lock k x n ≡ 0
off k x n d = rw (ne_eqb k x d) refl

nothing : (k x n : ℕ) → n ≡ 0 → on_lock k x n ≡ 0
nothing k x n e = grind arith

-- ---- what a lane that waits for lock a has in a lock that ranks no lower: its grab of a, and nothing that it holds

module _ (z : Sizes) (fits : Fits z) (f : Part → ℕ) (μ : Measure z f) (k : ℕ) (l : Task) (last : Place) where
  abbrev none : (x : ℕ) → on_lock k x (f NoPart) ≡ 0
  none x = none_at z f μ k x

  -- main is below every row lock
  past_main : (row : ℕ) (p : Part) → rank_of z (lock_of z row) ≤ rank_of z k → on_lock k (main_lock z) (f p) ≡ 0
  past_main row p h = grind (arith, lock_in)

  -- of two rows in locking order the first one's lock is below the second one's
  past_first : (a b : ℕ) (p : Part) → lock_of z a < lock_of z b → rank_of z (lock_of z b) ≤ rank_of z k → on_lock k (lock_of z a) (f p) ≡ 0
  past_first a b p d h = grind (arith, lock_in)

  wants : {s : Stage} {a : ℕ} {g : Grab} → Takes z l last s a g → Each (stage_in z l last s) → rank_of z a ≤ rank_of z k → share z f (grip_at z l last s) k ≡ on_lock k a (f (Tries g))
  unfolding item_at
  wants at_main r h = omega (arith, none (main_lock z))
  wants (at_row {side = First}) r h = omega (arith, past_main (row_on z l.key First) (main_part l.op) h, none (lock_of z (row_on z l.key Second)))
  wants (at_row {side = Second}) r h =
      omega (
        arith,
        past_main (row_on z l.key Second) (main_part l.op) h,
        past_first (row_on z l.key First) (row_on z l.key Second) (Holds (mode_of l.op)) (order_locks z (home_one z l.key) (home_two z l.key) (not-true (shared_rows z l.key) r.1.0)) h,
      )
  wants at_next r h = omega (arith, past_main (other_row z last) (Holds Writing) h, none (lock_of z (other_row z last)))
  wants (at_swing {side = First} {w = w}) r h = omega (arith, past_main (swing_rows z last w).first (Holds Writing) h, none (lock_of z (swing_rows z last w).second))
  wants (at_swing {side = Second} {w = w}) r h =
      omega (
        arith,
        past_main (swing_rows z last w).second (Holds Writing) h,
        past_first (swing_rows z last w).first (swing_rows z last w).second (Holds Writing) (order_locks z last.row w.row (not-true (swing_rows z last w).shared r.1.1.0)) h,
      )

-- ---- a lane that is no more urgent than one that waits for lock k has no share in k that its grab has not

module _ (z : Sizes) (fits : Fits z) (k : ℕ) (ls : List ℕ) (g : Grab) (waits : grab_urgency z (lock_at z ls k) k g < top_urgency z) (last : Place) where
  abbrev most : ℕ
  most = grab_urgency z (lock_at z ls k) k g

  module _ (f : Part → ℕ) (μ : Measure z f) (calm : (h : Grab) → grab_urgency z (lock_at z ls k) k h ≤ most → f (Tries h) ≡ 0) where
    task_share : (l : Task) {s : Stage} {a : Act} → Aims z l last s a → Each (stage_in z l last s) → act_urgency z ls a ≤ most → share z f (grip_at z l last s) k ≡ 0
    task_share l (takes {k = a} {g = h} t) r u =
        wants z fits f μ k l last t r (urgent_rank z (lock_at z ls a) (lock_at z ls k) a k h g (takes_in fits t) waits u) ∙ elim (ℕ_discrete k a) [
          | yes e ↦ nothing k a (f (Tries h)) (calm h (subst (λ (x : ℕ). grab_urgency z (lock_at z ls x) x h ≤ most) (sym e) u))
          | no d ↦ off k a (f (Tries h)) d
        ]
    task_share l (plain e) r u = absurd (omega (arith, waits, e (λ k g. grab_urgency z (lock_at z ls k) k g) (top_urgency z)))

    pub no_share : (m : Lane) → Each (lane_in z m last) → lane_urgency z ls m last ≤ most → share z f (grip_of z m last) k ≡ 0
    no_share Idle r u = idle_share z f μ last k
    no_share (Busy l) r u = task_share l (aims z l last l.stage) r.1.1 u
