-- The turn of a lane, run on a table: its steps by itself are accepted, and take off as much weight as they are.
-- Assumes nothing.
use mathlib.Core.Path.{◌≡◌, ◌∙◌, ap}
use mathlib.Core.Logic.{◌≢◌}
use Prim.Native.Nat.{ℕ, ◌+◌, ◌≤◌, ◌<◌}
use native.Mathlib.Omega.{arith}
use Rattle.places.specs.declared.Sizes.{Sizes}
use Rattle.locks.specs.declared.Lock.{Lock}
use Rattle.locks.specs.declared.Grab.{Grab}
use Rattle.locks.specs.declared.AfterTry.{AfterTry}
use Rattle.locks.specs.Locks.{lock_at}
use Rattle.locks.specs.Taking.{try_lock}
use Rattle.locks.specs.Turns.{grab_weight, tried_weight}
use Rattle.locks.proofs.Turns.{ByItself, last, then}
use Rattle.paths.specs.Path.{last_of}
use Rattle.machine.specs.declared.Task.{Task}
use Rattle.machine.specs.declared.Lane.TheVariants.{Busy}
use Rattle.machine.specs.declared.Act.TheVariants.{Try}
use Rattle.machine.specs.Back.{lane_at}
use Rattle.machine.specs.Stages.{path_length, act_of}
use Rattle.machine.specs.Standing.{Table}
use Rattle.machine.specs.Desk.{step_of}
use Rattle.kept.specs.Runs.{Stood}
use Rattle.finish.specs.Finish.{after_all, Accepted}
use Rattle.finish.specs.Weight.{weight}
use Rattle.finish.specs.Schedule.{alone}
use Rattle.finish.proofs.Taken.{taken, taken_stood, taken_there, tried_falls, tried_lock, waits_task, waits_act, waits_busy}

-- n steps of lane i by itself, which spend a and leave b of it to be spent
pub record Ran (z : Sizes) (t : Table) (i n a b : ℕ) : Type 0 where
  pub accepted : Accepted z t (alone n i)
  pub stood : Stood z (after_all z t (alone n i))
  pub there : (j : ℕ) → j ≢ i → lane_at (after_all z t (alone n i)).lanes j ≡ lane_at t.lanes j
  pub falls : weight z (lane_at (after_all z t (alone n i)).lanes i) + a ≤ weight z (lane_at t.lanes i) + b

-- one step
pub one_step : (z : Sizes) (t : Table) → Stood z t → (i : ℕ) → i < z.lanes → (l : Task) → lane_at t.lanes i ≡ Busy l → (a b : ℕ)
    → weight z (lane_at (step_of z t i 0).table.lanes i) + a ≤ weight z (lane_at t.lanes i) + b → Ran z t i 1 a b
one_step z t st i hi l busy a b f =
    record { accepted = (taken z t st i hi l busy, tt); stood = taken_stood z t st i hi l busy; there = taken_there z t st i hi l busy; falls = f }

-- the steps of a grab
pub run_tries : {z : Sizes} {g : Grab} {w : Lock} {n x : ℕ} → ByItself z g w n x → (t : Table) → Stood z t → (i : ℕ) → i < z.lanes
    → (l : Task) → lane_at t.lanes i ≡ Busy l → (k : ℕ) → act_of z l (last_of t.path (path_length l.stage)) ≡ Try k g → lock_at z t.locks k ≡ w
    → Ran z t i n (grab_weight g) x
run_tries {z} (last {g} {r} e) t st i hi l busy k a q =
    one_step z t st i hi l busy (grab_weight g) (tried_weight r)
    (omega (arith, tried_falls z t st i hi l busy k g a, ap tried_weight (ap (λ (v : Lock). (try_lock z g v).tried) q ∙ e)))
run_tries {z} (then {g} {g'} e s) t st i hi l busy k a q =
    let answer : _ = ap (λ (v : Lock). (try_lock z g v).tried) q ∙ ap (λ (x : AfterTry). x.tried) e in
    let word : _ = tried_lock z t st i hi l busy k g a ∙ ap (λ (v : Lock). (try_lock z g v).lock) q ∙ ap (λ (x : AfterTry). x.lock) e in
    let act : _ = waits_act z t st i hi l busy k g a g' answer in
    let more : _ =
    run_tries s (step_of z t i 0).table (taken_stood z t st i hi l busy) i hi (waits_task z t st i hi l busy k g a g' answer)
    (waits_busy z t st i hi l busy k g a g' answer) k act word
    in
    record {
      accepted = (taken z t st i hi l busy, more.accepted);
      stood = more.stood;
      there = λ j d. more.there j d ∙ taken_there z t st i hi l busy j d;
      falls = omega (arith, tried_falls z t st i hi l busy k g a, ap tried_weight answer, more.falls);
    }
