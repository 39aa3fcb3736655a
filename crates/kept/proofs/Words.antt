-- A step keeps the numbers of every lock: its lane's part in one lock changes as that lock's words do.
-- Assumes nothing.
use mathlib.Core.Path.{◌≡◌, refl, ap}
use mathlib.Core.Logic.{◌≢◌}
use mathlib.Core.Bool.{Bool, cond}
use Prim.Native.Nat.{ℕ, zero, suc, ◌+◌, ◌≤◌, ◌<◌}
use native.Mathlib.Omega.{arith}
use borrow.Author.Tests.{eq-eqb, ne_eqb}
use Rattle.lists.proofs.Below.{Each}
use Rattle.places.specs.declared.Sizes.{Sizes}
use Rattle.locks.specs.declared.Part.{Part}
use Rattle.paths.specs.declared.Place.{Place}
use Rattle.machine.specs.declared.Lane.{Lane}
use Rattle.machine.specs.declared.Seen.{Seen}
use Rattle.machine.specs.declared.Moved.{Moved}
use Rattle.machine.specs.declared.Grip.{Grip}
use Rattle.machine.specs.Claims.{on_lock, share}
use Rattle.machine.specs.Stages.{lane_in, stage_in, grip_of, act_at}
use Rattle.machine.proofs.Ways.{Goes}
use Rattle.lists.specs.Below.{sum_below}
use Rattle.lists.proofs.Sums.{sum_few, sum_change, sum_at}
use native.Mathlib.Decide.{ℕ_discrete}
use Rattle.locks.specs.declared.Lock.{Lock}
use Rattle.locks.specs.Parts.{part_count}
use Rattle.locks.proofs.Measures.{Measure}
use Rattle.locks.proofs.Counts.{Counts, Turned, turned_counts, counts_same}
use Rattle.kept.proofs.Facts.{last_for, parts}
use Rattle.machine.proofs.Single.{count_one}
use Rattle.machine.proofs.Follows.{Follows}
use Rattle.machine.proofs.Shift.{Touch, touch_of, shift, touched}
use Rattle.machine.specs.declared.Lane.TheVariants.{Busy}
use Rattle.machine.specs.declared.Task.{Task}

on_sum : (b : Bool) (m n o : ℕ) → m ≡ n + o → cond b m 0 ≡ cond b n 0 + cond b o 0
on_sum b m n o e = grind arith

-- a measure that is the sum of two, over a lane and over all lanes
share_sum : (z : Sizes) (f h e : Part → ℕ) → ((p : Part) → f p ≡ h p + e p) → (g : Grip) (k : ℕ) → share z f g k ≡ share z h g k + share z e g k
share_sum z f h e q g k = grind (arith, on_sum)

sum_sum : (n : ℕ) (f h e : ℕ → ℕ) → ((j : ℕ) → f j ≡ h j + e j) → sum_below n f ≡ sum_below n h + sum_below n e
unfolding sum_below
sum_sum zero f h e q = refl
sum_sum (suc n) f h e q = omega (arith, sum_sum n f h e q, q n)

parts_sum : (z : Sizes) (f h e : Part → ℕ) → ((p : Part) → f p ≡ h p + e p) → (σ : ℕ → Lane) (π : ℕ → Place) (k : ℕ) → parts z f σ π k ≡ parts z h σ π k + parts z e σ π k
parts_sum z f h e q σ π k =
    sum_sum z.lanes (λ j. share z f (grip_of z (σ j) (last_for π (σ j))) k) (λ j. share z h (grip_of z (σ j) (last_for π (σ j))) k) (λ j. share z e (grip_of z (σ j) (last_for π (σ j))) k)
    (λ j. share_sum z f h e q (grip_of z (σ j) (last_for π (σ j))) k)

-- a lock's count is at most the number of lanes
pub counts_few : (z : Sizes) (σ : ℕ → Lane) (π : ℕ → Place) → ((j : ℕ) → j < z.lanes → Each (lane_in z (σ j) (last_for π (σ j)))) → (k : ℕ) → parts z part_count σ π k ≤ z.lanes
counts_few z σ π h k = grind (arith, sum_few, count_one)

-- a lane's step among the others: lane i becomes what the step made of it, and the other lanes and their last places stay
pub record Alone (z : Sizes) (σ σ' : ℕ → Lane) (π π' : ℕ → Place) (i : ℕ) (l' : Lane) : Type 0 where
  pub within : i < z.lanes
  pub here : σ' i ≡ l'
  pub there : (j : ℕ) → j < z.lanes → j ≢ i → σ' j ≡ σ j
  pub lasts : (j : ℕ) → j < z.lanes → j ≢ i → last_for π' (σ j) ≡ last_for π (σ j)

module _ (z : Sizes) (σ σ' : ℕ → Lane) (π π' : ℕ → Place) (i : ℕ) (l : Task) (busy : σ i ≡ Busy l) (seen : Seen) (m : Moved)
    (u : Alone z σ σ' π π' i m.lane) (r : Each (stage_in z l (last_for π (Busy l)) l.stage))
    (go : Goes z l (last_for π (Busy l)) seen l.stage m) (w : Follows z (last_for π (Busy l)) (last_for π' m.lane) (act_at z l (last_for π (Busy l)) l.stage)) where
  abbrev T : Touch
  T = touch_of seen (act_at z l (last_for π (Busy l)) l.stage)

  parts_shift : (f : Part → ℕ) → Measure z f → (k : ℕ) → parts z f σ' π' k + on_lock k T.lock (f T.before) ≡ parts z f σ π k + on_lock k T.lock (f T.after)
  parts_shift f μ k =
      omega (arith, sum_change z.lanes i old new u.within others, shift z f μ k l (last_for π (Busy l)) (last_for π' m.lane) seen l.stage m r w go, mine, was)
    where
      old : ℕ → ℕ
      old j = share z f (grip_of z (σ j) (last_for π (σ j))) k

      new : ℕ → ℕ
      new j = share z f (grip_of z (σ' j) (last_for π' (σ' j))) k

      others : (j : ℕ) → j < z.lanes → j ≢ i → new j ≡ old j
      others j h d = rw (u.there j h d, u.lasts j h d) refl

      was : old i ≡ share z f (grip_of z (Busy l) (last_for π (Busy l))) k
      was = ap (λ (x : Lane). share z f (grip_of z x (last_for π x)) k) busy

      mine : new i ≡ share z f (grip_of z m.lane (last_for π' m.lane)) k
      mine = rw u.here refl

  parts_has : (f : Part → ℕ) → Measure z f → (k : ℕ) → on_lock k T.lock (f T.before) ≤ parts z f σ π k
  parts_has f μ k =
      omega (arith, touched z f μ k l (last_for π (Busy l)) (last_for π' m.lane) seen l.stage r, ap (λ (x : Lane). share z f (grip_of z x (last_for π x)) k) busy, sum_at z.lanes i (λ j. share z f (grip_of z (σ j) (last_for π (σ j))) k) u.within)

  on_here : (k n : ℕ) → k ≡ T.lock → on_lock k T.lock n ≡ n
  on_here k n e = rw (eq-eqb k T.lock e) refl

  on_off : (k n : ℕ) → k ≢ T.lock → on_lock k T.lock n ≡ 0
  on_off k n d = rw (ne_eqb k T.lock d) refl

  pub locks_kept : (ws ws' : ℕ → Lock) (k : ℕ) → Counts z (ws k) (λ f. parts z f σ π k) → (k ≢ T.lock → ws' k ≡ ws k) → (k ≡ T.lock → Turned z T.before T.after (ws k) (ws' k)) → Counts z (ws' k) (λ f. parts z f σ' π' k)
  locks_kept ws ws' k h off on = elim (ℕ_discrete k T.lock) [
    | yes e ↦
        turned_counts z T.before T.after (λ f. parts z f σ π k) (λ f. parts z f σ' π' k) (λ f h e q. parts_sum z f h e q σ π k)
        (λ f μ. omega (arith, parts_has f μ k, on_here k (f T.before) e))
        (λ f μ. omega (arith, parts_shift f μ k, on_here k (f T.before) e, on_here k (f T.after) e))
        (ws k) (ws' k) (on e) h
    | no d ↦ rw (off d) (counts_same z (ws k) (λ f. parts z f σ π k) (λ f. parts z f σ' π' k) (λ f μ. omega (arith, parts_shift f μ k, on_off k (f T.before) d, on_off k (f T.after) d)) h)
  ]
