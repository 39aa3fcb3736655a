-- THE THEOREM "finish": from every standing table, and so from every reached one, the schedule ends every operation within its bound.
-- Assumes nothing.
use mathlib.Core.Path.{◌≡◌, ◌∙◌, refl, ap, sym}
use mathlib.Core.Logic.{◌≢◌}
use mathlib.Core.List.{List, [], ◌∷◌, ◌++◌}
use mathlib.Core.Bool.{true}
use Prim.Native.Nat.{ℕ, zero, suc, ◌+◌, ◌*◌, ◌≤◌, ◌<◌}
use native.Mathlib.Nat.{mul-le-mul_left}
use native.Mathlib.Decide.{ℕ_discrete}
use native.Mathlib.Omega.{arith}
use lib.ListN.{length, length-append, length-replicate}
use borrow.Author.Tests.{eq-eqb, ne_eqb}
use Rattle.lists.specs.Below.{bit, sum_below}
use Rattle.lists.proofs.Sums.{sum_change, sum_le, count_le}
use Rattle.places.specs.declared.Sizes.{Sizes}
use Rattle.machine.specs.Back.{lane_at}
use Rattle.machine.specs.Stages.{is_idle}
use Rattle.machine.specs.Standing.{Table, last_at}
use Rattle.machine.specs.Desk.{step_of}
use Rattle.kept.specs.Runs.{Reached, Stood}
use Rattle.kept.proofs.Kept.{kept}
use Rattle.finish.specs.Finish.{Call, after_all, Accepted, Bytes, times_of, is_busy, unfinished, step_bound, Finishes}
use Rattle.finish.specs.Weight.{weight}
use Rattle.finish.specs.Schedule.{urgency, chosen, alone, turn_of, turns, schedule_for}
use Rattle.finish.proofs.Heaviest.{weighs_within}
use Rattle.finish.proofs.Taken.{ranges}
use Rattle.finish.proofs.Progress.{Paid, chosen_lane, all_idle_lem, turn_pays}

-- ---- one schedule after another

module _ (z : Sizes) where
  after_append : (t : Table) (xs ys : List Call) → after_all z t (xs ++ ys) ≡ after_all z (after_all z t xs) ys
  after_append t [] ys = refl
  after_append t (x ∷ xs) ys = after_append (step_of z t x.lane x.byte).table xs ys

  accepted_append : (t : Table) (xs ys : List Call) → Accepted z t xs → Accepted z (after_all z t xs) ys → Accepted z t (xs ++ ys)
  accepted_append t [] ys a b = b
  accepted_append t (x ∷ xs) ys a b = (a.0, accepted_append (step_of z t x.lane x.byte).table xs ys a.1 b)

bytes_append : (xs ys : List Call) → Bytes xs → Bytes ys → Bytes (xs ++ ys)
bytes_append [] ys a b = b
bytes_append (x ∷ xs) ys a b = (a.0, bytes_append xs ys a.1 b)

bytes_alone : (n i : ℕ) → Bytes (alone n i)
bytes_alone zero i = tt
bytes_alone (suc n) i = (omega arith, bytes_alone n i)

times_append : (j : ℕ) (xs ys : List Call) → times_of j (xs ++ ys) ≡ times_of j xs + times_of j ys
times_append j [] ys = omega arith
times_append j (x ∷ xs) ys = omega (arith, times_append j xs ys)

times_own : (i n : ℕ) → times_of i (alone n i) ≡ n
times_own i zero = refl
times_own i (suc n) = rw (eq-eqb i i refl) (omega (arith, times_own i n))

times_other : (i j n : ℕ) → j ≢ i → times_of j (alone n i) ≡ 0
times_other i j zero d = refl
times_other i j (suc n) d = rw (ne_eqb i j (λ e. d (sym e))) (omega (arith, times_other i j n d))

-- ---- by induction on a number that bounds the lanes' weight

abbrev total : Sizes → Table → ℕ
total z t = sum_below z.lanes (λ j. weight z (lane_at t.lanes j))

record Ends (z : Sizes) (t : Table) (cs : List Call) : Type 0 where
  accepted : Accepted z t cs
  bytes : Bytes cs
  idle : (j : ℕ) → j < z.lanes → is_idle (lane_at (after_all z t cs).lanes j) ≡ true
  short : length cs ≤ total z t
  each : (j : ℕ) → j < z.lanes → times_of j cs ≤ weight z (lane_at t.lanes j)

-- nobody is left
at_end : (z : Sizes) (t : Table) → Stood z t → urgency z t (chosen z t) ≡ 0 → Ends z t []
at_end z t st u = grind (arith, all_idle_lem)

-- a turn that pays takes its steps off the total
module _ (z : Sizes) (t : Table) (i n : ℕ) (hi : i < z.lanes) (p : Paid z t i n) where
  abbrev t' : Table
  t' = after_all z t (alone n i)

  lighter : total z t' + n ≤ total z t
  lighter =
      omega (
        arith,
        p.ran.falls,
        sum_change z.lanes i (λ j. weight z (lane_at t.lanes j)) (λ j. weight z (lane_at t'.lanes j)) hi (λ j h d. ap (weight z) (p.ran.there j d)),
      )

  join : (cs : List Call) → Ends z t' cs → Ends z t (alone n i ++ cs)
  join cs e =
      record {
        accepted = accepted_append z t (alone n i) cs p.ran.accepted e.accepted;
        bytes = bytes_append (alone n i) cs (bytes_alone n i) e.bytes;
        idle = λ j h. ap (λ (u : Table). is_idle (lane_at u.lanes j)) (after_append z t (alone n i) cs) ∙ e.idle j h;
        short = omega (arith, lighter, e.short, length-append (alone n i) cs, length-replicate {A = Call} n (record { lane = i; byte = 0 }));
        each = λ j h. elim (ℕ_discrete j i) [
          | yes q ↦ rw q (omega (arith, times_append i (alone n i) cs, times_own i n, e.each i hi, p.ran.falls))
          | no d ↦ omega (arith, times_append j (alone n i) cs, times_other i j n d, e.each j h, ap (weight z) (p.ran.there j d))
        ];
      }

ends_in : (n : ℕ) (z : Sizes) (t : Table) → Stood z t → total z t ≤ n → Ends z t (turns n z t)
unfolding turns
ends_in zero z t st h = elim (ℕ_discrete (urgency z t (chosen z t)) 0) [
  | yes u ↦ at_end z t st u
  | no d ↦ absurd (omega (arith, lighter z t (chosen z t) _ (chosen_lane z t st) (turn_pays z t st d), (turn_pays z t st d).some))
]
ends_in (suc n) z t st h = elim (ℕ_discrete (urgency z t (chosen z t)) 0) [
  | yes u ↦ rw (eq-eqb (urgency z t (chosen z t)) 0 u) (at_end z t st u)
  | no d ↦
      rw (ne_eqb (urgency z t (chosen z t)) 0 d)
      (join z t (chosen z t) _ (chosen_lane z t st) (turn_pays z t st d) _
      (ends_in n z (after_all z t (turn_of z t (chosen z t))) (turn_pays z t st d).ran.stood (omega (arith, lighter z t (chosen z t) _ (chosen_lane z t st) (turn_pays z t st d), (turn_pays z t st d).some))))
]

-- ---- the theorem

module _ (z : Sizes) (t : Table) (st : Stood z t) where
  -- the lanes' weight against the bound
  total_within : total z t ≤ step_bound z * unfinished z t
  total_within = sum_le z.lanes (step_bound z) (λ j. weight z (lane_at t.lanes j)) (λ j. bit (is_busy t j)) (λ j h. weighs_within z (lane_at t.lanes j) (last_at t j) (ranges z t st j h))

  ends : Ends z t (schedule_for z t)
  ends = ends_in (step_bound z * z.lanes) z t st (omega (arith, total_within, mul-le-mul_left (step_bound z) (count_le z.lanes (is_busy t))))

pub finish : (z : Sizes) (t : Table) → Stood z t → Finishes z t
finish z t st =
    record {
      schedule = schedule_for z t;
      bytes = (ends z t st).bytes;
      accepted = (ends z t st).accepted;
      all_idle = (ends z t st).idle;
      total = omega (arith, (ends z t st).short, total_within z t st);
      each = λ j h. omega (arith, (ends z t st).each j h, weighs_within z (lane_at t.lanes j) (last_at t j) (ranges z t st j h));
    }

-- its schedule is the one that `schedule_for` computes
pub finish_is : (z : Sizes) (t : Table) (st : Stood z t) → (finish z t st).schedule ≡ schedule_for z t
unfolding finish
finish_is z t st = refl

-- demand 3's last sentence
pub finish_reached : (z : Sizes) (t : Table) → Reached z t → Finishes z t
finish_reached z t r = finish z t (kept z t r)
