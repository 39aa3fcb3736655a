-- A log that gets one note more: which operations it then has, which have ended, and what came before what.
-- Assumes nothing.
use mathlib.Core.Path.{◌≡◌, refl, ap, sym}
use mathlib.Core.Logic.{◌≢◌, ◌⊎◌, inl, inr}
use mathlib.Core.Bool.{Bool, true, false, cond}
use mathlib.Core.List.{List, [], ◌∷◌, ◌++◌}
use Prim.Native.Nat.{ℕ, zero, suc, ◌≤◌, ◌<◌}
use native.Mathlib.Omega.{arith}
use lib.Dec.{eqb}
use borrow.Author.Tests.{eqb-true, eq-eqb}
use Rattle.std.specs.Prelude.{Option, None, Some}
use Rattle.std.proofs.lemmas.Option.{none-some}
use Rattle.linear.specs.declared.Request.{Request}
use Rattle.linear.specs.declared.End.{End}
use Rattle.linear.specs.Log.{Note, starts, ends, op_of, end_on, end_of, until, Earlier}

-- how many operations have started
abbrev pub count : List Note → ℕ
count [] = 0
count (starts lane op ∷ log) = suc (count log)
count (ends lane ans ∷ log) = count log

-- the lane of an operation
abbrev pub lane_of : List Note → ℕ → Option ℕ
lane_of [] k = None
lane_of (starts lane op ∷ log) zero = Some lane
lane_of (starts lane op ∷ log) (suc k) = lane_of log k
lane_of (ends lane ans ∷ log) k = lane_of log k

-- ---- numbers are below the count

pub op_young : (log : List Note) (k : ℕ) (op : Request) → op_of log k ≡ Some op → k < count log
op_young [] k op e = absurd (none-some op e)
op_young (starts lane o ∷ log) zero op e = omega arith
op_young (starts lane o ∷ log) (suc k) op e = omega (arith, op_young log k op e)
op_young (ends lane a ∷ log) k op e = op_young log k op e

pub end_young : (log : List Note) (k : ℕ) (ans : End) → end_of log k ≡ Some ans → k < count log
end_young [] k ans e = absurd (none-some ans e)
end_young (starts lane o ∷ log) zero ans e = omega arith
end_young (starts lane o ∷ log) (suc k) ans e = omega (arith, end_young log k ans e)
end_young (ends lane a ∷ log) k ans e = end_young log k ans e

pub lane_young : (log : List Note) (k i : ℕ) → lane_of log k ≡ Some i → k < count log
lane_young [] k i e = absurd (none-some i e)
lane_young (starts lane o ∷ log) zero i e = omega arith
lane_young (starts lane o ∷ log) (suc k) i e = omega (arith, lane_young log k i e)
lane_young (ends lane a ∷ log) k i e = lane_young log k i e

count_until : (log : List Note) (k : ℕ) → count (until log k) ≤ k
count_until [] k = omega arith
count_until (starts lane o ∷ log) zero = omega arith
count_until (starts lane o ∷ log) (suc k) = omega (arith, count_until log k)
count_until (ends lane a ∷ log) k = count_until log k

-- ---- what came before what

on_until : (lane : ℕ) (log : List Note) (k : ℕ) (ans : End) → end_on lane (until log k) ≡ Some ans → end_on lane log ≡ Some ans
on_until lane [] k ans e = e
on_until lane (starts i o ∷ log) zero ans e = absurd (none-some ans e)
on_until lane (starts i o ∷ log) (suc k) ans e = on_until lane log k ans e
on_until lane (ends i a ∷ log) k ans e = go (eqb i lane) e (on_until lane log k ans)
  where
    go : (b : Bool) → cond b (Some a) (end_on lane (until log k)) ≡ Some ans → (end_on lane (until log k) ≡ Some ans → end_on lane log ≡ Some ans) → cond b (Some a) (end_on lane log) ≡ Some ans
    go true h f = h
    go false h f = f h

pub earlier_finished : (log : List Note) (j k : ℕ) (ans : End) → end_of (until log k) j ≡ Some ans → end_of log j ≡ Some ans
earlier_finished [] j k ans e = e
earlier_finished (starts i o ∷ log) j zero ans e = absurd (none-some ans e)
earlier_finished (starts i o ∷ log) zero (suc k) ans e = on_until i log k ans e
earlier_finished (starts i o ∷ log) (suc j) (suc k) ans e = earlier_finished log j k ans e
earlier_finished (ends i a ∷ log) j k ans e = earlier_finished log j k ans e

-- no operation ended before it began
pub not_itself : (log : List Note) (j k : ℕ) → Earlier log j k → j ≢ k
not_itself log j k e q = omega (arith, count_until log k, end_young (until log k) j e.0 e.1)

pub until_old : (log : List Note) (n : Note) (k : ℕ) → k < count log → until (log ++ n ∷ []) k ≡ until log k
until_old [] n k h = absurd (omega arith)
until_old (starts i o ∷ log) n zero h = refl
until_old (starts i o ∷ log) n (suc k) h = ap (λ (p : List Note). starts i o ∷ p) (until_old log n k (omega arith))
until_old (ends i a ∷ log) n k h = ap (λ (p : List Note). ends i a ∷ p) (until_old log n k h)

-- ---- a start is noted

module _ (i : ℕ) (o : Request) where
  pub op_new : (log : List Note) → op_of (log ++ starts i o ∷ []) (count log) ≡ Some o
  op_new [] = refl
  op_new (starts j p ∷ log) = op_new log
  op_new (ends j a ∷ log) = op_new log

  pub lane_new : (log : List Note) → lane_of (log ++ starts i o ∷ []) (count log) ≡ Some i
  lane_new [] = refl
  lane_new (starts j p ∷ log) = lane_new log
  lane_new (ends j a ∷ log) = lane_new log

  pub op_old : (log : List Note) (k : ℕ) → k < count log → op_of (log ++ starts i o ∷ []) k ≡ op_of log k
  op_old [] k h = absurd (omega arith)
  op_old (starts j p ∷ log) zero h = refl
  op_old (starts j p ∷ log) (suc k) h = op_old log k (omega arith)
  op_old (ends j a ∷ log) k h = op_old log k h

  pub lane_old : (log : List Note) (k : ℕ) → k ≢ count log → lane_of (log ++ starts i o ∷ []) k ≡ lane_of log k
  lane_old [] zero h = absurd (h refl)
  lane_old [] (suc k) h = refl
  lane_old (starts j p ∷ log) zero h = refl
  lane_old (starts j p ∷ log) (suc k) h = lane_old log k (λ q. h (omega arith))
  lane_old (ends j a ∷ log) k h = lane_old log k h

  on_start : (lane : ℕ) (log : List Note) → end_on lane (log ++ starts i o ∷ []) ≡ end_on lane log
  on_start lane [] = refl
  on_start lane (starts j p ∷ log) = on_start lane log
  on_start lane (ends j a ∷ log) = ap (λ (x : Option End). cond (eqb j lane) (Some a) x) (on_start lane log)

  pub end_start : (log : List Note) (k : ℕ) → end_of (log ++ starts i o ∷ []) k ≡ end_of log k
  end_start [] zero = refl
  end_start [] (suc k) = refl
  end_start (starts j p ∷ log) zero = on_start j log
  end_start (starts j p ∷ log) (suc k) = end_start log k
  end_start (ends j a ∷ log) k = end_start log k

-- ---- an end is noted

module _ (i : ℕ) (a : End) where
  pub op_end : (log : List Note) (k : ℕ) → op_of (log ++ ends i a ∷ []) k ≡ op_of log k
  op_end [] k = refl
  op_end (starts j p ∷ log) zero = refl
  op_end (starts j p ∷ log) (suc k) = op_end log k
  op_end (ends j b ∷ log) k = op_end log k

  pub lane_end : (log : List Note) (k : ℕ) → lane_of (log ++ ends i a ∷ []) k ≡ lane_of log k
  lane_end [] k = refl
  lane_end (starts j p ∷ log) zero = refl
  lane_end (starts j p ∷ log) (suc k) = lane_end log k
  lane_end (ends j b ∷ log) k = lane_end log k

  on_own : (log : List Note) → end_on i log ≡ None → end_on i (log ++ ends i a ∷ []) ≡ Some a
  on_own [] e = rw (eq-eqb i i refl)
  on_own (starts j p ∷ log) e = on_own log e
  on_own (ends j b ∷ log) e = go (eqb j i) e (on_own log)
    where
      go : (c : Bool) → cond c (Some b) (end_on i log) ≡ None → (end_on i log ≡ None → end_on i (log ++ ends i a ∷ []) ≡ Some a) → cond c (Some b) (end_on i (log ++ ends i a ∷ [])) ≡ Some a
      go true h f = absurd (none-some b (sym h))
      go false h f = f h

  -- the lane's operation has now ended
  pub end_own : (log : List Note) (k : ℕ) → lane_of log k ≡ Some i → end_of log k ≡ None → end_of (log ++ ends i a ∷ []) k ≡ Some a
  end_own [] k l e = absurd (none-some i l)
  end_own (starts j p ∷ log) zero l e = let q : j ≡ i = cc in rw q (on_own log (rw q at e))
  end_own (starts j p ∷ log) (suc k) l e = end_own log k l e
  end_own (ends j b ∷ log) k l e = end_own log k l e

  on_cases : (lane : ℕ) (log : List Note) → (end_on lane (log ++ ends i a ∷ []) ≡ end_on lane log) ⊎ ((lane ≡ i) × (end_on lane log ≡ None))
  on_cases lane [] = go (eqb i lane) refl
    where
      go : (c : Bool) → eqb i lane ≡ c → (cond c (Some a) None ≡ None) ⊎ ((lane ≡ i) × (◌≡◌ {A = Option End} None None))
      go true e = inr (sym (eqb-true i lane e), refl)
      go false e = inl refl
  on_cases lane (starts j p ∷ log) = on_cases lane log
  on_cases lane (ends j b ∷ log) = go (eqb j lane) (on_cases lane log)
    where
      go : (c : Bool) → (end_on lane (log ++ ends i a ∷ []) ≡ end_on lane log) ⊎ ((lane ≡ i) × (end_on lane log ≡ None)) → (cond c (Some b) (end_on lane (log ++ ends i a ∷ [])) ≡ cond c (Some b) (end_on lane log)) ⊎ ((lane ≡ i) × (cond c (Some b) (end_on lane log) ≡ None))
      go true h = inl refl
      go false h = h

  -- and no other
  pub end_cases : (log : List Note) (k : ℕ) → (end_of (log ++ ends i a ∷ []) k ≡ end_of log k) ⊎ ((lane_of log k ≡ Some i) × (end_of log k ≡ None))
  end_cases [] k = inl refl
  end_cases (starts j p ∷ log) zero = go (on_cases j log)
    where
      go : (end_on j (log ++ ends i a ∷ []) ≡ end_on j log) ⊎ ((j ≡ i) × (end_on j log ≡ None)) → (end_on j (log ++ ends i a ∷ []) ≡ end_on j log) ⊎ ((Some j ≡ Some i) × (end_on j log ≡ None))
      go (inl e) = inl e
      go (inr e) = inr (ap (λ (x : ℕ). Some x) e.0, e.1)
  end_cases (starts j p ∷ log) (suc k) = end_cases log k
  end_cases (ends j b ∷ log) k = end_cases log k
