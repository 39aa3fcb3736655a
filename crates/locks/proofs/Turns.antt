-- A grab in the schedule: what its urgency says of the other lanes at its lock, and that its turn takes off as much weight as it has steps.
use mathlib.Core.Path.{◌≡◌, refl, ◌∙◌}
use mathlib.Core.Bool.{Bool, true, false}
use Prim.Native.Nat.{ℕ, suc, ◌+◌, ◌*◌, ◌≤◌, ◌<◌}
use native.Mathlib.Omega.{arith}
use lib.Dec.{eqb}
use borrow.Author.Tests.{eqb-true, eq-eqb}
use Rattle.std.specs.Prelude.{Option, Some, None}
use Rattle.places.specs.declared.Sizes.{Sizes}
use Rattle.locks.specs.declared.Lock.{Lock}
use Rattle.locks.specs.declared.Mode.{Mode}
use Rattle.locks.specs.declared.Grab.{Grab}
use Rattle.locks.specs.declared.Grab.TheVariants.{R1, R2, R3, R4, W1, W2}
use Rattle.locks.specs.declared.Part.{Part}
use Rattle.locks.specs.declared.Part.TheVariants.{Tries}
use Rattle.locks.specs.Taking.{with_count, waits, grab_of, try_lock}
use Rattle.locks.specs.Parts.{grab_flag, grab_count, part_flag, part_count}
use Rattle.locks.specs.Turns.{rank_of, top_urgency, grab_urgency, grab_turns, grab_weight, first_weight, most_weight, tried_weight}
use Rattle.locks.proofs.Measures.{Measure, flag_measure, count_measure}
use Rattle.locks.proofs.Counts.{Counts}

-- ---- the order of the locks

pub rank_most : (z : Sizes) (k : ℕ) → k < z.locks + 1 → rank_of z k ≤ z.locks
rank_most z k h = grind arith

-- ---- the urgency of a grab

-- every grab has some
pub grab_urges : (z : Sizes) (w : Lock) (k : ℕ) (g : Grab) → 1 ≤ grab_urgency z w k g
unfolding grab_urgency
grab_urges z w k g = grind arith

-- that of one that may have to wait goes by the rank of its lock
rank_low : (z : Sizes) (w : Lock) (k : ℕ) (g : Grab) → rank_of z k ≤ z.locks → 2 * rank_of z k + 1 ≤ grab_urgency z w k g
unfolding grab_urgency
rank_low z w k g h = grind arith

rank_high : (z : Sizes) (w : Lock) (k : ℕ) (g : Grab) → grab_urgency z w k g < top_urgency z → grab_urgency z w k g ≤ 2 * rank_of z k + 2
unfolding grab_urgency
rank_high z w k g h = grind arith

-- a grab that is no more urgent than one that may have to wait is at a lock that ranks no higher
pub urgent_rank : (z : Sizes) (v w : Lock) (a k : ℕ) (h g : Grab) → a < z.locks + 1 → grab_urgency z w k g < top_urgency z → grab_urgency z v a h ≤ grab_urgency z w k g → rank_of z a ≤ rank_of z k
urgent_rank z v w a k h g ha u l = omega (arith, rank_low z v a h (rank_most z a ha), rank_high z w k g u, l)

-- of the lanes whose parts in lock k are added up none is more urgent than u, and none holds it
abbrev pub Quiet : Sizes → Lock → ℕ → ℕ → ((Part → ℕ) → ℕ) → Type 0
Quiet z w k u sum = (f : Part → ℕ) → Measure z f → ((g : Grab) → grab_urgency z w k g ≤ u → f (Tries g) ≡ 0) → sum f ≡ 0

-- what a grab needs of its lock, to go on by itself
abbrev pub Clear : Sizes → Grab → Lock → Type 0
Clear z R1 w = w.flag ≡ 0
Clear z (R2 noted) w = noted ≡ w.count → w.flag ≡ 0
Clear z R3 w = Unit {0}
Clear z R4 w = Unit {0}
Clear z W1 w = w.flag ≡ 0
Clear z W2 w = w.count ≡ 0

-- a grab that counts is more urgent than those that may have to wait, and one that has set the flag than those that have not
calm_count : (z : Sizes) (w : Lock) (k : ℕ) (g : Grab) → rank_of z k ≤ z.locks → grab_urgency z w k g ≤ 2 * rank_of z k + 2 → grab_count g ≡ 0
unfolding grab_urgency grab_count
calm_count z w k g h u = grind arith

calm_flag : (z : Sizes) (w : Lock) (k : ℕ) (g : Grab) → grab_urgency z w k g ≤ 2 * rank_of z k + 1 → grab_flag g ≡ 0
unfolding grab_urgency grab_flag
calm_flag z w k g u = grind arith

module _ (z : Sizes) (w : Lock) (k : ℕ) (hk : k < z.locks + 1) (sum : (Part → ℕ) → ℕ) (c : Counts z w sum) where
  flag_clear : (u : ℕ) → u ≡ 2 * rank_of z k + 1 → Quiet z w k u sum → w.flag ≡ 0
  flag_clear u e q = c.flag_is ∙ q part_flag (flag_measure z) (λ g l. calm_flag z w k g (omega arith))

  count_clear : (u : ℕ) → u ≡ 2 * rank_of z k + 2 → Quiet z w k u sum → w.count ≡ 0
  count_clear u e q = c.count_is ∙ q part_count (count_measure z) (λ g l. calm_count z w k g (rank_most z k hk) (omega arith))

  -- the most urgent lane at a lock goes on by itself
  pub urgent_clear : (g : Grab) → (grab_urgency z w k g < top_urgency z → Quiet z w k (grab_urgency z w k g) sum) → Clear z g w
  unfolding grab_urgency
  urgent_clear R1 q = flag_clear _ refl (q (omega (arith, rank_most z k hk)))
  urgent_clear (R2 noted) q = λ e.
      let u : grab_urgency z w k (R2 noted) ≡ 2 * rank_of z k + 1 = rw (eq-eqb noted w.count e) refl in
      flag_clear (grab_urgency z w k (R2 noted)) u (q (omega (arith, u, rank_most z k hk)))
  urgent_clear R3 q = tt
  urgent_clear R4 q = tt
  urgent_clear W1 q = flag_clear _ refl (q (omega (arith, rank_most z k hk)))
  urgent_clear W2 q = count_clear _ refl (q (omega (arith, rank_most z k hk)))

-- ---- the weight of a grab, and its turn

pub fresh_weighs : (z : Sizes) (m : Mode) → grab_weight (grab_of z m) ≤ first_weight
unfolding grab_weight grab_of
fresh_weighs z m = grind arith

pub weighs_most : (g : Grab) → grab_weight g ≤ most_weight
unfolding grab_weight
weighs_most g = grind arith

-- n steps of a lane by itself at a lock, of which all but the last wait, and what is left of its grab after them
pub data ByItself (z : Sizes) : Grab → Lock → ℕ → ℕ → Type 0 where
  last : {g : Grab} {w : Lock} {r : Option Grab} → (try_lock z g w).tried ≡ r → ByItself z g w 1 (tried_weight r)
  then : {g g' : Grab} {w w' : Lock} {n x : ℕ} → try_lock z g w ≡ waits w' g' → ByItself z g' w' n x → ByItself z g w (suc n) x

pub record Pays (z : Sizes) (g : Grab) (w : Lock) : Type 0 where
  pub left : ℕ
  pub script : ByItself z g w (grab_turns w g) left
  pub pays : left + grab_turns w g ≤ grab_weight g

module _ (z : Sizes) where
  -- how a grab goes at a lock like this
  counted : (n : ℕ) (w : Lock) → n ≡ w.count → try_lock z (R2 n) w ≡ waits (with_count w (w.count + 1)) R3
  unfolding try_lock
  counted n w e = rw (eq-eqb n w.count e) refl

  stale : (n : ℕ) (w : Lock) → eqb n w.count ≡ false → (try_lock z (R2 n) w).tried ≡ Some R1
  unfolding try_lock
  stale n w e = rw e refl

  reads : (w : Lock) → eqb w.flag 0 ≡ true → (try_lock z R3 w).tried ≡ None
  unfolding try_lock
  reads w e = rw e refl

  yields : (w : Lock) → eqb w.flag 0 ≡ false → (try_lock z R3 w).tried ≡ Some R4
  unfolding try_lock
  yields w e = rw e refl

  flags : (w : Lock) → w.flag ≡ 0 → (try_lock z W1 w).tried ≡ Some W2
  unfolding try_lock
  flags w e = rw (eq-eqb w.flag 0 e) refl

  writes : (w : Lock) → w.count ≡ 0 → (try_lock z W2 w).tried ≡ None
  unfolding try_lock
  writes w e = rw (eq-eqb w.count 0 e) refl

  from_noted : (n : ℕ) (w : Lock) → n ≡ w.count → w.flag ≡ 0 → ByItself z (R2 n) w 2 0
  from_noted n w e f = then (counted n w e) (last (reads (with_count w (w.count + 1)) (eq-eqb w.flag 0 f)))

  pub pays_turn : (g : Grab) (w : Lock) → Clear z g w → Pays z g w
  unfolding try_lock grab_turns grab_weight
  pays_turn R1 w f = record { left = 0; script = then refl (from_noted w.count w refl f); pays = omega arith }
  pays_turn (R2 noted) w f = go (eqb noted w.count) refl
    where
      go : (b : Bool) → eqb noted w.count ≡ b → Pays z (R2 noted) w
      go true e =
          let q : noted ≡ w.count = eqb-true noted w.count e in
          record { left = 0; script = rw e (from_noted noted w q (f q)); pays = rw e (omega arith) }
      go false e = record { left = 3; script = rw e (last (stale noted w e)); pays = rw e (omega arith) }
  pays_turn R3 w f = go (eqb w.flag 0) refl
    where
      go : (b : Bool) → eqb w.flag 0 ≡ b → Pays z R3 w
      go true e = record { left = 0; script = last (reads w e); pays = omega arith }
      go false e = record { left = 4; script = last (yields w e); pays = omega arith }
  pays_turn R4 w f = record { left = 3; script = last {r = Some R1} refl; pays = omega arith }
  pays_turn W1 w f = record { left = 1; script = last (flags w f); pays = omega arith }
  pays_turn W2 w f = record { left = 0; script = last (writes w f); pays = omega arith }

-- a turn has a step
pub turns_some : (w : Lock) (g : Grab) → 1 ≤ grab_turns w g
unfolding grab_turns
turns_some w g = grind arith
