-- How the order is kept as a run goes on. A step is one of five: nobody sees it; an operation settles; a settled operation
-- ends; an operation settles as it ends; an operation begins.
-- Assumes nothing.
use mathlib.Core.Path.{◌≡◌, refl, ap, sym, ◌∙◌}
use mathlib.Core.Logic.{◌≢◌, ◌⊎◌, inl, inr}
use mathlib.Core.Bool.{false}
use mathlib.Core.List.{List, [], ◌∷◌, ◌++◌}
use Prim.Native.Nat.{ℕ, ◌<◌}
use native.Mathlib.Decide.{ℕ_discrete}
use native.Mathlib.Omega.{arith}
use Rattle.std.specs.Prelude.{Option, None, Some}
use Rattle.std.proofs.lemmas.Option.{none-some}
use Rattle.linear.specs.declared.Request.{Request}
use Rattle.linear.specs.declared.End.{End}
use Rattle.linear.specs.Log.{Note, starts, ends, end_of, Earlier}
use Rattle.linear.specs.Map.{Bindings, is_no, after, Gives}
use Rattle.linear.specs.Order.{In}
use Rattle.linear.proofs.Logs.{count, lane_of, op_young, end_young, lane_young, earlier_finished, until_old, op_new, lane_new, op_old, lane_old, end_start, op_end, lane_end, end_own, end_cases}
use Rattle.linear.proofs.Deeds.{Deed, deed, Pairs, Shown, Ghost, idle, waits, has, Live, Told, Inv, pairs_map, same_deed}

pub inv_open : (x₀ : Bindings) (σ : ℕ → Ghost) (own : ℕ → ℕ) → ((i : ℕ) → σ i ≡ idle) → Inv x₀ x₀ σ own [] []
inv_open x₀ σ own e = grind arith

module _ (x₀ x x' : Bindings) (σ σ' : ℕ → Ghost) (own : ℕ → ℕ) (log : List Note) (ds : List Deed) (v : Inv x₀ x σ own log ds) where
  pub inv_quiet : x' ≡ x → ((j : ℕ) → σ' j ≡ σ j) → Inv x₀ x' σ' own log ds
  inv_quiet ex es = grind arith

  deed_young : (d : Deed) → In d ds → d.num < count log
  deed_young d m = op_young log d.num d.op (v.shown d m).0

  -- what is told of another lane's operation survives a new deed, a new end, a new start
  told_deed : (st : Ghost) (j k : ℕ) (e : Deed) → (lane_of log e.num ≢ Some j) → Told st j k log ds → Told st j k log (e ∷ ds)
  told_deed st j k e d t = grind arith

  told_end : (st : Ghost) (i j k : ℕ) (a : End) (es : List Deed) → j ≢ i → Told st j k log es → Told st j k (log ++ ends i a ∷ []) es
  told_end st i j k a es d t = grind (arith, op_end, lane_end, end_cases)

  told_start : (st : Ghost) (i j k : ℕ) (o : Request) → Told st j k log ds → Told st j k (log ++ starts i o ∷ []) ds
  told_start st i j k o t = grind (arith, op_old, lane_old, end_start, lane_young)

  module _ (i : ℕ) (es : (j : ℕ) → j ≢ i → σ' j ≡ σ j) where
    -- nobody stands after one that began after its end: of a note more
    in_time_lem : (n : Note) → Pairs (λ d e. Earlier (log ++ n ∷ []) d.num e.num → ⊥) ds
    in_time_lem n = grind (arith, pairs_map, until_old, deed_young)

    -- an operation settles, and stands in the order
    pub inv_take : (o : Request) (a : End) → σ i ≡ waits o → σ' i ≡ has o a → is_no a ≡ false → Gives o a x → x' ≡ after o (Some a) x → Inv x₀ x' σ' own log (deed (own i) o a ∷ ds)
    inv_take o a e e' y g ex = grind (arith, earlier_finished)

    -- the lane's operation ends: what the log then says of it and of the others
    module _ (a : End) (lane : lane_of log (own i) ≡ Some i) (unended : end_of log (own i) ≡ None) (free : σ' i ≡ idle) where
      end_same : (k : ℕ) → k ≢ own i → end_of (log ++ ends i a ∷ []) k ≡ end_of log k
      end_same k d = go (end_cases i a log k)
        where
          go : (end_of (log ++ ends i a ∷ []) k ≡ end_of log k) ⊎ ((lane_of log k ≡ Some i) × (end_of log k ≡ None)) → end_of (log ++ ends i a ∷ []) k ≡ end_of log k
          go (inl e) = e
          go (inr e) = absurd (d (sym (v.runs k i e.0 e.1).1))

      shown_other : (d : Deed) → In d ds → d.num ≢ own i → Shown (log ++ ends i a ∷ []) d
      shown_other d m q = rw (op_end i a log d.num, end_same d.num q) (v.shown d m)

      runs_on : (k j : ℕ) → lane_of (log ++ ends i a ∷ []) k ≡ Some j → end_of (log ++ ends i a ∷ []) k ≡ None → Live (σ' j) × (own j ≡ k)
      runs_on k j l h = go (ℕ_discrete k (own i))
        where
          old : k ≢ own i → Live (σ j) × (own j ≡ k)
          old q = v.runs k j (sym (lane_end i a log k) ∙ l) (sym (end_same k q) ∙ h)

          off : k ≢ own i → j ≢ i
          off q p = q (sym (old q).1 ∙ ap own p)

          go : Dec (k ≡ own i) → Live (σ' j) × (own j ≡ k)
          go (yes q) = absurd (none-some a (sym (rw q at h) ∙ end_own i a log (own i) lane unended))
          go (no q) = (rw (es j (off q)) (old q).0, (old q).1)

      told_on : (es' : List Deed) → ((j : ℕ) → j ≢ i → Told (σ j) j (own j) log es') → (j : ℕ) → Told (σ' j) j (own j) (log ++ ends i a ∷ []) es'
      told_on es' f j = elim (ℕ_discrete j i) [
        | yes q ↦ rw (q, free) tt
        | no q ↦ rw (es j q) (told_end (σ j) i j (own j) a es' q (f j q))
      ]

    -- a settled operation ends, with the answer that it has in the order
    pub inv_leave : (o : Request) (a : End) → σ i ≡ has o a → σ' i ≡ idle → x' ≡ x → Inv x₀ x' σ' own (log ++ ends i a ∷ []) ds
    inv_leave o a e e' ex =
        record {
          plays = rw ex v.plays;
          once = v.once;
          in_time = in_time_lem (ends i a);
          shown = λ d m. shown d m (ℕ_discrete d.num (own i));
          finished = λ k b h. finished k b h (ℕ_discrete k (own i));
          each = told_on a w.1 w.2 e' ds (λ j q. v.each j);
          runs = runs_on a w.1 w.2 e';
        }
      where
        w : Told (has o a) i (own i) log ds
        w = rw e at (v.each i)

        shown : (d : Deed) → In d ds → Dec (d.num ≡ own i) → Shown (log ++ ends i a ∷ []) d
        shown d m (yes q) =
            let p : d ≡ deed (own i) o a = same_deed ds d (deed (own i) o a) v.once m w.0 q in
            rw p (op_end i a log (own i) ∙ (v.shown (deed (own i) o a) w.0).0, inl (end_own i a log (own i) w.1 w.2))
        shown d m (no q) = shown_other a w.1 w.2 e' d m q

        finished : (k : ℕ) (b : End) → end_of (log ++ ends i a ∷ []) k ≡ Some b → Dec (k ≡ own i) → (d : Deed) × In d ds × (d.num ≡ k)
        finished k b h (yes q) = (deed (own i) o a, w.0, sym q)
        finished k b h (no q) = v.finished k b (sym (end_same a w.1 w.2 e' k q) ∙ h)

    -- an operation settles and ends in one step
    pub inv_both : (o : Request) (a : End) → σ i ≡ waits o → σ' i ≡ idle → Gives o a x → x' ≡ after o (Some a) x → Inv x₀ x' σ' own (log ++ ends i a ∷ []) (deed (own i) o a ∷ ds)
    inv_both o a e e' g ex =
        record {
          plays = (x, v.plays, ex, g);
          once = (λ y m h. w.3 y m (sym h), v.once);
          in_time = (λ y m h. absurd (none-some h.0 (sym w.2 ∙ earlier_finished log (own i) y.num h.0 (rw (until_old log (ends i a) y.num (deed_young y m)) at h.1))), in_time_lem (ends i a));
          shown = shown;
          finished = λ k b h. finished k b h (ℕ_discrete k (own i));
          each = told_on a w.1 w.2 e' (deed (own i) o a ∷ ds) (λ j q. told_deed (σ j) j (own j) (deed (own i) o a) (λ h. q (let p : Some i ≡ Some j = sym w.1 ∙ h in cc)) (v.each j));
          runs = runs_on a w.1 w.2 e';
        }
      where
        w : Told (waits o) i (own i) log ds
        w = rw e at (v.each i)

        shown : (d : Deed) → In d (deed (own i) o a ∷ ds) → Shown (log ++ ends i a ∷ []) d
        shown d (inl q) = rw q (op_end i a log (own i) ∙ w.0, inl (end_own i a log (own i) w.1 w.2))
        shown d (inr m) = shown_other a w.1 w.2 e' d m (w.3 d m)

        finished : (k : ℕ) (b : End) → end_of (log ++ ends i a ∷ []) k ≡ Some b → Dec (k ≡ own i) → (d : Deed) × In d (deed (own i) o a ∷ ds) × (d.num ≡ k)
        finished k b h (yes q) = (deed (own i) o a, inl refl, sym q)
        finished k b h (no q) =
            let r : _ = v.finished k b (sym (end_same a w.1 w.2 e' k q) ∙ h) in
            (r.0, inr r.1, r.2)

    -- an operation begins: it gets the next number
    pub inv_begin : (o : Request) (own' : ℕ → ℕ) → own' i ≡ count log → ((j : ℕ) → j ≢ i → own' j ≡ own j) → σ i ≡ idle → σ' i ≡ waits o → x' ≡ x → Inv x₀ x' σ' own' (log ++ starts i o ∷ []) ds
    inv_begin o own' eo eo' e e' ex =
        record {
          plays = rw ex v.plays;
          once = v.once;
          in_time = in_time_lem (starts i o);
          shown = λ d m. rw (op_old i o log d.num (deed_young d m), end_start i o log d.num) (v.shown d m);
          finished = λ k b h. v.finished k b (sym (end_start i o log k) ∙ h);
          each = λ j. one j (ℕ_discrete j i);
          runs = λ k j l h. runs k j l h (ℕ_discrete k (count log));
        }
      where
        fresh : end_of log (count log) ≡ None
        fresh = go (end_of log (count log)) refl
          where
            go : (b : Option End) → end_of log (count log) ≡ b → b ≡ None
            go None q = refl
            go (Some b) q = absurd (omega (arith, end_young log (count log) b q))

        one : (j : ℕ) → Dec (j ≡ i) → Told (σ' j) j (own' j) (log ++ starts i o ∷ []) ds
        one j (yes q) = rw (q, e', eo) (op_new i o log, lane_new i o log, end_start i o log (count log) ∙ fresh, λ d m c. omega (arith, deed_young d m))
        one j (no q) = rw (es j q, eo' j q) (told_start (σ j) i j (own j) o (v.each j))

        runs : (k j : ℕ) → lane_of (log ++ starts i o ∷ []) k ≡ Some j → end_of (log ++ starts i o ∷ []) k ≡ None → Dec (k ≡ count log) → Live (σ' j) × (own' j ≡ k)
        runs k j l h (yes q) = let p : i ≡ j = (let r : Some i ≡ Some j = sym (lane_new i o log) ∙ (rw q at l) in cc) in rw (← p) (rw e' tt, eo ∙ sym q)
        runs k j l h (no q) = (rw (es j (off)) old.0, eo' j off ∙ old.1)
          where
            old : Live (σ j) × (own j ≡ k)
            old = v.runs k j (sym (lane_old i o log k q) ∙ l) (sym (end_start i o log k) ∙ h)

            off : j ≢ i
            off p = rw (p, e) at old.0
