-- One accepted step does what demand 2 says, where what was seen before it is counted right; and the counts stay right, one event on.
-- Assumes nothing.
use mathlib.Core.Path.{◌≡◌, refl, ap, sym, ◌∙◌, subst}
use mathlib.Core.Logic.{◌≢◌}
use mathlib.Core.Bool.{Bool, true, false, cond, false≢true}
use mathlib.Core.List.{List, [], ◌∷◌}
use Prim.Native.Nat.{ℕ}
use native.Mathlib.Omega.{arith}
use lib.Dec.{eqb}
use Rattle.std.specs.Prelude.{Option, None, Some}
use Rattle.lists.proofs.Below.{Each}
use Rattle.linear.specs.declared.Request.{Request}
use Rattle.places.specs.declared.Sizes.{Sizes}
use Rattle.paths.specs.declared.Place.{Place}
use Rattle.paths.specs.Path.{last_of}
use Rattle.machine.specs.declared.Stage.{Stage}
use Rattle.machine.specs.declared.Task.{Task}
use Rattle.machine.specs.declared.Lane.{Lane}
use Rattle.machine.specs.declared.Lane.TheVariants.{Busy}
use Rattle.machine.specs.Stages.{item_at, act_at, stage_in}
use Rattle.machine.specs.Standing.{Table}
use Rattle.machine.specs.Desk.{start_of, step_of, Accepts}
use Rattle.linear.specs.declared.End.{End}
use Rattle.linear.specs.declared.End.TheVariants.{ReadNone, ReadValue, Deleted, InsertYes, InsertSearched, InsertWalked}
use Rattle.linear.specs.Map.{Bindings, after}
use Rattle.order.specs.Run.{start, step, next, bindings, op_at, end_by}
use Rattle.order.specs.History.{Sight, sight, item, is_write, seen_after}
use Rattle.order.specs.Demand2.{ends_insert, StepDoes}
use Rattle.order.proofs.Binds.{BindsAt}
use Rattle.order.proofs.Moves.{lane_of, last_on, seen_by, moved_by, table_by, step_busy, step_table, step_answer, step_fits, step_here, step_there, step_range, step_goes, step_binds, step_solid}
use Rattle.order.proofs.Begins.{start_table, start_here, start_there}
use Rattle.order.proofs.Tally.{Tally, tally, more, Counts, CountsIn}
use Rattle.order.proofs.Counted.{counted}
use Rattle.order.proofs.Ends.{end_facts, once_at, Verdict, verdict}

-- ---- bindings

data Effect (x x' : Bindings) (o : Request) (writes : Bool) : Type 0 where
  leaves : writes ≡ false → x' ≡ x → Effect x x' o writes
  changes : writes ≡ true → x' ≡ after o None x → Effect x x' o writes

effect : (z : Sizes) (x x' : Bindings) (l : Task) (last : Place) (s : Stage) → Each (stage_in z l last s) → BindsAt x x' l (act_at z l last s) → Effect x x' (op_at l) (is_write (item z s))
unfolding item_at
effect z x x' l last s r h = grind arith

-- ---- one step

-- what its operation has seen before: its counts are as its stage says
abbrev pub CountsOf : Sizes → Lane → List Sight → Type 0
CountsOf z l h = CountsIn z l (tally z h)

module _ (z : Sizes) (t : Table) (j byte : ℕ) (e : Accepts (step_of z t j byte)) (h : List Sight) (l : Task) (busy : lane_of t j ≡ Busy l) (k : Counts z l.op l.stage (tally z h)) where
  abbrev T : Tally
  T = more z l (seen_by z t l byte) (item z l.stage) (tally z h)

  sight_is : sight z t l byte ≡ record { task = l; slot = (seen_by z t l byte).slot }
  unfolding last_of
  sight_is = refl

  -- the counts, this step included
  tally_is : tally z (sight z t l byte ∷ h) ≡ T
  tally_is = ap (λ (s : Sight). tally z (s ∷ h)) sight_is

  counts_on : CountsOf z (moved_by z t l byte).lane (sight z t l byte ∷ h)
  counts_on =
      subst (λ (c : Tally). CountsIn z (moved_by z t l byte).lane c) (sym tally_is)
      (counted z (step_fits z t j byte e) l (seen_by z t l byte) (tally z h) (last_on t l) l.stage (moved_by z t l byte) (step_solid z t j byte e l busy) (step_range z t j byte e l busy).1.1 k (step_goes z t j byte e l busy))

  end_is : end_by (step_of z t j byte).answer ≡ (moved_by z t l byte).answer
  end_is = ap end_by (step_answer z t j byte e l busy)

  bound : Effect (bindings z t) (bindings z (table_by z t j l byte)) (op_at l) (is_write (item z l.stage))
  bound = effect z (bindings z t) (bindings z (table_by z t j l byte)) l (last_on t l) l.stage (step_range z t j byte e l busy).1.1 (step_binds z t j byte e l busy)

  verdict_is : Verdict z (end_by (step_of z t j byte).answer) (tally z (sight z t l byte ∷ h))
  verdict_is =
      rw (end_is, tally_is)
      (verdict z (step_fits z t j byte e) (moved_by z t l byte).answer T (end_facts z (step_fits z t j byte e) l (last_on t l) (seen_by z t l byte) (tally z h) l.stage (moved_by z t l byte) k (step_goes z t j byte e l busy)))

  pub step_does : StepDoes z t j byte l (sight z t l byte ∷ h)
  step_does =
      record {
        quiet = λ q key. ap (λ (u : Table). bindings z u key) (step_table z t j byte e l busy) ∙ ap (λ (x : Bindings). x key) (stays q bound);
        writes = λ q key. ap (λ (u : Table). bindings z u key) (step_table z t j byte e l busy) ∙ ap (λ (x : Bindings). x key) (turns q bound);
        once = rw (ap (λ (c : Tally). c.writes) tally_is) (once_at z (tally z h) l.op l.stage k);
        unchanged = verdict_is.unchanged;
        searched = verdict_is.searched;
        walked = verdict_is.walked;
        otherwise = λ q a b. rest (end_by (step_of z t j byte).answer) q (λ p. a ((verdict_is.searched q).0 p)) (λ p. b ((verdict_is.walked q).0 p));
      }
    where
      stays : {b : Bool} → b ≡ false → Effect (bindings z t) (bindings z (table_by z t j l byte)) (op_at l) b → bindings z (table_by z t j l byte) ≡ bindings z t
      stays q (leaves p w) = w
      stays q (changes p w) = absurd (false≢true (sym q ∙ p))

      turns : {b : Bool} → b ≡ true → Effect (bindings z t) (bindings z (table_by z t j l byte)) (op_at l) b → bindings z (table_by z t j l byte) ≡ after (op_at l) None (bindings z t)
      turns q (leaves p w) = absurd (false≢true (sym p ∙ q))
      turns q (changes p w) = w

      rest : (a : Option End) → ends_insert a ≡ true → (a ≡ Some InsertSearched → ⊥) → (a ≡ Some InsertWalked → ⊥) → a ≡ Some InsertYes
      rest None q s w = absurd (false≢true q)
      rest (Some ReadNone) q s w = absurd (false≢true q)
      rest (Some (ReadValue n)) q s w = absurd (false≢true q)
      rest (Some Deleted) q s w = absurd (false≢true q)
      rest (Some InsertYes) q s w = refl
      rest (Some InsertSearched) q s w = absurd (s refl)
      rest (Some InsertWalked) q s w = absurd (w refl)

-- ---- a run

-- of the lane that steps, and of another
module _ (z : Sizes) (t : Table) (i byte : ℕ) (h : List Sight) (e : Accepts (step_of z t i byte)) where
  counts_here : CountsOf z (lane_of t i) h → CountsOf z (lane_of (next z t (step i byte)) i) (seen_after z t (lane_of t i) byte h)
  counts_here k =
      let l = step_busy z t i byte e in
      rw (step_table z t i byte e l.0 l.1, step_here z t i byte e l.0 l.1, l.1) (counts_on z t i byte e h l.0 l.1 (rw l.1 at k))

  counts_there : (j : ℕ) → j ≢ i → CountsOf z (lane_of t j) h → CountsOf z (lane_of (next z t (step i byte)) j) h
  counts_there j d k =
      let l = step_busy z t i byte e in
      rw (step_table z t i byte e l.0 l.1, step_there z t i byte e l.0 l.1 j d) k

module _ (z : Sizes) (j : ℕ) where
  pub by_start : (t : Table) (i : ℕ) (r : Request) (h : List Sight) → Accepts (start_of z t i r) → CountsOf z (lane_of t j) h → Dec (i ≡ j)
      → CountsOf z (lane_of (next z t (start i r)) j) (cond (eqb i j) [] h)
  by_start t i r h e k q = grind (arith, start_table, start_here, start_there)

  pub by_step : (t : Table) (i byte : ℕ) (h : List Sight) → Accepts (step_of z t i byte) → CountsOf z (lane_of t j) h → Dec (i ≡ j)
      → CountsOf z (lane_of (next z t (step i byte)) j) (cond (eqb i j) (seen_after z t (lane_of t i) byte h) h)
  by_step t i byte h e k q = grind (arith, counts_here, counts_there)
