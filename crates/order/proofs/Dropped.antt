-- Each release and the end of an operation, seen from the order: nobody sees it, or the operation ends.
-- Assumes nothing.
use mathlib.Core.Path.{◌≡◌, refl, ap, sym}
use mathlib.Core.Bool.{true, not, ◌&&◌}
use Prim.Native.Nat.{ℕ}
use Rattle.std.specs.Prelude.{Some, None}
use Rattle.lists.proofs.Below.{Each}
use Rattle.linear.specs.declared.End.TheVariants.{InsertSearched, InsertWalked}
use Rattle.places.specs.declared.Sizes.{Sizes}
use Rattle.paths.specs.declared.Place.{Place}
use Rattle.machine.specs.declared.Outcome.{Outcome}
use Rattle.machine.specs.declared.Outcome.TheVariants.{Hit, Wrote, Filled, Miss, Picked, Stuck}
use Rattle.machine.specs.declared.Ending.{Ending}
use Rattle.machine.specs.declared.Ending.TheVariants.{Yes, Searched, Walked}
use Rattle.machine.specs.declared.Stage.TheVariants.{Drop}
use Rattle.machine.specs.declared.Side.TheVariants.{Second}
use Rattle.machine.specs.declared.Task.{Task}
use Rattle.machine.specs.declared.Moved.{Moved}
use Rattle.machine.specs.Steps.{goes_to, ends, insert_end}
use Rattle.machine.specs.Rules.{is_first_pass}
use Rattle.machine.specs.Claims.{ending_in}
use Rattle.machine.proofs.Ops.{first_inserts, second_inserts}
use Rattle.machine.proofs.Ways.{Leaves, leaves_hit, leaves_ended, leaves_wrote, leaves_filled, leaves_miss, leaves_picked, leaves_stuck, Swings, swings_again, swings_on}
use Rattle.linear.specs.Map.{Bindings}
use Rattle.linear.proofs.Deeds.{has, waits}
use Rattle.order.specs.Run.{op_at}
use Rattle.order.proofs.Ghosts.{ghost, settled, ending, Kind, quiet, leaves, wrote_ended, wrote_yes, again_op, no_both}
use Rattle.order.specs.Settle.{unsettled, says_no, waiting}

module _ (X x' : Bindings) (l : Task) where
  -- the rows are released: by what the pass came to
  pub drop_on : (o : Outcome) → x' ≡ X → Kind X x' (settled l o) (ghost (goes_to l (Drop Second o)).lane) None (unsettled o && not (waiting (goes_to l (Drop Second o)).lane))
  drop_on (Hit side c value) e = quiet refl e
  drop_on (Wrote side) e = quiet refl e
  drop_on Filled e = quiet refl e
  drop_on Miss e = quiet refl e
  drop_on Picked e = quiet refl e
  drop_on Stuck e = quiet refl e

  pub drop_last : (z : Sizes) (o : Outcome) (m : Moved) → x' ≡ X → Leaves z l o m → Kind X x' (settled l o) (ghost m.lane) m.answer (unsettled o && not (waiting m.lane))
  drop_last z o m e leaves_hit = leaves e
  drop_last z o m e (leaves_ended w) = rw (wrote_ended l.op w) (leaves e)
  drop_last z o m e (leaves_wrote w) = quiet (ap (has (op_at l)) (sym (wrote_yes l.op w))) e
  drop_last z o m e leaves_filled = quiet refl e
  drop_last z o m e leaves_miss = leaves e
  drop_last z o m e leaves_picked = quiet refl e
  drop_last z o m e leaves_stuck = quiet refl e

module _ (z : Sizes) (X x' : Bindings) (l : Task) (last : Place) where
  pub swing_last : (left : ℕ) (m : Moved) → is_first_pass l.op ≡ true → x' ≡ X → Swings z l last left m → Kind X x' (waits (op_at l)) (ghost m.lane) m.answer (not (waiting m.lane))
  swing_last left m i e (swings_again w) = quiet (ap waits (again_op l.op l.key l.value i)) e
  swing_last left m i e (swings_on w) = quiet refl e

module _ (z : Sizes) (X x' : Bindings) (l : Task) where
  pub end_main : (e : Ending) → Each (ending_in z l.op e) → x' ≡ X → Kind X x' (ending l e) (ghost (ends (insert_end e)).lane) (Some (insert_end e)) (says_no e && not (waiting (ends (insert_end e)).lane))
  end_main Yes r e = leaves e
  end_main (Searched n) r e = no_both X x' l.key l.value l.op InsertSearched (first_inserts l.op r.0) refl e
  end_main Walked r e = no_both X x' l.key l.value l.op InsertWalked (second_inserts l.op r.0) refl e
