-- Each way a step can go, seen from the order: nobody sees it, or an operation settles, or ends, or does both.
-- Assumes nothing.
use mathlib.Core.Path.{◌≡◌, refl, ap, sym, ◌∙◌}
use mathlib.Core.Logic.{inl, inr}
use mathlib.Core.Bool.{Bool, true, false, cond, false≢true}
use Prim.Native.Nat.{ℕ}
use Rattle.std.specs.Prelude.{None, Some, Option}
use Rattle.linear.specs.declared.End.{End}
use Rattle.machine.specs.declared.Op.{Op}
use Rattle.machine.specs.declared.Op.TheVariants.{Read, Delete, Insert, Again}
use Rattle.machine.specs.declared.Outcome.{Outcome}
use Rattle.machine.specs.declared.Outcome.TheVariants.{Hit, Wrote, Filled, Miss, Picked, Stuck}
use Rattle.machine.specs.declared.Ending.{Ending}
use Rattle.machine.specs.declared.Ending.TheVariants.{Yes, Searched, Walked}
use Rattle.machine.specs.declared.Stage.{Stage}
use Rattle.machine.specs.declared.Stage.TheVariants.{WriteHit, WriteRoom, Drop, DropMain}
use Rattle.machine.specs.declared.Task.{Task}
use Rattle.machine.specs.declared.Lane.{Lane}
use Rattle.machine.specs.declared.Lane.TheVariants.{Idle, Busy}
use Rattle.machine.specs.Steps.{after_miss}
use Rattle.machine.specs.Rules.{is_read, is_insert, is_first_pass, writes_hit}
use Rattle.kept.proofs.Stores.{binds_to}
use Rattle.linear.specs.declared.Request.{Request}
use Rattle.linear.specs.declared.End.TheVariants.{ReadValue, Deleted, InsertYes}
use Rattle.linear.specs.Map.{Bindings, binds, is_no, after, found, Gives}
use Rattle.linear.proofs.Deeds.{Ghost, idle, waits, has}
use Rattle.order.specs.Run.{op_in, op_at}
use Rattle.order.proofs.Binds.{binds_is}

-- ---- how far a lane's operation is

-- how an operation ends after a write
abbrev pub wrote_end : Op → End
wrote_end op = cond (is_insert op) InsertYes Deleted

abbrev pub settled : Task → Outcome → Ghost
settled l (Hit side column value) = has (op_at l) (ReadValue value)
settled l (Wrote side) = has (op_at l) (wrote_end l.op)
settled l Filled = has (op_at l) InsertYes
settled l Miss = has (op_at l) (after_miss l.op)
settled l Picked = waits (op_at l)
settled l Stuck = waits (op_at l)

abbrev pub ending : Task → Ending → Ghost
ending l Yes = has (op_at l) InsertYes
ending l (Searched places) = waits (op_at l)
ending l Walked = waits (op_at l)

abbrev pub ghost_at : Task → Stage → Ghost
ghost_at l (WriteHit side c) = waits (op_at l)
ghost_at l (WriteRoom side c) = waits (op_at l)
ghost_at l (Drop side o) = settled l o
ghost_at l (DropMain e) = ending l e
ghost_at l s = waits (op_at l)

abbrev pub ghost : Lane → Ghost
ghost Idle = idle
ghost (Busy l) = ghost_at l l.stage

-- ---- kinds of steps: the bindings, the lane's operation and its answer before and after, and whether it settles

pub data Kind (x x' : Bindings) : Ghost → Ghost → Option End → Bool → Type 0 where
  quiet : {g g' : Ghost} → g' ≡ g → x' ≡ x → Kind x x' g g' None false
  takes : {o : Request} {a : End} → is_no a ≡ false → Gives o a x → x' ≡ after o (Some a) x → Kind x x' (waits o) (has o a) None true
  leaves : {o : Request} {a : End} → x' ≡ x → Kind x x' (has o a) idle (Some a) false
  both : {o : Request} {a : End} → Gives o a x → x' ≡ after o (Some a) x → Kind x x' (waits o) idle (Some a) true

-- ---- by operation

pub wrote_ended : (op : Op) → is_insert op ≡ false → wrote_end op ≡ Deleted
wrote_ended op e = rw e refl

pub wrote_yes : (op : Op) → is_insert op ≡ true → wrote_end op ≡ InsertYes
wrote_yes op e = rw e refl

pub again_op : (op : Op) (key value : ℕ) → is_first_pass op ≡ true → Request.Insert key value ≡ op_in op key value
again_op Read key value e = absurd (false≢true e)
again_op Delete key value e = absurd (false≢true e)
again_op Insert key value e = refl
again_op Again key value e = absurd (false≢true e)

-- a write of a hit is a delete or an insert; a write of room an insert
module _ (x x' : Bindings) (key value : ℕ) where
  pub hit_takes : (op : Op) → writes_hit op ≡ true → x' ≡ binds x key (binds_to op value) → Kind x x' (waits (op_in op key value)) (has (op_in op key value) (wrote_end op)) None true
  hit_takes Read w e = absurd (false≢true w)
  hit_takes Delete w e = takes refl refl e
  hit_takes Insert w e = takes refl (inl refl) e
  hit_takes Again w e = takes refl (inl refl) e

  pub room_takes : (op : Op) → is_insert op ≡ true → x' ≡ binds x key (binds_to op value) → Kind x x' (waits (op_in op key value)) (has (op_in op key value) InsertYes) None true
  room_takes Read w e = absurd (false≢true w)
  room_takes Delete w e = absurd (false≢true w)
  room_takes Insert w e = takes refl (inl refl) e
  room_takes Again w e = takes refl (inl refl) e

  -- a read of a key bound to b; a miss by a read or delete of a key that is not bound
  pub read_takes : (op : Op) (b : ℕ) → is_read op ≡ true → x key ≡ Some b → x' ≡ x → Kind x x' (waits (op_in op key value)) (has (op_in op key value) (ReadValue b)) None true
  read_takes Read b w h e = takes refl (ap found (sym h)) e
  read_takes Delete b w h e = absurd (false≢true w)
  read_takes Insert b w h e = absurd (false≢true w)
  read_takes Again b w h e = absurd (false≢true w)

  pub miss_takes : (op : Op) → is_insert op ≡ false → x key ≡ None → x' ≡ x → Kind x x' (waits (op_in op key value)) (has (op_in op key value) (after_miss op)) None true
  miss_takes Read w h e = takes refl (ap found (sym h)) e
  miss_takes Delete w h e = takes refl refl (e ∙ binds_is x x key None h (λ k d. refl))
  miss_takes Insert w h e = absurd (false≢true (sym w))
  miss_takes Again w h e = absurd (false≢true (sym w))

  -- an insert's no, at its end
  pub no_both : (op : Op) (a : End) → is_insert op ≡ true → is_no a ≡ true → x' ≡ x → Kind x x' (waits (op_in op key value)) idle (Some a) true
  no_both Read a w n e = absurd (false≢true w)
  no_both Delete a w n e = absurd (false≢true w)
  no_both Insert a w n e = both {o = Request.Insert key value} (inr n) (rw n e)
  no_both Again a w n e = both {o = Request.Insert key value} (inr n) (rw n e)
