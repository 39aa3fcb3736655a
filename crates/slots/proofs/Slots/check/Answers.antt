-- `check` finds what opening finds: a turn goes on past a slot that breaks no rule, and stops at the first that does.
-- Assumes nothing.
use mathlib.Core.Path.{◌≡◌, refl}
use native.Mathlib.Omega.{arith}
use Rattle.lists.specs.Below.{any_below}
use Rattle.slots.specs.Sound.{stands_below}
use Rattle.slots.proofs.Turns.{lower_hit, lower_miss, stop_sound, stop_shape, stop_astray, stop_twice, pass_empty, pass_full}
use Rattle.slots.proofs.Slots.check.Goals as goal
use Rattle.slots.proofs.Slots.check.Goals.{then-is_full+else-is_astray+else-loop-j-test, else-is_full}

pub loop-i-init : goal.loop-i-init
unfolding any_below
loop-i-init c = refl

pub returns-then-bad_shape : goal.returns-then-bad_shape
returns-then-bad_shape c = search stop_shape

pub returns-then-is_astray : goal.returns-then-is_astray
returns-then-is_astray c = search stop_astray

pub loop-j-init : goal.loop-j-init
unfolding stands_below any_below
loop-j-init c = refl

pub loop-j-preserved : goal.loop-j-preserved
loop-j-preserved c = search lower_miss

pub returns-then-has_key_at : goal.returns-then-has_key_at
returns-then-has_key_at c =
    let h = lower_hit _ _ _ _ _ c.has_key_at.ensures c.loop-j-test.true c.if-has_key_at.true in search stop_twice

pub loop-i-preserved : goal.loop-i-preserved
loop-i-preserved c =
    elim c.if-is_full.branch [
      | then-is_full+else-is_astray+else-loop-j-test w ↦
          let e : w.loop-j.j ≡ c.loop-i.i = omega arith in let h = rw e at w.loop-j.invariant in search pass_full
      | else-is_full w ↦ search pass_empty
    ]

pub returns-after-loop-i : goal.returns-after-loop-i
returns-after-loop-i c = stop_sound _ _ _ _ c.slot_count-i-end.ensures c.loop-i.invariant (omega (arith, c.loop-i-test.false)) (omega arith)
