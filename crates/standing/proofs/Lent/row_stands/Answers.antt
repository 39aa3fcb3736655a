-- `row_stands` is its definition: a column that has the key decides, and else the full ones do.
-- Assumes nothing.
use mathlib.Core.Path.{◌≡◌, ◌∙◌, ap, sym}
use mathlib.Core.Bool.{Bool, true, false, not, ◌&&◌}
use Rattle.std.proofs.Common.{rules}
use Rattle.slots.specs.Slot.{is_full, has_key}
use Rattle.machine.specs.Standing.{row_stands}
use Rattle.standing.proofs.Lent.row_stands.Goals as goal

-- of two tests the first fails, or the second decides
first_decides : (a x y : Bool) → a ≡ x → a ≡ false → a ≡ x && y
first_decides a x y e t = t ∙ ap (λ (b : Bool). b && y) (sym t ∙ e)

second_decides : (a b x y : Bool) → a ≡ x → b ≡ y → a ≡ true → b ≡ x && y
second_decides a b x y e f t = f ∙ ap (λ (c : Bool). c && y) (sym t ∙ e)

pub returns-then-row_passes : goal.returns-then-row_passes
unfolding row_stands
returns-then-row_passes c =
    second_decides _ _ _ _
    (c.row_passes.ensures (λ s. not (has_key s c.args.key)) (λ s b k. search rules))
    (c.row_passes-then-row_passes.ensures is_full (λ s b k. search rules))
    c.if-row_passes.true

pub returns-else-row_passes : goal.returns-else-row_passes
unfolding row_stands
returns-else-row_passes c =
    first_decides _ _ _ (c.row_passes.ensures (λ s. not (has_key s c.args.key)) (λ s b k. search rules)) c.if-row_passes.false
