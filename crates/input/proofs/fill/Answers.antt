-- One read more: what it gave stands behind what was read before, and both are what has been read from the start.
-- Assumes nothing.
use Rattle.std.proofs.Common.{◌≡◌, ℕ, ◌+◌, ◌-◌, ◌≤◌, List, ◌++◌, rules, length, take, sym, ap, ◌∙◌, subst, length-take-le}
use Rattle.std.proofs.Math.Seq.{take-append-add}
use Rattle.std.proofs.lemmas.List.{take-append-le}
use Rattle.std.specs.Io.KnownBytes.{Consumes}
use Rattle.std.proofs.KnownBytes.{Consumes-trans}
use borrow.Rule.Slice.PartMut.{put_mid, post_of}
use Rattle.input.proofs.fill.Goals as goal

taken : (a k n : ℕ) (xs ys : List ℕ) → a ≤ length xs → n ≤ length ys → take a xs ++ take n ys ≡ take (a + n) (put_mid a k xs ys)
taken a k n xs ys within fits =
    let behind = ap (λ l. take a xs ++ l) (sym (take-append-le n ys (post_of a k xs) fits)) in
    let joined = sym (take-append-add (take a xs) (ys ++ post_of a k xs) n) in
    behind ∙ joined ∙ ap (λ m. take (m + n) (put_mid a k xs ys)) (length-take-le a xs within)

pub loop-done-preserved : goal.loop-done-preserved
loop-done-preserved g c =
    let from = c.loop-done.done in
    let into = c.loop-done.into in
    let both = taken from (length into - from) c.in_ok-n.n into c.read.new.buf c.loop-done.invariant.1 c.in_ok-n.ensures.bound.0 in
    (search rules, search rules, subst (Consumes _ _) both (Consumes-trans _ _ _ _ _ c.loop-done.invariant.2 c.in_ok-n.ensures.bytes.0))
