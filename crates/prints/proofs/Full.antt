-- The full slots, one after the other: a turn of the loop that prints them.
-- Assumes nothing.
use mathlib.Core.Path.{◌≡◌}
use mathlib.Core.List.{List, ◌++◌}
use Prim.Native.Nat.{ℕ, suc, ◌+◌, ◌-◌, ◌≤◌, ◌<◌}
use native.Mathlib.Omega.{arith}
use Rattle.places.specs.declared.Sizes.{Sizes}
use Rattle.places.specs.Table.{slot_count}
use Rattle.slots.specs.declared.Slot.{Slot}
use Rattle.slots.specs.Slot.{slot_at}
use Rattle.prints.specs.Put.{Put}
use Rattle.prints.proofs.Puts.{Amid, amid_start, amid_more, amid_end}
use Rattle.prints.specs.Lines.{slot_line, slot_lines_from, slot_lines}

pub lines_start : (z : Sizes) (xs out : List ℕ) (at n : ℕ) → n ≡ slot_count z → Amid at at out out (slot_lines_from z xs (n - 0) 0) (slot_lines z xs)
lines_start z xs out at n e = let q : n - 0 ≡ slot_count z = omega arith in rw q (amid_start at out (slot_lines z xs))

pub lines_more : (z : Sizes) (xs was out out' whole : List ℕ) (at m r n i : ℕ) (s : Slot) → i < n → s ≡ slot_at xs i → Amid m at was out (slot_lines_from z xs (n - i) i) whole → Put r m out out' (slot_line z i s)
    → Amid r at was out' (slot_lines_from z xs (n - (i + 1)) (i + 1)) whole
unfolding slot_lines_from
lines_more z xs was out out' whole at m r n i s h es a p =
    let q : n - i ≡ suc (n - suc i) = omega arith in
    let u : i + 1 ≡ suc i = omega arith in
    let b : Amid m at was out (slot_line z i s ++ slot_lines_from z xs (n - suc i) (suc i)) whole = rw es (rw q at a) in
    rw u (amid_more b p)

pub lines_end : (z : Sizes) (xs was out whole : List ℕ) (at r n i : ℕ) → n ≤ i → Amid r at was out (slot_lines_from z xs (n - i) i) whole → Put r at was out whole
unfolding slot_lines_from
lines_end z xs was out whole at r n i h a = let q : n - i ≡ 0 = omega arith in amid_end (rw q at a)
