-- How long a line is at most.
-- Assumes nothing.
use mathlib.Core.Bool.{Bool, true, false, cond}
use mathlib.Core.List.{List, []}
use Prim.Native.Nat.{ℕ, zero, suc, ◌+◌, ◌*◌, ◌≤◌, ◌<◌, ◌%◌}
use native.Mathlib.Omega.{arith}
use lib.ListN.{length, length-append}
use Rattle.std.specs.Prelude.{Option, None, Some}
use Rattle.linear.specs.declared.End.{End}
use Rattle.linear.specs.declared.End.TheVariants.{ReadNone, ReadValue, Deleted, InsertYes, InsertSearched, InsertWalked}
use Rattle.places.specs.declared.Sizes.{Sizes}
use Rattle.places.specs.Table.{max_lanes, Fits, row_at, slot_count}
use Rattle.places.proofs.Limits.{slots_few}
use Rattle.slots.specs.declared.Slot.{Slot}
use Rattle.slots.specs.Slot.{slot_at, is_full}
use Rattle.prints.specs.Text.{text_bytes, decimal}
use Rattle.prints.proofs.Numbers.{decimal_short, decimal_most}
use Rattle.prints.proofs.Strokes.{stroke_length}
use Rattle.prints.specs.Lines.{sizes_line, lane_line, value_line, answer_line, refused_line, place_text, pair_line, slot_line, slot_lines_from, slot_lines, end_lines}
use Rattle.prints.specs.declared.lines.TheConstants.{SIZES_BYTES, REFUSAL_BYTES, SLOT_BYTES, SLOTS_BYTES, END_BYTES}

pub sizes_most : (z : Sizes) → length (sizes_line z) ≤ SIZES_BYTES
unfolding sizes_line
sizes_most z = simp length-append (omega (arith, decimal_most z.rows, decimal_most z.columns, decimal_most z.locks, decimal_most z.lanes))

pub place_most : (row column : ℕ) → length (place_text row column) ≤ 30
unfolding place_text
place_most row column = simp length-append (omega (arith, decimal_most row, decimal_most column))

pair_most : (row column : ℕ) (s : Slot) → length (pair_line row column s) ≤ SLOT_BYTES
unfolding pair_line
pair_most row column s = simp length-append (omega (arith, place_most row column, stroke_length s.key, decimal_most s.value))

pub slot_most : (z : Sizes) (i : ℕ) (s : Slot) → length (slot_line z i s) ≤ SLOT_BYTES
unfolding slot_line
slot_most z i s = go (is_full s)
  where
    go : (b : Bool) → length (cond b (pair_line (row_at z i) (i % z.columns) s) []) ≤ SLOT_BYTES
    go true = pair_most (row_at z i) (i % z.columns) s
    go false = omega arith

-- a lane's number has at most two digits
lane_digits : (j : ℕ) → j < max_lanes → length (decimal j) ≤ 2
lane_digits j h = decimal_short 2 j (omega arith) (omega arith) (omega arith)

-- so what a step prints is at most so long
abbrev pub answer_bytes : ℕ
answer_bytes = 24

lane_most : (j : ℕ) (end : List ℕ) → j < max_lanes → length (lane_line j end) ≤ 7 + length end
unfolding lane_line
lane_most j end h = simp length-append (omega (arith, lane_digits j h))

value_most : (j value : ℕ) → j < max_lanes → length (value_line j value) ≤ answer_bytes
unfolding value_line
value_most j value h = simp length-append (omega (arith, lane_digits j h, decimal_most value))

pub answer_most : (j : ℕ) (a : Option End) → j < max_lanes → length (answer_line j a) ≤ answer_bytes
answer_most j None h = omega arith
answer_most j (Some ReadNone) h = omega (arith, lane_most j (text_bytes " read none\n") h)
answer_most j (Some (ReadValue value)) h = value_most j value h
answer_most j (Some Deleted) h = omega (arith, lane_most j (text_bytes " delete\n") h)
answer_most j (Some InsertYes) h = omega (arith, lane_most j (text_bytes " insert yes\n") h)
answer_most j (Some InsertSearched) h = omega (arith, lane_most j (text_bytes " insert searched\n") h)
answer_most j (Some InsertWalked) h = omega (arith, lane_most j (text_bytes " insert walked\n") h)

lines_most : (z : Sizes) (xs : List ℕ) (k i : ℕ) → length (slot_lines_from z xs k i) ≤ SLOT_BYTES * k
unfolding slot_lines_from
lines_most z xs zero i = omega arith
lines_most z xs (suc k) i =
    omega (arith, length-append (slot_line z i (slot_at xs i)) (slot_lines_from z xs k (suc i)), slot_most z i (slot_at xs i), lines_most z xs k (suc i))

pub slots_most : (z : Sizes) (xs : List ℕ) → Fits z → length (slot_lines z xs) ≤ SLOTS_BYTES
slots_most z xs f = omega (arith, lines_most z xs (slot_count z) 0, slots_few z f)

pub refusal_most : (number offset : ℕ) → length (refused_line number offset) ≤ REFUSAL_BYTES
unfolding refused_line
refusal_most number offset = simp length-append (omega (arith, decimal_most number, decimal_most offset))

pub end_most : (z : Sizes) (xs : List ℕ) → Fits z → length (end_lines z xs) ≤ END_BYTES
unfolding end_lines
end_most z xs f = simp length-append (omega (arith, slots_most z xs f))
