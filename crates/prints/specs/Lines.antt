-- 01, "Job file and print": the lines that a job prints, "each line ended by a newline".
-- Assumes nothing.
use Rattle.std.specs.Prelude.{ℕ, zero, suc, ◌%◌, List, [], ◌++◌, cond, Option, None, Some}
use Prim.Native.String.{String}
use Rattle.linear.specs.declared.End.{End}
use Rattle.linear.specs.declared.End.TheVariants.{ReadNone, ReadValue, Deleted, InsertYes, InsertSearched, InsertWalked}
use Rattle.places.specs.declared.Sizes.{Sizes}
use Rattle.places.specs.Table.{row_at, slot_count}
use Rattle.slots.specs.declared.Slot.{Slot}
use Rattle.slots.specs.Slot.{slot_at, is_full}
use Rattle.prints.specs.Text.{text_bytes, decimal, stroke_of}

-- a word and a number after it
abbrev pub with : String → ℕ → List ℕ
with word n = text_bytes word ++ decimal n

-- "each line ended by a newline"
abbrev pub newline : List ℕ
newline = text_bytes "\n"

-- `sizes 3 1 3 1`
unfoldable pub sizes_line : Sizes → List ℕ
sizes_line z = with "sizes " z.rows ++ with " " z.columns ++ with " " z.locks ++ with " " z.lanes ++ newline

-- `lane 0 insert yes`
unfoldable pub lane_line : ℕ → List ℕ → List ℕ
lane_line j end = with "lane " j ++ end

-- `lane 0 read 7`
unfoldable pub value_line : ℕ → ℕ → List ℕ
value_line j value = with "lane " j ++ with " read " value ++ newline

-- what a step prints: nothing where the lane goes on. "Other ends print `read none`, `delete`, `insert searched`, `insert walked`."
abbrev pub answer_line : ℕ → Option End → List ℕ
answer_line j None = []
answer_line j (Some ReadNone) = lane_line j (text_bytes " read none\n")
answer_line j (Some (ReadValue value)) = value_line j value
answer_line j (Some Deleted) = lane_line j (text_bytes " delete\n")
answer_line j (Some InsertYes) = lane_line j (text_bytes " insert yes\n")
answer_line j (Some InsertSearched) = lane_line j (text_bytes " insert searched\n")
answer_line j (Some InsertWalked) = lane_line j (text_bytes " insert walked\n")

-- "A fault or other refusal prints `refused N at B`"
unfoldable pub refused_line : ℕ → ℕ → List ℕ
refused_line number offset = with "refused " number ++ with " at " offset ++ newline

-- `row 0 col 0 `
unfoldable pub place_text : ℕ → ℕ → List ℕ
place_text row column = with "row " row ++ with " col " column ++ text_bytes " "

-- `row 0 col 0 ..........*............ 7`
unfoldable pub pair_line : ℕ → ℕ → Slot → List ℕ
pair_line row column s = place_text row column ++ stroke_of s.key ++ with " " s.value ++ newline

-- the line of slot i, if it is full
unfoldable pub slot_line : Sizes → ℕ → Slot → List ℕ
slot_line z i s = cond (is_full s) (pair_line (row_at z i) (i % z.columns) s) []

-- "Full slots follow in index order.": the lines of k slots from i on
unfoldable pub slot_lines_from : Sizes → List ℕ → ℕ → ℕ → List ℕ
slot_lines_from z xs zero i = []
slot_lines_from z xs (suc k) i = slot_line z i (slot_at xs i) ++ slot_lines_from z xs k (suc i)

-- all of them
abbrev pub slot_lines : Sizes → List ℕ → List ℕ
slot_lines z xs = slot_lines_from z xs (slot_count z) 0

-- what kind 6 prints: the full slots and `end`
unfoldable pub end_lines : Sizes → List ℕ → List ℕ
end_lines z xs = slot_lines z xs ++ text_bytes "end\n"
