-- 01's whole case, and small jobs with a fault each: what the definition says they print, by computation.
-- Assumes nothing.
use mathlib.Core.Path.{◌≡◌, refl}
use mathlib.Core.List.{List, [], ◌∷◌, ◌++◌}
use Prim.Native.Nat.{ℕ, zero, suc}
use Rattle.locks.specs.Locks.{lock_words}
use Rattle.locks.specs.Taking.{grab_of, try_lock, released}
use Rattle.locks.specs.Parts.{grab_flag, grab_count, lock_tests}
use Rattle.locks.specs.Record.{grab_code, grab_noted, grab_from, grab_in}
use Rattle.machine.specs.Desk.{open_of, start_of, start_lane, step_of}
use Rattle.machine.proofs.Computing.{computing}
use Rattle.machine.specs.Back.{lane_at, decodes}
use Rattle.machine.specs.Stages.{item_at}
use Rattle.machine.specs.Steps.{step_task}
use Rattle.prints.specs.Text.{text_bytes, digits_in, decimal, letters, stroke_from}
use Rattle.job_records.specs.Records.{number, record_at}
use Rattle.prints.specs.Lines.{sizes_line, lane_line, value_line, refused_line, place_text, pair_line, slot_line, slot_lines_from, end_lines}
use Rattle.jobs.specs.Job.{zeros, end_text, print_from, opened_print, print_of}

-- an empty job: the missing record stands at the job's length
no_bytes : print_of ([]) ≡ text_bytes "refused 11 at 0\n"
unfolding computing digits_in decimal letters stroke_from number record_at sizes_line lane_line value_line refused_line place_text pair_line slot_line slot_lines_from end_lines zeros end_text print_from opened_print print_of
no_bytes = refl

-- kind 1 stands first
end_first : print_of (6 ∷ 6 ∷ []) ≡ text_bytes "refused 11 at 0\n"
unfolding computing digits_in decimal letters stroke_from number record_at sizes_line lane_line value_line refused_line place_text pair_line slot_line slot_lines_from end_lines zeros end_text print_from opened_print print_of
end_first = refl

-- a missing end is at the job's length
no_end : print_of (1 ∷ 3 ∷ 1 ∷ 3 ∷ 1 ∷ []) ≡ text_bytes "sizes 3 1 3 1\nrefused 11 at 5\n"
unfolding computing digits_in decimal letters stroke_from number record_at sizes_line lane_line value_line refused_line place_text pair_line slot_line slot_lines_from end_lines zeros end_text print_from opened_print print_of
no_end = refl

-- one column too many
bad_sizes : print_of (1 ∷ 3 ∷ 9 ∷ 3 ∷ 1 ∷ 6 ∷ []) ≡ text_bytes "refused 1 at 0\n"
unfolding computing digits_in decimal letters stroke_from number record_at sizes_line lane_line value_line refused_line place_text pair_line slot_line slot_lines_from end_lines zeros end_text print_from opened_print print_of
bad_sizes = refl

-- kind 1 stands once
sizes_twice : print_of (1 ∷ 3 ∷ 1 ∷ 3 ∷ 1 ∷ 1 ∷ 3 ∷ 1 ∷ 3 ∷ 1 ∷ 6 ∷ []) ≡ text_bytes "sizes 3 1 3 1\nrefused 11 at 5\n"
unfolding computing digits_in decimal letters stroke_from number record_at sizes_line lane_line value_line refused_line place_text pair_line slot_line slot_lines_from end_lines zeros end_text print_from opened_print print_of
sizes_twice = refl

-- a record cut short is 11 before its lane is looked at
short_before_lane : print_of (1 ∷ 3 ∷ 1 ∷ 3 ∷ 1 ∷ 5 ∷ 9 ∷ []) ≡ text_bytes "sizes 3 1 3 1\nrefused 11 at 5\n"
unfolding computing digits_in decimal letters stroke_from number record_at sizes_line lane_line value_line refused_line place_text pair_line slot_line slot_lines_from end_lines zeros end_text print_from opened_print print_of
short_before_lane = refl

-- 6: lane not below N
no_lane : print_of (1 ∷ 3 ∷ 1 ∷ 3 ∷ 1 ∷ 5 ∷ 1 ∷ 0 ∷ 6 ∷ []) ≡ text_bytes "sizes 3 1 3 1\nrefused 6 at 5\n"
unfolding computing digits_in decimal letters stroke_from number record_at sizes_line lane_line value_line refused_line place_text pair_line slot_line slot_lines_from end_lines zeros end_text print_from opened_print print_of
no_lane = refl

-- 8: lane is idle
idle_lane_lem : print_of (1 ∷ 3 ∷ 1 ∷ 3 ∷ 1 ∷ 5 ∷ 0 ∷ 0 ∷ 6 ∷ []) ≡ text_bytes "sizes 3 1 3 1\nrefused 8 at 5\n"
unfolding computing digits_in decimal letters stroke_from number record_at sizes_line lane_line value_line refused_line place_text pair_line slot_line slot_lines_from end_lines zeros end_text print_from opened_print print_of
idle_lane_lem = refl

-- 7: lane is busy
busy_lane : print_of (1 ∷ 3 ∷ 1 ∷ 3 ∷ 1 ∷ 2 ∷ 0 ∷ 0 ∷ 4 ∷ 0 ∷ 0 ∷ 2 ∷ 0 ∷ 0 ∷ 4 ∷ 0 ∷ 0 ∷ 6 ∷ []) ≡ text_bytes "sizes 3 1 3 1\nrefused 7 at 11\n"
unfolding computing digits_in decimal letters stroke_from number record_at sizes_line lane_line value_line refused_line place_text pair_line slot_line slot_lines_from end_lines zeros end_text print_from opened_print print_of
busy_lane = refl

-- 10: key above 8388607
key_too_high : print_of (1 ∷ 3 ∷ 1 ∷ 3 ∷ 1 ∷ 3 ∷ 0 ∷ 0 ∷ 0 ∷ 128 ∷ 0 ∷ 6 ∷ []) ≡ text_bytes "sizes 3 1 3 1\nrefused 10 at 5\n"
unfolding computing digits_in decimal letters stroke_from number record_at sizes_line lane_line value_line refused_line place_text pair_line slot_line slot_lines_from end_lines zeros end_text print_from opened_print print_of
key_too_high = refl

-- a byte after the end is a fault at that byte's offset
byte_after_end : print_of (1 ∷ 3 ∷ 1 ∷ 3 ∷ 1 ∷ 6 ∷ 6 ∷ []) ≡ text_bytes "sizes 3 1 3 1\nrefused 11 at 6\n"
unfolding computing digits_in decimal letters stroke_from number record_at sizes_line lane_line value_line refused_line place_text pair_line slot_line slot_lines_from end_lines zeros end_text print_from opened_print print_of
byte_after_end = refl

-- an unfinished lane prints nothing
unfinished : print_of (1 ∷ 3 ∷ 1 ∷ 3 ∷ 1 ∷ 2 ∷ 0 ∷ 0 ∷ 4 ∷ 0 ∷ 0 ∷ 6 ∷ []) ≡ text_bytes "sizes 3 1 3 1\nend\n"
unfolding computing digits_in decimal letters stroke_from number record_at sizes_line lane_line value_line refused_line place_text pair_line slot_line slot_lines_from end_lines zeros end_text print_from opened_print print_of
unfinished = refl

abbrev steps : ℕ → List ℕ
steps zero = []
steps (suc n) = 5 ∷ 0 ∷ 0 ∷ steps n

-- "Whole case: bytes `01 03 01 03 01`, `04 00 00 04 00 00 07 00 00 00`, thirteen times `05 00 00`, `02 00 00 04 00 00`, five times
-- `05 00 00`, `06` print"
pub whole_case : print_of ((1 ∷ 3 ∷ 1 ∷ 3 ∷ 1 ∷ []) ++ (4 ∷ 0 ∷ 0 ∷ 4 ∷ 0 ∷ 0 ∷ 7 ∷ 0 ∷ 0 ∷ 0 ∷ []) ++ steps 13 ++ (2 ∷ 0 ∷ 0 ∷ 4 ∷ 0 ∷ 0 ∷ []) ++ steps 5 ++ (6 ∷ [])) ≡ text_bytes "sizes 3 1 3 1\nlane 0 insert yes\nlane 0 read 7\nrow 0 col 0 ..........*............ 7\nend\n"
unfolding computing digits_in decimal letters stroke_from number record_at sizes_line lane_line value_line refused_line place_text pair_line slot_line slot_lines_from end_lines zeros end_text print_from opened_print print_of
whole_case = refl
