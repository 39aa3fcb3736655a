-- The table of a job is zeros, and stands: no lane has begun, no slot is full.
-- Assumes nothing.
use mathlib.Core.Path.{◌≡◌, sym, ◌∙◌, ap}
use mathlib.Core.Bool.{true, false}
use Prim.Native.Nat.{ℕ, ◌*◌}
use native.Mathlib.Omega.{arith}
use lib.ListN.{replicate, length-replicate}
use Rattle.std.specs.Prelude.{⊤, Result}
use Rattle.lists.proofs.Records.{cell_zeros}
use Rattle.places.specs.declared.Sizes.{Sizes}
use Rattle.places.specs.Table.{sizes_ok}
use Rattle.slots.specs.declared.Slot.{Slot}
use Rattle.slots.specs.Slot.{slot_at, empty_slot, is_full, has_key, slot_numbers, slot_words}
use Rattle.slots.specs.Sound.{bad_shape, sound, opening_fault}
use Rattle.slots.proofs.Facts.{facts_sound}
use Rattle.paths.specs.Path.{emptied, path_words}
use Rattle.machine.specs.Lane.{lane_words}
use Rattle.machine.specs.declared.Refusal.{Refusal}
use Rattle.machine.specs.Desk.{Called, lengths_ok, opened, open_of, Accepts}
use Rattle.locks.specs.Locks.{lock_words}
use Rattle.kept.specs.Runs.{Stood}
use Rattle.kept.proofs.Long.{lengths_ok_lem}
use Rattle.kept.proofs.Opening.{open_is}
use Rattle.kept.proofs.Kept.{kept_opening}
use Rattle.jobs.specs.Job.{zeros, job_table}

zero_slot : (n i : ℕ) → slot_at (replicate n 0) i ≡ empty_slot
unfolding slot_at
zero_slot n i = λ k. record { mark = cell_zeros slot_numbers n i 0 k; key = cell_zeros slot_numbers n i 1 k; value = cell_zeros slot_numbers n i 2 k }

-- an empty slot has a good shape and holds nothing
empty_shaped : (s : Slot) → s ≡ empty_slot → bad_shape s ≡ false
unfolding bad_shape
empty_shaped s e = ap bad_shape e

false_true : true ≡ false → ⊥
false_true e = let z : ◌≡◌ {A = ℕ} 0 1 = cc in omega arith

empty_full : (s : Slot) → s ≡ empty_slot → is_full s ≡ true → ⊥
empty_full s e f = false_true (sym f ∙ ap is_full e)

empty_has_none : (s : Slot) (key : ℕ) → s ≡ empty_slot → has_key s key ≡ true → ⊥
unfolding has_key
empty_has_none s key e f = false_true (sym f ∙ ap (λ (t : Slot). has_key t key) e)

zeros_sound : (z : Sizes) (n : ℕ) → sound z (replicate n 0) ≡ true
zeros_sound z n =
    facts_sound z (replicate n 0)
    (record {
      shaped = λ i l. empty_shaped _ (zero_slot n i);
      at_home = λ i l f. absurd (empty_full _ (zero_slot n i) f);
      once = λ i j key l m f g. absurd (empty_has_none _ key (zero_slot n i) f);
    })

slots_sound : (z : Sizes) → sound z (zeros z).slots ≡ true
unfolding zeros
slots_sound z = zeros_sound z (slot_words z)

zeros_lengths : (z : Sizes) → lengths_ok z (zeros z) ≡ true
unfolding zeros
zeros_lengths z = lengths_ok_lem z (zeros z) (record { slots = length-replicate _ 0; locks = length-replicate _ 0; path = length-replicate _ 0 }) (length-replicate _ 0)

module _ (z : Sizes) (ok : sizes_ok z ≡ true) where
  -- the opening of a job's table is never refused: 2, 3, 4 and 5 can't arise in a job
  pub zeros_open : Accepts (open_of z (zeros z))
  unfolding open_of opening_fault
  zeros_open = rw (ok, zeros_lengths z, slots_sound z)

  pub fresh_stood : Stood z (job_table z)
  fresh_stood = kept_opening z (zeros z) zeros_open

  still_zeros : (n : ℕ) → emptied (replicate n 0) ≡ replicate n 0
  unfolding emptied
  still_zeros n = ap (λ (k : ℕ). replicate k 0) (length-replicate n 0)

  -- opening leaves the zeros as they are
  pub fresh_is : job_table z ≡ zeros z
  unfolding opened zeros
  fresh_is = ap (λ (c : Called (Result ⊤ Refusal)). c.table) (open_is z (zeros z) zeros_open) ∙ (λ k. record { slots = (zeros z).slots; locks = still_zeros (lock_words z) k; lanes = still_zeros (lane_words z) k; path = still_zeros (path_words z) k })
