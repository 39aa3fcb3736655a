-- A lane and its 14 numbers: the codes read back, a lane after a store, another one, the length, and whether the numbers are a lane's.
-- Assumes nothing.
use mathlib.Core.Path.{◌≡◌, ◌∙◌, ap, sym, refl}
use mathlib.Core.Logic.{◌≢◌}
use mathlib.Core.List.{List}
use mathlib.Core.Bool.{Bool, true, cond}
use Prim.Native.Nat.{ℕ, zero, suc, ◌<◌}
use native.Mathlib.Omega.{arith}
use lib.Dec.{eqb, lit<}
use lib.ListN.{length, get_or, replicate}
use borrow.Author.Tests.{eq-eqb}
use Rattle.lists.specs.Below.{all_below}
use Rattle.lists.specs.Records.{cell, HasRecord}
use Rattle.lists.proofs.Below.{all_from}
use Rattle.lists.proofs.Records.{cell_same, cell_other, put_length, zeros_at, cell_zeros}
use Rattle.locks.proofs.Record.{grab_back}
use Rattle.lists.proofs.Views.{View, view_read}
use Rattle.machine.specs.declared.Lane.{Lane}
use Rattle.machine.specs.declared.Lane.TheVariants.{Idle, Busy}
use Rattle.machine.specs.Lane.{lane_numbers, Words, numbers_of, with_lane}
use Rattle.machine.specs.Back.{op_of, stage_of, lane_at, decodes}

-- a lane read from its numbers
abbrev words_of : (ℕ → ℕ) → Words
words_of g =
    record {
      code = g 0;
      grab = g 4;
      noted = g 5;
      side = g 6;
      column = g 7;
      ending = g 8;
      picks = g 9;
      places = g 10;
      free_row = g 11;
      free_column = g 12;
      seen = g 13;
    }

abbrev lane_of : (ℕ → ℕ) → Lane
lane_of g = cond (eqb (g 1) 0) Idle (Busy (record { op = op_of (g 1); key = g 2; value = g 3; stage = stage_of (words_of g) }))

alike_words : (g h : ℕ → ℕ) → ((f : ℕ) → f < lane_numbers → g f ≡ h f) → words_of g ≡ words_of h
alike_words g h e = λ z.
    record {
      code = e 0 (lit< tt) z;
      grab = e 4 (lit< tt) z;
      noted = e 5 (lit< tt) z;
      side = e 6 (lit< tt) z;
      column = e 7 (lit< tt) z;
      ending = e 8 (lit< tt) z;
      picks = e 9 (lit< tt) z;
      places = e 10 (lit< tt) z;
      free_row = e 11 (lit< tt) z;
      free_column = e 12 (lit< tt) z;
      seen = e 13 (lit< tt) z;
    }

lane_back : (l : Lane) → lane_of (λ f. get_or (numbers_of l) f 0) ≡ l
unfolding numbers_of
lane_back l = grind (arith, grab_back)

numbers_long : (l : Lane) → length (numbers_of l) ≡ lane_numbers
unfolding numbers_of
numbers_long l = grind arith

lane_view : View lane_numbers lane_of numbers_of
unfolding numbers_of
lane_view =
    record {
      long = numbers_long;
      alike = λ g h e z.
          cond (eqb (e 1 (lit< tt) z) 0) Idle
          (Busy (record { op = op_of (e 1 (lit< tt) z); key = e 2 (lit< tt) z; value = e 3 (lit< tt) z; stage = stage_of (alike_words g h e z) }));
      back = lane_back;
    }

-- record j of ls' has the numbers of record i of ls
abbrev Alike : List ℕ → ℕ → List ℕ → ℕ → Type 0
Alike ls' j ls i = (f : ℕ) → f < lane_numbers → cell lane_numbers ls' j f ≡ cell lane_numbers ls i f

alike_lane : (ls' ls : List ℕ) (j i : ℕ) → Alike ls' j ls i → lane_at ls' j ≡ lane_at ls i
unfolding lane_at
alike_lane ls' ls j i r = lane_view.alike _ _ r

-- record i of ls has the numbers of the lane l
abbrev Reads : List ℕ → ℕ → Lane → Type 0
Reads ls i l = (f : ℕ) → f < lane_numbers → cell lane_numbers ls i f ≡ get_or (numbers_of l) f 0

reads_lane : (ls : List ℕ) (i : ℕ) (l : Lane) → Reads ls i l → lane_at ls i ≡ l
unfolding lane_at
reads_lane ls i l r = view_read lane_view ls i l r

reads_decodes : (ls : List ℕ) (i : ℕ) (l : Lane) → Reads ls i l → decodes ls i ≡ true
unfolding decodes
reads_decodes ls i l r = all_from (λ f. eqb (cell lane_numbers ls i f) (get_or (numbers_of (lane_at ls i)) f 0)) lane_numbers one
  where
    one : (f : ℕ) → f < lane_numbers → eqb (cell lane_numbers ls i f) (get_or (numbers_of (lane_at ls i)) f 0) ≡ true
    one f h = eq-eqb _ _ (r f h ∙ ap (λ (k : Lane). get_or (numbers_of k) f 0) (sym (reads_lane ls i l r)))

all_same : (n : ℕ) (p q : ℕ → Bool) → ((i : ℕ) → i < n → p i ≡ q i) → all_below n p ≡ all_below n q
unfolding all_below
all_same zero p q e = refl
all_same (suc n) p q e = rw (all_same n p q (λ i l. e i (omega arith)), e n (omega arith))

alike_decodes : (ls' ls : List ℕ) (j : ℕ) → Alike ls' j ls j → decodes ls' j ≡ decodes ls j
unfolding decodes
alike_decodes ls' ls j r = grind (arith, all_same, alike_lane)

module _ (ls : List ℕ) (i : ℕ) (l : Lane) where
  stored : HasRecord lane_numbers ls i → Reads (with_lane ls i l) i l
  unfolding with_lane numbers_of
  stored b f h = cell_same lane_numbers ls i (numbers_of l) f (numbers_long l) h b

  untouched : (j : ℕ) → j ≢ i → Alike (with_lane ls i l) j ls j
  unfolding with_lane numbers_of
  untouched j d f h = cell_other lane_numbers ls i (numbers_of l) j f (numbers_long l) h d

  pub lane_same : HasRecord lane_numbers ls i → lane_at (with_lane ls i l) i ≡ l
  lane_same b = reads_lane (with_lane ls i l) i l (stored b)

  pub lane_other : (j : ℕ) → j ≢ i → lane_at (with_lane ls i l) j ≡ lane_at ls j
  lane_other j d = alike_lane (with_lane ls i l) ls j j (untouched j d)

  pub lane_length : length (with_lane ls i l) ≡ length ls
  unfolding with_lane
  lane_length = put_length lane_numbers ls i (numbers_of l)

  pub decodes_same : HasRecord lane_numbers ls i → decodes (with_lane ls i l) i ≡ true
  decodes_same b = reads_decodes (with_lane ls i l) i l (stored b)

  pub decodes_other : (j : ℕ) → j ≢ i → decodes (with_lane ls i l) j ≡ decodes ls j
  decodes_other j d = alike_decodes (with_lane ls i l) ls j (untouched j d)

-- a record of zeros is an idle lane
module _ (n i : ℕ) where
  zeros_idle : Reads (replicate n 0) i Idle
  unfolding numbers_of
  zeros_idle f h = cell_zeros lane_numbers n i f ∙ sym (zeros_at lane_numbers f)

  pub opened_lane : lane_at (replicate n 0) i ≡ Idle
  opened_lane = reads_lane (replicate n 0) i Idle zeros_idle

  pub opened_decodes : decodes (replicate n 0) i ≡ true
  opened_decodes = reads_decodes (replicate n 0) i Idle zeros_idle
