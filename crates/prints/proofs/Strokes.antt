-- The characters of a stroke: a turn of the loop that prints them; and which stroke they are of.
-- Assumes nothing.
use mathlib.Core.Path.{◌≡◌, refl, sym, ◌∙◌, ap}
use mathlib.Core.Bool.{cond}
use mathlib.Core.List.{List, [], ◌∷◌, ◌++◌}
use Prim.Native.Nat.{ℕ, suc, ◌+◌, ◌/◌, ◌%◌, ◌≤◌, ◌<◌}
use native.Mathlib.Numerals.{add-one}
use native.Mathlib.Omega.{arith}
use lib.Dec.{eqb}
use lib.ListN.{length, get_or, drop, drop_of_length-le}
use lib.Seq.{drop-cons}
use Rattle.prints.specs.declared.text.TheConstants.{LETTERS}
use Rattle.prints.specs.Put.{Put}
use Rattle.prints.specs.Text.{letters, dot, stroke_from, stroke_of}
use Rattle.prints.proofs.Puts.{Amid, amid_more, amid_end}

-- the code has the row of letters
row_is : LETTERS ≡ letters
unfolding letters
row_is = refl

pub letters_length : length letters ≡ 23
unfolding letters
letters_length = refl

stroke_length_from : (cs : List ℕ) (key : ℕ) → length (stroke_from cs key) ≡ length cs
unfolding stroke_from
stroke_length_from [] key = refl
stroke_length_from (c ∷ cs) key = ap suc (stroke_length_from cs (key / 2))

pub stroke_length : (key : ℕ) → length (stroke_of key) ≡ 23
stroke_length key = stroke_length_from letters key ∙ letters_length

-- ---- a turn of the loop

stroke_cons : (i key : ℕ) → i < 23 → stroke_from (drop i letters) key ≡ (cond (eqb (key % 2) 1) (get_or letters i 0) dot ∷ []) ++ stroke_from (drop (i + 1) letters) (key / 2)
unfolding stroke_from
stroke_cons i key h =
    ap (λ (cs : List ℕ). stroke_from cs key) (drop-cons letters i 0 (omega (arith, letters_length)) ∙ ap (λ (k : ℕ). get_or letters i 0 ∷ drop k letters) (sym (add-one i)))

pub stroke_more : (m n at : ℕ) (was mid out whole : List ℕ) (i key byte : ℕ) → i < 23 → byte ≡ cond (eqb (key % 2) 1) (get_or LETTERS i 0) dot → Amid m at was mid (stroke_from (drop i letters) key) whole
    → Put n m mid out (byte ∷ []) → Amid n at was out (stroke_from (drop (i + 1) letters) (key / 2)) whole
stroke_more m n at was mid out whole i key byte h e a p =
    let q : byte ≡ cond (eqb (key % 2) 1) (get_or letters i 0) dot = e ∙ ap (λ (cs : List ℕ). cond (eqb (key % 2) 1) (get_or cs i 0) dot) row_is in
    amid_more (rw (stroke_cons i key h, sym q) at a) p

none_left : (cs : List ℕ) (key : ℕ) → cs ≡ [] → stroke_from cs key ≡ []
unfolding stroke_from
none_left cs key e = rw e

pub stroke_end : (n at : ℕ) (was out whole : List ℕ) (i key : ℕ) → 23 ≤ i → Amid n at was out (stroke_from (drop i letters) key) whole → Put n at was out whole
stroke_end n at was out whole i key h a = amid_end (rw (none_left (drop i letters) key (drop_of_length-le letters {i = i} (omega (arith, letters_length)))) at a)
