-- A print tells what it is of: no two strokes have the same characters, and no two numbers the same digits.
-- Assumes nothing.
use mathlib.Core.Path.{◌≡◌, refl, sym, ◌∙◌, ap}
use mathlib.Core.Logic.{◌≢◌}
use mathlib.Core.Bool.{Bool, true, false, cond, not, ◌&&◌}
use mathlib.Core.List.{List, [], ◌∷◌}
use Prim.Native.Nat.{ℕ, zero, suc, ◌/◌, ◌%◌, ◌^◌, ◌≤◌, ◌<◌}
use native.Mathlib.Nat.{pow-suc}
use native.Mathlib.Omega.{arith}
use lib.Dec.{eqb}
use lib.ListN.{length, get_or}
use borrow.Author.Tests.{eqb-true, eqb-false}
use Rattle.std.specs.Fmt.{decimal as std_decimal}
use Rattle.std.proofs.lemmas.Fmt.{decimal_injective, first_decimal}
use Rattle.lists.proofs.Below.{and_left, and_right}
use Rattle.prints.specs.Text.{digit, decimal, letters, dot, stroke_from, stroke_of}
use Rattle.prints.proofs.Numbers.{decimal_is}

-- ---- strokes

-- no letter of a row is the dot
no_dot : List ℕ → Bool
no_dot [] = true
no_dot (c ∷ cs) = not (eqb c dot) && no_dot cs

letters_no_dot : no_dot letters ≡ true
unfolding no_dot letters
letters_no_dot = refl

no_dot_lem : (c : ℕ) → not (eqb c dot) ≡ true → c ≢ dot
no_dot_lem c h = go (eqb c dot) refl h
  where
    go : (d : Bool) → eqb c dot ≡ d → not d ≡ true → c ≢ dot
    go false p h = eqb-false c dot p
    go true p h = let z : ◌≡◌ {A = ℕ} 0 1 = cc in absurd (omega arith)

-- a character tells its bit
same_bit : (c a b : ℕ) → c ≢ dot → cond (eqb (a % 2) 1) c dot ≡ cond (eqb (b % 2) 1) c dot → a % 2 ≡ b % 2
same_bit c a b h e = go (eqb (a % 2) 1) (eqb (b % 2) 1) refl refl e
  where
    go : (x y : Bool) → eqb (a % 2) 1 ≡ x → eqb (b % 2) 1 ≡ y → cond x c dot ≡ cond y c dot → a % 2 ≡ b % 2
    go true true q r e = eqb-true (a % 2) 1 q ∙ sym (eqb-true (b % 2) 1 r)
    go false false q r e = let u : a % 2 ≢ 1 = eqb-false (a % 2) 1 q in let v : b % 2 ≢ 1 = eqb-false (b % 2) 1 r in omega arith
    go true false q r e = absurd (h e)
    go false true q r e = absurd (h (sym e))

same_key : (cs : List ℕ) (a b : ℕ) → no_dot cs ≡ true → a < 2 ^ length cs → b < 2 ^ length cs → stroke_from cs a ≡ stroke_from cs b → a ≡ b
unfolding stroke_from no_dot
same_key [] a b h ha hb e = omega arith
same_key (c ∷ cs) a b h ha hb e =
    let bit : a % 2 ≡ b % 2 = same_bit c a b (no_dot_lem c (and_left (not (eqb c dot)) (no_dot cs) h)) (cc) in
    let rest : a / 2 ≡ b / 2 = same_key cs (a / 2) (b / 2) (and_right (not (eqb c dot)) (no_dot cs) h) (omega (arith, pow-suc 2 (length cs))) (omega (arith, pow-suc 2 (length cs))) (cc) in
    omega arith

-- two strokes with the same 23 characters are the same key
pub same_stroke : (a b : ℕ) → a ≤ 8388607 → b ≤ 8388607 → stroke_of a ≡ stroke_of b → a ≡ b
unfolding letters
same_stroke a b ha hb e = same_key letters a b letters_no_dot (omega arith) (omega arith) e

-- ---- numbers

-- two numbers of 32 bits with the same digits are the same
pub same_number : (a b : ℕ) → a < 4294967296 → b < 4294967296 → decimal a ≡ decimal b → a ≡ b
same_number a b ha hb e = decimal_injective a b (omega arith) (omega arith) (sym (decimal_is a ha) ∙ e ∙ decimal_is b hb)

-- no zero stands in front, but for the number 0
pub no_zero : (n : ℕ) → n < 4294967296 → get_or (decimal n) 0 0 ≡ digit 0 → n ≡ 0
no_zero n h e = go n h (ap (λ (ds : List ℕ). get_or ds 0 0) (sym (decimal_is n h)) ∙ e)
  where
    go : (m : ℕ) → m < 4294967296 → get_or (std_decimal m) 0 0 ≡ 48 → m ≡ 0
    go zero h e = refl
    go (suc m) h e = let l : 48 < get_or (std_decimal (suc m)) 0 0 = first_decimal (suc m) (omega arith) (omega arith) in absurd (omega arith)
