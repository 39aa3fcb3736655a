-- The digits of a number: those of its tenth, and its last; ten digits are enough for 32 bits.
-- Assumes nothing.
use mathlib.Core.Path.{◌≡◌, refl, sym, ◌∙◌, ap}
use mathlib.Core.Bool.{Bool, true, false, cond}
use mathlib.Core.List.{List, [], ◌∷◌, ◌++◌}
use Prim.Native.Nat.{ℕ, zero, suc, ◌+◌, ◌/◌, ◌%◌, ◌^◌, ◌≤◌, ◌<◌}
use native.Mathlib.Omega.{arith}
use lib.Dec.{ltb}
use lib.ListN.{length, length-append}
use borrow.Author.Tests.{lt-ltb, le-ltb}
use Rattle.std.specs.Fmt.{decimal as std_decimal}
use Rattle.std.proofs.lemmas.Fmt.{AppendsLastDigit, decimal_from_appends, decimal_digit, decimal_step, length-decimal-le}
use Rattle.prints.specs.declared.text.Out.{Out}
use Rattle.prints.specs.Put.{Puts}
use Rattle.prints.specs.Text.{digit, digits_in, decimal}
use Rattle.prints.proofs.Puts.{puts_then}

by_last_digit : AppendsLastDigit digits_in
unfolding digits_in
by_last_digit = record { one = λ k n h. rw (lt-ltb n 10 h) refl; more = λ k n h. rw (le-ltb n 10 h) refl }

-- the digits are the library's
pub decimal_is : (n : ℕ) → n < 4294967296 → decimal n ≡ std_decimal n
unfolding decimal
decimal_is n h = decimal_from_appends digits_in by_last_digit 10 n (omega arith) (length-decimal-le 10 n (omega arith) (omega arith) (omega arith))

pub decimal_few : (n : ℕ) → n < 10 → decimal n ≡ digit n ∷ []
decimal_few n h = decimal_is n (omega arith) ∙ decimal_digit n h

-- a number below 10 ^ k has at most k digits
pub decimal_short : (k n : ℕ) → 0 < k → n < 10 ^ k → n < 4294967296 → length (decimal n) ≤ k
decimal_short k n p h l = rw (decimal_is n l) (length-decimal-le k n p h (omega arith))

decimal_more : (n : ℕ) → 10 ≤ n → n < 4294967296 → decimal n ≡ decimal (n / 10) ++ digit (n % 10) ∷ []
decimal_more n h l =
    decimal_is n l ∙ decimal_step n h (omega arith) ∙ ap (λ (ds : List ℕ). ds ++ digit (n % 10) ∷ []) (sym (decimal_is (n / 10) (omega arith)))

digits_most : (k n : ℕ) → length (digits_in k n) ≤ k
unfolding digits_in
digits_most zero n = omega arith
digits_most (suc k) n = go (digits_most k (n / 10)) (ltb n 10)
  where
    go : length (digits_in k (n / 10)) ≤ k → (b : Bool) → length (cond b (digit n ∷ []) (digits_in k (n / 10) ++ digit (n % 10) ∷ [])) ≤ suc k
    go h true = omega arith
    go h false = omega (arith, length-append (digits_in k (n / 10)) (digit (n % 10) ∷ []))

pub decimal_most : (n : ℕ) → length (decimal n) ≤ 10
unfolding decimal
decimal_most n = digits_most 10 n

-- ---- the two ways through `put_number`

-- the last digit has room, and so has what stands in front of it
pub room_few : (n at size : ℕ) → n < 10 → at + length (decimal n) ≤ size → at < size
room_few n at size h l = omega (arith, ap length (decimal_few n h))

pub room_more : (n at size : ℕ) → 10 ≤ n → n < 4294967296 → at + length (decimal n) ≤ size → at + length (decimal (n / 10)) < size
room_more n at size h b l = omega (arith, ap length (decimal_more n h b), length-append (decimal (n / 10)) (digit (n % 10) ∷ []))

pub number_few : (was out : Out) (n : ℕ) → n < 10 → Puts was out ((48 + n) ∷ []) → Puts was out (decimal n)
number_few was out n h p = rw (decimal_few n h) p

pub number_more : (was mid out : Out) (n : ℕ) → 10 ≤ n → n < 4294967296 → Puts was mid (decimal (n / 10)) → Puts mid out ((48 + n % 10) ∷ []) → Puts was out (decimal n)
number_more was mid out n h l p q = rw (decimal_more n h l) (puts_then p q)
