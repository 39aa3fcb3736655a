-- 01, "Job file and print": words, numbers and strokes as the bytes that stand for them.
-- Assumes nothing.
use Rattle.std.specs.Prelude.{ℕ, zero, suc, ◌+◌, ◌/◌, ◌%◌, List, [], ◌∷◌, ◌++◌, cond, eqb, ltb}
use Prim.Native.Char.{code}
use Prim.Native.String.{String, [] as noText, ◌∷◌ as ◌before◌}

-- the bytes of a text in ASCII
abbrev pub text_bytes : String → List ℕ
text_bytes noText = []
text_bytes (c before s) = code c ∷ text_bytes s

-- the byte of a digit
abbrev pub digit : ℕ → ℕ
digit d = 48 + d

-- the digits of a number that has at most k of them
unfoldable pub digits_in : ℕ → ℕ → List ℕ
digits_in zero n = []
digits_in (suc k) n = cond (ltb n 10) (digit n ∷ []) (digits_in k (n / 10) ++ digit (n % 10) ∷ [])

-- a number of 32 bits in decimal, with no zeros in front: it has at most ten digits
unfoldable pub decimal : ℕ → List ℕ
decimal n = digits_in 10 n

-- "the fixed row of letters"
unfoldable pub letters : List ℕ
letters = text_bytes "#STKPWHRAO*EUFRPBLGTSDZ"

-- "a dot for a key that is up"
abbrev pub dot : ℕ
dot = 46

-- the lowest bit of key chooses the first character, the next bit the next
unfoldable pub stroke_from : List ℕ → ℕ → List ℕ
stroke_from [] key = []
stroke_from (c ∷ cs) key = cond (eqb (key % 2) 1) c dot ∷ stroke_from cs (key / 2)

-- "A stroke prints as 23 characters, bit 0 first"
abbrev pub stroke_of : ℕ → List ℕ
stroke_of key = stroke_from letters key
