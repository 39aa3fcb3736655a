-- 01, "What the table holds": a lock's words, and where the main lock stands among them.
use Rattle.std.specs.Prelude.{ℕ, ◌+◌, ◌*◌, List, [], ◌∷◌}
use Rattle.lists.specs.Records.{cell, put}
use Rattle.places.specs.declared.Sizes.{Sizes}
use Rattle.places.specs.Table.{max_rows}
use Rattle.locks.specs.declared.Lock.{Lock}

-- how many numbers a lock is
abbrev pub lock_numbers : ℕ
lock_numbers = 2

-- "the main lock stands after the L row locks"
abbrev pub main_lock : Sizes → ℕ
main_lock z = z.locks

-- how many numbers the lent list of locks is
unfoldable pub lock_words : Sizes → ℕ
lock_words z = (main_lock z + 1) * lock_numbers

-- in the largest table
abbrev pub max_lock_words : ℕ
max_lock_words = (max_rows + 1) * lock_numbers

-- "Each lock has a flag and a count"
unfoldable pub lock_at : Sizes → List ℕ → ℕ → Lock
lock_at z ls k = record { flag = cell lock_numbers ls k 0; count = cell lock_numbers ls k 1 }

-- the lock words with w in place of lock k
unfoldable pub with_lock : Sizes → List ℕ → ℕ → Lock → List ℕ
with_lock z ls k w = put lock_numbers ls k (w.flag ∷ w.count ∷ [])
