-- A lock after a store: that lock, another one, and the length, from the laws of records; a lock of a table just opened.
use mathlib.Core.Path.{◌≡◌, refl}
use mathlib.Core.Logic.{◌≢◌}
use mathlib.Core.List.{List}
use Prim.Native.Nat.{ℕ, ◌+◌, ◌*◌, ◌≤◌, ◌<◌}
use native.Mathlib.Omega.{arith}
use lib.ListN.{length, replicate}
use lib.Dec.{lit<}
use Rattle.lists.proofs.Records.{cell_same, cell_other, put_length, cell_zeros}
use Rattle.places.specs.declared.Sizes.{Sizes}
use Rattle.places.specs.Table.{Fits}
use Rattle.locks.specs.declared.Lock.{Lock}
use Rattle.locks.specs.Locks.{lock_at, with_lock, lock_words, max_lock_words}

module _ (z : Sizes) where
  within : (ls : List ℕ) (k : ℕ) → k < z.locks + 1 → length ls ≡ lock_words z → k * 2 + 2 ≤ length ls
  unfolding lock_words
  within ls k h e = omega arith

  pub lock_same : (ls : List ℕ) (k : ℕ) (w : Lock) → k < z.locks + 1 → length ls ≡ lock_words z → lock_at z (with_lock z ls k w) k ≡ w
  unfolding lock_at with_lock
  lock_same ls k w h e = rw (cell_same 2 ls k _ 0 refl (lit< tt) (within ls k h e), cell_same 2 ls k _ 1 refl (lit< tt) (within ls k h e))

  pub lock_other : (ls : List ℕ) (k : ℕ) (w : Lock) (j : ℕ) → j ≢ k → lock_at z (with_lock z ls k w) j ≡ lock_at z ls j
  unfolding lock_at with_lock
  lock_other ls k w j d = rw (cell_other 2 ls k _ j 0 refl (lit< tt) d, cell_other 2 ls k _ j 1 refl (lit< tt) d)

  pub lock_length : (ls : List ℕ) (k : ℕ) (w : Lock) → length (with_lock z ls k w) ≡ length ls
  unfolding with_lock
  lock_length ls k w = put_length 2 ls k _

  pub opened_lock : (n k : ℕ) → lock_at z (replicate n 0) k ≡ record { flag = 0; count = 0 }
  unfolding lock_at
  opened_lock n k = simp cell_zeros

  -- no table has more lock words than the largest
  pub words_most : Fits z → lock_words z ≤ max_lock_words
  unfolding lock_words
  words_most f = omega (arith, f.locks_high, f.rows_high)
