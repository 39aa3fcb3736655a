-- 01, "Pinning every answer": what the run of a job owes, its answer and the closing contents of the lent bytes.
-- Assumes nothing.
use Rattle.std.specs.Prelude.{ℕ, ◌≤◌, ◌≡◌, List, length, take}
use Rattle.prints.specs.Put.{Put}

-- the text stands at the start of out, r bytes long, and every other byte is as it was. The last two parts follow from the first: they are
-- said so that a caller may take the front r bytes
pub record Prints (r : ℕ) (was out text : List ℕ) : Type 0 where
  pub put : Put r 0 was out text
  pub within : r ≤ length out
  pub front : r ≡ length (take r out)
