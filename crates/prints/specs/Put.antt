-- What every function that prints does to the bytes that it is lent.
-- Assumes nothing.
use Rattle.std.specs.Prelude.{ℕ, ◌+◌, ◌≡◌, List, length}
use Rattle.std.proofs.lemmas.List.Edits.{sets}
use Rattle.prints.specs.declared.text.Out.{Out}

-- piece stands in out from offset at on, every other byte is as it was, and next is the offset after it
pub record Put (next at : ℕ) (was out piece : List ℕ) : Type 0 where
  pub offset : next ≡ at + length piece
  pub bytes : out ≡ sets was at piece

-- piece is put where the next byte goes, into the same bytes. The last part follows from the first: it is said so that a caller sees that
-- what is left to put has room
pub record Puts (was out : Out) (piece : List ℕ) : Type 0 where
  pub put : Put out.at was.at was.bytes.now out.bytes.now piece
  pub same : out.bytes.ghost_name ≡ was.bytes.ghost_name
  pub long : length out.bytes.now ≡ length was.bytes.now
