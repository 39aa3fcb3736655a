-- `put_text` puts the text over the bytes that stood there.
-- Assumes nothing.
use mathlib.Core.Path.{refl}
use native.Mathlib.Omega.{arith}
use Rattle.std.proofs.Common.{rules}
use Rattle.prints.proofs.Puts.{puts_by, over_is}
use Rattle.prints.proofs.text.Out.put_text.Goals as goal

pub returns : goal.returns
returns c = puts_by (record { offset = refl; bytes = over_is _ _ _ _ _ (omega arith) c.requires (search rules) }) refl
