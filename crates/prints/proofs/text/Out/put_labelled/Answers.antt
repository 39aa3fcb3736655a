-- `put_labelled` puts the word and then the number, which has at most ten digits.
-- Assumes nothing.
use native.Mathlib.Omega.{arith}
use Rattle.prints.proofs.Numbers.{decimal_most}
use Rattle.prints.proofs.Puts.{puts_then}
use Rattle.prints.proofs.text.Out.put_labelled.Goals as goal

pub put_number-requires : goal.put_number-requires
put_number-requires c = omega (arith, decimal_most c.args.n)

pub returns-clause-put : goal.returns-clause-put
returns-clause-put c = puts_then c.put_text.ensures c.put_number.ensures

pub returns-clause-within : goal.returns-clause-within
returns-clause-within c = omega (arith, decimal_most c.args.n)
