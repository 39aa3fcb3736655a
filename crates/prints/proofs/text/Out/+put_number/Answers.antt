-- `put_number` puts the digits of the tenth, and the last digit after them.
-- Assumes nothing.
use native.Mathlib.Omega.{arith}
use Rattle.prints.proofs.Numbers.{room_few, room_more, number_few, number_more}
use Rattle.prints.proofs.text.Out.+put_number.Goals as goal

pub put_byte-requires : goal.put_byte-requires
put_byte-requires t c = room_few c.args.n _ _ (omega arith) c.requires

pub returns-then-n-lt10 : goal.returns-then-n-lt10
returns-then-n-lt10 t c = number_few _ _ _ (omega arith) c.put_byte.ensures

pub put_number-requires : goal.put_number-requires
put_number-requires t c = (omega arith, omega (arith, room_more c.args.n _ _ (omega arith) (omega arith) c.requires))

pub put_byte-requires-2 : goal.put_byte-requires-2
put_byte-requires-2 t c = omega (arith, room_more c.args.n _ _ (omega arith) (omega arith) c.requires)

pub returns : goal.returns
returns t c = number_more _ _ _ _ (omega arith) (omega arith) c.put_number.ensures c.put_byte-2.ensures
