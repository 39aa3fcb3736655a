-- `put_number` ends because the tenth is less.
use Rattle.prints.proofs.text.Out.+put_number.Given as goal

abbrev pub decreases-put_number : goal.decreases-put_number
decreases-put_number l = l.n
