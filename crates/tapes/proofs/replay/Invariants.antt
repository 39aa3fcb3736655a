-- `replay` ends: each tape shortens what is left of the list.
use Rattle.std.proofs.Common.{length}
use Rattle.tapes.proofs.replay.Given as goal

abbrev pub decreases-loop-tape : goal.decreases-loop-tape
decreases-loop-tape g l = length l.rest
