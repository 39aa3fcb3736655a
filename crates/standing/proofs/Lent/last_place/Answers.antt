-- `last_place` is the last place of a lane: read where the store has as many, zeros past the end.
-- Assumes nothing.
use Rattle.standing.proofs.Beyond.{last_past}
use Rattle.standing.proofs.Lent.last_place.Goals as goal

pub returns-else-n-path_places : goal.returns-else-n-path_places
returns-else-n-path_places c = search last_past
