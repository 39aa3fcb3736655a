-- `place_of` is place i of the store: read where there is one, zeros past the end.
-- Assumes nothing.
use Rattle.standing.proofs.Beyond.{place_past}
use Rattle.standing.proofs.Lent.place_of.Goals as goal

pub returns-else-i-path_places : goal.returns-else-i-path_places
returns-else-i-path_places c = search place_past
