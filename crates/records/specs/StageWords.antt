-- The numbers of a stage as the code keeps them, seen as those of the definition.
-- Assumes nothing.
use Rattle.records.specs.declared.StageWords.{StageWords}
use Rattle.machine.specs.Lane.{Words}

abbrev pub as_words : StageWords → Words
as_words w =
    record {
      code = w.code;
      grab = w.grab;
      noted = w.noted;
      side = w.side;
      column = w.column;
      ending = w.ending;
      picks = w.picks;
      places = w.places;
      free_row = w.free_row;
      free_column = w.free_column;
      seen = w.seen;
    }
