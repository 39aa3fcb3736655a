pub mod StageWords
