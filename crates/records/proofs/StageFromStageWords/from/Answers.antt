-- A stage read back: what is no code is read as a pick.
use native.Mathlib.Omega.{arith}
use Rattle.records.specs.StageWords.{as_words}
use Rattle.records.proofs.Stored.{pick_past}
use Rattle.records.proofs.StageFromStageWords.from.Goals as goal

pub returns-in_default : goal.returns-in_default
returns-in_default c = pick_past (as_words c.args.w) (λ z ten. omega arith)
