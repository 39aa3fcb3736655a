-- The C door: what its functions answer of what the desk answers.
use Rattle.std.specs.Prelude.{ℕ, ⊤, Option, Result}
use Rattle.places.specs.declared.Sizes.{Sizes}
use Rattle.linear.specs.declared.End.{End}
use Rattle.machine.specs.declared.Refusal.{Refusal}
use Rattle.machine.specs.Desk.{Called, called, number_of, index_of, end_of}
use Rattle.exports.specs.declared.SgOpened.{SgOpened}
use Rattle.exports.specs.declared.SgStepped.{SgStepped}

-- the four sizes that a caller passes
abbrev pub sizes : ℕ → ℕ → ℕ → ℕ → Sizes
sizes rows columns locks lanes = record { rows = rows; columns = columns; locks = locks; lanes = lanes }

-- a call of the desk, whose answer f gives as numbers
abbrev pub door : {R S : Type 0} → (R → S) → Called R → Called S
door f c = called (f c.answer) c.table

-- the numbers of an opening
abbrev pub open_numbers : Result ⊤ Refusal → SgOpened
open_numbers r = record { number = number_of r; index = index_of r }

-- the numbers of a step
abbrev pub step_numbers : Result (Option End) Refusal → SgStepped
step_numbers r = record { number = number_of r; end = (end_of r).end; value = (end_of r).value }
