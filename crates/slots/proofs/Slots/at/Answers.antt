-- `at` looks at the slot of that row and column, which lies within the slots.
-- Assumes nothing.
use native.Mathlib.Omega.{arith}
use Rattle.places.proofs.Limits.{slot_in_lem}
use Rattle.slots.proofs.Slots.at.Goals as goal

pub slot_at-requires : goal.slot_at-requires
slot_at-requires c = omega (arith, c.args.self.exact, slot_in_lem _ c.args.self.z.fits _ _ c.requires.row_lt_rows c.requires.column_lt_columns)
