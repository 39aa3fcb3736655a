-- The first pick is by h1 and h2, whatever their locks; a pick of the search is from the other row of the key picked before.
-- Assumes nothing.
use mathlib.Core.Path.{◌≡◌}
use Prim.Native.Nat.{ℕ, ◌/◌, ◌%◌}
use native.Mathlib.Omega.{arith}
use Rattle.lists.specs.Records.{HasRecord}
use Rattle.places.specs.declared.Sizes.{Sizes}
use Rattle.places.specs.Table.{home_one, home_two}
use Rattle.paths.specs.declared.Place.{Place}
use Rattle.paths.specs.Path.{place_numbers, place_at, other_row}
use Rattle.paths.proofs.Views.{place_same}
use Rattle.machine.specs.declared.Stage.TheVariants.{Pick, PickNext}
use Rattle.machine.specs.declared.Trail.{Trail}
use Rattle.machine.specs.declared.Task.{Task}
use Rattle.machine.specs.Stages.{act_at, item_at}
use Rattle.machine.specs.Steps.{Memory, place_of, perform}

module _ (z : Sizes) (l : Task) (last : Place) (byte : ℕ) (m : Memory) (fits : HasRecord place_numbers m.path 0) where
  pub even_takes_one : byte % 2 ≡ 0 → (place_at (perform z (act_at z l last Pick) byte m).memory.path 0).row ≡ home_one z l.key
  unfolding perform item_at
  even_takes_one e = grind (arith, place_same)

  pub odd_takes_two : byte % 2 ≡ 1 → (place_at (perform z (act_at z l last Pick) byte m).memory.path 0).row ≡ home_two z l.key
  unfolding perform item_at
  odd_takes_two e = grind (arith, place_same)

  pub half_gives_column : (place_at (perform z (act_at z l last Pick) byte m).memory.path 0).column ≡ byte / 2 % z.columns
  unfolding perform item_at
  half_gives_column = grind (arith, place_same)

pub next_appends : (z : Sizes) (l : Task) (last : Place) (byte : ℕ) (m : Memory) (t : Trail) → HasRecord place_numbers m.path t.places → place_at (perform z (act_at z l last (PickNext t)) byte m).memory.path t.places ≡ place_of z m (other_row z last) (byte % z.columns)
unfolding perform item_at
next_appends z l last byte m t fits = place_same m.path t.places _ fits
