-- What the tests before a call give: a layout of the sizes asked for, or the refusal that the definitions name.
-- Assumes nothing.
use mathlib.Core.Path.{◌≡◌, refl, sym, ◌∙◌, ap, subst⁻¹}
use mathlib.Core.Bool.{Bool, true, false, cond}
use mathlib.Core.List.{List}
use Prim.Native.Nat.{ℕ}
use native.Mathlib.Omega.{arith}
use lib.ListN.{length}
use Rattle.std.specs.Prelude.{Result, Ok, Err, Option, Some, None}
use Rattle.std.specs.Option.{option_map}
use Rattle.places.specs.declared.Sizes.{Sizes}
use Rattle.places.specs.declared.Layout.{Layout}
use Rattle.places.specs.Table.{sizes_ok}
use Rattle.slots.specs.Slot.{slot_words}
use Rattle.machine.specs.declared.Refusal.{Refusal}
use Rattle.machine.specs.Lane.{lane_words}
use Rattle.machine.specs.Standing.{Table}
use Rattle.machine.specs.Desk.{Called, refused, if_sized, if_standing, lengths_ok}
use Rattle.kept.specs.Runs.{Stood}
use Rattle.kept.proofs.Long.{lengths_of, lanes_of}
use Rattle.standing.specs.Tables.{table}
use Rattle.standing.specs.Partial.{Lengths}
use Rattle.desk.specs.Tests.{sized, tested}

-- a layout is made of sizes within their limits, and of no others
module _ (z : Sizes) (o : Option Layout) (e : option_map (λ l. l.sizes) o ≡ cond (sizes_ok z) (Some z) None) where
  pub laid : (l : Layout) → o ≡ Some l → (sizes_ok z ≡ true) × (l.sizes ≡ z)
  laid l q = go (sizes_ok z) refl (sym (ap (option_map (λ (x : Layout). x.sizes)) q) ∙ e)
    where
      go : (b : Bool) → sizes_ok z ≡ b → Some l.sizes ≡ cond b (Some z) None → (sizes_ok z ≡ true) × (l.sizes ≡ z)
      go true p w = (p, cc)
      go false p w = absurd cc

  pub unlaid : o ≡ None → sizes_ok z ≡ false
  unlaid q = go (sizes_ok z) refl (sym (ap (option_map (λ (x : Layout). x.sizes)) q) ∙ e)
    where
      go : (b : Bool) → sizes_ok z ≡ b → None ≡ cond b (Some z) None → sizes_ok z ≡ false
      go true p w = absurd cc
      go false p w = p

-- a table that is sized as asked has its lists as long as that
module _ (z y : Sizes) (xs ls vs ps : List ℕ) (e : Ok y ≡ sized z (table xs ls vs ps)) where
  pub sized_ok : (y ≡ z) × (sizes_ok z ≡ true) × (lengths_ok z (table xs ls vs ps) ≡ true)
  sized_ok = grind arith

  pub sized_long : Lengths y xs ls vs ps
  sized_long =
      let t : Table = table xs ls vs ps in
      subst⁻¹ (λ x. Lengths x xs ls vs ps) sized_ok.0
      (record { slots = (lengths_of z t sized_ok.2).slots; locks = (lengths_of z t sized_ok.2).locks; lanes = lanes_of z t sized_ok.2; path = (lengths_of z t sized_ok.2).path })

pub slots_long : (z y : Sizes) (xs ls vs ps : List ℕ) → Ok y ≡ sized z (table xs ls vs ps) → length xs ≡ slot_words y
slots_long z y xs ls vs ps e = (sized_long z y xs ls vs ps e).slots

-- a table that passes all three stands
module _ (z y : Sizes) (t : Table) (e : Ok y ≡ tested z t) where
  pub tested_stood : (y ≡ z) × Stood z t
  tested_stood = grind arith

pub stood_as : (z y : Sizes) (t : Table) → Ok y ≡ tested z t → Stood y t
stood_as z y t e = let k = tested_stood z y t e in subst⁻¹ (λ (x : Sizes). Stood x t) k.0 k.1

-- what stands has all the numbers of its lanes
pub lanes_long : (z : Sizes) (t : Table) → Stood z t → length t.lanes ≡ lane_words z
lanes_long z t st = lanes_of z t st.lengths

pub tested_lanes : (z y : Sizes) (t : Table) → Ok y ≡ tested z t → length t.lanes ≡ lane_words y
tested_lanes z y t e = lanes_long y t (stood_as z y t e)

-- the first test that fails is what is answered, whatever comes after them
pub sized_first : {A : Type 0} (z : Sizes) (t : Table) (r : Refusal) → Err r ≡ sized z t → (rest : Called (Result A Refusal)) → refused r t ≡ if_sized z t rest
sized_first z t r e rest = grind arith

pub tested_first : {A : Type 0} (z : Sizes) (t : Table) (r : Refusal) → Err r ≡ tested z t → (rest : Called (Result A Refusal))
    → refused r t ≡ if_standing z t rest
tested_first z t r e rest = grind arith

-- and where none fails, it is what comes after them
pub sized_last : {A : Type 0} (z y : Sizes) (t : Table) → Ok y ≡ sized z t → (rest : Called (Result A Refusal)) → if_sized z t rest ≡ rest
sized_last z y t e rest = grind arith

pub stood_last : {A : Type 0} (z : Sizes) (t : Table) → Stood z t → (rest : Called (Result A Refusal)) → if_standing z t rest ≡ rest
stood_last z t st rest = rw (st.sizes, st.lengths, st.stands)
