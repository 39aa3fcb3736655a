-- The standing check and the facts that it stands for are one.
-- Assumes nothing.
use mathlib.Core.Path.{◌≡◌}
use mathlib.Core.Logic.{◌⊎◌, inl, inr}
use mathlib.Core.List.{List, [], ◌∷◌}
use mathlib.Core.Bool.{Bool, true, not, ◌||◌}
use Prim.Native.Nat.{ℕ, ◌+◌, ◌-◌, ◌≤◌, ◌<◌}
use native.Mathlib.Omega.{arith}
use lib.Dec.{ltb}
use borrow.Author.Tests.{eqb-true, ltb-true, not-true}
use Rattle.lists.specs.Below.{all_below, all_of}
use Rattle.lists.proofs.Below.{Each, all_at, all_from, all_each, each_all, and_left, and_right, or_cases}
use Rattle.places.specs.declared.Sizes.{Sizes}
use Rattle.places.specs.Table.{slot_index}
use Rattle.slots.specs.Slot.{slot_at, is_full, has_key}
use Rattle.slots.specs.Sound.{sound}
use Rattle.slots.proofs.Facts.{sound_facts, facts_sound}
use Rattle.locks.specs.Locks.{lock_at}
use Rattle.locks.proofs.Counts.{Counts, tested_counts, counts_tested}
use Rattle.paths.specs.declared.Place.{Place}
use Rattle.paths.specs.Path.{path_places, place_at, no_place, last_of}
use Rattle.machine.specs.declared.RowClaim.{RowClaim}
use Rattle.machine.specs.declared.SlotClaim.{SlotClaim}
use Rattle.machine.specs.declared.Claims.{Claims}
use Rattle.machine.specs.Back.{lane_at, decodes}
use Rattle.machine.specs.Stages.{lane_in, claims_of, claim_key}
use Rattle.machine.specs.Standing.{Table, last_at, parts_in, lock_stands, place_stands, linked, unused, path_used, path_stands, row_stands, slot_stands, claim_tests, lane_stands, standing}
use Rattle.machine.proofs.Claimed.{RowClaimed, SlotClaimed, Claimed}
use Rattle.kept.proofs.Facts.{PlaceFacts, PathFacts, Stands}

-- the facts of the standing check, of a table
abbrev pub StandsIn : Sizes → Table → Type 0
StandsIn z t = Stands z (slot_at t.slots) (lock_at z t.locks) (lane_at t.lanes) (place_at t.path)

-- the same, and every lane's numbers are those of a lane
pub record Standing (z : Sizes) (t : Table) : Type 0 where
  pub decoded : (j : ℕ) → j < z.lanes → decodes t.lanes j ≡ true
  pub stands : StandsIn z t

-- ---- claims

module _ (z : Sizes) (xs : List ℕ) (key : ℕ) where
  row_claimed : (c : RowClaim) → row_stands z xs key c ≡ true → RowClaimed z (slot_at xs) key c
  unfolding row_stands
  row_claimed c e =
      record {
        lacks = λ i l. not-true _ (all_at lacking c.lacking i (and_left (all_below c.lacking lacking) (all_below c.full full) e) l);
        fulls = λ i l. all_at full c.full i (and_right (all_below c.lacking lacking) (all_below c.full full) e) l;
      }
    where
      lacking : ℕ → Bool
      lacking i = not (has_key (slot_at xs (slot_index z c.row i)) key)

      full : ℕ → Bool
      full i = is_full (slot_at xs (slot_index z c.row i))

  claimed_row : (c : RowClaim) → RowClaimed z (slot_at xs) key c → row_stands z xs key c ≡ true
  unfolding row_stands
  claimed_row c h = grind (arith, all_from)

  slot_claimed : (c : SlotClaim) → slot_stands z xs key c ≡ true → SlotClaimed z (slot_at xs) key c
  unfolding slot_stands
  slot_claimed c e = grind arith

  claimed_slot : (c : SlotClaim) → SlotClaimed z (slot_at xs) key c → slot_stands z xs key c ≡ true
  unfolding slot_stands
  claimed_slot c h = grind arith

  tests_claimed : (c : Claims) → Each (claim_tests z xs key c) → Claimed z (slot_at xs) key c
  tests_claimed c e = grind (arith, row_claimed, slot_claimed)

  claimed_tests : (c : Claims) → Claimed z (slot_at xs) key c → Each (claim_tests z xs key c)
  claimed_tests c h = grind (arith, claimed_row, claimed_slot)

-- ---- the path

module _ (z : Sizes) where
  place_facts : (p : Place) → place_stands z p ≡ true → PlaceFacts z p
  unfolding place_stands
  place_facts p e = grind arith

  facts_place : (p : Place) → PlaceFacts z p → place_stands z p ≡ true
  unfolding place_stands
  facts_place p h = grind arith

unused_none : (ps : List ℕ) (i : ℕ) → unused ps i ≡ true → place_at ps i ≡ no_place
unfolding unused
unused_none ps i e = grind arith

none_unused : (ps : List ℕ) (i : ℕ) → place_at ps i ≡ no_place → unused ps i ≡ true
unfolding unused
none_unused ps i e = rw e

module _ (z : Sizes) (t : Table) where
  abbrev n : ℕ
  n = path_used z t

  abbrev path_tests : List Bool
  path_tests =
      all_below n (λ i. place_stands z (place_at t.path i))
      ∷ all_below (n - 1) (linked z t.path)
      ∷ all_below (path_places z) (λ i. ltb i n || unused t.path i)
      ∷ []

  path_facts : path_stands z t ≡ true → PathFacts z (place_at t.path) n
  unfolding path_stands linked
  path_facts e =
      record {
        places = λ i l. place_facts z _ (all_at (λ i. place_stands z (place_at t.path i)) n i tests.0 l);
        links = λ i l. eqb-true _ _ (all_at (linked z t.path) (n - 1) i tests.1.0 (omega arith));
        rest = λ i l h. off i l (or_cases _ _ (all_at (λ i. ltb i n || unused t.path i) (path_places z) i tests.1.1.0 h));
      }
    where
      tests : Each path_tests
      tests = all_each path_tests e

      off : (i : ℕ) → n ≤ i → (ltb i n ≡ true) ⊎ (unused t.path i ≡ true) → place_at t.path i ≡ no_place
      off i l (inl q) = absurd (omega (arith, ltb-true i n q))
      off i l (inr q) = unused_none t.path i q

  facts_path : PathFacts z (place_at t.path) n → path_stands z t ≡ true
  unfolding path_stands linked
  facts_path h = grind (arith, all_from, facts_place, none_unused)

-- ---- locks

module _ (z : Sizes) (t : Table) (k : ℕ) where
  lock_facts : lock_stands z t k ≡ true → Counts z (lock_at z t.locks k) (λ f. parts_in z f t k)
  unfolding lock_stands
  lock_facts e = tested_counts z _ _ e

  facts_lock : Counts z (lock_at z t.locks k) (λ f. parts_in z f t k) → lock_stands z t k ≡ true
  unfolding lock_stands
  facts_lock h = counts_tested z _ _ h

-- ---- lanes, and all of it

module _ (z : Sizes) (t : Table) where
  abbrev claims_in : ℕ → Claims
  claims_in j = claims_of z (lane_at t.lanes j) (last_at t j)

  abbrev lane_tests : ℕ → List Bool
  lane_tests j =
      decodes t.lanes j
      ∷ all_of (lane_in z (lane_at t.lanes j) (last_at t j))
      ∷ claim_tests z t.slots (claim_key (lane_at t.lanes j)) (claims_in j)

  abbrev table_tests : List Bool
  table_tests =
      sound z t.slots
      ∷ all_below z.lanes (lane_stands z t)
      ∷ path_stands z t
      ∷ all_below (z.locks + 1) (lock_stands z t)
      ∷ []

  pub standing_facts : standing z t ≡ true → Standing z t
  unfolding standing lane_stands last_of
  standing_facts e =
      record {
        decoded = λ j l. (lane j l).0;
        stands =
            record {
              sound = sound_facts z t.slots tests.0;
              range = λ j l. all_each (lane_in z (lane_at t.lanes j) (last_at t j)) (lane j l).1.0;
              claims = λ j l. tests_claimed z t.slots (claim_key (lane_at t.lanes j)) (claims_in j) (lane j l).1.1;
              locks = λ k l. lock_facts z t k (all_at (lock_stands z t) (z.locks + 1) k tests.1.1.1.0 l);
              path = path_facts z t tests.1.1.0;
            };
      }
    where
      tests : Each table_tests
      tests = all_each table_tests e

      lane : (j : ℕ) → j < z.lanes → Each (lane_tests j)
      lane j l = all_each (lane_tests j) (all_at (lane_stands z t) z.lanes j tests.1.0 l)

  pub facts_standing : Standing z t → standing z t ≡ true
  unfolding standing lane_stands last_of
  facts_standing h = grind (arith, each_all, facts_sound, all_from, facts_path, facts_lock, claimed_tests)
