-- An accepted opening leaves a table that stands: no lane has begun, no lock is taken, the path is empty, and the slots are as they were.
-- Assumes nothing.
use mathlib.Core.Path.{◌≡◌, sym, subst}
use mathlib.Core.List.{List}
use mathlib.Core.Bool.{true}
use Prim.Native.Nat.{ℕ, ◌+◌, ◌<◌}
use native.Mathlib.Omega.{arith}
use lib.ListN.{length}
use Rattle.std.specs.Prelude.{Ok}
use Rattle.lists.proofs.Below.{Each}
use Rattle.lists.proofs.Sums.{sum_none}
use Rattle.places.specs.declared.Sizes.{Sizes}
use Rattle.places.specs.Table.{sizes_ok}
use Rattle.slots.specs.Slot.{slot_at}
use Rattle.slots.specs.Sound.{sound}
use Rattle.slots.proofs.Facts.{sound_facts}
use Rattle.slots.proofs.Opening.{opening_sound}
use Rattle.locks.specs.declared.Part.{Part}
use Rattle.locks.specs.Locks.{lock_at}
use Rattle.locks.proofs.Views.{opened_lock}
use Rattle.locks.proofs.Measures.{Measure}
use Rattle.locks.proofs.Counts.{Counts, counts_none}
use Rattle.paths.specs.declared.Place.{Place}
use Rattle.paths.specs.Path.{place_at, no_place, emptied}
use Rattle.paths.proofs.Views.{emptied_at, emptied_length}
use Rattle.machine.specs.declared.Lane.{Lane}
use Rattle.machine.specs.Back.{lane_at, decodes}
use Rattle.machine.specs.Stages.{lane_in, claims_of, claim_key}
use Rattle.machine.specs.Standing.{Table}
use Rattle.machine.specs.Desk.{called, lengths_ok, opened, open_of, Accepts}
use Rattle.machine.proofs.Numbers.{opened_lane, opened_decodes}
use Rattle.machine.proofs.Claimed.{Claimed}
use Rattle.kept.proofs.Facts.{PathFacts, last_for, parts, used}
use Rattle.kept.proofs.Fresh.{idle_share}
use Rattle.kept.proofs.Checked.{Standing}
use Rattle.machine.proofs.Own.{no_claims_lem}
use Rattle.machine.specs.declared.Lane.TheVariants.{Idle}

-- ---- what emptied words say

emptied_lane : (ls : List ℕ) (j : ℕ) → lane_at (emptied ls) j ≡ Idle
unfolding emptied
emptied_lane ls j = opened_lane (length ls) j

emptied_decodes : (ls : List ℕ) (j : ℕ) → decodes (emptied ls) j ≡ true
unfolding emptied
emptied_decodes ls j = opened_decodes (length ls) j

emptied_lock : (z : Sizes) (ls : List ℕ) (k : ℕ) → lock_at z (emptied ls) k ≡ record { flag = 0; count = 0 }
unfolding emptied
emptied_lock z ls k = opened_lock z (length ls) k

-- ---- lanes that are all idle

module _ (z : Sizes) (σ : ℕ → Lane) (π : ℕ → Place) (idle : (j : ℕ) → σ j ≡ Idle) where
  parts_none : (f : Part → ℕ) → Measure z f → (k : ℕ) → parts z f σ π k ≡ 0
  parts_none f h k = grind (arith, sum_none, idle_share)

  used_none : used z σ ≡ 0
  used_none = grind (arith, sum_none)

path_none : (z : Sizes) (π : ℕ → Place) (n : ℕ) → n ≡ 0 → ((i : ℕ) → π i ≡ no_place) → PathFacts z π n
path_none z π n e h = grind arith

-- ---- opening

pub opening_stands : (z : Sizes) (t : Table) → sound z t.slots ≡ true → Standing z (opened t)
unfolding opened
opening_stands z t e =
    record {
      decoded = λ j l. emptied_decodes t.lanes j;
      stands =
          record {
            sound = sound_facts z t.slots e;
            range = λ j l. subst (λ (s : Lane). Each (lane_in z s (last_for π s))) (sym (idle j)) tt;
            claims = λ j l. subst (λ (s : Lane). Claimed z (slot_at t.slots) (claim_key s) (claims_of z s (last_for π s))) (sym (idle j)) (no_claims_lem z (slot_at t.slots) 0);
            locks = numbers;
            path = path_none z π (used z σ) (used_none z σ π idle) (emptied_at t.path);
          };
    }
  where
    σ : ℕ → Lane
    σ = lane_at (emptied t.lanes)

    π : ℕ → Place
    π = place_at (emptied t.path)

    idle : (j : ℕ) → σ j ≡ Idle
    idle = emptied_lane t.lanes

    numbers : (k : ℕ) → k < z.locks + 1 → Counts z (lock_at z (emptied t.locks) k) (λ f. parts z f σ π k)
    numbers k l = counts_none z (lock_at z (emptied t.locks) k) _ (emptied_lock z t.locks k) (λ f μ. parts_none z σ π idle f μ k)

pub opened_lengths : (z : Sizes) (t : Table) → lengths_ok z t ≡ true → lengths_ok z (opened t) ≡ true
unfolding lengths_ok opened
opened_lengths z t e = grind (arith, emptied_length)

module _ (z : Sizes) (t : Table) (e : Accepts (open_of z t)) where
  -- what an accepted opening has tested
  pub opening_tested : (sizes_ok z ≡ true) × (lengths_ok z t ≡ true) × (sound z t.slots ≡ true)
  unfolding open_of
  opening_tested = grind (arith, opening_sound z t.slots)

  pub open_is : open_of z t ≡ called (Ok tt) (opened t)
  unfolding open_of
  open_is = grind arith

  pub opening_kept : Standing z (open_of z t).table
  opening_kept = rw open_is (opening_stands z t opening_tested.2)

  pub opening_lengths : lengths_ok z (open_of z t).table ≡ true
  opening_lengths = rw open_is (opened_lengths z t opening_tested.1)
