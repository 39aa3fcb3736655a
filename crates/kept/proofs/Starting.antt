-- An accepted start leaves a table that stands: the lane was idle, and a lane that has just begun holds nothing and claims nothing.
-- Assumes nothing.
use mathlib.Core.Path.{◌≡◌, ◌∙◌, sym, subst}
use mathlib.Core.Logic.{◌≢◌}
use mathlib.Core.Bool.{true}
use Prim.Native.Nat.{ℕ, ◌≤◌, ◌<◌}
use native.Mathlib.Decide.{ℕ_discrete}
use native.Mathlib.Omega.{arith}
use Rattle.std.specs.Prelude.{Ok}
use Rattle.lists.proofs.Below.{Each}
use Rattle.lists.specs.Records.{HasRecord}
use Rattle.linear.specs.declared.Request.{Request}
use Rattle.places.specs.declared.Sizes.{Sizes}
use Rattle.places.specs.Table.{sizes_ok, max_key}
use Rattle.slots.specs.declared.Slot.{Slot}
use Rattle.locks.specs.declared.Lock.{Lock}
use Rattle.locks.specs.declared.Part.{Part}
use Rattle.locks.proofs.Measures.{Measure}
use Rattle.locks.proofs.Counts.{counts_same}
use Rattle.paths.specs.declared.Place.{Place}
use Rattle.paths.specs.Path.{place_at}
use Rattle.machine.specs.declared.Lane.{Lane}
use Rattle.machine.specs.Lane.{lane_numbers, with_task}
use Rattle.machine.specs.Back.{lane_at, decodes}
use Rattle.machine.specs.Stages.{lane_in, claims_of, claim_key, is_idle}
use Rattle.machine.specs.Standing.{Table, standing}
use Rattle.machine.specs.Desk.{called, lengths_ok, key_of, begun, started, start_lane, start_of, Accepts}
use Rattle.machine.proofs.Numbers.{lane_same, lane_other, lane_length, decodes_same, decodes_other}
use Rattle.machine.proofs.Claimed.{Claimed}
use Rattle.kept.proofs.Facts.{PathFacts, Stands, last_for, parts, used}
use Rattle.kept.proofs.Long.{lanes_of}
use Rattle.kept.proofs.Fresh.{idle_share, begun_share, begun_range, begun_claims}
use Rattle.kept.proofs.Checked.{Standing, standing_facts}
use Rattle.machine.specs.declared.Lane.TheVariants.{Idle, Busy}
use Rattle.kept.proofs.Fresh.{begun_length}

pub idle_lane : (l : Lane) → is_idle l ≡ true → l ≡ Idle
idle_lane l e = grind arith

-- ---- one idle lane begins

module _ (z : Sizes) (σ σ' : ℕ → Lane) (π : ℕ → Place) (j : ℕ) (r : Request) (idle : σ j ≡ Idle) (here : σ' j ≡ Busy (begun z r)) (there : (i : ℕ) → i ≢ j → σ' i ≡ σ i) where
  -- what holds of the lane that begins and of every other lane as it was holds of every lane
  each_lane : (P : Lane → Type 0) → P (Busy (begun z r)) → (i : ℕ) → P (σ i) → P (σ' i)
  each_lane P b i o = grind arith

  parts_same : (f : Part → ℕ) → Measure z f → (k : ℕ) → parts z f σ' π k ≡ parts z f σ π k
  parts_same f h k = grind (arith, begun_share, idle_share)

  used_same : used z σ' ≡ used z σ
  used_same = grind (arith, begun_length)

  pub begun_stands : (v : ℕ → Slot) (w : ℕ → Lock) → key_of r ≤ max_key → Stands z v w σ π → Stands z v w σ' π
  begun_stands v w m s =
      record {
        sound = s.sound;
        range = λ i l. each_lane (λ x. Each (lane_in z x (last_for π x))) (begun_range z (last_for π (Busy (begun z r))) r m) i (s.range i l);
        claims = λ i l. each_lane (λ x. Claimed z v (claim_key x) (claims_of z x (last_for π x))) (begun_claims z (last_for π (Busy (begun z r))) r v) i (s.claims i l);
        locks = λ k l. counts_same z (w k) _ _ (λ f μ. parts_same f μ k) (s.locks k l);
        path = subst (PathFacts z π) (sym used_same) s.path;
      }

-- ---- start

-- what an accepted start has tested
pub record Accepted (z : Sizes) (t : Table) (j : ℕ) (r : Request) : Type 0 where
  pub sizes : sizes_ok z ≡ true
  pub lengths : lengths_ok z t ≡ true
  pub stood : standing z t ≡ true
  pub lane : j < z.lanes
  pub idle : is_idle (lane_at t.lanes j) ≡ true
  pub key : key_of r ≤ max_key

module _ (z : Sizes) (t : Table) (j : ℕ) (r : Request) (e : Accepts (start_of z t j r)) where
  pub start_tested : Accepted z t j r
  unfolding start_of start_lane
  start_tested = grind arith

  pub start_is : start_of z t j r ≡ called (Ok tt) (started z t j r)
  unfolding start_of start_lane
  start_is = grind arith

  start_fits : HasRecord lane_numbers t.lanes j
  start_fits = grind (arith, start_tested, lanes_of)

  started_stands : Standing z (started z t j r)
  unfolding started
  started_stands =
      record {
        decoded = decoded;
        stands = begun_stands z (lane_at t.lanes) (lane_at (with_task t.lanes j (begun z r))) (place_at t.path) j r idle (lane_same t.lanes j (Busy (begun z r)) start_fits) (lane_other t.lanes j (Busy (begun z r))) _ _ start_tested.key facts.stands;
      }
    where
      facts : Standing z t
      facts = standing_facts z t start_tested.stood

      idle : lane_at t.lanes j ≡ Idle
      idle = idle_lane (lane_at t.lanes j) start_tested.idle

      decoded : (i : ℕ) → i < z.lanes → decodes (with_task t.lanes j (begun z r)) i ≡ true
      decoded i l = elim (ℕ_discrete i j) [
        | yes q ↦ rw q (decodes_same t.lanes j (Busy (begun z r)) start_fits)
        | no d ↦ decodes_other t.lanes j (Busy (begun z r)) i d ∙ facts.decoded i l
      ]

  started_lengths : lengths_ok z (started z t j r) ≡ true
  unfolding lengths_ok started
  started_lengths = rw (lane_length t.lanes j (Busy (begun z r))) start_tested.lengths

  pub start_kept : Standing z (start_of z t j r).table
  start_kept = rw start_is started_stands

  pub start_lengths : lengths_ok z (start_of z t j r).table ≡ true
  start_lengths = rw start_is started_lengths
