-- A lane that is idle or has just begun: it has no share in any lock and claims nothing.
-- Assumes nothing.
use mathlib.Core.Path.{◌≡◌}
use Prim.Native.Nat.{ℕ, ◌≤◌}
use native.Mathlib.Omega.{arith}
use Rattle.lists.proofs.Below.{Each}
use Rattle.linear.specs.declared.Request.{Request}
use Rattle.places.specs.declared.Sizes.{Sizes}
use Rattle.places.specs.Table.{max_key}
use Rattle.slots.specs.declared.Slot.{Slot}
use Rattle.locks.specs.declared.Part.{Part}
use Rattle.locks.proofs.Record.{fresh_in}
use Rattle.locks.proofs.Measures.{Measure}
use Rattle.paths.specs.declared.Place.{Place}
use Rattle.machine.specs.Claims.{share}
use Rattle.machine.specs.Stages.{lane_in, grip_of, claims_of, item_at, places_of}
use Rattle.machine.specs.Desk.{key_of, begun}
use Rattle.linear.specs.declared.Request.{Request}
use Rattle.machine.proofs.Claimed.{Claimed}
use Rattle.machine.specs.declared.Lane.TheVariants.{Idle, Busy}

-- ---- shares

module _ (z : Sizes) (f : Part → ℕ) (μ : Measure z f) (last : Place) (k : ℕ) where
  pub idle_share : share z f (grip_of z Idle last) k ≡ 0
  unfolding item_at
  idle_share = grind arith

  pub begun_share : (r : Request) → share z f (grip_of z (Busy (begun z r)) last) k ≡ 0
  unfolding item_at
  begun_share r = grind arith

module _ (z : Sizes) (last : Place) where
  pub begun_range : (r : Request) → key_of r ≤ max_key → Each (lane_in z (Busy (begun z r)) last)
  unfolding item_at
  begun_range r h = grind (arith, fresh_in)

  pub begun_claims : (r : Request) (v : ℕ → Slot) → Claimed z v (begun z r).key (claims_of z (Busy (begun z r)) last)
  unfolding item_at
  begun_claims r v = grind arith

pub begun_length : (z : Sizes) (r : Request) → places_of (Busy (begun z r)) ≡ 0
unfolding item_at
begun_length z r = grind arith
