-- What a lane claims after its step follows from what it claimed before and what it saw. Steps that write claim nothing afterwards.
-- Assumes nothing.
use mathlib.Core.Path.{◌≡◌, ap, sym}
use mathlib.Core.Bool.{true, false}
use Prim.Native.Nat.{ℕ, ◌+◌, ◌<◌}
use native.Mathlib.Omega.{arith}
use lib.Dec.{ltb}
use borrow.Author.Tests.{ltb-false}
use Rattle.places.specs.declared.Sizes.{Sizes}
use Rattle.places.specs.Table.{slot_index}
use Rattle.slots.specs.declared.Slot.{Slot}
use Rattle.slots.specs.Slot.{is_empty, is_full, has_key}
use Rattle.paths.specs.declared.Place.{Place}
use Rattle.paths.specs.Path.{other_row}
use Rattle.machine.specs.declared.Side.{Side}
use Rattle.machine.specs.declared.Side.TheVariants.{First, Second}
use Rattle.machine.specs.declared.Outcome.{Outcome}
use Rattle.machine.specs.declared.Stage.{Stage}
use Rattle.machine.specs.declared.Stage.TheVariants.{Drop}
use Rattle.machine.specs.declared.Task.{Task}
use Rattle.machine.specs.declared.Seen.{Seen}
use Rattle.machine.specs.declared.Moved.{Moved}
use Rattle.machine.specs.declared.SlotClaim.{SlotClaim}
use Rattle.machine.specs.declared.SlotClaim.TheVariants.{NoClaim, HasKey, HasPair, HasRoom}
use Rattle.machine.specs.Rules.{row_on}
use Rattle.machine.specs.Claims.{no_claims, pass_claims, search_claims, drop_claims}
use Rattle.machine.specs.Stages.{claims_at, claims_of, claim_key, item_at, act_at}
use Rattle.machine.specs.Steps.{at_stage}
use Rattle.machine.proofs.Ways.{Leaves, Swings, Goes, main_held, take_waits, take_held, seek_read, seek_hit, seek_more, seek_shared, seek_apart, seek_miss, seek_room, room_here, room_more, room_second, room_pick, room_stuck, picked_first, drops_on, drops_one, drops_two_lem, drops_main, next_held, next_free, next_more, next_full, next_picked, drops_last}
use borrow.Author.Count.{below_more}
use Rattle.machine.proofs.Claimed.{SlotClaimed, Claimed}
use Rattle.machine.proofs.Claimed.{SlotClaimed, Claimed}
use Rattle.machine.proofs.Follows.{Follows}
use Rattle.machine.specs.declared.Act.{Act}
use Rattle.machine.specs.declared.Act.TheVariants.{Try, Release, Look, Store, PickOne, PickFrom, Move}

-- what a look saw is what stands in the slots
abbrev pub Looks : Sizes → (ℕ → Slot) → Seen → Act → Type 0
Looks z v seen (Try k g) = Unit {0}
Looks z v seen (Release k mode tail) = Unit {0}
Looks z v seen (Look row c) = seen.slot ≡ v (slot_index z row c)
Looks z v seen (Store row c s) = Unit {0}
Looks z v seen (PickOne one two) = Unit {0}
Looks z v seen (PickFrom row i) = Unit {0}
Looks z v seen (Move from row c) = Unit {0}

pub no_claims_lem : (z : Sizes) (v : ℕ → Slot) (key : ℕ) → Claimed z v key no_claims
no_claims_lem z v key = grind arith

-- one column more, up to the last
more : (P : ℕ → Type 0) (c : ℕ) → ((i : ℕ) → i < c → P i) → P c → (i : ℕ) → i < c + 1 → P i
more P c all here = below_more P c all here

whole : (P : ℕ → Type 0) (c n : ℕ) → ltb (c + 1) n ≡ false → ((i : ℕ) → i < c → P i) → P c → (i : ℕ) → i < n → P i
whole P c n e all here i h = more P c all here i (omega (arith, ltb-false (c + 1) n e))

module _ (z : Sizes) (v : ℕ → Slot) (l : Task) (last last' : Place) (seen : Seen) where
  abbrev K : ℕ
  K = l.key

  -- the claims of a pass, part by part
  abbrev Lack : Side → ℕ → Type 0
  Lack side n = (i : ℕ) → i < n → has_key (v (slot_index z (row_on z l.key side) i)) l.key ≡ false

  abbrev Fulls : Side → ℕ → Type 0
  Fulls side n = (i : ℕ) → i < n → is_full (v (slot_index z (row_on z l.key side) i)) ≡ true

  pass : (a b c d : ℕ) (s : SlotClaim) → Lack First a → Lack Second b → Fulls First c → Fulls Second d → SlotClaimed z v l.key s → Claimed z v l.key (pass_claims z l a b c d s)
  pass a b c d s la lb fc fd sc = grind arith

  -- a pick or a miss, its first row released

  late : (o : Outcome) → Claimed z v l.key (drop_claims z l First o) → Claimed z v l.key (drop_claims z (at_stage l (Drop Second o)) Second o)
  late o h = grind arith

  -- only a slot is claimed

  pub slot_only : (s : SlotClaim) → SlotClaimed z v l.key s → Claimed z v l.key (pass_claims z l 0 0 0 0 s)
  slot_only s h = grind arith

  search : (row n : ℕ) (s : SlotClaim) → ((i : ℕ) → i < n → is_full (v (slot_index z row i)) ≡ true) → SlotClaimed z v l.key s → Claimed z v l.key (search_claims row n s)
  search row n s fs sc = grind arith

  leaves_none : (o : Outcome) (m : Moved) → Leaves z l o m → Claimed z v (claim_key m.lane) (claims_of z m.lane last')
  unfolding item_at
  leaves_none o m p = grind arith

  swings_none : (left : ℕ) (m : Moved) → Swings z l last left m → Claimed z v (claim_key m.lane) (claims_of z m.lane last')
  unfolding item_at
  swings_none left m h = grind arith

  pub own_claims : (solid : is_empty seen.slot ≡ false → is_full seen.slot ≡ true) (s : Stage) (m : Moved) → Looks z v seen (act_at z l last s) → Follows z last last' (act_at z l last s) → Claimed z v l.key (claims_at z l last s) → Goes z l last seen s m → Claimed z v (claim_key m.lane) (claims_of z m.lane last')
  unfolding item_at
  own_claims solid s m k w h (main_held e) = slot_only NoClaim tt
  own_claims solid s m k w h (take_waits e) = h
  own_claims solid s m k w h (take_held e) = h
  own_claims solid s m k w h (seek_read {side} {c} a e) = slot_only (HasPair (row_on z K side) c seen.slot.value) (rw k at a, ap (λ (x : Slot). x.value) (sym k))
  own_claims solid s m k w h (seek_hit {side} {c} a e) = slot_only (HasKey (row_on z K side) c) (rw k at a)
  own_claims solid s m k w h (seek_more {side = First} {c} a n) = record { one = record { lacks = more _ c h.one.lacks (rw k at a); fulls = h.one.fulls }; two = h.two; slot = tt }
  own_claims solid s m k w h (seek_more {side = Second} {c} a n) = record { one = h.one; two = record { lacks = more _ c h.two.lacks (rw k at a); fulls = h.two.fulls }; slot = tt }
  own_claims solid s m k w h (seek_shared {c} a n e) = record { one = record { lacks = whole _ c z.columns n h.one.lacks (rw k at a); fulls = h.one.fulls }; two = h.two; slot = tt }
  own_claims solid s m k w h (seek_apart {c} a n e) = record { one = record { lacks = whole _ c z.columns n h.one.lacks (rw k at a); fulls = h.one.fulls }; two = h.two; slot = tt }
  own_claims solid s m k w h (seek_miss {c} a n e) = record { one = h.one; two = record { lacks = whole _ c z.columns n h.two.lacks (rw k at a); fulls = h.two.fulls }; slot = tt }
  own_claims solid s m k w h (seek_room {c} a n e) = record { one = h.one; two = record { lacks = whole _ c z.columns n h.two.lacks (rw k at a); fulls = h.two.fulls }; slot = tt }
  own_claims solid s m k w h (room_here a) = record { one = h.one; two = h.two; slot = rw k at a }
  own_claims solid s m k w h (room_more {side = First} {c} a n) = record { one = record { lacks = h.one.lacks; fulls = more _ c h.one.fulls (rw k at (solid a)) }; two = h.two; slot = tt }
  own_claims solid s m k w h (room_more {side = Second} {c} a n) = record { one = h.one; two = record { lacks = h.two.lacks; fulls = more _ c h.two.fulls (rw k at (solid a)) }; slot = tt }
  own_claims solid s m k w h (room_second {c} a n) = record { one = record { lacks = h.one.lacks; fulls = whole _ c z.columns n h.one.fulls (rw k at (solid a)) }; two = h.two; slot = tt }
  own_claims solid s m k w h (room_pick {c} a n e) = record { one = h.one; two = record { lacks = h.two.lacks; fulls = whole _ c z.columns n h.two.fulls (rw k at (solid a)) }; slot = tt }
  own_claims solid s m k w h (room_stuck {c} a n e) = record { one = h.one; two = record { lacks = h.two.lacks; fulls = whole _ c z.columns n h.two.fulls (rw k at (solid a)) }; slot = tt }
  own_claims solid s m k w h picked_first = h
  own_claims solid s m k w h (drops_on {o} e) = late o h
  own_claims solid s m k w h (drops_one {o} {m = n} e p) = leaves_none o n p
  own_claims solid s m k w h (drops_two_lem {o} {m = n} p) = leaves_none o n p
  own_claims solid s m k w h drops_main = no_claims_lem z v 0
  own_claims solid s m k w h (next_held e) = search (other_row z last') 0 NoClaim (λ i q. absurd (omega arith)) tt
  own_claims solid s m k w h (next_free {c} a) = rw w (search (other_row z last) c (HasRoom (other_row z last) c) h.one.fulls (rw k at a))
  own_claims solid s m k w h (next_more {c} a n) = rw w (search (other_row z last) (c + 1) NoClaim (more _ c h.one.fulls (rw k at (solid a))) tt)
  own_claims solid s m k w h (next_full {c} a n) = rw w (search (other_row z last) z.columns NoClaim (whole _ c z.columns n h.one.fulls (rw k at (solid a))) tt)
  own_claims solid s m k w h next_picked = rw w (search (other_row z last) z.columns NoClaim h.one.fulls tt)
  own_claims solid s m k w h (drops_last {w = u} {m = n} e p) = swings_none _ n p
  own_claims solid s m k w h g = no_claims_lem z v K
