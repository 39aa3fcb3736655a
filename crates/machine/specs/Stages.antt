-- 01, "Steps" and "Standing check": where a lane can stand. All that is to be said of a stage stands in one clause of `item_at`, and
-- where the lane goes from there in one clause of `advance_at` (Steps).
use Rattle.std.specs.Prelude.{ℕ, ◌-◌, List, [], ◌∷◌, Bool, true, false, cond, ◌||◌, eqb, ltb, leb}
use Rattle.places.specs.declared.Sizes.{Sizes}
use Rattle.places.specs.Table.{max_key, home_one, home_two, lock_of}
use Rattle.slots.specs.Slot.{full_slot}
use Rattle.locks.specs.declared.Mode.TheVariants.{Reading, Writing}
use Rattle.locks.specs.declared.Part.TheVariants.{NoPart, Tries, Holds}
use Rattle.locks.specs.Locks.{main_lock}
use Rattle.locks.specs.Record.{grab_in}
use Rattle.paths.specs.declared.Place.{Place}
use Rattle.paths.specs.Path.{other_row}
use Rattle.machine.specs.declared.Stage.{Stage}
use Rattle.machine.specs.declared.Stage.TheVariants.{TakeMain, Take, Seek, SeekRoom, WriteHit, WriteRoom, Pick, Drop, DropMain, TakeNext, LookNext, PickNext, DropNext, TakeSwing, Swing, DropSwing}
use Rattle.machine.specs.declared.Task.{Task}
use Rattle.machine.specs.declared.Lane.{Lane}
use Rattle.machine.specs.declared.Lane.TheVariants.{Idle, Busy}
use Rattle.machine.specs.declared.Tail.TheVariants.{Keep, TakeOff, Clear}
use Rattle.machine.specs.declared.Act.{Act}
use Rattle.machine.specs.declared.Act.TheVariants.{Try, Release, Look, Store, PickOne, PickFrom, Move}
use Rattle.machine.specs.declared.SlotClaim.TheVariants.{NoClaim, HasKey, HasRoom}
use Rattle.machine.specs.declared.Claims.{Claims}
use Rattle.machine.specs.declared.Grip.{Grip}
use Rattle.machine.specs.Sides.{by_side, side_row, is_last, apart_at}
use Rattle.machine.specs.Rules.{mode_of, row_on, shared_rows, swing_rows, drops_two, outcome_places, ending_places, written, sought_row, writes_hit, is_insert, is_first_pass}
use Rattle.machine.specs.Claims.{outcome_in, ending_in, trail_in, found_in, walk_in, grip, second_part, pass_grip, search_grip, walk_grip, both_rows, hit_rows, no_claims, pass_claims, seek_claims, room_claims, drop_claims, search_claims, found_claims}

-- "A step is one of the items below": what the step does, "the locks its place calls for", what the lane claims of the slots, and the
-- range of its numbers
pub record Standpoint : Type 0 where
  pub act : Act
  pub grip : Grip
  pub claims : Claims
  pub tests : List Bool

-- how many places of the path store are the lane's, and the rest, told from the last of them
pub record Item : Type 0 where
  pub places : ℕ
  pub here : Sizes → Task → Place → Standpoint

abbrev pub item : ℕ → (Sizes → Task → Place → Standpoint) → Item
item places here = record { places = places; here = here }

-- "Steps": the item at which a lane stands
unfoldable pub item_at : Stage → Item
item_at (TakeMain g) =
    item 0 (λ z l last. record {
      act = Try (main_lock z) g;
      grip = grip (Tries g) (main_lock z) NoPart (main_lock z) NoPart;
      claims = no_claims;
      tests = is_first_pass l.op ∷ grab_in z Writing g ∷ [];
    })
item_at (Take side g) =
    item 0 (λ z l last. record {
      act = Try (lock_of z (row_on z l.key side)) g;
      grip = pass_grip z l (by_side side (Tries g) (Holds (mode_of l.op))) (by_side side NoPart (Tries g));
      claims = seek_claims z l side 0;
      tests = grab_in z (mode_of l.op) g ∷ apart_at side (shared_rows z l.key) ∷ [];
    })
item_at (Seek side column) =
    item 0 (λ z l last. record {
      act = Look (row_on z l.key side) column;
      grip = hit_rows z l side;
      claims = seek_claims z l side column;
      tests = ltb column z.columns ∷ [];
    })
item_at (SeekRoom side column) =
    item 0 (λ z l last. record {
      act = Look (row_on z l.key side) column;
      grip = both_rows z l;
      claims = room_claims z l side column NoClaim;
      tests = is_insert l.op ∷ ltb column z.columns ∷ [];
    })
item_at (WriteHit side column) =
    item 0 (λ z l last. record {
      act = Store (row_on z l.key side) column (written l.op l.key l.value);
      grip = hit_rows z l side;
      claims = pass_claims z l 0 0 0 0 (HasKey (row_on z l.key side) column);
      tests = writes_hit l.op ∷ ltb column z.columns ∷ [];
    })
item_at (WriteRoom side column) =
    item 0 (λ z l last. record {
      act = Store (row_on z l.key side) column (full_slot l.key l.value);
      grip = both_rows z l;
      claims = room_claims z l side column (HasRoom (row_on z l.key side) column);
      tests = is_insert l.op ∷ ltb column z.columns ∷ [];
    })
item_at Pick =
    item 0 (λ z l last. record {
      act = PickOne (home_one z l.key) (home_two z l.key);
      grip = both_rows z l;
      claims = pass_claims z l z.columns z.columns z.columns z.columns NoClaim;
      tests = is_first_pass l.op ∷ [];
    })
item_at (Drop side o) =
    item (outcome_places o) (λ z l last. record {
      act = Release (lock_of z (row_on z l.key side)) (mode_of l.op) Keep;
      grip =
          pass_grip z l (by_side side (Holds (mode_of l.op)) NoPart)
          (by_side side (cond (drops_two (shared_rows z l.key) o) (Holds (mode_of l.op)) NoPart) (Holds (mode_of l.op)));
      claims = drop_claims z l side o;
      tests = by_side side true (drops_two (shared_rows z l.key) o) ∷ outcome_in z l.op o;
    })
item_at (DropMain e) =
    item (ending_places e) (λ z l last. record {
      act = Release (main_lock z) Writing Clear;
      grip = pass_grip z l NoPart NoPart;
      claims = no_claims;
      tests = ending_in z l.op e;
    })
item_at (TakeNext g t) =
    item t.places (λ z l last. record {
      act = Try (lock_of z (other_row z last)) g;
      grip = search_grip z (other_row z last) (Tries g);
      claims = no_claims;
      tests = is_first_pass l.op ∷ grab_in z Reading g ∷ trail_in z t;
    })
item_at (LookNext column t) =
    item t.places (λ z l last. record {
      act = Look (other_row z last) column;
      grip = search_grip z (other_row z last) (Holds Reading);
      claims = search_claims (other_row z last) column NoClaim;
      tests = is_first_pass l.op ∷ ltb column z.columns ∷ trail_in z t;
    })
item_at (PickNext t) =
    item t.places (λ z l last. record {
      act = PickFrom (other_row z last) t.places;
      grip = search_grip z (other_row z last) (Holds Reading);
      claims = search_claims (other_row z last) z.columns NoClaim;
      tests = is_first_pass l.op ∷ trail_in z t;
    })
item_at (DropNext f t) =
    item t.places (λ z l last. record {
      act = Release (lock_of z (sought_row z last f)) Reading Keep;
      grip = search_grip z (sought_row z last f) (Holds Reading);
      claims = found_claims z last f;
      tests = is_first_pass l.op ∷ found_in z f t;
    })
item_at (TakeSwing side g w) =
    item w.places (λ z l last. record {
      act = Try (lock_of z (side_row (swing_rows z last w) side)) g;
      grip = walk_grip z last w (by_side side (Tries g) (Holds Writing)) (by_side side NoPart (Tries g));
      claims = no_claims;
      tests = is_first_pass l.op ∷ grab_in z Writing g ∷ apart_at side (swing_rows z last w).shared ∷ walk_in z last w;
    })
item_at (Swing w) =
    item w.places (λ z l last. record {
      act = Move last w.row w.column;
      grip = walk_grip z last w (Holds Writing) (second_part (swing_rows z last w).shared (Holds Writing));
      claims = no_claims;
      tests = is_first_pass l.op ∷ walk_in z last w;
    })
item_at (DropSwing side w) =
    item w.places (λ z l last. record {
      act =
          Release (lock_of z (side_row (swing_rows z last w) side)) Writing
          (cond (is_last side (swing_rows z last w).shared) (TakeOff (w.places - 1)) Keep);
      grip =
          walk_grip z last w (by_side side (Holds Writing) NoPart)
          (by_side side (second_part (swing_rows z last w).shared (Holds Writing)) (Holds Writing));
      claims = no_claims;
      tests = is_first_pass l.op ∷ apart_at side (swing_rows z last w).shared ∷ walk_in z last w;
    })

-- ---- each by itself

-- "from the first pick to the walk the path is one longer than the search picks made": how many places are the lane's
abbrev pub path_length : Stage → ℕ
path_length s = (item_at s).places

-- what the next step does; last is the last place on the lane's path
abbrev pub act_at : Sizes → Task → Place → Stage → Act
act_at z l last s = ((item_at s).here z l last).act

abbrev pub act_of : Sizes → Task → Place → Act
act_of z l last = act_at z l last l.stage

-- the locks that the stage calls for
abbrev pub grip_at : Sizes → Task → Place → Stage → Grip
grip_at z l last s = ((item_at s).here z l last).grip

-- what it claims
abbrev pub claims_at : Sizes → Task → Place → Stage → Claims
claims_at z l last s = ((item_at s).here z l last).claims

-- the tests of its numbers
abbrev pub stage_in : Sizes → Task → Place → Stage → List Bool
stage_in z l last s = ((item_at s).here z l last).tests

-- ---- of a lane: an idle one has no places and no locks, and claims nothing

-- "step: lane is idle"
abbrev pub is_idle : Lane → Bool
is_idle Idle = true
is_idle (Busy k) = false

abbrev pub places_of : Lane → ℕ
places_of Idle = 0
places_of (Busy k) = path_length k.stage

abbrev pub grip_of : Sizes → Lane → Place → Grip
grip_of z Idle last = grip NoPart 0 NoPart 0 NoPart
grip_of z (Busy k) last = grip_at z k last k.stage

abbrev pub claims_of : Sizes → Lane → Place → Claims
claims_of z Idle last = no_claims
claims_of z (Busy k) last = claims_at z k last k.stage

-- the key that the claims speak of
abbrev pub claim_key : Lane → ℕ
claim_key Idle = 0
claim_key (Busy k) = k.key

-- "Keys are strokes, 0..8388607"; only an insert brings a value
abbrev pub task_in : Sizes → Task → Place → List Bool
task_in z k last = leb k.key max_key ∷ (is_insert k.op || eqb k.value 0) ∷ stage_in z k last k.stage

abbrev pub lane_in : Sizes → Lane → Place → List Bool
lane_in z Idle last = []
lane_in z (Busy k) last = task_in z k last
