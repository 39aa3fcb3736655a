-- An accepted step keeps the standing check, and the lengths of what is lent.
-- Assumes nothing.
use mathlib.Core.Path.{◌≡◌, refl, ap, sym, ◌∙◌}
use mathlib.Core.Logic.{◌≢◌}
use mathlib.Core.Bool.{true, false, false≢true}
use Prim.Native.Nat.{ℕ, ◌+◌, ◌≤◌, ◌<◌}
use native.Mathlib.Omega.{arith}
use Rattle.lists.proofs.Below.{Each}
use Rattle.places.specs.declared.Sizes.{Sizes}
use Rattle.places.specs.Table.{Fits, slot_index}
use Rattle.slots.specs.declared.Slot.{Slot}
use Rattle.slots.specs.Slot.{is_empty, is_full}
use Rattle.paths.specs.declared.Place.{Place}
use Rattle.machine.specs.declared.Stage.{Stage}
use Rattle.machine.specs.declared.Lane.{Lane}
use Rattle.machine.specs.declared.Seen.{Seen}
use Rattle.machine.specs.declared.Moved.{Moved}
use Rattle.machine.specs.Steps.{Memory, perform, advance_at, step_task}
use Rattle.machine.specs.Lane.{with_lane}
use Rattle.machine.specs.Back.{lane_at, decodes}
use Rattle.machine.specs.Stages.{path_length, lane_in, grip_of, claims_of, act_at, places_of, task_in, claim_key}
use Rattle.machine.specs.Standing.{Table}
use Rattle.machine.specs.Desk.{memory_of, turned}
use Rattle.machine.proofs.Ways.{Goes}
use native.Mathlib.Decide.{ℕ_discrete}
use lib.ListN.{length}
use Rattle.lists.proofs.Sums.{sum_at}
use Rattle.places.proofs.Limits.{slot_in_lem}
use Rattle.slots.specs.Slot.{slot_at}
use Rattle.slots.specs.Sound.{bad_shape}
use Rattle.slots.proofs.Facts.{SoundSlots}
use Rattle.locks.specs.Locks.{lock_at, main_lock}
use Rattle.locks.proofs.Record.{waits_fit}
use Rattle.paths.specs.Path.{place_at, last_of}
use Rattle.machine.specs.Lane.{lane_words}
use Rattle.machine.proofs.Numbers.{lane_same, lane_other, decodes_same, decodes_other}
use Rattle.machine.proofs.Claimed.{Claimed}
use Rattle.kept.proofs.Facts.{last_for, last_in, PlaceFacts, used, Stands}
use Rattle.kept.proofs.Checked.{StandsIn, Standing}
use Rattle.machine.proofs.Ways.{goes}
use Rattle.kept.proofs.Others.{alone, share_sum}
use Rattle.machine.proofs.Own.{Looks, own_claims}
use Rattle.machine.proofs.Single.{path_main}
use Rattle.machine.proofs.Range.{TryFits}
use Rattle.machine.proofs.RangeKept.{range_kept}
use Rattle.kept.proofs.Long.{Lengths}
use Rattle.machine.proofs.Follows.{Follows}
use Rattle.kept.proofs.Words.{counts_few, Alone, locks_kept}
use Rattle.kept.proofs.Path.{PathDoes, Nobody, path_kept, lasts_kept}
use Rattle.kept.proofs.Does.{LocksDo, locks_do, slots_do}
use Rattle.machine.proofs.Route.{length_goes, changes_path, main_at}
use Rattle.kept.proofs.Route.{path_do, follows}
use Rattle.kept.proofs.Slots.{SlotsKept, slots_kept}
use mathlib.Core.Path.{subst, subst⁻¹}
use Rattle.machine.specs.declared.Task.{Task}
use Rattle.machine.specs.declared.Lane.TheVariants.{Busy}
use Rattle.machine.specs.declared.Act.{Act}
use Rattle.machine.specs.declared.Act.TheVariants.{Try, Look}
use Rattle.kept.proofs.Fitting.{ActFits, act_fits}
use Rattle.machine.proofs.Route.{length_after}
use Rattle.machine.specs.Claims.{share}
use Rattle.locks.specs.Parts.{part_writes}
use Rattle.machine.proofs.Shift.{touch_of}

-- a slot of good shape is empty or full
solid_slot : (s : Slot) → bad_shape s ≡ false → is_empty s ≡ false → is_full s ≡ true
unfolding bad_shape
solid_slot s b e = grind arith

module _ (z : Sizes) (f : Fits z) (last : Place) (n byte : ℕ) (mem : Memory) where
  pub looks : (a : Act) → Looks z (slot_at mem.slots) (perform z a byte mem).seen a
  unfolding perform
  looks a = grind arith

  pub solid : SoundSlots z (slot_at mem.slots) → (a : Act) → ActFits z (slot_at mem.slots) last n a → is_empty (perform z a byte mem).seen.slot ≡ false → is_full (perform z a byte mem).seen.slot ≡ true
  unfolding perform
  solid sv (Look row c) r e = solid_slot (slot_at mem.slots (slot_index z row c)) (sv.shaped (slot_index z row c) (slot_in_lem z f row c r.0 r.1)) e
  solid sv a r e = absurd (false≢true (sym e))

  try_fits : ((k : ℕ) → k < z.locks + 1 → (lock_at z mem.locks k).count ≤ z.lanes) → (a : Act) → ActFits z (slot_at mem.slots) last n a → TryFits z (perform z a byte mem).seen a
  unfolding perform
  try_fits few (Try k g) r = λ m h g' e. waits_fit z m g g' (lock_at z mem.locks k) h (few k r) e
  try_fits few a r = tt

-- ---- all together

module _ (z : Sizes) (f : Fits z) (t : Table) (len : Lengths z (memory_of t)) (long : length t.lanes ≡ lane_words z) (i byte : ℕ) (hi : i < z.lanes) (st : Standing z t) (l : Task) (busy : lane_at t.lanes i ≡ Busy l) where
  abbrev σ : ℕ → Lane
  σ = lane_at t.lanes

  abbrev π : ℕ → Place
  π = place_at t.path

  abbrev s : Stage
  s = l.stage

  abbrev last : Place
  last = last_for (place_at t.path) (Busy l)

  abbrev act : Act
  act = act_at z l last s

  abbrev seen : Seen
  seen = (perform z (act_at z l last s) byte (memory_of t)).seen

  abbrev after : Memory
  after = (perform z (act_at z l last s) byte (memory_of t)).memory

  abbrev m : Moved
  m = advance_at z l last seen s

  abbrev σ' : ℕ → Lane
  σ' = lane_at (with_lane t.lanes i m.lane)

  abbrev π' : ℕ → Place
  π' = place_at after.path

  abbrev last' : Place
  last' = last_for π' m.lane

  facts : StandsIn z t
  facts = st.stands

  range : Each (task_in z l last)
  range = subst (λ (x : Lane). Each (lane_in z x (last_for π x))) busy (facts.range i hi)

  claims : Claimed z (slot_at t.slots) l.key (claims_of z (Busy l) last)
  claims = subst (λ (x : Lane). Claimed z (slot_at t.slots) (claim_key x) (claims_of z x (last_for π x))) busy (facts.claims i hi)

  way : Goes z l last seen s m
  way = goes z l last seen s

  here : σ' i ≡ m.lane
  here = lane_same t.lanes i m.lane (omega (arith, long))

  there : (j : ℕ) → j ≢ i → σ' j ≡ σ j
  there j d = lane_other t.lanes i m.lane j d

  within_used : path_length s ≤ used z σ
  within_used = subst (λ (x : Lane). places_of x ≤ used z σ) busy (sum_at z.lanes i (λ j. places_of (σ j)) hi)

  pub last_facts : path_length s ≢ 0 → PlaceFacts z last
  last_facts d = grind (arith, within_used)

  pub fitting : ActFits z (slot_at t.slots) last (path_length s) act
  fitting = act_fits z f (slot_at t.slots) l last s range.1.1 last_facts claims

  nobody : changes_path act ≡ true → Nobody z σ σ' π π' i
  nobody c j hj d = elim (ℕ_discrete (places_of (σ j)) 0) [
    | yes e ↦ e
    | no q ↦
        absurd (omega (
          arith,
          alone z (lock_at z t.locks) σ π i j (main_lock z) facts.locks hi hj d (omega arith) (subst⁻¹ (λ (x : Lane). 1 ≤ share z part_writes (grip_of z x (last_for π x)) (main_lock z)) busy (main_at z l last s c range.1.1)),
          share_sum z (grip_of z (σ j) (last_for π (σ j))) (main_lock z),
          path_main z (σ j) (last_for π (σ j)) (facts.range j hj) q,
        ))
  ]

  route : PathDoes (Nobody z σ σ' π π' i) z π π' (path_length s) (length_after (path_length s) act)
  route = path_do z f byte (memory_of t) len facts.sound (Nobody z σ σ' π π' i) last (path_length s) act fitting refl nobody

  next : places_of m.lane ≡ length_after (path_length s) act
  next = length_goes z l last seen s m way

  follow : Follows z last last' act
  follow = follows z last last' (path_length s) byte (memory_of t) len act fitting (λ k h. facts.path.links k (omega (arith, within_used))) refl (ap (λ (n : ℕ). last_in π' n) next)

  lane_lengths : (j : ℕ) → j < z.lanes → j ≢ i → places_of (σ' j) ≡ places_of (σ j)
  lane_lengths j hj d = ap (λ (x : Lane). places_of x) (there j d)

  next_here : places_of (σ' i) ≡ length_after (path_length s) act
  next_here = ap (λ (x : Lane). places_of x) here ∙ next

  lasts : (j : ℕ) → j < z.lanes → j ≢ i → last_for π' (σ j) ≡ last_for π (σ j)
  lasts = lasts_kept z σ σ' π π' i (path_length s) (length_after (path_length s) act) hi (ap (λ (x : Lane). places_of x) busy) next_here lane_lengths route

  alone_here : Alone z σ σ' π π' i m.lane
  alone_here = grind (arith, here, there, lasts)

  few : (k : ℕ) → k < z.locks + 1 → (lock_at z t.locks k).count ≤ z.lanes
  few k h = omega (arith, (facts.locks k h).count_is, counts_few z σ π facts.range k)

  range' : Each (lane_in z m.lane last')
  range' = range_kept z f l last last' seen s m range.0 range.1.0 range.1.1 (try_fits z f last (path_length s) byte (memory_of t) few act fitting) (λ d. (last_facts d).column_in) follow way

  slots : SlotsKept z f (slot_at t.slots) (slot_at after.slots) (lock_at z t.locks) σ π facts i hi l busy last' seen m range'
  slots = slots_kept z f (slot_at t.slots) (slot_at after.slots) (lock_at z t.locks) σ π facts i hi l busy last' seen m range' s refl range.1.1 claims last_facts
      (slots_do z f last (path_length s) byte (memory_of t) len act fitting) way

  own : Claimed z (slot_at t.slots) (claim_key m.lane) (claims_of z m.lane last')
  own = own_claims z (slot_at t.slots) l last last' seen (solid z f last (path_length s) byte (memory_of t) facts.sound act fitting) s m (looks z f last (path_length s) byte (memory_of t) act) follow claims way

  words : LocksDo z t.locks after.locks (touch_of seen act)
  words = locks_do z byte (memory_of t) len act

  ranges : (j : ℕ) → j < z.lanes → Each (lane_in z (σ' j) (last_for π' (σ' j)))
  ranges j hj = grind (arith, here, range', there, lasts)

  stands' : Stands z (slot_at after.slots) (lock_at z after.locks) σ' π'
  stands' =
      record {
        sound = slots.sound;
        range = ranges;
        claims = λ j hj. elim (ℕ_discrete j i) [ yes e ↦ rw (e, here) (slots.own own) | no d ↦ rw (there j d, lasts j hj d) (slots.others j hj d) ];
        locks = λ k hk. locks_kept z σ σ' π π' i l busy seen m alone_here range.1.1 way follow (lock_at z t.locks) (lock_at z after.locks) k (facts.locks k hk) (words.off k) (words.on k hk);
        path = path_kept z σ σ' π π' i (path_length s) (length_after (path_length s) act) hi (ap (λ (x : Lane). places_of x) busy) next_here lane_lengths route facts.path;
      }

  decoded' : (j : ℕ) → j < z.lanes → decodes (with_lane t.lanes i m.lane) j ≡ true
  decoded' j hj = grind (arith, decodes_same, decodes_other)

  pub step_stands : Standing z (turned z t i byte).table
  unfolding turned step_task last_of
  step_stands = rw busy (record { decoded = decoded'; stands = stands' })
