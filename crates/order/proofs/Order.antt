-- THE THEOREM "order", demand 3's first half: the order of every run from an opened table is what demand 3 asks for.
-- Assumes nothing.
use mathlib.Core.Path.{◌≡◌, refl, ap, sym, ◌∙◌}
use mathlib.Core.Logic.{◌≢◌}
use mathlib.Core.Bool.{Bool, cond}
use mathlib.Core.List.{List, [], ◌∷◌, ◌++◌, append_assoc, append-nil}
use Prim.Native.Nat.{ℕ, ◌+◌}
use native.Mathlib.Decide.{ℕ_discrete}
use native.Mathlib.Omega.{arith}
use borrow.Author.Tests.{eq-eqb, ne_eqb}
use Rattle.std.specs.Prelude.{Result, Option}
use Rattle.linear.specs.declared.Request.{Request}
use Rattle.linear.specs.declared.End.{End}
use Rattle.places.specs.declared.Sizes.{Sizes}
use Rattle.machine.specs.Back.{lane_at}
use Rattle.machine.specs.declared.Refusal.{Refusal}
use Rattle.machine.specs.Standing.{Table}
use Rattle.machine.specs.Desk.{open_of, start_of, step_of, Accepts}
use Rattle.linear.specs.Log.{Note, starts, ends}
use Rattle.linear.specs.Map.{Bindings}
use Rattle.linear.specs.Order.{Ordered}
use Rattle.linear.proofs.Logs.{count}
use Rattle.linear.proofs.Deeds.{Deed, deed, Ghost, Inv}
use Rattle.linear.proofs.Step.{inv_open, inv_quiet, inv_take, inv_leave, inv_both, inv_begin}
use Rattle.linear.proofs.Close.{numbers, ordered}
use Rattle.order.specs.Run.{Event, start, step, next, Run, table_after, bindings, end_note, end_by, notes, log_of}
use Rattle.order.specs.Settle.{settles_now, owning, order_from, order_of}
use Rattle.order.proofs.Ghosts.{ghost, Kind, quiet, takes, leaves, both}
use Rattle.order.proofs.Moves.{moved_by, table_by, step_busy, step_table, step_answer, step_here, step_there, step_kind}
use Rattle.order.proofs.Begins.{opening_slots, opening_lanes, started_by, start_table, start_idle, start_here, start_there, begun_waits}

-- how far the lanes' operations are
abbrev ghosts : Table → ℕ → Ghost
ghosts t i = ghost (lane_at t.lanes i)

-- a log and deeds that have grown, and the order's new numbers
record Grown (x₀ x : Bindings) (σ : ℕ → Ghost) (own : ℕ → ℕ) (log : List Note) (ds : List Deed) (new : List ℕ) : Type 0 where
  deeds : List Deed
  inv : Inv x₀ x σ own log deeds
  order : numbers deeds ≡ numbers ds ++ new

-- ---- one step

module _ (x₀ x x' : Bindings) (σ σ' : ℕ → Ghost) (own : ℕ → ℕ) (log : List Note) (ds : List Deed) (v : Inv x₀ x σ own log ds) (i : ℕ) (es : (j : ℕ) → j ≢ i → σ' j ≡ σ j) where
  grow : {g g' : Ghost} {b : Option End} {w : Bool} → Kind x x' g g' b w → σ i ≡ g → σ' i ≡ g' → Grown x₀ x' σ' own (log ++ end_note i b) ds (cond w (own i ∷ []) [])
  grow (quiet e ex) a b =
      record { deeds = ds; inv = rw (append-nil log) (inv_quiet x₀ x x' σ σ' own log ds v ex all); order = sym (append-nil (numbers ds)) }
    where
      all : (j : ℕ) → σ' j ≡ σ j
      all j = elim (ℕ_discrete j i) [ yes q ↦ rw q (b ∙ (e ∙ sym a)) | no q ↦ es j q ]
  grow (takes {o} {a = r} n g ex) a b =
      record { deeds = deed (own i) o r ∷ ds; inv = rw (append-nil log) (inv_take x₀ x x' σ σ' own log ds v i es o r a b n g ex); order = refl }
  grow (leaves {o} {a = r} ex) a b =
      record { deeds = ds; inv = inv_leave x₀ x x' σ σ' own log ds v i es o r a b ex; order = sym (append-nil (numbers ds)) }
  grow (both {o} {a = r} g ex) a b =
      record { deeds = deed (own i) o r ∷ ds; inv = inv_both x₀ x x' σ σ' own log ds v i es o r a b g ex; order = refl }

-- the state of a run: its table, the lanes' operations, the log and the deeds so far
abbrev State : Sizes → Bindings → Table → (ℕ → ℕ) → List Note → List Deed → Type 0
State z x₀ t own log ds = Inv x₀ (bindings z t) (ghosts t) own log ds

module _ (z : Sizes) (x₀ : Bindings) (t : Table) (own : ℕ → ℕ) (log : List Note) (ds : List Deed) (v : State z x₀ t own log ds) where
  abbrev Next : Event → (ℕ → ℕ) → List ℕ → Type 0
  Next e own' new = Grown x₀ (bindings z (next z t e)) (ghosts (next z t e)) own' (log ++ notes z t e) ds new

  carry : (u u' : Table) (n n' : List Note) (own' : ℕ → ℕ) (new : List ℕ) → u ≡ u' → n ≡ n' → Grown x₀ (bindings z u') (ghosts u') own' (log ++ n') ds new → Grown x₀ (bindings z u) (ghosts u) own' (log ++ n) ds new
  carry u u' n n' own' new p q g = rw (p, q) g

  by_step : (j byte : ℕ) → Accepts (step_of z t j byte) → Next (step j byte) own (cond (settles_now z t j byte) (own j ∷ []) [])
  by_step j byte e =
      let k = step_busy z t j byte e in
      carry (next z t (step j byte)) (table_by z t j k.0 byte) (notes z t (step j byte)) (end_note j (moved_by z t k.0 byte).answer) own (cond (settles_now z t j byte) (own j ∷ []) [])
      (step_table z t j byte e k.0 k.1) (ap (λ (s : Result (Option End) Refusal). end_note j (end_by s)) (step_answer z t j byte e k.0 k.1))
      (grow x₀ (bindings z t) (bindings z (table_by z t j k.0 byte)) (ghosts t) (ghosts (table_by z t j k.0 byte)) own log ds v j (λ i d. ap ghost (step_there z t j byte e k.0 k.1 i d)) (step_kind z t j byte e k.0 k.1) (ap ghost k.1) (ap ghost (step_here z t j byte e k.0 k.1)))

  own_same : (j k : ℕ) → owning own j k j ≡ k
  unfolding owning
  own_same j k = rw (eq-eqb j j refl)

  own_other : (j k i : ℕ) → i ≢ j → owning own j k i ≡ own i
  unfolding owning
  own_other j k i d = rw (ne_eqb i j d)

  by_start : (j : ℕ) (r : Request) → Accepts (start_of z t j r) → Next (start j r) (owning own j (count log)) []
  by_start j r e =
      carry (next z t (start j r)) (started_by z t j r) (notes z t (start j r)) (notes z t (start j r)) (owning own j (count log)) [] (start_table z t j r e) refl
      (record {
        deeds = ds;
        inv = inv_begin x₀ (bindings z t) (bindings z (started_by z t j r)) (ghosts t) (ghosts (started_by z t j r)) own log ds v j (λ i d. ap ghost (start_there z t j r e i d)) r (owning own j (count log)) (own_same j (count log)) (own_other j (count log))
            (ap ghost (start_idle z t j r e)) (ap ghost (start_here z t j r e) ∙ begun_waits z r) refl;
        order = sym (append-nil (numbers ds));
      })

-- ---- a run

-- operations are counted by their starts
count_more : (log new : List Note) → count (log ++ new) ≡ count log + count new
count_more [] new = omega arith
count_more (starts i o ∷ log) new = omega (arith, count_more log new)
count_more (ends i a ∷ log) new = count_more log new

count_ends : (j : ℕ) (b : Option End) → count (end_note j b) ≡ 0
count_ends j b = grind arith

-- what a run comes to from a state: the log and the order go on as the run's
record Ran (z : Sizes) (x₀ : Bindings) (t : Table) (own : ℕ → ℕ) (log : List Note) (ds : List Deed) (es : List Event) : Type 0 where
  deeds : List Deed
  owns : ℕ → ℕ
  inv : State z x₀ (table_after z t es) owns (log ++ log_of z t es) deeds
  order : numbers deeds ≡ numbers ds ++ order_from z (count log) own t es

module _ (z : Sizes) (x₀ : Bindings) where
  go_on : (t : Table) (own own' : ℕ → ℕ) (log : List Note) (ds : List Deed) (e : Event) (es : List Event) (new : List ℕ) (k : ℕ) → count (log ++ notes z t e) ≡ k
      → (g : Grown x₀ (bindings z (next z t e)) (ghosts (next z t e)) own' (log ++ notes z t e) ds new) → order_from z (count log) own t (e ∷ es) ≡ new ++ order_from z k own' (next z t e) es
      → Ran z x₀ (next z t e) own' (log ++ notes z t e) g.deeds es → Ran z x₀ t own log ds (e ∷ es)
  go_on t own own' log ds e es new k c g q r =
      record {
        deeds = r.deeds;
        owns = r.owns;
        inv = rw (append_assoc log (notes z t e) (log_of z (next z t e) es)) at r.inv;
        order = r.order ∙ (ap (λ (n : ℕ). numbers g.deeds ++ order_from z n own' (next z t e) es) c ∙ (ap (λ (ks : List ℕ). ks ++ order_from z k own' (next z t e) es) g.order ∙ (append_assoc (numbers ds) new (order_from z k own' (next z t e) es) ∙ ap (λ (ks : List ℕ). numbers ds ++ ks) (sym q))));
      }

  run : (t : Table) (own : ℕ → ℕ) (log : List Note) (ds : List Deed) → State z x₀ t own log ds → (es : List Event) → Run z t es → Ran z x₀ t own log ds es
  run t own log ds v [] a = record { deeds = ds; owns = own; inv = rw (append-nil log) v; order = sym (append-nil (numbers ds)) }
  run t own log ds v (start j r ∷ es) a =
      let g : _ = by_start z x₀ t own log ds v j r a.0 in
      go_on t own (owning own j (count log)) log ds (start j r) es [] (count log + 1) (count_more log (starts j r ∷ [])) g refl
      (run (next z t (start j r)) (owning own j (count log)) (log ++ notes z t (start j r)) g.deeds g.inv es a.1)
  run t own log ds v (step j byte ∷ es) a =
      let k = step_busy z t j byte a.0 in
      let g : _ = by_step z x₀ t own log ds v j byte a.0 in
      go_on t own own log ds (step j byte) es (cond (settles_now z t j byte) (own j ∷ []) []) (count log)
      (rw (step_answer z t j byte a.0 k.0 k.1) (count_more log (end_note j (moved_by z t k.0 byte).answer) ∙ (let n : _ = count_ends j (moved_by z t k.0 byte).answer in omega arith))) g refl
      (run (next z t (step j byte)) own (log ++ notes z t (step j byte)) g.deeds g.inv es a.1)

-- ---- the theorem

pub order : (z : Sizes) (t : Table) (es : List Event) → Accepts (open_of z t) → Run z (open_of z t).table es
    → Ordered (bindings z t) (log_of z (open_of z t).table es) (order_of z (open_of z t).table es) (bindings z (table_after z (open_of z t).table es))
order z t es e a =
    let v : State z (bindings z t) (open_of z t).table (λ j. 0) [] [] = rw (opening_slots z t e) (inv_open (bindings z t) (ghosts (open_of z t).table) (λ j. 0) (λ i. ap ghost (opening_lanes z t e i))) in
    let r : Ran z (bindings z t) (open_of z t).table (λ j. 0) [] [] es = run z (bindings z t) (open_of z t).table (λ j. 0) [] [] v es a in
    rw r.order at (ordered (bindings z t) (bindings z (table_after z (open_of z t).table es)) (ghosts (table_after z (open_of z t).table es)) r.owns (log_of z (open_of z t).table es) r.deeds r.inv)
