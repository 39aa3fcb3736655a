-- A lane's numbers in the code: what stands past a table of codes, and an index in steps of one.
use mathlib.Core.Path.{◌≡◌, ◌∙◌, ap, refl}
use mathlib.Core.Logic.{◌≢◌}
use mathlib.Core.List.{List}
use Prim.Native.Nat.{ℕ, zero, suc, ◌+◌, ◌-◌, ◌*◌, ◌≤◌}
use native.Mathlib.Omega.{arith}
use native.Mathlib.Decide.{ℕ_discrete}
use lib.ListN.{get_or}
use Rattle.lists.specs.Records.{cell}
use Rattle.machine.specs.declared.Op.{Op}
use Rattle.machine.specs.declared.Stage.{Stage}
use Rattle.machine.specs.declared.Stage.TheVariants.{Pick}
use Rattle.machine.specs.Lane.{lane_numbers, Words}
use Rattle.machine.specs.Back.{op_of, stage_of, words_at, task_at}

-- m + k, one by one
abbrev pub counted : ℕ → ℕ → ℕ
counted zero m = m
counted (suc k) m = suc (counted k m)

pub counted_up : (k m : ℕ) → m + k ≡ counted k m
counted_up zero m = omega arith
counted_up (suc k) m = omega (arith, counted_up k m)

-- f falls back at 0, at c and from k on
fallback : {A : Type 0} (f : ℕ → A) (a : A) (c k n : ℕ) → a ≡ f 0 → a ≡ f c → ((m : ℕ) → a ≡ f (counted k m)) → (n ≢ 0 → n ≢ c → k ≤ n) → a ≡ f n
fallback f a c k n z e h past = elim (ℕ_discrete n 0) [
  | yes p ↦ rw p z
  | no p ↦ elim (ℕ_discrete n c) [
    | yes q ↦ rw q e
    | no q ↦
        let l : k ≤ n = past p q in
        let x : counted k (n - k) ≡ n = omega (arith, counted_up k (n - k)) in
        h (n - k) ∙ ap f x
  ]
]

-- code 10 and what is no code are read as a pick
pub pick_past : (w : Words) → (w.code ≢ 0 → w.code ≢ 10 → 23 ≤ w.code) → Pick ≡ stage_of w
pick_past w past = fallback (λ n. stage_of (record w { code = n })) Pick 10 23 w.code refl refl (λ m. refl) past

-- the operation, two reads and the stage are a task
pub task_read : (xs : List ℕ) (i : ℕ) (op : Op) (w : Words) (s : Stage) → op ≡ op_of (get_or xs (i * lane_numbers + 1) 0) → w ≡ words_at xs i → s ≡ stage_of w → record { op = op; key = get_or xs (i * lane_numbers + 2) 0; value = get_or xs (i * lane_numbers + 3) 0; stage = s } ≡ task_at xs i
unfolding cell
task_read xs i op w s eo ew es = λ z. record { op = eo z; key = get_or xs (i * lane_numbers + 2) 0; value = get_or xs (i * lane_numbers + 3) 0; stage = (es ∙ ap stage_of ew) z }
