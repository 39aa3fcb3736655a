-- A lock's numbers are what the lanes' parts in it add up to: that is what is tested of it, and a step that takes it or releases it keeps it so.
use mathlib.Core.Path.{◌≡◌, ap, sym, ◌∙◌}
use mathlib.Core.Bool.{true}
use Prim.Native.Nat.{ℕ, ◌+◌, ◌-◌, ◌≤◌, min}
use native.Mathlib.Omega.{arith}
use Rattle.lists.specs.Below.{all_of}
use Rattle.places.specs.declared.Sizes.{Sizes}
use Rattle.locks.specs.declared.Lock.{Lock}
use Rattle.locks.specs.declared.Mode.{Mode}
use Rattle.locks.specs.declared.Grab.{Grab}
use Rattle.locks.specs.declared.Part.{Part}
use Rattle.locks.specs.declared.Part.TheVariants.{NoPart, Tries, Holds}
use Rattle.locks.specs.Taking.{grab_of, grab_mode, try_lock, released}
use Rattle.locks.specs.Parts.{part_after, grab_flag, grab_count, mode_flag, mode_count, part_flag, part_count, part_writes, part_reads, lock_tests}
use Rattle.locks.proofs.Measures.{Measure, flag_measure, count_measure, writes_measure, reads_measure}

-- what is tested of a lock, as facts: sum adds up the lanes' parts in it by a measure of parts
pub record Counts (z : Sizes) (w : Lock) (sum : (Part → ℕ) → ℕ) : Type 0 where
  pub flag_is : w.flag ≡ sum part_flag
  pub count_is : w.count ≡ sum part_count
  pub single : sum part_flag ≤ 1
  pub apart : min (sum part_writes) (sum part_reads) ≡ 0

module _ (z : Sizes) (w : Lock) (sum : (Part → ℕ) → ℕ) where
  pub tested_counts : all_of (lock_tests z w sum) ≡ true → Counts z w sum
  unfolding lock_tests
  tested_counts e = grind arith

  pub counts_tested : Counts z w sum → all_of (lock_tests z w sum) ≡ true
  unfolding lock_tests
  counts_tested h = grind arith

-- a lock of a table just opened, in which no lane has a part
pub counts_none : (z : Sizes) (w : Lock) (sum : (Part → ℕ) → ℕ) → w ≡ record { flag = 0; count = 0 } → ((f : Part → ℕ) → Measure z f → sum f ≡ 0) → Counts z w sum
counts_none z w sum e none =
    let a : w.flag ≡ 0 = ap (λ (v : Lock). v.flag) e in
    let b : w.count ≡ 0 = ap (λ (v : Lock). v.count) e in
    record {
      flag_is = a ∙ sym (none part_flag (flag_measure z));
      count_is = b ∙ sym (none part_count (count_measure z));
      single = omega (arith, none part_flag (flag_measure z));
      apart = omega (arith, none part_writes (writes_measure z));
    }

-- back: in such a lock the numbers are 0
pub counts_free : (z : Sizes) (w : Lock) (sum : (Part → ℕ) → ℕ) → Counts z w sum → ((f : Part → ℕ) → Measure z f → sum f ≡ 0) → w ≡ record { flag = 0; count = 0 }
counts_free z w sum h none =
    let a : w.flag ≡ 0 = h.flag_is ∙ none part_flag (flag_measure z) in
    let b : w.count ≡ 0 = h.count_is ∙ none part_count (count_measure z) in
    λ i. record { flag = a i; count = b i }

-- the lanes' parts add up to the same
pub counts_same : (z : Sizes) (w : Lock) (sum sum' : (Part → ℕ) → ℕ) → ((f : Part → ℕ) → Measure z f → sum' f ≡ sum f) → Counts z w sum → Counts z w sum'
counts_same z w sum sum' same h =
    record {
      flag_is = h.flag_is ∙ sym (same part_flag (flag_measure z));
      count_is = h.count_is ∙ sym (same part_count (count_measure z));
      single = omega (arith, h.single, same part_flag (flag_measure z));
      apart = rw (same part_writes (writes_measure z), same part_reads (reads_measure z)) h.apart;
    }

-- ---- a step that takes the lock, and a release

-- f lanes have a part in the flag, c in the count, wr hold it for writing, rd for reading
record Numbers (w : Lock) (f c wr rd : ℕ) : Type 0 where
  pub flag_is : w.flag ≡ f
  pub count_is : w.count ≡ c
  pub single : f ≤ 1
  pub apart : min wr rd ≡ 0

-- the numbers where a lane has the part p and the other lanes' numbers are f c wr rd
abbrev NumbersWith : Lock → Part → ℕ → ℕ → ℕ → ℕ → Type 0
NumbersWith w p f c wr rd = Numbers w (f + part_flag p) (c + part_count p) (wr + part_writes p) (rd + part_reads p)

try_counts : (z : Sizes) (g : Grab) (w : Lock) (f c wr rd : ℕ) → wr ≤ f → rd ≤ c → Numbers w (f + part_flag (Tries g)) (c + part_count (Tries g)) wr rd → NumbersWith (try_lock z g w).lock (part_after (grab_mode g) (try_lock z g w).tried) f c wr rd
unfolding try_lock grab_mode grab_flag grab_count
try_counts z g w f c wr rd a b h = grind arith

release_counts : (z : Sizes) (m : Mode) (w : Lock) (f c wr rd : ℕ) → wr ≤ f → rd ≤ c → NumbersWith w (Holds m) f c wr rd → Numbers (released z m w) f c wr rd
unfolding released
release_counts z m w f c wr rd a b h = grind arith

-- how a lock changes with a lane's part in it
pub data Turned (z : Sizes) : Part → Part → Lock → Lock → Type 0 where
  same_word : {p q : Part} {w w' : Lock} → q ≡ p → w' ≡ w → Turned z p q w w'
  tried_word : {p q : Part} {w w' : Lock} (g : Grab) → p ≡ Tries g → q ≡ part_after (grab_mode g) (try_lock z g w).tried → w' ≡ (try_lock z g w).lock → Turned z p q w w'
  freed_word : {p q : Part} {w w' : Lock} (m : Mode) → p ≡ Holds m → q ≡ NoPart → w' ≡ released z m w → Turned z p q w w'

-- a part in the flag that does not hold the lock yet, and the same of the count
abbrev early : Part → ℕ
early NoPart = 0
early (Tries g) = grab_flag g
early (Holds m) = 0

abbrev arrives : Part → ℕ
arrives NoPart = 0
arrives (Tries g) = grab_count g
arrives (Holds m) = 0

flag_parts : (p : Part) → part_flag p ≡ part_writes p + early p
flag_parts p = grind arith

count_parts : (p : Part) → part_count p ≡ part_reads p + arrives p
count_parts p = grind arith

early_measure : (z : Sizes) → Measure z early
unfolding grab_of grab_flag
early_measure z = grind arith

arrives_measure : (z : Sizes) → Measure z arrives
unfolding grab_of grab_count
arrives_measure z = grind arith

-- the arithmetic of a try, and of a release
try_numbers : (z : Sizes) (g : Grab) (w : Lock) (p : Part) (F C W R E A F' C' W' R' : ℕ) → p ≡ part_after (grab_mode g) (try_lock z g w).tried → F ≡ W + E → C ≡ R + A → grab_flag g ≤ E → grab_count g ≤ A → Numbers w F C W R
    → F' + grab_flag g ≡ F + part_flag p → C' + grab_count g ≡ C + part_count p → W' ≡ W + part_writes p → R' ≡ R + part_reads p → Numbers (try_lock z g w).lock F' C' W' R'
try_numbers z g w p F C W R E A F' C' W' R' ep ef ec hf hc h tf tc tw tr =
    let a : F' ≡ F - grab_flag g + part_flag p = omega arith in
    let b : C' ≡ C - grab_count g + part_count p = omega arith in
    let f0 : F ≡ F - grab_flag g + grab_flag g = omega arith in
    let c0 : C ≡ C - grab_count g + grab_count g = omega arith in
    let old : Numbers w (F - grab_flag g + grab_flag g) (C - grab_count g + grab_count g) W R = record { flag_is = h.flag_is ∙ f0; count_is = h.count_is ∙ c0; single = omega (arith, h.single); apart = h.apart } in
    rw (a, b, tw, tr, ep) (try_counts z g w (F - grab_flag g) (C - grab_count g) W R (omega arith) (omega arith) old)

free_numbers : (z : Sizes) (m : Mode) (w : Lock) (F C W R E A F' C' W' R' : ℕ) → F ≡ W + E → C ≡ R + A → Numbers w F C W R
    → F' + mode_flag m ≡ F → C' + mode_count m ≡ C → W' + mode_flag m ≡ W → R' + mode_count m ≡ R → Numbers (released z m w) F' C' W' R'
free_numbers z m w F C W R E A F' C' W' R' ef ec h tf tc tw tr =
    release_counts z m w F' C' W' R' (omega arith) (omega arith)
    (record { flag_is = h.flag_is ∙ sym tf; count_is = h.count_is ∙ sym tc; single = omega (arith, h.single); apart = rw (tw, tr) h.apart })

-- a lane's part in the lock becomes another, and the other lanes' parts stay
module _ (z : Sizes) (p q : Part) (sum sum' : (Part → ℕ) → ℕ)
    (adds : (f h e : Part → ℕ) → ((r : Part) → f r ≡ h r + e r) → sum f ≡ sum h + sum e)
    (has : (f : Part → ℕ) → Measure z f → f p ≤ sum f)
    (near : (f : Part → ℕ) → Measure z f → sum' f + f p ≡ sum f + f q) where
  numbers_of : {w : Lock} → Counts z w sum → Numbers w (sum part_flag) (sum part_count) (sum part_writes) (sum part_reads)
  numbers_of h = record { flag_is = h.flag_is; count_is = h.count_is; single = h.single; apart = h.apart }

  counts_of : {w : Lock} → Numbers w (sum' part_flag) (sum' part_count) (sum' part_writes) (sum' part_reads) → Counts z w sum'
  counts_of h = record { flag_is = h.flag_is; count_is = h.count_is; single = h.single; apart = h.apart }

  flags : sum part_flag ≡ sum part_writes + sum early
  flags = adds part_flag part_writes early flag_parts

  counts : sum part_count ≡ sum part_reads + sum arrives
  counts = adds part_count part_reads arrives count_parts

  pub turned_counts : (w w' : Lock) → Turned z p q w w' → Counts z w sum → Counts z w' sum'
  turned_counts w w' (same_word a x) h = rw x (counts_same z w sum sum' stay h)
    where
      stay : (f : Part → ℕ) → Measure z f → sum' f ≡ sum f
      stay f μ = omega (arith, near f μ, ap f a)
  turned_counts w w' (tried_word g a b x) h =
      rw x (counts_of (try_numbers z g w q (sum part_flag) (sum part_count) (sum part_writes) (sum part_reads) (sum early) (sum arrives)
      (sum' part_flag) (sum' part_count) (sum' part_writes) (sum' part_reads) b flags counts
      (omega (arith, has early (early_measure z), ap early a)) (omega (arith, has arrives (arrives_measure z), ap arrives a)) (numbers_of h)
      (omega (arith, near part_flag (flag_measure z), ap part_flag a)) (omega (arith, near part_count (count_measure z), ap part_count a))
      (omega (arith, near part_writes (writes_measure z), ap part_writes a)) (omega (arith, near part_reads (reads_measure z), ap part_reads a))))
  turned_counts w w' (freed_word m a b x) h =
      rw x (counts_of (free_numbers z m w (sum part_flag) (sum part_count) (sum part_writes) (sum part_reads) (sum early) (sum arrives)
      (sum' part_flag) (sum' part_count) (sum' part_writes) (sum' part_reads) flags counts (numbers_of h)
      (omega (arith, near part_flag (flag_measure z), ap part_flag a, ap part_flag b)) (omega (arith, near part_count (count_measure z), ap part_count a, ap part_count b))
      (omega (arith, near part_writes (writes_measure z), ap part_writes a, ap part_writes b)) (omega (arith, near part_reads (reads_measure z), ap part_reads a, ap part_reads b))))
