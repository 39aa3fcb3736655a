-- Sums over the lanes: the places on their paths, and what they add to a lock, which is little.
-- Assumes nothing.
use mathlib.Core.Path.{◌≡◌, ◌∙◌, ap, sym, refl}
use mathlib.Core.List.{List}
use Prim.Native.Nat.{ℕ, zero, suc, ◌+◌, ◌*◌, ◌≤◌}
use native.Mathlib.Omega.{arith}
use Rattle.lists.specs.Below.{sum_below}
use Rattle.lists.proofs.Sums.{sum_turn}
use Rattle.places.specs.declared.Sizes.{Sizes}
use Rattle.places.specs.Table.{max_lanes}
use Rattle.locks.specs.declared.Part.{Part}
use Rattle.locks.specs.Locks.{main_lock}
use Rattle.locks.specs.Parts.{part_flag, part_count, part_writes, part_reads}
use Rattle.locks.proofs.Measures.{flag_low, count_low, writes_low, reads_low}
use Rattle.machine.specs.declared.Grip.{Grip}
use Rattle.machine.specs.declared.Lane.{Lane}
use Rattle.machine.specs.Back.{lane_at}
use Rattle.machine.specs.Claims.{share}
use Rattle.machine.specs.Stages.{places_of}
use Rattle.machine.proofs.Single.{on_le}
use Rattle.holds.specs.declared.shares.Shares.{Shares}
use Rattle.holds.specs.Shares.{added, SumsFit}
use Rattle.standing.specs.Looks.{length_at}
use Rattle.standing.specs.Parts.{grip_in, shares_at, parts_to, shares_to}
use Rattle.locks.specs.Locks.{main_lock}

-- one lane more on the path, and all lanes
pub used_turn : (vs : List ℕ) (j used n : ℕ) (l : Lane) → used ≡ sum_below j (length_at vs) → l ≡ lane_at vs j → n ≡ places_of l → used + n ≡ sum_below (j + 1) (length_at vs)
unfolding length_at
used_turn vs j used n l inv el en = (λ i. inv i + (en ∙ ap (λ (m : Lane). places_of m) el) i) ∙ sym (sum_turn (length_at vs) j)

-- what a lane adds to a lock is at most 3, by a measure of which a part has at most 1
sum_three : (n : ℕ) (f : ℕ → ℕ) → ((j : ℕ) → f j ≤ 3) → sum_below n f ≤ n * 3
unfolding sum_below
sum_three zero f h = omega arith
sum_three (suc n) f h = omega (arith, sum_three n f h, h n)

module _ (z : Sizes) (f : Part → ℕ) (low : (p : Part) → f p ≤ 1) (k : ℕ) where
  share_few : (g : Grip) → share z f g k ≤ 3
  share_few g =
      omega (arith, on_le k (main_lock z) (f g.main), on_le k g.one.lock (f g.one.part), on_le k g.two.lock (f g.two.part), low g.main, low g.one.part, low g.two.part)

  parts_few : (vs ps : List ℕ) (n : ℕ) → parts_to z vs ps k f n ≤ n * 3
  unfolding parts_to
  parts_few vs ps n = sum_three n (λ j. share z f (grip_in z vs ps j) k) (λ j. share_few (grip_in z vs ps j))

-- each of the four is at most n
record AtMost (n : ℕ) (s : Shares) : Type 0 where
  pub flag : s.flag ≤ n
  pub count : s.count ≤ n
  pub writes : s.writes ≤ n
  pub reads : s.reads ≤ n

module _ (z : Sizes) (vs ps : List ℕ) (k j : ℕ) where
  lane_few : AtMost 3 (shares_at z vs ps k j)
  unfolding shares_at
  lane_few =
      record {
        flag = share_few z part_flag flag_low k (grip_in z vs ps j);
        count = share_few z part_count count_low k (grip_in z vs ps j);
        writes = share_few z part_writes writes_low k (grip_in z vs ps j);
        reads = share_few z part_reads reads_low k (grip_in z vs ps j);
      }

  lanes_few : AtMost (j * 3) (shares_to z vs ps k j)
  lanes_few =
      record {
        flag = parts_few z part_flag flag_low k vs ps j;
        count = parts_few z part_count count_low k vs ps j;
        writes = parts_few z part_writes writes_low k vs ps j;
        reads = parts_few z part_reads reads_low k vs ps j;
      }

  pub sums_fit : (s t : Shares) → j ≤ max_lanes → s ≡ shares_to z vs ps k j → t ≡ shares_at z vs ps k j → SumsFit s t
  sums_fit s t l es et =
      let few = lanes_few in
      let one = lane_few in
      rw (es, et) (record { flag = omega arith; count = omega arith; writes = omega arith; reads = omega arith })

-- no lane, one lane more, and all lanes
module _ (z : Sizes) (vs ps : List ℕ) (k : ℕ) where
  parts_turn : (f : Part → ℕ) (j : ℕ) → parts_to z vs ps k f (j + 1) ≡ parts_to z vs ps k f j + share z f (grip_in z vs ps j) k
  unfolding parts_to
  parts_turn f j = sum_turn (λ i. share z f (grip_in z vs ps i) k) j

  pub shares_none : record { flag = 0; count = 0; writes = 0; reads = 0 } ≡ shares_to z vs ps k 0
  unfolding parts_to sum_below
  shares_none = refl

  pub shares_turn : (j : ℕ) (s t r : Shares) → s ≡ shares_to z vs ps k j → t ≡ shares_at z vs ps k j → r ≡ added s t → r ≡ shares_to z vs ps k (j + 1)
  unfolding shares_at
  shares_turn j s t r es et er =
      er ∙ (λ i. added (es i) (et i))
      ∙ sym (λ i. record { flag = parts_turn part_flag j i; count = parts_turn part_count j i; writes = parts_turn part_writes j i; reads = parts_turn part_reads j i })
