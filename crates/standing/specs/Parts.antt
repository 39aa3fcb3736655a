-- 01, "Standing check": what the lanes add to a lock, by the four measures of parts at once, as the code keeps them.
-- Assumes nothing.
use Rattle.std.specs.Prelude.{ℕ, List}
use Rattle.lists.specs.Below.{sum_below}
use Rattle.places.specs.declared.Sizes.{Sizes}
use Rattle.locks.specs.declared.Part.{Part}
use Rattle.locks.specs.Parts.{part_flag, part_count, part_writes, part_reads}
use Rattle.paths.specs.Path.{last_of}
use Rattle.machine.specs.declared.Grip.{Grip}
use Rattle.machine.specs.Back.{lane_at}
use Rattle.machine.specs.Claims.{share}
use Rattle.machine.specs.Stages.{places_of, grip_of}
use Rattle.holds.specs.declared.shares.Shares.{Shares}
use Rattle.holds.specs.Shares.{shares_of}

-- "each lane holds the locks its place calls for": the part of lane j in the locks
unfoldable pub grip_in : Sizes → List ℕ → List ℕ → ℕ → Grip
grip_in z vs ps j = grip_of z (lane_at vs j) (last_of ps (places_of (lane_at vs j)))

-- "its count is the number of lanes ..": what lane j adds to lock k, by that and the other measures
unfoldable pub shares_at : Sizes → List ℕ → List ℕ → ℕ → ℕ → Shares
shares_at z vs ps k j = shares_of z (grip_in z vs ps j) k

-- "its count is the number of lanes ..": what the first n lanes add to lock k, by a measure of parts
unfoldable pub parts_to : Sizes → List ℕ → List ℕ → ℕ → (Part → ℕ) → ℕ → ℕ
parts_to z vs ps k f n = sum_below n (λ j. share z f (grip_in z vs ps j) k)

-- by all four
abbrev pub shares_to : Sizes → List ℕ → List ℕ → ℕ → ℕ → Shares
shares_to z vs ps k n =
    record {
      flag = parts_to z vs ps k part_flag n;
      count = parts_to z vs ps k part_count n;
      writes = parts_to z vs ps k part_writes n;
      reads = parts_to z vs ps k part_reads n;
    }
