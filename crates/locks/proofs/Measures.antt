-- Measures of parts: what a part adds to a lock's flag, count, writers and readers. None is more than 1, and a first grab adds nothing.
use mathlib.Core.Path.{◌≡◌}
use Prim.Native.Nat.{ℕ, ◌≤◌}
use native.Mathlib.Omega.{arith}
use Rattle.places.specs.declared.Sizes.{Sizes}
use Rattle.locks.specs.declared.Mode.{Mode}
use Rattle.locks.specs.declared.Grab.{Grab}
use Rattle.locks.specs.declared.Part.{Part}
use Rattle.locks.specs.declared.Part.TheVariants.{NoPart, Tries}
use Rattle.locks.specs.Taking.{grab_of}
use Rattle.locks.specs.Parts.{grab_flag, grab_count, mode_count, part_flag, part_count, part_writes, part_reads}

-- ---- at most 1

pub mode_few : (m : Mode) → mode_count m ≤ 1
mode_few m = grind arith

pub grab_few : (g : Grab) → grab_count g ≤ 1
unfolding grab_count
grab_few g = grind arith

pub flag_low : (p : Part) → part_flag p ≤ 1
unfolding grab_flag
flag_low p = grind arith

pub count_low : (p : Part) → part_count p ≤ 1
count_low p = grind (arith, mode_few, grab_few)

pub writes_low : (p : Part) → part_writes p ≤ 1
writes_low p = grind arith

pub reads_low : (p : Part) → part_reads p ≤ 1
reads_low p = grind arith

-- ---- nothing from a first grab

-- a measure of parts in which a lane that has no part, or has not tried yet, counts for nothing
pub record Measure (z : Sizes) (f : Part → ℕ) : Type 0 where
  pub none : f NoPart ≡ 0
  pub first : (m : Mode) → f (Tries (grab_of z m)) ≡ 0

pub flag_measure : (z : Sizes) → Measure z part_flag
unfolding grab_of grab_flag
flag_measure z = grind arith

pub count_measure : (z : Sizes) → Measure z part_count
unfolding grab_of grab_count
count_measure z = grind arith

pub writes_measure : (z : Sizes) → Measure z part_writes
writes_measure z = grind arith

pub reads_measure : (z : Sizes) → Measure z part_reads
reads_measure z = grind arith
