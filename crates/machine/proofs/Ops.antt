-- What the tests of an operation say of one another.
-- Assumes nothing.
use mathlib.Core.Path.{◌≡◌}
use mathlib.Core.Bool.{true, false, not}
use native.Mathlib.Omega.{arith}
use Rattle.locks.specs.declared.Mode.TheVariants.{Writing}
use Rattle.locks.specs.declared.Part.TheVariants.{NoPart, Holds}
use Rattle.machine.specs.declared.Op.{Op}
use Rattle.machine.specs.Rules.{mode_of, is_read, is_insert, is_first_pass, is_second_pass, only_seeks, writes_hit}
use Rattle.machine.specs.Claims.{main_part}

pub first_inserts : (op : Op) → is_first_pass op ≡ true → is_insert op ≡ true
first_inserts op e = grind arith

pub second_inserts : (op : Op) → is_second_pass op ≡ true → is_insert op ≡ true
second_inserts op e = grind arith

pub inserts_write : (op : Op) → is_insert op ≡ true → writes_hit op ≡ true
inserts_write op e = grind arith

pub seeks_not_insert : (op : Op) → only_seeks op ≡ true → not (is_insert op) ≡ true
seeks_not_insert op e = grind arith

pub read_not_insert : (op : Op) → is_read op ≡ true → not (is_insert op) ≡ true
read_not_insert op e = grind arith

-- what is no read writes, and what is no insert only seeks
pub busy_writes : (op : Op) → is_read op ≡ false → writes_hit op ≡ true
busy_writes op e = grind arith

pub busy_seeks : (op : Op) → is_insert op ≡ false → only_seeks op ≡ true
busy_seeks op e = grind arith

pub insert_second : (op : Op) → is_insert op ≡ true → is_first_pass op ≡ false → is_second_pass op ≡ true
insert_second op a b = grind arith

-- who writes takes rows for writing
pub writes_mode : (op : Op) → writes_hit op ≡ true → mode_of op ≡ Writing
writes_mode op e = grind arith

-- an insert's part in main
pub main_held_by : (op : Op) → is_insert op ≡ true → main_part op ≡ Holds Writing
main_held_by op e = grind arith

pub main_free_of : (op : Op) → not (is_insert op) ≡ true → main_part op ≡ NoPart
main_free_of op e = grind arith
