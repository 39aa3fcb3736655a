-- `set_numbers` is its definition: fourteen stores are one record.
use Rattle.machine.specs.Lane.{lane_numbers}
use Prim.Native.Nat.{◌*◌}
use Rattle.lists.specs.Records.{put}
use Rattle.records.proofs.Stored.{counted_up}
use Rattle.records.proofs.set_numbers.Goals as goal

pub returns : goal.returns
unfolding put
returns c = let b = c.args.i * lane_numbers in rw (counted_up 1 b, counted_up 2 b, counted_up 3 b, counted_up 4 b, counted_up 5 b, counted_up 6 b, counted_up 7 b, counted_up 8 b, counted_up 9 b, counted_up 10 b, counted_up 11 b, counted_up 12 b, counted_up 13 b)
