-- `shares_of` is its definition: each closure measures a part as the definition does.
-- Assumes nothing.
use Rattle.std.proofs.Common.{rules}
use Rattle.locks.specs.Parts.{part_flag, part_count, part_writes, part_reads}
use Rattle.holds.proofs.shares.shares_of.Goals as goal

pub returns : goal.returns
returns c =
    rw (
      c.share.ensures part_flag (λ p n e. search rules),
      c.share-2.ensures part_count (λ p n e. search rules),
      c.share-3.ensures part_writes (λ p n e. search rules),
      c.share-4.ensures part_reads (λ p n e. search rules),
    )
