-- The contract of `run` leaves no choice: its first bytes are the print, and two outcomes that it permits coincide.
-- Assumes nothing.
use mathlib.Core.Path.{◌≡◌, sym, ◌∙◌, ap}
use mathlib.Core.List.{List}
use Prim.Native.Nat.{ℕ, ◌+◌, ◌≤◌}
use native.Mathlib.Omega.{arith}
use lib.ListN.{length, take, drop}
use lib.Seq.{sets-eq, take_at}
use Rattle.jobs.specs.declared.TheConstants.{OUT_BYTES}
use Rattle.jobs.specs.Job.{print_of}
use Rattle.jobs.specs.Prints.{Prints}
use Rattle.jobs.proofs.Room.{print_fits}

pub unique_run : {r q : ℕ} {was out end text : List ℕ} → Prints r was out text → Prints q was end text → (r ≡ q) × (out ≡ end)
unique_run p o = (p.put.offset ∙ sym o.put.offset, p.put.bytes ∙ sym o.put.bytes)

-- the first r bytes are what the job prints
pub front_is : (s : List ℕ) {r : ℕ} {was out : List ℕ} → OUT_BYTES ≤ length was → Prints r was out (print_of s) → take r out ≡ print_of s
front_is s {r} {was} {out} h p =
    ap (take r) (p.put.bytes ∙ sets-eq (print_of s) was 0 (omega (arith, print_fits s)))
    ∙ take_at (print_of s) (drop (0 + length (print_of s)) was) r (omega (arith, p.put.offset))
