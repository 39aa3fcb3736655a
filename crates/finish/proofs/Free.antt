-- The lock that the chosen lane waits for is free for it.
-- Assumes nothing.
use mathlib.Core.Path.{◌≡◌}
use Prim.Native.Nat.{ℕ, ◌+◌, ◌*◌, ◌<◌}
use native.Mathlib.Omega.{arith}
use Rattle.lists.proofs.Sums.{sum_none}
use Rattle.places.specs.declared.Sizes.{Sizes}
use Rattle.places.specs.Table.{Fits}
use Rattle.places.proofs.Limits.{ok_fits}
use Rattle.locks.specs.declared.Grab.{Grab}
use Rattle.locks.specs.Locks.{lock_at}
use Rattle.locks.specs.Turns.{grab_urgency}
use Rattle.locks.proofs.Turns.{Clear, urgent_clear}
use Rattle.paths.specs.Path.{place_at, last_of}
use Rattle.machine.specs.Back.{lane_at}
use Rattle.machine.specs.Standing.{Table, last_at}
use Rattle.kept.specs.Runs.{Stood}
use Rattle.kept.proofs.Facts.{parts}
use Rattle.kept.proofs.Checked.{StandsIn, standing_facts}
use Rattle.finish.specs.Schedule.{urgency, chosen}
use Rattle.finish.proofs.Highest.{no_share}
use Rattle.finish.proofs.Chosen.{chosen_most}
use Rattle.finish.proofs.Taken.{ranges}

module _ (z : Sizes) (t : Table) (st : Stood z t) (k : ℕ) (hk : k < z.locks + 1) where
  fits : Fits z
  fits = ok_fits z st.sizes

  facts : StandsIn z t
  facts = (standing_facts z t st.stands).stands

  -- no lane is more urgent
  pub clear : (g : Grab) → urgency z t (chosen z t) ≡ grab_urgency z (lock_at z t.locks k) k g → Clear z g (lock_at z t.locks k)
  unfolding last_of
  clear g e =
      urgent_clear z (lock_at z t.locks k) k hk (λ f. parts z f (lane_at t.lanes) (place_at t.path) k) (facts.locks k hk) g (λ w f μ calm.
      sum_none z.lanes _ (λ j h.
      no_share z fits k t.locks g w (last_at t j) f μ calm (lane_at t.lanes j) (ranges z t st j h) (omega (arith, e, chosen_most z t fits.lanes_low j h))))
