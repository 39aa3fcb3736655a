-- A schedule that ends every operation, as a function that can be run: which lane goes next, and for how many steps.
-- Assumes nothing.
use Rattle.std.specs.Prelude.{List, [], ◌++◌, cond, ℕ, zero, suc, ◌*◌, eqb, leb, replicate}
use Rattle.lists.specs.Below.{all_below, first_below}
use Rattle.places.specs.declared.Sizes.{Sizes}
use Rattle.locks.specs.declared.Grab.{Grab}
use Rattle.locks.specs.Locks.{lock_at}
use Rattle.locks.specs.Turns.{top_urgency, grab_urgency, grab_turns}
use Rattle.paths.specs.declared.Place.{Place}
use Rattle.machine.specs.declared.Act.{Act}
use Rattle.machine.specs.declared.Act.TheVariants.{Try}
use Rattle.machine.specs.declared.Lane.{Lane}
use Rattle.machine.specs.declared.Lane.TheVariants.{Idle, Busy}
use Rattle.machine.specs.Back.{lane_at}
use Rattle.machine.specs.Stages.{act_of}
use Rattle.machine.specs.Standing.{Table, last_at}
use Rattle.finish.specs.Finish.{Call, after_all, step_bound}

-- a number for an act: of one that takes a lock, of any other
abbrev pub on_act : Act → (ℕ → Grab → ℕ) → ℕ → ℕ
on_act (Try k g) taking other = taking k g
on_act a taking other = other

-- a lane that takes no lock comes before all that wait for one
abbrev pub act_urgency : Sizes → List ℕ → Act → ℕ
act_urgency z ls a = on_act a (λ k g. grab_urgency z (lock_at z ls k) k g) (top_urgency z)

-- how many steps an act is given
abbrev pub act_turns : Sizes → List ℕ → Act → ℕ
act_turns z ls a = on_act a (λ k g. grab_turns (lock_at z ls k) g) 1

-- how urgent a lane's next step is: 0 for an idle lane
abbrev pub lane_urgency : Sizes → List ℕ → Lane → Place → ℕ
lane_urgency z ls Idle last = 0
lane_urgency z ls (Busy k) last = act_urgency z ls (act_of z k last)

abbrev pub urgency : Sizes → Table → ℕ → ℕ
urgency z t j = lane_urgency z t.locks (lane_at t.lanes j) (last_at t j)

-- how many steps it is given
abbrev pub lane_turns : Sizes → List ℕ → Lane → Place → ℕ
lane_turns z ls Idle last = 1
lane_turns z ls (Busy k) last = act_turns z ls (act_of z k last)

-- the first lane that none is more urgent than
unfoldable pub chosen : Sizes → Table → ℕ
chosen z t = first_below z.lanes (λ i. all_below z.lanes (λ j. leb (urgency z t j) (urgency z t i)))

-- a lane by itself for n steps; "The byte is used by pick steps only", and 0 will do
abbrev pub alone : ℕ → ℕ → List Call
alone n j = replicate n (record { lane = j; byte = 0 })

-- its turn
abbrev pub turn_of : Sizes → Table → ℕ → List Call
turn_of z t j = alone (lane_turns z t.locks (lane_at t.lanes j) (last_at t j)) j

-- n turns, or fewer if every lane is idle before
unfoldable pub turns : ℕ → Sizes → Table → List Call
turns zero z t = []
turns (suc n) z t =
    cond (eqb (urgency z t (chosen z t)) 0) []
    (turn_of z t (chosen z t) ++ turns n z (after_all z t (turn_of z t (chosen z t))))

-- turns enough for every lane
abbrev pub schedule_for : Sizes → Table → List Call
schedule_for z t = turns (step_bound z * z.lanes) z t
