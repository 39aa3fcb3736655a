-- A grab in the schedule that ends every operation: how urgent it is, how many steps it is given, and what it weighs.
use Rattle.std.specs.Prelude.{ℕ, ◌+◌, ◌*◌, cond, eqb, Option, Some, None}
use Rattle.places.specs.declared.Sizes.{Sizes}
use Rattle.locks.specs.declared.Lock.{Lock}
use Rattle.locks.specs.declared.Grab.{Grab}
use Rattle.locks.specs.declared.Grab.TheVariants.{R1, R2, R3, R4, W1, W2}
use Rattle.locks.specs.Locks.{main_lock}

-- the order in which a lane takes its locks: main, then row locks by number
abbrev pub rank_of : Sizes → ℕ → ℕ
rank_of z k = cond (eqb k (main_lock z)) 0 (k + 1)

-- above the urgency of every grab that may have to wait
abbrev pub top_urgency : Sizes → ℕ
top_urgency z = 2 * main_lock z + 3

-- a grab that goes on by itself comes before all others; then the higher its lock, and, at one lock, who has set the flag
unfoldable pub grab_urgency : Sizes → Lock → ℕ → Grab → ℕ
grab_urgency z w k R1 = 2 * rank_of z k + 1
grab_urgency z w k (R2 noted) = cond (eqb noted w.count) (2 * rank_of z k + 1) (top_urgency z)
grab_urgency z w k R3 = top_urgency z
grab_urgency z w k R4 = top_urgency z
grab_urgency z w k W1 = 2 * rank_of z k + 1
grab_urgency z w k W2 = 2 * rank_of z k + 2

-- how many steps a grab is given when its turn comes
unfoldable pub grab_turns : Lock → Grab → ℕ
grab_turns w R1 = 3
grab_turns w (R2 noted) = cond (eqb noted w.count) 2 1
grab_turns w R3 = 1
grab_turns w R4 = 1
grab_turns w W1 = 1
grab_turns w W2 = 1

-- what taking a lock weighs on top of the stage that it leads to
unfoldable pub grab_weight : Grab → ℕ
grab_weight R1 = 3
grab_weight (R2 noted) = 4
grab_weight R3 = 5
grab_weight R4 = 4
grab_weight W1 = 2
grab_weight W2 = 1

-- the most that a first grab weighs, and the most that any does
abbrev pub first_weight : ℕ
first_weight = 3

abbrev pub most_weight : ℕ
most_weight = 5

-- what the lock's answer leaves of it
abbrev pub tried_weight : Option Grab → ℕ
tried_weight None = 0
tried_weight (Some g) = grab_weight g
