-- 01, "Steps": how a lock is taken, step by step, and released. Which grabs there are goes by the table's kind of lock; there is one kind.
use Rattle.std.specs.Prelude.{ℕ, ◌+◌, ◌-◌, cond, eqb, Some, None}
use Rattle.places.specs.declared.Sizes.{Sizes}
use Rattle.locks.specs.declared.Lock.{Lock}
use Rattle.locks.specs.declared.Mode.{Mode}
use Rattle.locks.specs.declared.Mode.TheVariants.{Reading, Writing}
use Rattle.locks.specs.declared.Grab.{Grab}
use Rattle.locks.specs.declared.Grab.TheVariants.{R1, R2, R3, R4, W1, W2}
use Rattle.locks.specs.declared.AfterTry.{AfterTry}

-- a lock with another flag, and with another count
abbrev pub with_flag : Lock → ℕ → Lock
with_flag w f = record { flag = f; count = w.count }

abbrev pub with_count : Lock → ℕ → Lock
with_count w c = record { flag = w.flag; count = c }

-- a step that takes the lock, and one after which the lane is still at it
abbrev pub held : Lock → AfterTry
held w = record { lock = w; tried = None }

abbrev pub waits : Lock → Grab → AfterTry
waits w g = record { lock = w; tried = Some g }

-- how taking a lock begins: at R1 for reading, at W1 for writing
unfoldable pub grab_of : Sizes → Mode → Grab
grab_of z Reading = R1
grab_of z Writing = W1

-- what a grab takes its lock for
unfoldable pub grab_mode : Grab → Mode
grab_mode R1 = Reading
grab_mode (R2 noted) = Reading
grab_mode R3 = Reading
grab_mode R4 = Reading
grab_mode W1 = Writing
grab_mode W2 = Writing

-- "R1 note the count. R2 if it is still that, add 1, else R1. R3 if the flag is clear the lock is held, else R4. R4 subtract 1,
-- back to R1." "W1 if the flag is clear set it, else stay. W2 if the count is 0 the lock is held, else stay."
unfoldable pub try_lock : Sizes → Grab → Lock → AfterTry
try_lock z R1 w = waits w (R2 w.count)
try_lock z (R2 noted) w = cond (eqb noted w.count) (waits (with_count w (w.count + 1)) R3) (waits w R1)
try_lock z R3 w = cond (eqb w.flag 0) (held w) (waits w R4)
try_lock z R4 w = waits (with_count w (w.count - 1)) R1
try_lock z W1 w = cond (eqb w.flag 0) (waits (with_flag w 1) W2) (waits w W1)
try_lock z W2 w = cond (eqb w.count 0) (held w) (waits w W2)

-- "Release: subtract 1, or clear the flag"
unfoldable pub released : Sizes → Mode → Lock → Lock
released z Reading w = with_count w (w.count - 1)
released z Writing w = with_flag w 0
