-- Demand 3's plain map from strokes to values, and what operations do to it.
-- Assumes nothing.
use Rattle.std.specs.Prelude.{◌≡◌, ◌⊎◌, Bool, true, false, cond, ℕ, eqb, Option, None, Some}
use Rattle.linear.specs.declared.Request.{Request}
use Rattle.linear.specs.declared.Request.TheVariants.{Read, Delete, Insert}
use Rattle.linear.specs.declared.End.{End}
use Rattle.linear.specs.declared.End.TheVariants.{ReadNone, ReadValue, Deleted, InsertYes, InsertSearched, InsertWalked}

-- the value of each key that has one
abbrev pub Bindings : Type 0
Bindings = ℕ → Option ℕ

-- key is bound to this, or to nothing; every other key as before
unfoldable pub binds : Bindings → ℕ → Option ℕ → Bindings
binds m key b k = cond (eqb k key) b (m k)

-- "a no from insert"
abbrev pub is_no : End → Bool
is_no ReadNone = false
is_no (ReadValue value) = false
is_no Deleted = false
is_no InsertYes = false
is_no InsertSearched = true
is_no InsertWalked = true

-- how an operation ended, if it did: was it a no? "an unfinished insert put there counts as a yes"
abbrev pub said_no : Option End → Bool
said_no None = false
said_no (Some ans) = is_no ans

-- the map after an operation that ended so: "a no from insert leaves that map alone"
abbrev pub after : Request → Option End → Bindings → Bindings
after (Read key) end m = m
after (Delete key) end m = binds m key None
after (Insert key value) end m = cond (said_no end) m (binds m key (Some value))

-- the answer to a read
abbrev pub found : Option ℕ → End
found None = ReadNone
found (Some value) = ReadValue value

-- the map gives this answer. An insert may say no at any time
abbrev pub Gives : Request → End → Bindings → Type 0
Gives (Read key) ans m = ans ≡ found (m key)
Gives (Delete key) ans m = ans ≡ Deleted
Gives (Insert key value) ans m = (ans ≡ InsertYes) ⊎ (is_no ans ≡ true)
