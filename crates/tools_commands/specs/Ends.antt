-- The ends that a call is lent, before and after it.
use Rattle.std.specs.Prelude.{◌≡◌, ◌⊎◌, ℕ, List}
use Rattle.std.specs.Io.KnownBytes.{Appends, Keeps}
use Rattle.tool_io.specs.Causes.{Rose, AppendsFront}
use Rattle.tool_io.specs.Ends.{End}

-- an end before and after a call
pub record Turn : Type 0 where
  pub before : End
  pub after : End

abbrev pub turn : End → End → Turn
turn old new = record { before = old; after = new }

-- nothing was read or written
abbrev pub Same : Turn → Type 0
Same t = Keeps t.before.bytes t.after.bytes

-- nothing was done at all
abbrev pub Untouched : Turn → Type 0
Untouched t = t.after ≡ t.before

-- the count of faults rose
abbrev pub Failed : Turn → Type 0
Failed t = Rose t.before.faults t.after.faults

-- just these bytes were written
abbrev pub Writes : Turn → List ℕ → Type 0
Writes t bytes = Appends t.before.bytes t.after.bytes bytes

-- some front of these bytes was written
abbrev pub WritesFront : Turn → List ℕ → Type 0
WritesFront t bytes = AppendsFront t.before.bytes t.after.bytes bytes

-- this line was written, or some front of it where a write failed
abbrev pub Tells : Turn → List ℕ → Type 0
Tells t line = Writes t line ⊎ (WritesFront t line × Failed t)
