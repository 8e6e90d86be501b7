-- What a call answers where it reads, and where memory ends.
use Rattle.std.specs.Prelude.{◌≡◌, Ok, Err}
use Rattle.entry_model.specs.declared.fault.EntryFault.{EntryFault}
use Rattle.entry_model.specs.declared.fault.EntryFault.TheVariants.{NoMemory}
use Rattle.entry_model.specs.Reading.{Read}

-- this fault, unless memory ran out
abbrev pub IsFault : EntryFault → EntryFault → Type 0
IsFault NoMemory e = Unit {0}
IsFault x e = x ≡ e

-- what is read ends with this fault, unless memory ran out
abbrev pub Fails : {A : Type 0} → EntryFault → Read A → Type 0
Fails NoMemory r = Unit {0}
Fails x r = r ≡ Err x

-- what is read, or its first fault, unless memory ran out
abbrev pub Gives : {A : Type 0} → Read A → Read A → Type 0
Gives (Ok a) r = r ≡ Ok a
Gives (Err x) r = Fails x r
