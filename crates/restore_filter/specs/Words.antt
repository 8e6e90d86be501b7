-- The same as relations: which names are taken, and which name is the new one.
use Rattle.std.specs.Prelude.{◌≡◌, ℕ, ◌⊎◌, List, [], ◌∷◌, Option, Some, None}
use Rattle.bson_value.specs.declared.namespace.NsName.{NsName}
use Rattle.bson_value.specs.Namespace.{IsSplit}
use Rattle.ns_patterns.specs.Literals.{Literals}
use Rattle.ns_patterns.specs.Matches.{Matches, Renamed}
use Rattle.restore_filter.specs.Rules.{Rules}
use Rattle.restore_filter.specs.Names.{text_of}

-- ---- what is taken

abbrev pub AnyMatches : List Literals → List ℕ → Type 0
AnyMatches [] t = ⊥
AnyMatches (p ∷ ps) t = Matches p t ⊎ AnyMatches ps t

-- some pattern takes it, or there is none that takes; and no pattern leaves it
abbrev pub IsTaken : Rules → NsName → Type 0
IsTaken r n = ((r.include ≡ []) ⊎ AnyMatches r.include (text_of n)) × (AnyMatches r.exclude (text_of n) → ⊥)

-- ---- new names

-- what the first pair makes of a text that matches it, or nothing where none does
abbrev pub IsNewText : List (Literals × Literals) → List ℕ → Option (List ℕ) → Type 0
IsNewText [] t o = o ≡ None
IsNewText (p ∷ ps) t (Some new) = Renamed p.0 p.1 t new ⊎ ((Matches p.0 t → ⊥) × IsNewText ps t (Some new))
IsNewText (p ∷ ps) t None = (Matches p.0 t → ⊥) × IsNewText ps t None

-- the namespace that a text names, or else the old one
abbrev pub IsNamed : NsName → Option (List ℕ) → NsName → Type 0
IsNamed n None m = m ≡ n
IsNamed n (Some t) m = IsSplit t m.db m.coll ⊎ (((db coll : List ℕ) → IsSplit t db coll → ⊥) × (m ≡ n))

abbrev pub IsNewName : Rules → NsName → NsName → Type 0
IsNewName r n m = (o : Option (List ℕ)) × IsNewText r.renames (text_of n) o × IsNamed n o m
