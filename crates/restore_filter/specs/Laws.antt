-- What the functions of a filter mean.
use Rattle.std.specs.Prelude.{◌≡◌, ◌↔◌, ℕ, true, List, [], Some}
use Rattle.bson_value.specs.declared.namespace.NsName.{NsName}
use Rattle.ns_patterns.specs.Literals.{Literals}
use Rattle.ns_patterns.specs.Matches.{Matches, IsShortest, Renamed}
use Rattle.restore_filter.specs.Rules.{Rules}
use Rattle.restore_filter.specs.Texts.{matches, shortest, renamed}
use Rattle.restore_filter.specs.Names.{takes, new_name}
use Rattle.restore_filter.specs.Words.{IsTaken, IsNewName}

abbrev pub MatchesAreFound : Type 0
MatchesAreFound = (p : Literals) (t : List ℕ) → (matches p t ≡ true) ↔ Matches p t

-- the shortest texts are found, and no others are the shortest
abbrev pub ShortestIsFound : Type 0
ShortestIsFound = (p : Literals) (t : List ℕ) (ts : List (List ℕ)) → (shortest p t ≡ Some ts) ↔ IsShortest p t ts

abbrev pub OneIsShortest : Type 0
OneIsShortest = (p : Literals) (t : List ℕ) (ts us : List (List ℕ)) → IsShortest p t ts → IsShortest p t us → ts ≡ us

abbrev pub RenamedIsFound : Type 0
RenamedIsFound = (from to : Literals) (t new : List ℕ) → (renamed from to t ≡ Some new) ↔ Renamed from to t new

abbrev pub TakenIsFound : Type 0
TakenIsFound = (r : Rules) (n : NsName) → (takes r n ≡ true) ↔ IsTaken r n

abbrev pub NewNameIsFound : Type 0
NewNameIsFound = (r : Rules) (n m : NsName) → (m ≡ new_name r n) ↔ IsNewName r n m

abbrev pub NamesStay : Type 0
NamesStay = (r : Rules) (n : NsName) → r.renames ≡ [] → new_name r n ≡ n
