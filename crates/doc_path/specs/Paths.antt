-- The names of a path, and the first fault of a text that is none.
use Rattle.std.specs.Prelude.{◌≡◌, ◌==◌, ℕ, List, [], ◌∷◌, Option, Some, None, if◌then◌else◌}
use Rattle.std.specs.List.{slice_split, list_any}
use Rattle.doc_path.specs.declared.path.PathFault.{PathFault}
use Rattle.doc_path.specs.declared.path.PathFault.TheVariants as faults

abbrev pub dot : ℕ
dot = 46

abbrev pub dollar : ℕ
dollar = 36

-- the texts between the dots
abbrev pub parts_of : List ℕ → List (List ℕ)
parts_of text = slice_split (λ b. b == dot) text

-- what is wrong with a part, the first of these
abbrev pub part_fault : List ℕ → Option PathFault
part_fault [] = Some faults.EmptyPart
part_fault (c ∷ cs) = if c == dollar then Some faults.Dollar else if list_any (λ b. b == 0) (c ∷ cs) then Some faults.Zero else None

abbrev pub first_of : Option PathFault → Option PathFault → Option PathFault
first_of (Some e) later = Some e
first_of None later = later

-- what is wrong with the first bad part
abbrev pub first_fault : List (List ℕ) → Option PathFault
first_fault [] = None
first_fault (part ∷ parts) = first_of (part_fault part) (first_fault parts)

abbrev pub path_fault : List ℕ → Option PathFault
path_fault [] = Some faults.Empty
path_fault (c ∷ cs) = first_fault (parts_of (c ∷ cs))

-- the error is this fault, unless memory ran out
abbrev pub IsFault : PathFault → Option PathFault → Type 0
IsFault faults.NoMemory first = Unit {0}
IsFault e first = first ≡ Some e
