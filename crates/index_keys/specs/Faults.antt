-- The two fields of a plan that a fault names.
use Rattle.std.specs.Prelude.{◌≡◌, ℕ, List, ◌∷◌, Option, Some, option_map}
use Rattle.std.specs.List.{join_with_byte, flat_map}
use Rattle.doc_path.specs.Paths.{dot, parts_of}
use Rattle.index_keys.specs.Branches.{Path}
use Rattle.index_keys.specs.declared.fault.KeyFault.{KeyFault}
use Rattle.index_keys.specs.declared.fault.KeyFault.TheVariants as faults

-- the text of a path: its names with dots between them
abbrev pub dotted : Path → List ℕ
dotted path = join_with_byte dot path

-- names, each behind a dot
abbrev pub behind_dots : List (List ℕ) → List ℕ
behind_dots names = flat_map (λ name. dot ∷ name) names

abbrev pub both_dotted : Path × Path → List ℕ × List ℕ
both_dotted two = (dotted two.0, dotted two.1)

-- the fault names the two fields that meet an array, unless memory ran out
abbrev pub IsKeyFault : KeyFault → Option (Path × Path) → Type 0
IsKeyFault faults.NoMemory two = Unit {0}
IsKeyFault (faults.ParallelArrays first second) two = option_map both_dotted two ≡ Some (first, second)

-- the law that the text of a path is the one it was read from
abbrev pub DottedParts : Type 0
DottedParts = (text : List ℕ) → dotted (parts_of text) ≡ text
