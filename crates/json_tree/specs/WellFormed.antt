-- What the types hold at every level of a value: numbers by the grammar, texts in UTF-8, distinct names.
use Rattle.std.specs.Prelude.{◌≡◌, ℕ, true, List}
use Rattle.std.specs.List.{AllByRecursion}
use Rattle.std.specs.Str.{is_utf8}
use Rattle.containers.specs.Entries.{AreDistinct, names_of}
use Rattle.json_tree.specs.declared.tree.Tree.{Tree, every-Tree}
use Rattle.json_tree.specs.declared.tree.Tree.TheOpen.{Tree-F}
use Rattle.json_tree.specs.Numbers.{IsNumber}

-- distinct names in UTF-8
abbrev pub AreNames : List (List ℕ × Tree) → Type 0
AreNames es = AreDistinct (names_of es) × AllByRecursion (λ e. is_utf8 e.0 ≡ true) es

-- one level of a value
abbrev pub IsWellFormedLevel : Tree-F Tree → Type 0
IsWellFormedLevel (Tree-F.Number t) = IsNumber t
IsWellFormedLevel (Tree-F.Str t) = is_utf8 t ≡ true
IsWellFormedLevel (Tree-F.Object es) = AreNames es
IsWellFormedLevel _ = Unit {0}

abbrev pub IsWellFormed : Tree → Type 0
IsWellFormed t = every-Tree IsWellFormedLevel t

abbrev pub AreWellFormedItems : List Tree → Type 0
AreWellFormedItems ts = AllByRecursion IsWellFormed ts

abbrev pub AreWellFormedFields : List (List ℕ × Tree) → Type 0
AreWellFormedFields es = AllByRecursion (λ e. IsWellFormed e.1) es

-- a name in UTF-8, and a value
unfoldable pub IsWellFormedEntry : List ℕ × Tree → Type 0
IsWellFormedEntry e = (is_utf8 e.0 ≡ true) × IsWellFormed e.1

abbrev pub AreWellFormedEntries : List (List ℕ × Tree) → Type 0
AreWellFormedEntries es = AllByRecursion IsWellFormedEntry es
