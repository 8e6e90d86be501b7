-- The law that the print of a value is a text of the grammar, and is read as the value.
use Rattle.std.specs.Prelude.{◌≡◌, ◌≤◌, Ok}
use Rattle.json_tree.specs.declared.tree.Tree.{Tree}
use Rattle.json_tree.specs.Levels.{levels_of}
use Rattle.json_tree.specs.WellFormed.{IsWellFormed}
use Rattle.json_text.specs.Grammar.{Json}
use Rattle.json_text.specs.Print.{text_of}
use Rattle.json_text.specs.Reading.{tree_of_text}

abbrev pub PrintIsJson : Type 0
PrintIsJson = (t : Tree) → IsWellFormed t → levels_of t ≤ 256 → Json (text_of t) t

abbrev pub PrintIsRead : Type 0
PrintIsRead = (t : Tree) → IsWellFormed t → levels_of t ≤ 256 → tree_of_text (text_of t) ≡ Ok t
