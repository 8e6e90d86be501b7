-- The prints of well-formed values are texts.
use Rattle.std.specs.Prelude.{◌≡◌, ℕ, ◌+◌, ◌*◌, ◌≤◌, true, List, length}
use Rattle.std.specs.Str.{is_utf8}
use Rattle.json_tree.specs.declared.tree.Tree.{Tree}
use Rattle.json_tree.specs.declared.tree.Tree.TheVariants.{Str}
use Rattle.json_tree.specs.WellFormed.{IsWellFormed}
use Rattle.json_text.specs.Print.{text_of}

abbrev pub PrintsAreTexts : Type 0
PrintsAreTexts = (t : Tree) → IsWellFormed t → is_utf8 (text_of t) ≡ true

-- no byte of a string takes more than six
abbrev pub StringsAreShort : Type 0
StringsAreShort = (t : List ℕ) → length (text_of (Str t)) ≤ 6 * length t + 2
