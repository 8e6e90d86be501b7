-- The law that a metadata text means the options and definitions that it was written of.
use Rattle.std.specs.Prelude.{◌≡◌, ℕ, ◌≤◌, true, List, [], ◌∷◌, Some, Ok, codes}
use Rattle.std.specs.Ordering.{nat_cmp}
use Rattle.std.specs.declared.cmp.Ordering.TheVariants.{Greater}
use Rattle.std.specs.Cmp.Lexicographic.{slice_cmp}
use Rattle.std.specs.List.{AllByRecursion}
use Rattle.std.specs.Str.{is_utf8}
use Rattle.json_tree.specs.declared.tree.Tree.{Tree}
use Rattle.json_tree.specs.Levels.{levels_of, items_levels}
use Rattle.json_tree.specs.WellFormed.{IsWellFormed, AreWellFormedItems}
use Rattle.json_text.specs.Print.{text_of}
use Rattle.json_text.specs.Reading.{tree_of_text}
use Rattle.extjson.specs.Plain.{wrapped_numbers}
use Rattle.metadata_text.specs.Metadata.{Named, is_object, named, metadata_tree, metadata_of}

-- each of these comes behind this name
abbrev pub AllBehind : List ℕ → Named → Type 0
AllBehind n es = AllByRecursion (λ e. slice_cmp nat_cmp e.0 n ≡ Greater) es

-- the names rise in the order of their bytes
abbrev pub AreRising : Named → Type 0
AreRising [] = Unit {0}
AreRising (e ∷ es) = AllBehind e.0 es × AreRising es

-- none is the index on `_id`
abbrev pub AreOthers : Named → Type 0
AreOthers es = AllByRecursion (λ e. e.0 ≡ codes "_id_" → ⊥) es

-- options that are an object without plain whole numbers, and definitions with names that rise and aren't `_id_`, as `metadata_of` gives them
pub record AreNormal (options : Tree) (defs : List Tree) : Type 0 where
  pub object : is_object options ≡ true
  pub wrapped : wrapped_numbers options ≡ options
  pub names : Named
  pub named_so : named defs ≡ Some names
  pub rising : AreRising names
  pub others : AreOthers names

-- so few levels that the text has at most 256
pub record AreShallow (options : Tree) (defs : List Tree) : Type 0 where
  pub options_levels : levels_of options ≤ 255
  pub defs_levels : items_levels defs ≤ 254

-- a text of at most 255 levels, where it is JSON
abbrev pub HasRoom : List ℕ → Type 0
HasRoom text = (t : Tree) → tree_of_text text ≡ Ok t → levels_of t ≤ 255

abbrev pub WrittenIsRead : Type 0
WrittenIsRead = (coll : List ℕ) (options : Tree) (defs : List Tree) → is_utf8 coll ≡ true → IsWellFormed options → AreWellFormedItems defs → AreShallow options defs → AreNormal options defs → metadata_of (text_of (metadata_tree coll options defs)) ≡ Ok (options, defs)
