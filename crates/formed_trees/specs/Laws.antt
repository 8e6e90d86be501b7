-- The trees of well-formed values.
use Rattle.bson_value.specs.declared.value.Value.{Value}
use Rattle.bson_value.specs.WellFormed.{IsWellFormed}
use Rattle.json_tree.specs.WellFormed.{IsWellFormed as IsWellFormedTree}
use Rattle.extjson.specs.Trees.{tree_of}

abbrev pub TreesAreFormed : Type 0
TreesAreFormed = (v : Value) → IsWellFormed v → IsWellFormedTree (tree_of v)
