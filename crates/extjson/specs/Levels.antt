-- The laws on levels: a tree has at most two for each level of its value, and three more for a value in wrappers;
-- and plain numbers that become wrappers add one at most, and take none away.
use Rattle.std.specs.Prelude.{◌+◌, ◌*◌, ◌≤◌}
use Rattle.bson_value.specs.declared.value.Value.{Value}
use Rattle.bson_value.specs.Levels.{levels_in}
use Rattle.json_tree.specs.declared.tree.Tree.{Tree}
use Rattle.json_tree.specs.Levels.{levels_of}
use Rattle.extjson.specs.Trees.{tree_of}
use Rattle.extjson.specs.Plain.{wrapped_numbers}

abbrev pub TreesAreShallow : Type 0
TreesAreShallow = (v : Value) → levels_of (tree_of v) ≤ 2 * levels_in v + 3

abbrev pub WrappedAreShallow : Type 0
WrappedAreShallow = (t : Tree) → (levels_of t ≤ levels_of (wrapped_numbers t)) × (levels_of (wrapped_numbers t) ≤ levels_of t + 1)
