-- The name of an index definition.
use Rattle.std.specs.Prelude.{[], codes, Option, Some, None}
use Rattle.containers.specs.Entries.{lookup}
use Rattle.json_tree.specs.declared.tree.Tree.{Tree, Tree-F, out-Tree}
use Rattle.state_model.specs.Keys.{Key}

abbrev pub text_in : Tree-F Tree → Key
text_in (Tree-F.Str t) = t
text_in _ = []

abbrev pub text_of : Option Tree → Key
text_of None = []
text_of (Some t) = text_in (out-Tree t)

abbrev pub name_in : Tree-F Tree → Key
name_in (Tree-F.Object fs) = text_of (lookup (codes "name") fs)
name_in _ = []

-- the text of its field `name`
unfoldable pub definition_name : Tree → Key
definition_name d = name_in (out-Tree d)
