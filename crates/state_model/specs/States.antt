-- States: collections by their names.
use Rattle.std.specs.Prelude.{[], Option, Some, None}
use Rattle.std.specs.FinMap as map
use Rattle.bson_value.specs.declared.value.Value.{Value}
use Rattle.bson_value.specs.NamespaceOrder.{namespace_cmp}
use Rattle.json_tree.specs.declared.tree.Tree.{Tree}
use Rattle.json_tree.specs.declared.tree.Tree.TheVariants as trees
use Rattle.state_model.specs.Keys.{key_cmp}

-- options, the definitions of indexes by name, and documents by the key of their _id
pub record Collection : Type 0 where
  pub options : Tree
  pub indexes : map.FinMap key_cmp Tree
  pub documents : map.FinMap key_cmp Value

abbrev pub State : Type 0
State = map.FinMap namespace_cmp Collection

-- the options of a collection that is made by a document
abbrev pub no_options : Tree
no_options = trees.Object []

abbrev pub fresh_collection : Tree → Collection
fresh_collection o = record { options = o; indexes = map.empty; documents = map.empty }

-- the collection that is there, or else an empty one
abbrev pub or_fresh : Option Collection → Collection
or_fresh None = fresh_collection no_options
or_fresh (Some c) = c
