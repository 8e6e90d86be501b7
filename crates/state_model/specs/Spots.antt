-- The places of a state, and what stands at each.
use Rattle.std.specs.Prelude.{Option, Some, None, option_map}
use Rattle.std.specs.FinMap as map
use Rattle.bson_value.specs.declared.namespace.NsName.{NsName}
use Rattle.bson_value.specs.Place.{Place, Shape, look}
use Rattle.json_tree.specs.declared.tree.Tree.{Tree}
use Rattle.state_model.specs.Keys.{Key}
use Rattle.state_model.specs.States.{State, Collection}

-- a place in a collection: its options, a definition by its name, or a place of a document
pub data Inner : Type 0 where
  Options : Inner
  Index : Key → Inner
  Document : Key → Place → Inner

-- a collection, or a place in it
pub data Spot : Type 0 where
  Namespace : NsName → Spot
  Inside : NsName → Inner → Spot

-- what may stand at a place: a collection, options or a definition, or a kind of value or a leaf
pub data Mark : Type 0 where
  here : Mark
  tree : Tree → Mark
  kind : Shape → Mark

abbrev pub stands_in : Collection → Inner → Option Mark
stands_in c Options = Some (tree c.options)
stands_in c (Index i) = option_map tree (map.get c.indexes i)
stands_in c (Document i q) = option_map kind (look (map.get c.documents i) q)

abbrev pub stands_at : Option Collection → Inner → Option Mark
stands_at None p = None
stands_at (Some c) p = stands_in c p

abbrev pub stands : State → Spot → Option Mark
stands s (Namespace n) = option_map (λ c. here) (map.get s n)
stands s (Inside n p) = stands_at (map.get s n) p
