-- What a listing shows of a state: its collections in the order of their names, the definitions and documents of each in the order of their keys, and the fields of each document in order at every level.
use Rattle.std.specs.Prelude.{List, map as each}
use Rattle.std.specs.FinMap as map
use Rattle.bson_value.specs.declared.namespace.NsName.{NsName}
use Rattle.bson_value.specs.declared.value.Value.{Value}
use Rattle.bson_value.specs.Alike.{ordered}
use Rattle.json_tree.specs.declared.tree.Tree.{Tree}
use Rattle.state_model.specs.Keys.{Key}
use Rattle.state_model.specs.States.{State, Collection}

pub record ShownCollection : Type 0 where
  pub options : Tree
  pub indexes : List (Key × Tree)
  pub documents : List (Key × Value)

abbrev pub shown_document : Key × Value → Key × Value
shown_document e = (e.0, ordered e.1)

abbrev pub shown_collection : Collection → ShownCollection
shown_collection c = record {
  options = c.options;
  indexes = map.entries c.indexes;
  documents = each shown_document (map.entries c.documents);
}

abbrev pub shown : State → List (NsName × ShownCollection)
shown s = each (λ (e : NsName × Collection). (e.0, shown_collection e.1)) (map.entries s)
