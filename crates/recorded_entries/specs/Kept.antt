-- What holds of the rows that stand.
use Rattle.std.specs.Prelude.{⊤, ◌≡◌, ◌≤◌, List, [], ◌∷◌, Some}
use Rattle.std.specs.FinMap as map
use Rattle.bson_value.specs.declared.namespace.NsName.{NsName}
use Rattle.bson_value.specs.declared.value.Value.{Value}
use Rattle.bson_encode.specs.Key.{key_of}
use Rattle.json_tree.specs.declared.tree.Tree.{Tree}
use Rattle.state_model.specs.Keys.{Key}
use Rattle.coll_state.specs.Rows.{Document as Fields, Row, Table, Rows}
use Rattle.coll_state.specs.Definitions.{definition_name}
use Rattle.history_model.specs.Documents.{options_of}
use Rattle.recorded_entries.specs.Good.{IsGoodName, IsGoodDocument, IsGoodOptions, IsGoodDefinition}

-- a document under the key of its `_id`
abbrev pub IsKeptRow : Row → Type 0
IsKeptRow w = (id : Value) × IsGoodDocument id w.document × (w.key ≡ key_of id)

abbrev pub AreKeptRows : List Row → Type 0
AreKeptRows [] = ⊤
AreKeptRows (w ∷ ws) = IsKeptRow w × AreKeptRows ws

abbrev pub IsKeptOptions : Tree → Type 0
IsKeptOptions t = (o : Fields) × IsGoodOptions o × (t ≡ options_of o)

pub record IsKeptTable (t : Table) : Type 0 where
  pub options : IsKeptOptions t.options
  pub indexes : (i : Key) (d : Tree) → map.get t.indexes i ≡ Some d → IsGoodDefinition d × (definition_name d ≡ i)
  pub few : map.len t.indexes ≤ 63
  pub rows : AreKeptRows t.rows

-- good names, and what their collections hold
abbrev pub AreKept : Rows → Type 0
AreKept r = (n : NsName) (t : Table) → map.get r.tables n ≡ Some t → IsGoodName n × IsKeptTable t
