-- The documents of a collection, in the order of the keys of their _ids.
use Rattle.std.specs.Prelude.{List, [], map as each, Option, Some, None}
use Rattle.std.specs.FinMap as map
use Rattle.bson_value.specs.declared.value.Value.{Value, Value-F, Null, out-Value}
use Rattle.state_model.specs.States.{Collection}
use Rattle.coll_state.specs.Rows.{id_of}
use Rattle.index_keys.specs.Keys.{Fields}

abbrev pub fields_at : Value-F Value → Fields
fields_at (Value-F.Object fs) = fs
fields_at _ = []

-- the fields of a document that stands as a value
abbrev pub fields : Value → Fields
fields v = fields_at (out-Value v)

abbrev pub documents : Collection → List Fields
documents c = each fields (map.values c.documents)

abbrev pub or_null : Option Value → Value
or_null None = Null
or_null (Some v) = v

-- the _id of a document
abbrev pub id : Fields → Value
id d = or_null (id_of d)
