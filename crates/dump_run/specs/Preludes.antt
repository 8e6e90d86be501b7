-- The metadata of the collections of a state, by their names.
use Rattle.std.specs.Prelude.{ℕ, List, [], Option, Some, None}
use Rattle.std.specs.FinMap as map
use Rattle.bson_value.specs.declared.namespace.NsName.{NsName}
use Rattle.json_text.specs.Print.{text_of}
use Rattle.metadata_text.specs.Metadata.{metadata_tree}
use Rattle.archive_format.specs.Shapes.{Metadata}
use Rattle.coll_state.specs.Rows.{Table}

abbrev pub meta_text_at : NsName → Option Table → List ℕ
meta_text_at n None = []
meta_text_at n (Some t) = text_of (metadata_tree n.coll t.options (map.values t.indexes))

abbrev pub meta_at : NsName → Option Table → Metadata
meta_at n t = record { ns = n; text = meta_text_at n t }
