-- Collections that show commands the documents that others do.
use Rattle.std.specs.Prelude.{◌≡◌, Option, Some, is_some}
use Rattle.std.specs.FinMap as map
use Rattle.bson_value.specs.declared.value.Value.{Value}
use Rattle.bson_encode.specs.Key.{key_of}
use Rattle.coll_state.specs.Changes.{document_in}
use Rattle.coll_state.specs.Rows.{Rows, Table, id_of}
use Rattle.schedule_model.specs.declared.command.DocumentCommand.{DocumentCommand}
use Rattle.schedule_model.specs.declared.command.DocumentCommand.TheVariants.{Insert, Replace, Update, Delete}
use Rattle.history_model.specs.Refusals.{namespace_of}

-- the `_id` that a command names
abbrev pub id_in : DocumentCommand → Option Value
id_in (Insert n d) = id_of d
id_in (Replace n d) = id_of d
id_in (Update n id ops) = Some id
id_in (Delete n id) = Some id

-- both are there or none is, with the same document of the `_id`
pub record ShowsIn (id : Option Value) (o p : Option Table) : Type 0 where
  pub there : is_some o ≡ is_some p
  pub document : (v : Value) → id ≡ Some v → document_in (key_of v) o ≡ document_in (key_of v) p

-- the first rows show the command what the second do
abbrev pub Shows : DocumentCommand → Rows → Rows → Type 0
Shows c s r = ShowsIn (id_in c) (map.get s.tables (namespace_of c)) (map.get r.tables (namespace_of c))
