-- What an entry of the oplog stands for: its moves, one after the other. The touches of a document are a move each.
use Rattle.std.specs.Prelude.{ℕ, List}
use Rattle.bson_value.specs.declared.namespace.NsName.{NsName}
use Rattle.bson_value.specs.declared.value.Value.{Value}
use Rattle.doc_path.specs.declared.parts.Form.{Form}
use Rattle.doc_path.specs.Touch.{Touch}
use Rattle.json_tree.specs.declared.tree.Tree.{Tree}
use Rattle.state_model.specs.Keys.{Key}

pub data Move : Type 0 where
  Put : NsName → Key → Value → Move
  Remove : NsName → Key → Move
  Whole : NsName → Key → Value → Move
  Delta : NsName → Key → Form → Touch → Move
  Create : NsName → Tree → Move
  DropColl : NsName → Move
  DropDb : List ℕ → Move
  AddIndex : NsName → Key → Tree → Move
  DropIndex : NsName → Key → Move
