-- When the indexes of all collections hold.
use Rattle.std.specs.Prelude.{◌≡◌, false, Some}
use Rattle.std.specs.FinMap as map
use Rattle.bson_value.specs.declared.namespace.NsName.{NsName}
use Rattle.json_tree.specs.declared.tree.Tree.{Tree}
use Rattle.state_model.specs.Keys.{Key}
use Rattle.coll_state.specs.Rows.{Table, Rows}
use Rattle.index_keys.specs.Definition.{plan_of}
use Rattle.history_model.specs.Refusals.{unique_clash, any_parallel}

-- a unique index has no key of two documents, and in no document two fields of an index meet an array
abbrev pub IndexesOf : Table → Type 0
IndexesOf t = (i : Key) (d : Tree) → map.get t.indexes i ≡ Some d → (unique_clash t.rows (plan_of d) ≡ false) × (any_parallel t.rows (plan_of d) ≡ false)

abbrev pub IndexesHold : Rows → Type 0
IndexesHold r = (n : NsName) (t : Table) → map.get r.tables n ≡ Some t → IndexesOf t
