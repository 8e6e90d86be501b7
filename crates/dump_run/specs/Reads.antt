-- What a copy step makes of the cursors.
use Rattle.std.specs.Prelude.{◌≡◌, ℕ, false, Option, Some}
use Rattle.std.specs.FinMap as map
use Rattle.bson_value.specs.declared.namespace.NsName.{NsName}
use Rattle.bson_value.specs.NamespaceOrder.{namespace_cmp}
use Rattle.coll_state.specs.Rows.{Table}
use Rattle.copy_model.specs.Cursors.{Cursor}
use Rattle.history_model.specs.Runs.{looked}

-- the cursor of the collection read on, and stands behind what a step of k reads; the others stand as before
abbrev pub Reads : NsName → ℕ → Option Table → map.FinMap namespace_cmp Cursor → map.FinMap namespace_cmp Cursor → Type 0
Reads n k t old new = (c : Cursor) × (map.get old n ≡ Some c) × (c.ended ≡ false) × (new ≡ map.insert old n (looked k c t).1)
