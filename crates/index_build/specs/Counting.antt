-- What the code counts over.
use Rattle.std.specs.Prelude.{List, map as each}
use Rattle.bson_value.specs.declared.value.Value.{Value, Object}
use Rattle.bson_view.specs.declared.held.Held.{Held}
use Rattle.bson_view.specs.Held.{held_document}
use Rattle.index_keys.specs.Keys.{Fields}

-- the documents that are held
abbrev pub held : List Held → List Fields
held hs = each held_document hs

abbrev pub held_values : List Held → List Value
held_values hs = each (λ h. Object (held_document h)) hs
