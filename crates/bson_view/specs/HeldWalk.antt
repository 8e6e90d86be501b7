-- What is still to come of the fields of a document, and of the values of an array.
use Rattle.std.specs.Prelude.{ℕ, List, Option, None, Some}
use Rattle.bson_value.specs.declared.value.Value.{Value}
use Rattle.bson_value.specs.declared.value.Value.TheOpen.{Value-F}
use Rattle.bson_view.specs.declared.walk.HeldField.{HeldField}
use Rattle.bson_view.specs.declared.walk.HeldFields.{HeldFields}
use Rattle.bson_view.specs.declared.walk.FieldWalk.{FieldWalk}
use Rattle.bson_view.specs.declared.walk.FieldWalk.TheVariants as fields
use Rattle.bson_view.specs.declared.walk.HeldItems.{HeldItems}
use Rattle.bson_view.specs.declared.walk.HeldItems.TheVariants as items
use Rattle.bson_view.specs.FieldWalk.{field_parts}
use Rattle.bson_view.specs.Held.{held_value}
use Rattle.bson_view.specs.Parts.{values_of, fields_of}
use Rattle.bson_view.specs.Views.{parts_left}

abbrev pub field_of : HeldField → List ℕ × Value
field_of f = (f.name.now, held_value f.value)

abbrev pub walk_left : FieldWalk → List (List ℕ × Value)
walk_left (fields.Spelled fs) = fields_of (field_parts fs)
walk_left (fields.Built es) = es.now

abbrev pub fields_left : HeldFields → List (List ℕ × Value)
fields_left fs = walk_left fs.walk

abbrev pub items_left : HeldItems → List Value
items_left (items.Spelled es) = values_of (parts_left es)
items_left (items.Built vs) = vs.now

-- the fields, where the value is a document
abbrev pub fields_in : Value-F Value → Option (List (List ℕ × Value))
fields_in (Value-F.Object fs) = Some fs
fields_in _ = None

-- the values, where it is an array
abbrev pub items_in : Value-F Value → Option (List Value)
items_in (Value-F.Array vs) = Some vs
items_in _ = None
