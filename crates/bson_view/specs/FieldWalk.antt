-- A field as a part of the bytes, and the parts that are still to come.
use Rattle.std.specs.Prelude.{List}
use Rattle.bson_view.specs.declared.fields.Field.{Field}
use Rattle.bson_view.specs.declared.fields.Fields.{Fields}
use Rattle.bson_view.specs.Parts.{Part}
use Rattle.bson_view.specs.Views.{parts_left}

abbrev pub field_part : Field → Part
field_part f = record { name = f.name.now; tag = f.elem.tag; value = f.elem.value.now }

abbrev pub field_parts : Fields → List Part
field_parts fs = parts_left fs.elements
