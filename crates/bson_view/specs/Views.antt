-- What views, elements and what is left of them mean.
use Rattle.std.specs.Prelude.{ℕ, List}
use Rattle.bson_value.specs.declared.value.Value.{Value}
use Rattle.bson_view.specs.declared.view.View.{View}
use Rattle.bson_view.specs.declared.elem.Elem.{Elem}
use Rattle.bson_view.specs.declared.elements.Elements.{Elements}
use Rattle.bson_view.specs.Meaning.{document_in, value_in}
use Rattle.bson_view.specs.Parts.{Part, parts_of}

-- the bytes that are viewed
abbrev pub view_bytes : View → List ℕ
view_bytes v = v.bytes.now

-- the document that they spell
abbrev pub document : View → List (List ℕ × Value)
document v = document_in v.bytes.now

-- the element as a part of the bytes
abbrev pub elem_part : Elem → Part
elem_part e = record { name = e.name.now; tag = e.tag; value = e.value.now }

-- the value that the element's bytes spell
abbrev pub elem_value : Elem → Value
elem_value e = value_in e.tag e.value.now

-- the elements that are still to come
abbrev pub parts_left : Elements → List Part
parts_left es = parts_of es.rest.now
