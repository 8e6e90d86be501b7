-- The document that is held, and a value in it, in the same terms whether it is spelled or built.
use Rattle.std.specs.Prelude.{ℕ, List}
use Rattle.bson_value.specs.declared.value.Value.{Value}
use Rattle.bson_view.specs.declared.held.Held.{Held}
use Rattle.bson_view.specs.declared.held.Held.TheVariants as documents
use Rattle.bson_view.specs.declared.held.HeldValue.{HeldValue}
use Rattle.bson_view.specs.declared.held.HeldValue.TheVariants as values
use Rattle.bson_view.specs.Views.{document, elem_value}

abbrev pub held_document : Held → List (List ℕ × Value)
held_document (documents.Spelled v) = document v
held_document (documents.Built d) = d.now

abbrev pub held_value : HeldValue → Value
held_value (values.Spelled e) = elem_value e
held_value (values.Built v) = v.now
