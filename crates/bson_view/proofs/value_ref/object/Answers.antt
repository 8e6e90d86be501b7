use Rattle.std.proofs.Common.{ℕ, List, ap, ◌∙◌}
use Rattle.bson_value.specs.declared.value.Value.TheVariants as values
use Rattle.bson_view.specs.Meaning.{document_in}
use Rattle.bson_view.proofs.Nested.{is_nested, nested_value}
use Rattle.bson_view.proofs.value_ref.object.Goals as goal

pub of_element-requires : goal.of_element-requires
of_element-requires c = let e = c.args.elem.now in is_nested e.tag e.value.now e.spelled c.requires e.short

pub returns : goal.returns
returns c = let e = c.args.elem.now in ap (λ (b : List ℕ). values.Object (document_in b)) c.of_element.ensures ∙ nested_value e.tag e.value.now e.spelled c.requires e.short
