use Rattle.std.proofs.Common.{ℕ, List, ap, ◌∙◌, rules}
use Rattle.std.specs.Prelude.{Some}
use Rattle.bson_view.specs.Meaning.{document_in}
use Rattle.bson_view.proofs.Bodies.{elem_no_fields}
use Rattle.bson_view.proofs.Nested.{is_nested, nested_fields}
use Rattle.bson_view.proofs.elem.Elem.document.Goals as goal

pub of_element-requires : goal.of_element-requires
of_element-requires c = let e = c.args.self.now in is_nested e.tag e.value.now e.spelled (search rules) e.short

pub returns-then-self-eq3 : goal.returns-then-self-eq3
returns-then-self-eq3 c = let e = c.args.self.now in ap (λ (b : List ℕ). Some (document_in b)) c.of_element.ensures ∙ nested_fields e.tag e.value.now e.spelled c.if-self-eq3.true e.short

pub returns-else-self-eq3 : goal.returns-else-self-eq3
returns-else-self-eq3 c = elem_no_fields c.args.self.now (search rules)
