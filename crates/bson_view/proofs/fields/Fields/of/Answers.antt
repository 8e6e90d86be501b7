use Rattle.std.proofs.Common.{List, sym, subst}
use Rattle.std.specs.Prelude.{IsTrue}
use Rattle.bson_view.specs.Parts.{Part, have_text_names}
use Rattle.bson_view.proofs.TextNames.{text_names}
use Rattle.bson_view.proofs.fields.Fields.of.Goals as goal

pub invariant_of-result : goal.invariant_of-result
invariant_of-result c = record { texts = subst (λ (ps : List Part). IsTrue (have_text_names ps)) (sym c.elements.ensures.parts) (text_names c.args.view.now.bytes.now c.args.view.now.checked) }
