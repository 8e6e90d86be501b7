use Rattle.bson_view.specs.Views.{document, elem_value}
use Rattle.spliced_documents.proofs.ItemPut.{no_array_fits}
use Rattle.spliced_documents.proofs.item.spliced_item.Goals as goal

pub returns-then-held-ne-ARRAY-clause-fits : goal.returns-then-held-ne-ARRAY-clause-fits
returns-then-held-ne-ARRAY-clause-fits c =
    let h = c.in-Some.held in
    let none = no_array_fits c.args.field.now h.tag h.value.now (elem_value h) (document c.args.view.now) c.in-Some.ensures.spelled c.in-Some.ensures.value c.if-held-ne-ARRAY.true c.args.index (elem_value c.args.elem.now) in
    (λ some. cc, λ fits. absurd (none fits))
