use Rattle.bson_view.specs.Views.{document, elem_value, view_bytes}
use Rattle.spliced_documents.proofs.Leaves.{all_fit, all_made}
use Rattle.spliced_documents.proofs.element.element_around.Goals as goal

pub returns-clause-some : goal.returns-clause-some
returns-clause-some c =
    let e = c.args.elem.now in
    all_made c.args.name.now (elem_value e) (view_bytes c.args.view.now) (document c.args.view.now) c.around.ensures.spelled c.requires.levels c.requires.name e.tag e.value.now c.spells.ensures.spelled c.spells.ensures.tag c.requires.leaf c.spells.ensures.leaf
    c.around.result.0.now c.around.result.1.now c.around.ensures.front c.around.ensures.rest c.joined_around.result c.joined_around.ensures.bytes c.joined_around.ensures.fits

pub returns-clause-fits : goal.returns-clause-fits
returns-clause-fits c =
    let e = c.args.elem.now in
    all_fit c.args.name.now (elem_value e) (view_bytes c.args.view.now) (document c.args.view.now) c.around.ensures.spelled c.requires.levels c.requires.name e.tag e.value.now c.spells.ensures.spelled c.spells.ensures.tag c.requires.leaf c.spells.ensures.leaf
    c.around.result.0.now c.around.result.1.now c.around.ensures.front c.around.ensures.rest c.joined_around.result c.joined_around.ensures.fits
