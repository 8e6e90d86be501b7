use Rattle.std.proofs.Common.{sym, ◌∙◌}
use Rattle.doc_path.proofs.Down.{under-index, under-no_index}
use Rattle.doc_path.proofs.place.element.Goals as goal

pub returns-in-Name : goal.returns-in-Name
returns-in-Name c = sym (under-no_index c.args.items.now c.args.part.now c.in-Name.field-0 c.in-Name.is)

pub returns-in-Index : goal.returns-in-Index
returns-in-Index c = c.get.ensures ∙ sym (under-index c.args.items.now c.args.part.now c.in-Index.at c.in-Index.is)
