use Rattle.std.proofs.Common.{sym, ◌∙◌}
use Rattle.doc_path.proofs.Down.{under-name, under-no_name}
use Rattle.doc_path.proofs.place.field.Goals as goal

pub returns-in-Name : goal.returns-in-Name
returns-in-Name c = rw c.as_str.ensures.text at c.get.ensures ∙ sym (under-name c.args.doc.now c.args.part.now c.in-Name.name c.in-Name.is)

pub returns-in-Index : goal.returns-in-Index
returns-in-Index c = sym (under-no_name c.args.doc.now c.args.part.now c.in-Index.field-0 c.in-Index.is)
