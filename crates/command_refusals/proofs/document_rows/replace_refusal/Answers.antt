use Rattle.std.proofs.Common.{◌∙◌}
use Rattle.command_refusals.proofs.DocumentRows.{replace_row}
use Rattle.command_refusals.proofs.document_rows.replace_refusal.Goals as goal

pub returns : goal.returns
returns c =
    c.first_row.ensures
    ∙ replace_row c.args.ns.now c.args.doc.now c.args.state.now c.is_unmatched.result c.has.result c.is_good_document.result c.is_bad_new.result c.args.tested c.is_unmatched.ensures c.has.ensures c.is_good_document.ensures c.is_bad_new.ensures c.requires
