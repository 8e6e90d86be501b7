use Rattle.std.proofs.Common.{◌∙◌}
use Rattle.command_refusals.proofs.DocumentRows.{insert_row}
use Rattle.command_refusals.proofs.document_rows.insert_refusal.Goals as goal

pub returns : goal.returns
returns c =
    c.first_row.ensures
    ∙ insert_row c.args.ns.now c.args.doc.now c.args.state.now c.is_named.result c.is_good_document.result c.is_bad_new.result c.args.tested c.is_named.ensures c.is_good_document.ensures c.is_bad_new.ensures c.requires
