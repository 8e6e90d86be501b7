use Rattle.std.proofs.Common.{◌∙◌}
use Rattle.command_refusals.proofs.DocumentRows.{delete_row}
use Rattle.command_refusals.proofs.document_rows.delete_refusal.Goals as goal

pub returns : goal.returns
returns c =
    c.first_row.ensures
    ∙ delete_row c.args.ns.now c.args.id.now c.args.state.now c.is_at.result c.has.result c.is_bad_new.result c.is_at.ensures c.has.ensures c.is_bad_new.ensures
