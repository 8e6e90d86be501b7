use Rattle.std.proofs.Common.{◌≡◌, Option, IfOk, sym, ap, subst}
use Rattle.std.specs.Option.{option_copied}
use Rattle.std.specs.FinMap as map
use Rattle.update_model.specs.declared.updated.Updated.{Updated}
use Rattle.schedule_model.specs.declared.refused.Refused.{Refused}
use Rattle.history_model.specs.Refusals.{rows_in, definitions_in, with_update}
use Rattle.command_refusals.specs.Tests.{rows_refusal}
use Rattle.command_refusals.proofs.document_rows.updated_refusal.Goals as goal

pub returns-in-Some : goal.returns-in-Some
returns-in-Some c =
    let o = map.get c.args.state.now.tables c.args.ns.now in
    subst (λ (z : Option Refused). IfOk c.put_refusal.result (λ x. x ≡ z))
    (ap (λ (u : Option Updated). rows_refusal (with_update c.args.id.now u (rows_in o)) (definitions_in o)) (ap option_copied (sym c.in-Some.is)))
    c.put_refusal.ensures
