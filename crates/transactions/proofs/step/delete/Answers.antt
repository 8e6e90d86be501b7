use Rattle.std.proofs.Common.{◌≡◌, false, sym, ◌∙◌, refl, None}
use Rattle.entry_model.specs.declared.entry.Action.TheVariants as actions
use Rattle.bson_value.specs.declared.value.Value.{Value}
use Rattle.std.proofs.Common.{ap}
use Rattle.schedule_model.specs.declared.command.DocumentCommand.TheVariants.{Delete}
use Rattle.history_model.specs.Refusals.{document_refusal}
use Rattle.transactions.specs.declared.change_record.ChangeRecord.{ChangeRecord}
use Rattle.transactions.proofs.Steps.{delete_made}
use Rattle.transactions.proofs.step.delete.Goals as goal

pub returns : goal.returns
returns c =
    λ f.
    let none : document_refusal false (Delete c.args.ns.now c.args.id.now) c.args.rows.now ≡ None = sym c.delete_refusal.ensures ∙ c.in_default.is in
    let x : ChangeRecord = record { change = record { ns = c.in_ok-copy.field-0; id = c.in_ok-copy-2.field-0; doc = None }; action = actions.Remove c.in_ok-copy-3.field-0 } in
    delete_made f c.args.ns.now c.args.id.now x c.args.rows.now c.remove.new.self none c.requires c.in_ok-copy.ensures c.in_ok-copy-2.ensures refl (ap (λ (v : Value). actions.Remove v) c.in_ok-copy-3.ensures) c.remove.ensures.state
