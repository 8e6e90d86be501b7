use Rattle.std.proofs.Common.{sym, ap, ◌∙◌, subst}
use Rattle.std.specs.Prelude.{Ok, codes}
use Rattle.entry_model.specs.declared.fault.EntryFault.{EntryFault}
use Rattle.entry_model.specs.Reading.{definition_in, definitions}
use Rattle.oplog_entry.specs.Answers.{Fails}
use Rattle.oplog_entry.proofs.Binds.{gives_err}
use Rattle.oplog_entry.proofs.Each.{one_more, fails_at}
use Rattle.oplog_entry.proofs.commands.definitions.Goals as goal

pub returns-in_err-definition_in : goal.returns-in_err-definition_in
returns-in_err-definition_in c =
    gives_err c.from_residual.result _ (definitions (codes "indexes") c.args.items.now) c.from_residual.ensures.1
    (λ x p. fails_at (definition_in (codes "indexes")) c.args.items.now c.loop-item.item-index c.item-item.result c.loop-item.defs x c.loop-item-test.true c.item-item.is c.loop-item.invariant
    (subst (λ (e : EntryFault). Fails e (definition_in (codes "indexes") c.item-item.result)) (sym p) c.in_err-definition_in.ensures))

pub loop-item-preserved : goal.loop-item-preserved
loop-item-preserved c =
    one_more (definition_in (codes "indexes")) c.args.items.now c.loop-item.item-index c.item-item.result c.loop-item.defs c.in_ok-definition_in.field-0 c.loop-item-test.true c.item-item.is c.loop-item.invariant c.in_ok-definition_in.ensures
    ∙ ap Ok (sym c.in_ok-push.ensures.ok)
