use Rattle.std.proofs.Common.{sym, ap, ◌∙◌, subst}
use Rattle.std.specs.Prelude.{Ok}
use Rattle.entry_model.specs.declared.fault.EntryFault.{EntryFault}
use Rattle.entry_model.specs.Reading.{item, items}
use Rattle.oplog_entry.specs.Answers.{Fails}
use Rattle.oplog_entry.proofs.Binds.{gives_err}
use Rattle.oplog_entry.proofs.Each.{one_more, fails_at}
use Rattle.oplog_entry.proofs.reading.items.Goals as goal

pub returns-in_err-item : goal.returns-in_err-item
returns-in_err-item c =
    gives_err c.from_residual.result _ (items c.args.ts c.args.values.now) c.from_residual.ensures.1
    (λ x p. fails_at (item c.args.ts) c.args.values.now c.loop-value.value-index c.value-item.result c.loop-value.entries x c.loop-value-test.true c.value-item.is c.loop-value.invariant
    (subst (λ (e : EntryFault). Fails e (item c.args.ts c.value-item.result)) (sym p) c.in_err-item.ensures))

pub loop-value-preserved : goal.loop-value-preserved
loop-value-preserved c =
    one_more (item c.args.ts) c.args.values.now c.loop-value.value-index c.value-item.result c.loop-value.entries c.in_ok-item.field-0 c.loop-value-test.true c.value-item.is c.loop-value.invariant c.in_ok-item.ensures
    ∙ ap Ok (sym c.in_ok-push.ensures.ok)
