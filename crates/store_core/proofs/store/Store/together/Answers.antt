use Rattle.std.proofs.Common.{List, sym, ◌∙◌, subst}
use Rattle.schedule_model.specs.declared.command.DocumentCommand.{DocumentCommand}
use Rattle.transaction_indexes.specs.Following.{AreForgotten}
use Rattle.store_core.proofs.TogetherEffects.{group_failed, group_kept, kept_elsewhere}
use Rattle.store_core.proofs.store.Store.together.Goals as goal

pub returns-then-is_err-clause-kept : goal.returns-then-is_err-clause-kept
returns-then-is_err-clause-kept c =
    group_failed c.group-group.result c.forget_all.new.indexes c.args.self.now.rows (sym c.is_err.ensures.value ∙ c.if-is_err.true)
    (kept_elsewhere c.args.commands.now c.args.indexes.now c.transaction.new.indexes c.forget_all.new.indexes c.args.self.now.rows c.requires c.transaction.ensures.others
    (subst (λ (cs : List DocumentCommand). AreForgotten cs c.transaction.new.indexes c.forget_all.new.indexes) c.as_slice.ensures c.forget_all.ensures.forgotten))

pub returns-else-is_err-clause-kept : goal.returns-else-is_err-clause-kept
returns-else-is_err-clause-kept c =
    group_kept c.group-group.result c.in_ok-transaction.transaction c.transaction.new.indexes c.args.self.now.rows (sym c.is_err.ensures.value ∙ c.if-is_err.false) c.group-group.ensures.behind c.in_ok-transaction.ensures.kept
