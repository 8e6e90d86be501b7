use Rattle.std.proofs.Common.{refl, ap, ◌∙◌, subst}
use Rattle.schedule_model.specs.declared.command.Command.TheVariants as commands
use Rattle.copy_model.specs.Writes as writes
use Rattle.history_model.specs.Entries as entries
use Rattle.bson_value.specs.Spelling.{document_text}
use Rattle.entry_model.specs.Spelling.{entry_fields}
use Rattle.entry_model.specs.declared.entry.Action.TheVariants as actions
use Rattle.history_model.specs.Entries.{entry_with}
use Rattle.history_model.specs.Indexes.{IndexesHold}
use Rattle.store_core.proofs.Made.{holds_one, made_one}
use Rattle.store_core.proofs.store.Store.create.Goals as goal

pub make-requires-clause-holds : goal.make-requires-clause-holds
make-requires-clause-holds c = holds_one (commands.Create c.args.ns.now c.args.options.now) c.args.self.now (writes.Create c.args.ns.now c.in_ok-tree.tree) (entries.Create c.args.ns.now c.args.options.now) (subst (λ s. IndexesHold s.rows) c.self.view_is c.self.invariant.holds) c.in_ok-tree.ensures

pub returns : goal.returns
returns c =
    made_one (commands.Create c.args.ns.now c.args.options.now) (writes.Create c.args.ns.now c.in_ok-tree.tree) (entries.Create c.args.ns.now c.args.options.now) c.args.self.now c.make.new.self c.in_ok-bytes.bytes c.next_ts.result refl c.in_ok-tree.ensures c.next_ts.ensures (c.in_ok-bytes.ensures ∙ ap (λ o. document_text (entry_fields (entry_with c.next_ts.result c.args.ns.now (actions.Create o)))) c.in_ok-options.ensures) c.in_ok-make.ensures.ok
