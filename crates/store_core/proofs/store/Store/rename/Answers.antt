use Rattle.std.proofs.Common.{refl, ap, ◌∙◌, subst}
use Rattle.bson_value.specs.Spelling.{document_text}
use Rattle.entry_model.specs.Spelling.{entry_fields}
use Rattle.schedule_model.specs.declared.command.Command.TheVariants as commands
use Rattle.history_model.specs.Entries.{entry_with}
use Rattle.history_model.specs.Indexes.{IndexesHold}
use Rattle.store_core.proofs.Made.{holds_renamed, made_renamed}
use Rattle.store_core.proofs.store.Store.rename.Goals as goal

pub move_collection-requires-clause-holds : goal.move_collection-requires-clause-holds
move_collection-requires-clause-holds c = holds_renamed (commands.Rename c.args.from.now c.args.to.now) c.args.self.now c.args.from.now c.args.to.now (subst (λ s. IndexesHold s.rows) c.self.view_is c.self.invariant.holds) c.in_ok-renaming.ensures

pub returns : goal.returns
returns c =
    made_renamed (commands.Rename c.args.from.now c.args.to.now) c.args.from.now c.args.to.now c.args.self.now c.move_collection.new.self c.in_ok-bytes.bytes c.next_ts.result refl c.in_ok-renaming.ensures c.next_ts.ensures
    (c.in_ok-bytes.ensures ∙ ap (λ a. document_text (entry_fields (entry_with c.next_ts.result c.args.from.now a))) c.in_ok-action.ensures) c.in_ok-move_collection.ensures.ok
