use Rattle.std.proofs.Common.{refl, ap, ◌∙◌, subst}
use Rattle.schedule_model.specs.declared.command.Command.TheVariants as commands
use Rattle.copy_model.specs.Writes as writes
use Rattle.history_model.specs.Entries as entries
use Rattle.bson_value.specs.Spelling.{document_text}
use Rattle.entry_model.specs.Spelling.{entry_fields}
use Rattle.history_model.specs.Entries.{entry_with}
use Rattle.history_model.specs.Indexes.{IndexesHold}
use Rattle.store_core.proofs.Made.{holds_one, made_one}
use Rattle.store_core.proofs.store.Store.create_index.Goals as goal

pub put_index-requires-clause-holds : goal.put_index-requires-clause-holds
put_index-requires-clause-holds c = holds_one (commands.CreateIndex c.args.ns.now c.args.def.now) c.args.self.now (writes.AddIndex c.args.ns.now c.in_ok-form.form) (entries.AddIndex c.args.ns.now c.in_ok-form.form) (subst (λ s. IndexesHold s.rows) c.self.view_is c.self.invariant.holds) c.in_ok-form.ensures

pub returns : goal.returns
returns c =
    made_one (commands.CreateIndex c.args.ns.now c.args.def.now) (writes.AddIndex c.args.ns.now c.in_ok-form.form) (entries.AddIndex c.args.ns.now c.in_ok-form.form) c.args.self.now c.put_index.new.self c.in_ok-bytes.bytes c.next_ts.result refl c.in_ok-form.ensures c.next_ts.ensures (c.in_ok-bytes.ensures ∙ ap (λ a. document_text (entry_fields (entry_with c.next_ts.result c.args.ns.now a))) c.in_ok-action.ensures) c.in_ok-put_index.ensures.ok
