use Rattle.std.proofs.Common.{sym, refl, ap, ◌∙◌, subst}
use Rattle.bson_value.specs.Spelling.{document_text}
use Rattle.entry_model.specs.Spelling.{entry_fields}
use Rattle.entry_model.specs.declared.entry.Action.{Action}
use Rattle.schedule_model.specs.declared.command.Command.TheVariants as commands
use Rattle.schedule_model.specs.declared.command.DocumentCommand.TheVariants as changes
use Rattle.update_action.specs.Recorded.{action_of}
use Rattle.history_model.specs.Entries.{entry_with, update_item}
use Rattle.history_model.specs.Indexes.{IndexesHold}
use Rattle.store_core.specs.Stores.{Stored}
use Rattle.store_core.proofs.DocumentEffects.{put_holds, put_made, update_entry}
use Rattle.store_core.proofs.store.Store.put_updated.Goals as goal

pub put-requires-clause-holds : goal.put-requires-clause-holds
put-requires-clause-holds c =
    put_holds (commands.Document (changes.Update c.args.ns.now c.args.id.now c.args.ops.now)) c.args.self.now c.args.ns.now c.args.id.now c.args.updated.doc (update_item c.args.self.now.log.form c.args.ns.now c.args.id.now c.args.updated.doc c.args.updated.touches) c.requires.kept.key (subst (λ s. IndexesHold s.rows) c.self.view_is c.self.invariant.holds) c.requires.accepted

pub returns : goal.returns
returns c =
    (let f = c.args.self.now.log.form in
    let u = c.args.updated in
    let form = c.form-form.ensures ∙ ap (λ (s : Stored). s.log.form) c.self.view_is in
    put_made (commands.Document (changes.Update c.args.ns.now c.args.id.now c.args.ops.now)) c.args.ns.now c.args.id.now u.doc (update_item f c.args.ns.now c.args.id.now u.doc u.touches) c.args.self.now c.put.new.self c.in_ok-bytes.bytes c.next_ts-ts.result refl c.requires.kept.key c.requires.accepted c.next_ts-ts.ensures
    (c.in_ok-bytes.ensures ∙ (ap (λ (a : Action). document_text (entry_fields (entry_with c.next_ts-ts.result c.args.ns.now a))) (λ i. action_of (form i) c.args.id.now u.doc (c.as_slice.ensures i))
    ∙ ap (λ e. document_text (entry_fields e)) (sym (update_entry c.next_ts-ts.result f c.args.ns.now c.args.id.now u.doc u.touches)))) c.in_ok-put.ensures.ok)
