use Rattle.std.proofs.Common.{refl, ap, ◌∙◌, subst, Ok}
use Rattle.coll_state.specs.Rows.{key_in}
use Rattle.schedule_model.specs.declared.command.Command.TheVariants as commands
use Rattle.schedule_model.specs.declared.command.DocumentCommand.TheVariants as changes
use Rattle.history_model.specs.Entries as entries
use Rattle.history_model.specs.Indexes.{IndexesHold}
use Rattle.store_core.proofs.DocumentEffects.{put_holds, put_made, replace_is}
use Rattle.store_core.proofs.store.Store.put_whole.Goals as goal

pub put-requires-clause-holds : goal.put-requires-clause-holds
put-requires-clause-holds c =
    put_holds (commands.Document (changes.Replace c.args.ns.now c.args.doc.now)) c.args.self.now c.args.ns.now c.in_ok-id.id c.args.first.now (entries.Whole c.args.ns.now c.in_ok-id.id c.args.first.now) (ap key_in c.in_ok-id.ensures) (subst (λ s. IndexesHold s.rows) c.self.view_is c.self.invariant.holds)
    (c.requires.accepted ∙ ap Ok (replace_is c.args.ns.now c.args.first.now c.in_ok-id.id c.in_ok-id.ensures))

pub returns : goal.returns
returns c =
    put_made (commands.Document (changes.Replace c.args.ns.now c.args.doc.now)) c.args.ns.now c.in_ok-id.id c.args.first.now (entries.Whole c.args.ns.now c.in_ok-id.id c.args.first.now) c.args.self.now c.put.new.self c.in_ok-bytes.bytes c.next_ts.result refl (ap key_in c.in_ok-id.ensures)
    (c.requires.accepted ∙ ap Ok (replace_is c.args.ns.now c.args.first.now c.in_ok-id.id c.in_ok-id.ensures)) c.next_ts.ensures c.in_ok-bytes.ensures c.in_ok-put.ensures.ok
