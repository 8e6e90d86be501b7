use Rattle.std.proofs.Common.{refl, subst}
use Rattle.schedule_model.specs.declared.command.Command.TheVariants as commands
use Rattle.schedule_model.specs.declared.command.DocumentCommand.TheVariants as changes
use Rattle.history_model.specs.Indexes.{IndexesHold}
use Rattle.store_core.proofs.InsertEffects.{into_holds, into_made}
use Rattle.store_core.proofs.store.Store.insert_into.Goals as goal

pub put-requires-clause-holds : goal.put-requires-clause-holds
put-requires-clause-holds c =
    into_holds (commands.Document (changes.Insert c.args.ns.now c.args.doc.now)) c.args.self.now c.args.ns.now c.args.first.now c.requires.kept (subst (λ s. IndexesHold s.rows) c.self.view_is c.self.invariant.holds) c.requires.accepted

pub returns : goal.returns
returns c =
    into_made (commands.Document (changes.Insert c.args.ns.now c.args.doc.now)) c.args.ns.now c.args.first.now c.args.self.now c.put.new.self c.in_ok-bytes.bytes c.next_ts.result refl c.requires.kept c.requires.accepted c.next_ts.ensures c.in_ok-bytes.ensures c.in_ok-put.ensures.ok
