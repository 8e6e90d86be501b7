use Rattle.std.proofs.Common.{refl, sym, ap, ◌∙◌, subst}
use Rattle.state_model.specs.States.{no_options}
use Rattle.coll_state.specs.Rows.{Document as Fields, Rows}
use Rattle.coll_state.specs.Changes.{put, create}
use Rattle.schedule_model.specs.declared.command.Command.TheVariants as commands
use Rattle.schedule_model.specs.declared.command.DocumentCommand.TheVariants as changes
use Rattle.history_model.specs.Indexes.{IndexesHold}
use Rattle.store_log.specs.Logged.{Logged, logged, next_ts}
use Rattle.store_core.specs.Stores.{Stored}
use Rattle.store_core.proofs.InsertEffects.{first_holds, first_made}
use Rattle.store_core.proofs.store.Store.insert_first.Goals as goal

abbrev stored : Rows → Logged → Stored
stored r l = record { rows = r; log = l }

pub put_first-requires-clause-holds : goal.put_first-requires-clause-holds
put_first-requires-clause-holds c =
    subst (λ (d : Fields). IndexesHold (put c.args.ns.now d (create c.args.ns.now no_options c.args.self.now.rows))) (sym c.in_ok-copy.ensures)
    (first_holds (commands.Document (changes.Insert c.args.ns.now c.args.doc.now)) c.args.self.now c.args.ns.now c.args.first.now c.requires.kept (subst (λ s. IndexesHold s.rows) c.self.view_is c.self.invariant.holds) c.requires.accepted)

pub returns : goal.returns
returns c =
    (let l = c.args.self.now.log in
    let inside = ap (λ (s : Stored). s.log) c.self.view_is in
    let later = c.next_ts-later.ensures ∙ ((λ i. next_ts (c.clock.ensures i) (c.next_ts.ensures i)) ∙ ap (λ (z : Logged). next_ts z.clock (next_ts l.clock l.newest)) inside) in
    first_made (commands.Document (changes.Insert c.args.ns.now c.args.doc.now)) c.args.ns.now c.args.first.now c.args.self.now c.put_first.new.self c.in_ok-creation.creation c.in_ok-bytes.bytes c.next_ts-later.result refl c.requires.kept c.requires.accepted later c.in_ok-creation.ensures c.in_ok-bytes.ensures
    (c.in_ok-put_first.ensures.ok ∙ ap (λ (d : Fields). stored (put c.args.ns.now d (create c.args.ns.now no_options c.args.self.now.rows)) (logged c.in_ok-bytes.bytes (logged c.in_ok-creation.creation l))) c.in_ok-copy.ensures))
