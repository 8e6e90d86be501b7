use Rattle.std.proofs.Common.{◌≡◌, false}
use Rattle.std.proofs.Common.{sym, ◌∙◌, subst, ap}
use Rattle.coll_state.specs.Rows.{Rows, AreSound}
use Rattle.schedule_model.specs.declared.command.DocumentCommand.{DocumentCommand}
use Rattle.schedule_model.specs.declared.command.Command.TheVariants.{Document}
use Rattle.history_model.specs.Refusals.{is_there}
use Rattle.schedule_source.proofs.Parts.{creates}
use Rattle.schedule_source.proofs.command.create_alone.Goals as goal

-- src/command.rt:40:1
pub returns-in_ok-make_collection-in-Insert-clause-ok :
    goal.returns-in_ok-make_collection-in-Insert-clause-ok
returns-in_ok-make_collection-in-Insert-clause-ok c =
    creates c.args.cmd.now c.args.store.now c.make_collection.new.self c.in-Insert.ns c.in-Insert.doc (c.in-Document.is ∙ ap (λ (x : DocumentCommand). Document x) c.in-Insert.is) (subst (λ (r : Rows). is_there c.in-Insert.ns r ≡ false) c.state-state.ensures (sym c.has.ensures ∙ c.if-not-has.true)) (subst (λ (r : Rows). AreSound r) c.state-state.ensures c.is_sound.ensures) c.in_ok-make_collection-in-Insert.ensures.ok
