use Rattle.std.proofs.Common.{sym, ap, ◌∙◌}
use Rattle.doc_path.proofs.Steps.{on_ok}
use Rattle.entry_model.specs.declared.entry.Action.{Action, out-Action}
use Rattle.entry_model.specs.declared.entry.Action.TheOpen.{Action-F}
use Rattle.entry_model.specs.declared.entry.Action.TheVariants as actions
use Rattle.entry_model.specs.declared.entry.Entry.{Entry}
use Rattle.state_model.specs.Replay.{replay_all}
use Rattle.coll_state.specs.Rows.{state_of}
use Rattle.replay.specs.Moves.{moves_at}
use Rattle.replay.proofs.actions.play_action.Goals as goal

pub returns-in-Whole-clause-ok : goal.returns-in-Whole-clause-ok
returns-in-Whole-clause-ok c =
    on_ok c.put_whole.result (λ e. e ∙ sym (ap (λ (a : Action). replay_all (moves_at c.args.ns.now (out-Action a)) (state_of c.args.state.now)) c.in-Whole.is
    ∙ ap (λ (x : Action-F Action Entry). replay_all (moves_at c.args.ns.now x) (state_of c.args.state.now)) (actions.outs-Whole c.in-Whole.id c.in-Whole.doc))) c.put_whole.ensures.ok
