use Rattle.std.proofs.Common.{sym, ap, ◌∙◌}
use Rattle.json_tree.specs.declared.tree.Tree.{Tree}
use Rattle.doc_path.proofs.Steps.{on_ok}
use Rattle.state_model.specs.Moves.{Create}
use Rattle.state_model.specs.Replay.{replay}
use Rattle.coll_state.specs.Rows.{state_of}
use Rattle.coll_state.proofs.Links.{create_link}
use Rattle.replay.proofs.Calls.{options_is}
use Rattle.replay.proofs.actions.create.Goals as goal

pub returns-clause-ok : goal.returns-clause-ok
returns-clause-ok c =
    on_ok c.create.result (λ e. ap state_of e ∙ (create_link c.args.ns.now c.in_ok-options.options c.args.state.now
    ∙ ap (λ (o : Tree). replay (Create c.args.ns.now o) (state_of c.args.state.now)) (sym (options_is c.args.options.now c.in_ok-options.options c.in_ok-options.ensures)))) c.create.ensures.ok
