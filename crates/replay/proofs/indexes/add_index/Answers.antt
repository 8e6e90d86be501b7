use Rattle.std.proofs.Common.{◌≡◌, sym, ap, ◌∙◌, Option, Some, None}
use Rattle.json_tree.specs.declared.tree.Tree.{Tree}
use Rattle.state_model.specs.Replay.{replay_all}
use Rattle.doc_path.proofs.Steps.{on_ok}
use Rattle.coll_state.specs.Rows.{state_of}
use Rattle.replay.specs.Moves.{definition_moves, normal_of}
use Rattle.replay.proofs.Calls.{normal_is}
use Rattle.replay.proofs.indexes.add_index.Goals as goal

pub returns-in-Some-clause-ok : goal.returns-in-Some-clause-ok
returns-in-Some-clause-ok c =
    let is : normal_of c.args.def.now ≡ Some c.in-Some.def = normal_is c.args.def.now c.in_ok-tree.tree _ c.in_ok-tree.ensures c.in_ok-def.ensures ∙ c.in-Some.is in
    on_ok c.add_normal.result (λ e. e ∙ ap (λ (o : Option Tree). replay_all (definition_moves c.args.ns.now o) (state_of c.args.state.now)) (sym is)) c.add_normal.ensures.ok

pub returns-clause-ok : goal.returns-clause-ok
returns-clause-ok c =
    let is : normal_of c.args.def.now ≡ None = normal_is c.args.def.now c.in_ok-tree.tree _ c.in_ok-tree.ensures c.in_ok-def.ensures ∙ c.in-None.is in
    ap (λ (o : Option Tree). replay_all (definition_moves c.args.ns.now o) (state_of c.args.state.now)) (sym is)
