use Rattle.std.proofs.Common.{◌+◌, ◌∷◌, [], sym, ◌∙◌, subst, map, take, drop, List}
use Rattle.coll_state.specs.Rows.{Document}
use Rattle.replay.specs.Moves.{Step, definition_moves, normal_of}
use Rattle.replay.specs.Steps.{Made, Stopped}
use Rattle.replay.proofs.Made.{made_one, made_append, stopped_one, stopped_in, each_more, each_at, err_of}
use Rattle.replay.proofs.indexes.add_indexes.Goals as goal

pub returns-in_err-add_index-clause-err : goal.returns-in_err-add_index-clause-err
returns-in_err-add_index-clause-err c =
    let g = λ (d : Document). definition_moves c.args.ns.now (normal_of d) in
    let i = c.loop-def.def-index in
    err_of c.from_residual.result
    (subst (λ (l : List Step). Stopped l c.args.state.now c.add_index.new.state) (sym (each_at g c.args.defs.now i c.def-item.result c.loop-def-test.true c.def-item.is))
    (stopped_in (map g (take i c.args.defs.now)) (g c.def-item.result ∷ []) (map g (drop (i + 1) c.args.defs.now)) c.args.state.now c.loop-def.state c.add_index.new.state
    c.loop-def.invariant.0 (stopped_one (g c.def-item.result) c.loop-def.state c.add_index.new.state c.in_err-add_index.ensures.err)))

pub loop-def-preserved : goal.loop-def-preserved
loop-def-preserved c =
    let g = λ (d : Document). definition_moves c.args.ns.now (normal_of d) in
    let i = c.loop-def.def-index in (
      subst (λ (l : List Step). Made l c.args.state.now c.add_index.new.state) (sym (each_more g c.args.defs.now i c.def-item.result c.loop-def-test.true c.def-item.is))
          (made_append (map g (take i c.args.defs.now)) (g c.def-item.result ∷ []) c.args.state.now c.loop-def.state c.add_index.new.state
          c.loop-def.invariant.0 (made_one (g c.def-item.result) c.loop-def.state c.add_index.new.state c.in_ok-add_index.ensures.ok)),
      c.add_index.ensures.count ∙ c.loop-def.invariant.1,
    )
