use Rattle.std.proofs.Common.{◌≡◌, ◌+◌, ◌∷◌, [], refl, sym, ap, ◌∙◌, subst, map, take, drop, List, arith, rules}
use Rattle.doc_path.proofs.Steps.{on_ok, on_err}
use Rattle.bson_value.proofs.Depth.{le-most}
use Rattle.entry_model.specs.declared.entry.Entry.{Entry, size-Entry}
use Rattle.entry_model.specs.declared.entry.Action.{out-Action, the_lemmas}
use Rattle.entry_model.specs.Edits.{gathered}
use Rattle.coll_state.specs.Rows.{Document}
use Rattle.replay.specs.Moves.{Step, definition_moves, normal_of, moves_at, steps_of, item_count, total}
use Rattle.replay.specs.Steps.{Made, Stopped}
use Rattle.replay.proofs.Folds.{count_group, count_one, steps_config, steps_group, steps_indexes, steps_one}
use Rattle.replay.proofs.Made.{made_one, made_append, stopped_one, stopped_in, gathered_more, gathered_at, total_more, total_at, err_of}
use Rattle.replay.proofs.playing.+playing.Goals as goal

pub play-returns-then-is_config-clause-ok : goal.play-returns-then-is_config-clause-ok
play-returns-then-is_config-clause-ok t c =
    subst (λ (l : List Step). Made l c.args.state.now c.args.state.now) (sym (steps_config c.args.entry.now (sym c.is_config.ensures ∙ c.if-is_config.true))) refl

pub play-play_all-requires : goal.play-play_all-requires
play-play_all-requires t c =
    let k = count_group c.args.entry.now c.in-Group.entries c.in-Group.is in
    let a = ap (λ (es : List Entry). total (map item_count es)) c.as_slice.ensures in
    (search (rules, the_lemmas), omega (arith, k, a, c.requires))

pub play-returns-in-Group-clause-ok : goal.play-returns-in-Group-clause-ok
play-returns-in-Group-clause-ok t c =
    on_ok c.play_all.result (λ m.
    subst (λ (l : List Step). Made l c.args.state.now c.play_all.new.state)
    (ap (gathered steps_of) c.as_slice.ensures ∙ sym (steps_group c.args.entry.now c.in-Group.entries (sym c.is_config.ensures ∙ c.if-is_config.false) c.in-Group.is)) m) c.play_all.ensures.ok

pub play-returns-in-Group-clause-err : goal.play-returns-in-Group-clause-err
play-returns-in-Group-clause-err t c =
    on_err c.play_all.result (λ m.
    subst (λ (l : List Step). Stopped l c.args.state.now c.play_all.new.state)
    (ap (gathered steps_of) c.as_slice.ensures ∙ sym (steps_group c.args.entry.now c.in-Group.entries (sym c.is_config.ensures ∙ c.if-is_config.false) c.in-Group.is)) m) c.play_all.ensures.err

pub play-returns-in-Group-clause-count : goal.play-returns-in-Group-clause-count
play-returns-in-Group-clause-count t c =
    let k = count_group c.args.entry.now c.in-Group.entries c.in-Group.is in
    let a = ap (λ (es : List Entry). total (map item_count es)) c.as_slice.ensures in
    omega (arith, k, a, c.play_all.ensures.count)

pub play-returns-in-AddIndexes-clause-ok : goal.play-returns-in-AddIndexes-clause-ok
play-returns-in-AddIndexes-clause-ok t c =
    on_ok c.add_indexes.result (λ m.
    subst (λ (l : List Step). Made l c.args.state.now c.add_indexes.new.state)
    (ap (map (λ (d : Document). definition_moves c.args.entry.now.ns (normal_of d))) c.as_slice-in-AddIndexes.ensures
    ∙ sym (steps_indexes c.args.entry.now c.in-AddIndexes.defs (sym c.is_config.ensures ∙ c.if-is_config.false) c.in-AddIndexes.is)) m) c.add_indexes.ensures.ok

pub play-returns-in-AddIndexes-clause-err : goal.play-returns-in-AddIndexes-clause-err
play-returns-in-AddIndexes-clause-err t c =
    on_err c.add_indexes.result (λ m.
    subst (λ (l : List Step). Stopped l c.args.state.now c.add_indexes.new.state)
    (ap (map (λ (d : Document). definition_moves c.args.entry.now.ns (normal_of d))) c.as_slice-in-AddIndexes.ensures
    ∙ sym (steps_indexes c.args.entry.now c.in-AddIndexes.defs (sym c.is_config.ensures ∙ c.if-is_config.false) c.in-AddIndexes.is)) m) c.add_indexes.ensures.err

pub play-returns-in_default : goal.play-returns-in_default
play-returns-in_default t c =
    let e = c.args.entry.now in
    let ms = moves_at e.ns (out-Action e.action) in
    let is : steps_of e ≡ ms ∷ [] = steps_one e (sym c.is_config.ensures ∙ c.if-is_config.false) c.in_default.not-AddIndexes c.in_default.not-Group in
    let k = count_one e c.in_default.not-Group in
    record {
      ok = on_ok c.play_action.result (λ m. subst (λ (l : List Step). Made l c.args.state.now c.play_action.new.state) (sym is) (made_one ms c.args.state.now c.play_action.new.state m)) c.play_action.ensures.ok;
      err = on_err c.play_action.result (λ m. subst (λ (l : List Step). Stopped l c.args.state.now c.play_action.new.state) (sym is) (stopped_one ms c.args.state.now c.play_action.new.state m)) c.play_action.ensures.err;
      count = omega (arith, k, c.play_action.ensures.count);
    }

pub play_all-play-requires : goal.play_all-play-requires
play_all-play-requires t c =
    let k = total_at item_count c.args.entries.now c.loop-entry.entry-index c.entry-item.result c.loop-entry-test.true c.entry-item.is in
    (omega (arith, rw (← c.entry-item.is) at (le-most (λ e. size-Entry e) c.args.entries.now c.loop-entry.entry-index c.entry-item.result c.loop-entry-test.true)), omega (arith, k, c.loop-entry.invariant.1, c.requires))

pub play_all-returns-in_err-play-clause-err : goal.play_all-returns-in_err-play-clause-err
play_all-returns-in_err-play-clause-err t c =
    let i = c.loop-entry.entry-index in
    err_of c.from_residual.result
    (subst (λ (l : List Step). Stopped l c.args.state.now c.play.new.state) (sym (gathered_at steps_of c.args.entries.now i c.entry-item.result c.loop-entry-test.true c.entry-item.is))
    (stopped_in (gathered steps_of (take i c.args.entries.now)) (steps_of c.entry-item.result) (gathered steps_of (drop (i + 1) c.args.entries.now)) c.args.state.now c.loop-entry.state c.play.new.state
    c.loop-entry.invariant.0 c.in_err-play.ensures.err))

pub play_all-returns-in_err-play-clause-count : goal.play_all-returns-in_err-play-clause-count
play_all-returns-in_err-play-clause-count t c =
    let k = total_at item_count c.args.entries.now c.loop-entry.entry-index c.entry-item.result c.loop-entry-test.true c.entry-item.is in
    omega (arith, k, c.loop-entry.invariant.1, c.play.ensures.count)

pub play_all-loop-entry-preserved : goal.play_all-loop-entry-preserved
play_all-loop-entry-preserved t c =
    let i = c.loop-entry.entry-index in
    let k = total_more item_count c.args.entries.now i c.entry-item.result c.loop-entry-test.true c.entry-item.is in (
      subst (λ (l : List Step). Made l c.args.state.now c.play.new.state) (sym (gathered_more steps_of c.args.entries.now i c.entry-item.result c.loop-entry-test.true c.entry-item.is))
          (made_append (gathered steps_of (take i c.args.entries.now)) (steps_of c.entry-item.result) c.args.state.now c.loop-entry.state c.play.new.state c.loop-entry.invariant.0 c.in_ok-play.ensures.ok),
      omega (arith, k, c.loop-entry.invariant.1, c.play.ensures.count),
    )
