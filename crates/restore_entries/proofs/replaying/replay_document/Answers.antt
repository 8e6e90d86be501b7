use Rattle.std.proofs.Common.{List, sym, ap, ◌∙◌}
use Rattle.doc_path.proofs.Steps.{on_ok}
use Rattle.state_model.specs.Moves.{Move}
use Rattle.state_model.specs.Replay.{replay_all}
use Rattle.coll_state.specs.Rows.{state_of}
use Rattle.restore_entries.proofs.Documents.{moves_are}
use Rattle.restore_entries.proofs.replaying.replay_document.Goals as goal

pub returns-then-is_config-clause-ok : goal.returns-then-is_config-clause-ok
returns-then-is_config-clause-ok c =
    let none = moves_are c.args.entry.now c.requires in
    ap (λ (ms : List Move). replay_all ms (state_of c.args.state.now)) (sym (rw (sym c.is_config.ensures ∙ c.if-is_config.true) at none))

pub returns-clause-ok : goal.returns-clause-ok
returns-clause-ok c =
    let all = moves_are c.args.entry.now c.requires in
    on_ok c.play_action.result (λ m. m ∙ ap (λ (ms : List Move). replay_all ms (state_of c.args.state.now)) (sym (rw (sym c.is_config.ensures ∙ c.if-is_config.false) at all))) c.play_action.ensures.ok
