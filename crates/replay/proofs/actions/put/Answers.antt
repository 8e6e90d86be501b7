use Rattle.std.proofs.Common.{◌≡◌, rules, true}
use Rattle.std.specs.Prelude.{is_some}
use Rattle.doc_path.proofs.Steps.{on_ok}
use Rattle.coll_state.specs.Rows.{id_of}
use Rattle.replay.proofs.Calls.{put_is}
use Rattle.replay.proofs.actions.put.Goals as goal

pub returns-clause-ok : goal.returns-clause-ok
returns-clause-ok c =
    let there : is_some (id_of c.args.doc.now) ≡ true = search rules in
    on_ok c.put.result (λ e. put_is c.args.ns.now c.args.doc.now c.in_ok-doc.doc c.args.state.now c.put.new.self c.in_ok-doc.ensures there e) c.put.ensures.ok
