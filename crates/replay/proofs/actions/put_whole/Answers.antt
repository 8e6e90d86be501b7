use Rattle.std.proofs.Common.{◌≡◌, rules, true, false}
use Rattle.std.specs.Prelude.{is_none}
use Rattle.bson_encode.specs.Key.{key_of}
use Rattle.doc_path.proofs.Steps.{on_ok}
use Rattle.coll_state.specs.Changes.{document_at}
use Rattle.replay.proofs.Calls.{not_there, is_there, whole_absent, whole_has_id, whole_put}
use Rattle.replay.proofs.actions.put_whole.Goals as goal

pub returns-then-is_none-clause-ok : goal.returns-then-is_none-clause-ok
returns-then-is_none-clause-ok c =
    let none : is_none c.get.result ≡ true = search rules in
    whole_absent c.args.ns.now c.args.id.now c.args.doc.now c.args.state.now
    (not_there c.get.result (document_at c.args.ns.now (key_of c.args.id.now) c.args.state.now.tables) c.get.ensures none)

pub put-requires-clause-id : goal.put-requires-clause-id
put-requires-clause-id c = whole_has_id c.args.id.now c.args.doc.now c.in_ok-doc.doc c.in_ok-doc.ensures

pub returns-clause-ok : goal.returns-clause-ok
returns-clause-ok c =
    let some : is_none c.get.result ≡ false = search rules in
    let there = is_there c.get.result (document_at c.args.ns.now (key_of c.args.id.now) c.args.state.now.tables) c.get.ensures some in
    on_ok c.put.result (λ e. whole_put c.args.ns.now c.args.id.now c.args.doc.now c.in_ok-doc.doc there.0 c.args.state.now c.put.new.self there.1 c.in_ok-doc.ensures e) c.put.ensures.ok
