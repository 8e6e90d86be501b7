use Rattle.std.proofs.Common.{◌≡◌, sym, subst, ◌∙◌, Option}
use Rattle.std.specs.Prelude.{IfSome}
use Rattle.bson_encode.specs.Key.{key_of}
use Rattle.doc_path.proofs.Steps.{on_ok}
use Rattle.coll_state.specs.Rows.{Document, id_of, key_in}
use Rattle.replay.proofs.Calls.{touches_absent, played_has_id, played_put}
use Rattle.replay.proofs.actions.play_built.Goals as goal

pub returns-in_default-clause-ok : goal.returns-in_default-clause-ok
returns-in_default-clause-ok c = touches_absent c.args.ns.now c.args.id.now c.args.form c.args.touches.now c.args.state.now (sym c.in_ok-doc.ensures.doc ∙ c.in_default.is)

pub put-requires-clause-id : goal.put-requires-clause-id
put-requires-clause-id c =
    let key = subst (λ (o : Option Document). IfSome o (λ d. key_in (id_of d) ≡ key_of c.args.id.now)) c.in-Some.is c.in_ok-doc.ensures.id in
    played_has_id c.args.id.now c.args.form c.args.touches.now c.in-Some.doc c.play.new.doc key c.in_ok-play.ensures.ok

pub returns-clause-ok : goal.returns-clause-ok
returns-clause-ok c =
    let key = subst (λ (o : Option Document). IfSome o (λ d. key_in (id_of d) ≡ key_of c.args.id.now)) c.in-Some.is c.in_ok-doc.ensures.id in
    on_ok c.put.result (λ e. played_put c.args.ns.now c.args.id.now c.args.form c.args.touches.now c.in-Some.doc c.play.new.doc c.args.state.now c.put.new.self
    (sym c.in_ok-doc.ensures.doc ∙ c.in-Some.is) key c.in_ok-play.ensures.ok e) c.put.ensures.ok
