use Rattle.std.proofs.Common.{◌≡◌, ◌∙◌, ap, sym}
use Rattle.std.specs.Prelude.{is_some}
use Rattle.bson_view.specs.Kept.{kept_document}
use Rattle.bson_view.specs.Meaning.{document_in}
use Rattle.coll_state.specs.Rows.{id_of}
use Rattle.restore_plan.specs.Base.{document_taken}
use Rattle.restore_plan.proofs.Steps.{on_ok, taken_is, put_made}
use Rattle.restore_plan.proofs.collections.put.Goals as goal

pub put_bytes-requires-clause-id : goal.put_bytes-requires-clause-id
put_bytes-requires-clause-id c =
    let b = c.args.bytes.now in
    let is : kept_document c.in_ok-document.document ≡ document_taken b = ap document_in c.in_ok-document.ensures ∙ sym (taken_is b c.requires.document) in
    ap (λ d. is_some (id_of d)) is ∙ c.requires.id

pub returns-clause-ok : goal.returns-clause-ok
returns-clause-ok c =
    let b = c.args.bytes.now in
    let is : kept_document c.in_ok-document.document ≡ document_taken b = ap document_in c.in_ok-document.ensures ∙ sym (taken_is b c.requires.document) in
    on_ok c.put_bytes.result (λ e. put_made c.args.state.now c.put_bytes.new.self c.args.ns.now b (kept_document c.in_ok-document.document) c.changes_are_moves.ensures.put is e) c.put_bytes.ensures.ok
