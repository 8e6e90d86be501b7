use Rattle.std.proofs.Common.{◌≡◌, List, ap, ◌∙◌, subst, IfOk}
use Rattle.std.specs.FinMap as map
use Rattle.bson_encode.specs.Key.{key_of}
use Rattle.coll_state.specs.Rows.{Document}
use Rattle.history_model.specs.Refusals.{rows_in}
use Rattle.index_build.specs.Counting.{held}
use Rattle.command_refusals.specs.Keyed.{put_document}
use Rattle.command_refusals.proofs.Putting.{put_placed, keyed_rows}
use Rattle.command_refusals.proofs.after.documents_after.Goals as goal

pub returns : goal.returns
returns c =
    let o = map.get c.args.state.now.tables c.args.ns.now in
    subst (λ (z : List Document). IfOk c.put_among.result (λ docs. held docs.items ≡ z))
    ((λ i. put_document (c.in_ok-key.ensures i) c.args.doc.now ((ap held c.as_slice.ensures.value ∙ c.in_ok-docs.ensures) i))
    ∙ put_placed 0 (key_of c.args.id.now) c.args.doc.now (rows_in o) (keyed_rows o (λ t e. c.requires c.args.ns.now t e)))
    c.put_among.ensures
