use Rattle.std.proofs.Common.{◌≡◌, length, arith, ap, ◌∙◌}
use Rattle.std.specs.FinMap as map
use Rattle.std.proofs.lemmas.List.{length-map}
use Rattle.bson_view.specs.Held.{held_document}
use Rattle.coll_state.specs.Walks.{looks_left}
use Rattle.index_build.specs.Counting.{held}
use Rattle.command_refusals.specs.Keyed.{looked_at}
use Rattle.command_refusals.proofs.Putting.{all_looked, looked_all}
use Rattle.command_refusals.proofs.after.all_documents.Goals as goal

pub returns : goal.returns
returns c =
    let count : length (held c.documents.docs.items) ≡ length c.documents.docs.items = length-map c.documents.docs.items held_document in
    all_looked 18446744073709551615 (map.get c.args.state.now.tables c.args.ns.now) (held c.documents.docs.items) (λ t e. (c.is_sound.ensures c.args.ns.now t e).0.0)
    (looked_all c.documents.docs.items (looks_left c.documents.left) (looked_at (looks_left c.after-left.result)) c.documents.invariant c.in_default.ensures.steps.0 ∙ ap looked_at c.after-left.ensures)
    (omega (arith, count))
