use Rattle.std.proofs.Common.{ap, ◌∙◌, ◌∷◌, []}
use Rattle.bson_encode.specs.Comparing.{behind}
use Rattle.bson_encode.proofs.Comparing.{then}
use Rattle.bson_encode.proofs.key.name.Goals as goal

pub returns : goal.returns
returns c =
    let o = c.args.so_far.order in
    let r = c.args.so_far.rest.now in
    then o r c.args.name.now (0 ∷ []) (c.piece-now.result.order, c.piece-now.result.rest.now) _ (c.piece-now.ensures ∙ ap (behind o r) (c.as_bytes.ensures.value ∙ c.as_str.ensures.text)) c.next.ensures
