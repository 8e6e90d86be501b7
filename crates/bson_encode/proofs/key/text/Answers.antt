use Rattle.std.proofs.Common.{ap, ◌∙◌, ◌∷◌, ◌++◌, ◌+◌, [], length}
use Rattle.bson_value.specs.Spelling.{count_bytes}
use Rattle.bson_encode.specs.Comparing.{behind}
use Rattle.bson_encode.proofs.Comparing.{State, then, on}
use Rattle.bson_encode.proofs.key.text.Goals as goal

pub returns : goal.returns
returns c =
    let o = c.args.so_far.order in
    let r = c.args.so_far.rest.now in
    let t = c.args.text.now in
    let n = count_bytes (length t + 1) in
    let counted : State = (c.count-now.result.order, c.count-now.result.rest.now) in
    then o r (n ++ t) (0 ∷ []) (c.piece-now.result.order, c.piece-now.result.rest.now) _
    (then o r n t counted _ (c.count-now.ensures ∙ ap (λ l. behind o r (count_bytes (length l + 1))) c.as_str-text.ensures) (c.piece-now.ensures ∙ ap (on counted) (c.as_bytes.ensures.value ∙ c.as_str-text.ensures))) c.next.ensures
