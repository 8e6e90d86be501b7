use Rattle.std.proofs.Common.{◌≡◌, ◌∷◌, sym, ap, ◌∙◌, rules}
use Rattle.std.specs.Ordering.{ordering_reverse}
use Rattle.bson_encode.specs.Key.{key_of}
use Rattle.state_model.specs.Keys.{key_cmp}
use Rattle.state_model.proofs.Keys.{key_total}
use Rattle.coll_state.proofs.collection.order_beside.Goals as goal

pub returns-in-Some : goal.returns-in-Some
returns-in-Some c =
    let whole : c.args.key.now ≡ c.in-Some.tag.now ∷ c.in-Some.rest.now = search rules in
    c.reverse.ensures ∙ (ap ordering_reverse (c.cmp_key.ensures ∙ ap (key_cmp (key_of c.args.id.now)) (sym whole)) ∙ sym (key_total.antisymm c.args.key.now (key_of c.args.id.now)))
