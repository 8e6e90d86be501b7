use Rattle.std.proofs.Common.{◌≡◌, ◌+◌, ◌++◌, ◌∷◌, [], List, take, sym, ap, ◌∙◌, append_assoc}
use Rattle.std.specs.List.{list_any}
use Rattle.std.proofs.lemmas.Grind.{take_at_read}
use Rattle.bson_value.specs.declared.value.Value.{Value}
use Rattle.update_model.specs.Equality.{same}
use Rattle.update_model.specs.Acts.{new_ones}
use Rattle.update_ops.proofs.News.{there_already, one_new}
use Rattle.update_ops.proofs.values.united_one_by_one.Goals as goal
use Rattle.update_ops.proofs.values.united_one_by_one.Goals.{then-not-is_among+in_ok-copy+in_ok-push, else-not-is_among}

pub loop-value-preserved : goal.loop-value-preserved
loop-value-preserved c =
    let is = c.args.items.now in
    let vs = take c.loop-value.value-index c.args.values.now in
    let v = c.value-item.result in
    let more : take (c.loop-value.value-index + 1) c.args.values.now ≡ vs ++ (v ∷ []) = (take_at_read c.args.values.now c.loop-value.value-index v c.loop-value-test.true).1 ∙ ap (λ (z : Value). vs ++ (z ∷ [])) (sym c.value-item.is) in
    let test : list_any (same v) (is ++ new_ones is vs) ≡ c.is_among.result = ap (list_any (same v)) (sym (c.as_slice.ensures ∙ c.loop-value.invariant)) ∙ sym c.is_among.ensures in
    elim c.if-not-is_among.branch [
      | then-not-is_among+in_ok-copy+in_ok-push w ↦
          w.list-is ∙ (w.in_ok-push.ensures.ok ∙ ((λ i. c.loop-value.invariant i ++ (w.in_ok-copy.ensures i ∷ []))
          ∙ (append_assoc is (new_ones is vs) (v ∷ []) ∙ ap (λ (z : List Value). is ++ z) (sym (ap (new_ones is) more ∙ one_new is vs v (test ∙ w.if-not-is_among.true))))))
      | else-not-is_among w ↦ w.list-is ∙ (c.loop-value.invariant ∙ ap (λ (z : List Value). is ++ z) (sym (ap (new_ones is) more ∙ there_already is vs v (test ∙ w.if-not-is_among.false))))
    ]
