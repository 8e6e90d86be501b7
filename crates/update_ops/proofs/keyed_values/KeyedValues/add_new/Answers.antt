use Rattle.std.proofs.Common.{◌≡◌, ◌+◌, ◌++◌, ◌∷◌, [], List, take, sym, ap, ◌∙◌, append_assoc}
use Rattle.std.specs.List.{list_any}
use Rattle.std.proofs.lemmas.Grind.{take_at_read}
use Rattle.bson_value.specs.declared.value.Value.{Value}
use Rattle.update_model.specs.Equality.{same}
use Rattle.update_model.specs.Acts.{new_ones}
use Rattle.update_ops.proofs.News.{there_already, one_new}
use Rattle.update_ops.proofs.keyed_values.KeyedValues.add_new.Goals as goal
use Rattle.update_ops.proofs.keyed_values.KeyedValues.add_new.Goals.{then-not-branch+in_ok-copy+in_ok-push, else-not-branch}

pub loop-value-preserved : goal.loop-value-preserved
loop-value-preserved c =
    let is = c.args.self.now in
    let vs = take c.loop-value.value-index c.args.values.now in
    let v = c.value-item.result in
    let more : take (c.loop-value.value-index + 1) c.args.values.now ≡ vs ++ (v ∷ []) = (take_at_read c.args.values.now c.loop-value.value-index v c.loop-value-test.true).1 ∙ ap (λ (z : Value). vs ++ (z ∷ [])) (sym c.value-item.is) in
    let test : list_any (same v) (is ++ new_ones is vs) ≡ c.in_ok-has.field-0 = ap (list_any (same v)) (sym c.loop-value.invariant) ∙ sym c.in_ok-has.ensures in
    elim c.if-not-branch.branch [
      | then-not-branch+in_ok-copy+in_ok-push w ↦
          w.self-is ∙ (w.in_ok-push.ensures ∙ ((λ i. c.loop-value.invariant i ++ (w.in_ok-copy.ensures i ∷ []))
          ∙ (append_assoc is (new_ones is vs) (v ∷ []) ∙ ap (λ (z : List Value). is ++ z) (sym (ap (new_ones is) more ∙ one_new is vs v (test ∙ w.if-not-branch.true))))))
      | else-not-branch w ↦ w.self-is ∙ (c.loop-value.invariant ∙ ap (λ (z : List Value). is ++ z) (sym (ap (new_ones is) more ∙ there_already is vs v (test ∙ w.if-not-branch.false))))
    ]
