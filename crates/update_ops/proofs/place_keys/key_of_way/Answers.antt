use Rattle.std.proofs.Common.{◌≡◌, ◌+◌, ◌++◌, ◌∷◌, [], take, sym, ap, ◌∙◌, subst, List, ℕ}
use Rattle.std.proofs.lemmas.Grind.{take_at_read}
use Rattle.doc_path.specs.declared.parts.Part.{Part}
use Rattle.doc_path.specs.Touch.{key_of}
use Rattle.doc_path.specs.Places.{keys}
use Rattle.update_ops.specs.Keys.{HaveNoZero}
use Rattle.update_ops.specs.PlaceKeys.{key_of_parts}
use Rattle.update_ops.proofs.Zeros.{key_more, clean_more}
use Rattle.update_ops.proofs.place_keys.key_of_way.Goals as goal

pub loop-part-preserved : goal.loop-part-preserved
loop-part-preserved c =
    let i = c.loop-part.part-index in
    let p = c.part-item.result in
    let ps = take i c.args.way.now in
    let more : take (i + 1) c.args.way.now ≡ ps ++ (p ∷ []) = (take_at_read c.args.way.now i p c.loop-part-test.true).1 ∙ ap (λ (z : Part). ps ++ (z ∷ [])) (sym c.part-item.is) in
    record {
      text = c.in_ok-push_part.ensures.text ∙ (ap (λ (z : List ℕ). z ++ (key_of p ++ (0 ∷ []))) c.loop-part.invariant.text ∙ sym (ap key_of_parts more ∙ key_more ps p));
      clean = subst (λ (z : List Part). HaveNoZero (keys z)) (sym more) (clean_more ps p c.loop-part.invariant.clean c.in_ok-push_part.ensures.clean);
    }
