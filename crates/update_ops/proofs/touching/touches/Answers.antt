use Rattle.std.proofs.Common.{◌≡◌, ◌+◌, ◌++◌, ◌∷◌, [], List, ℕ, Bool, true, false, map, take, sym, ap, ◌∙◌, subst}
use Rattle.std.specs.Prelude.{◌||◌, not, if◌then◌else◌}
use Rattle.std.proofs.lemmas.Grind.{take_at_read}
use Rattle.std.proofs.lemmas.List.{map-append}
use Rattle.bson_value.specs.declared.value.Value.{Object}
use Rattle.doc_path.specs.Places.{keys}
use Rattle.doc_path.specs.declared.touches.Touch.{Touch}
use Rattle.update_model.specs.declared.mark.Mark.{Mark}
use Rattle.update_model.specs.Touched.{place_of, any_mark, stands_in, touch_of}
use Rattle.update_ops.specs.Prefixes.{has_front}
use Rattle.update_ops.specs.PlaceKeys.{key_of_parts, HasSeen}
use Rattle.update_ops.proofs.Touches.{covered_is, found, found_as_new, found_already}
use Rattle.update_ops.proofs.touching.touches.Goals as goal
use Rattle.update_ops.proofs.touching.touches.Goals.{then-branch+in_ok-touch_of+in_ok-push, else-branch}

pub loop-mark-preserved : goal.loop-mark-preserved
loop-mark-preserved c =
    let all = c.args.marks.now in
    let i = c.loop-mark.mark-index in
    let m = c.mark-item.result in
    let ms = take i all in
    let fs = found all ms in
    let touch = touch_of (Object c.args.doc.now) in
    let more : take (i + 1) all ≡ ms ++ (m ∷ []) = (take_at_read all i m c.loop-mark-test.true).1 ∙ ap (λ (z : Mark). ms ++ (z ∷ [])) (sym c.mark-item.is) in
    let above : has_front c.in_ok-tops.tops (key_of_parts m.way) ≡ any_mark all (keys m.way) = c.in_ok-tops.ensures.covers (key_of_parts m.way) ∙ covered_is all (keys m.way) c.in_ok-tops.ensures.clean c.in_ok-is_new.ensures.clean in
    let answer : c.in_ok-is_new.field-0 ≡ not (any_mark all (keys m.way) || stands_in (place_of m) fs) = c.in_ok-is_new.ensures.answer fs c.loop-mark.invariant.seen ∙ ap (λ (b : Bool). not (b || stands_in (place_of m) fs)) above in
    let seen = c.in_ok-is_new.ensures.seen fs c.loop-mark.invariant.seen in
    elim c.if-branch.branch [
      | then-branch+in_ok-touch_of+in_ok-push w ↦
          (let next = found_as_new all ms m (sym answer ∙ w.if-branch.true) in
          record {
            touches = w.touches-is ∙ (w.in_ok-push.ensures.ok ∙ ((λ j. c.loop-mark.invariant.touches j ++ (w.in_ok-touch_of.ensures j ∷ [])) ∙ (sym (map-append touch fs (m ∷ [])) ∙ ap (map touch) (sym (ap (found all) more ∙ next)))));
            seen = subst (λ (z : List Mark). HasSeen c.is_new.new.seen.keys z) (sym (ap (found all) more ∙ next)) (subst (λ (b : Bool). HasSeen c.is_new.new.seen.keys (if b then fs ++ (m ∷ []) else fs)) w.if-branch.true seen);
          })
      | else-branch w ↦
          (let next = found_already all ms m (sym answer ∙ w.if-branch.false) in
          record {
            touches = w.touches-is ∙ (c.loop-mark.invariant.touches ∙ ap (map touch) (sym (ap (found all) more ∙ next)));
            seen = subst (λ (z : List Mark). HasSeen c.is_new.new.seen.keys z) (sym (ap (found all) more ∙ next)) (subst (λ (b : Bool). HasSeen c.is_new.new.seen.keys (if b then fs ++ (m ∷ []) else fs)) w.if-branch.false seen);
          })
    ]
