use Rattle.std.proofs.Common.{◌≡◌, ◌++◌, ◌∷◌, [], List, ℕ, Bool, true, false, refl, sym, ap, ◌∙◌, subst, inl, inr}
use Rattle.std.specs.Prelude.{◌||◌, not, if◌then◌else◌}
use Rattle.std.specs.Bool.{OnFalse}
use Rattle.std.specs.List.{list_any}
use Rattle.std.specs.Str.{bytes_eq}
use Rattle.std.proofs.lemmas.Bool.{cases_Bool}
use Rattle.update_model.specs.declared.mark.Mark.{Mark}
use Rattle.update_model.specs.Touched.{place_of, stands_in}
use Rattle.update_ops.specs.Prefixes.{Text, has, has_front}
use Rattle.update_ops.specs.Keys.{key}
use Rattle.update_ops.specs.PlaceKeys.{key_of_parts, key_of_mark, HasSeen}
use Rattle.update_ops.specs.Behind.{with_text}
use Rattle.update_ops.proofs.TextOrder.{contains_has}
use Rattle.update_ops.proofs.Touches.{seen_more}
use Rattle.update_ops.proofs.touching.is_new.Goals as goal

pub returns-clause-answer : goal.returns-clause-answer
returns-clause-answer c = λ fs seen.
    let m = c.args.mark.now in
    let above : has_front c.args.tops.now (key_of_parts m.way) ≡ false = ap (has_front c.args.tops.now) (sym (c.in_ok-way.ensures.text ∙ ap key_of_parts c.as_slice.ensures)) ∙ (sym c.has_front.ensures ∙ c.if-has_front.false) in
    c.in_ok-insert.ensures.added
    ∙ (ap not (contains_has c.args.seen.now.keys c.in_ok-place.place ∙ (ap (has c.args.seen.now.keys) c.in_ok-place.ensures.text ∙ seen (place_of m) c.in_ok-place.ensures.clean))
    ∙ ap (λ (b : Bool). not (b || stands_in (place_of m) fs)) (sym above))

pub returns-clause-seen : goal.returns-clause-seen
returns-clause-seen c = λ fs seen.
    let m = c.args.mark.now in
    elim (cases_Bool c.in_ok-insert.field-0) [
      | inl b ↦ subst (λ (new : Bool). HasSeen c.insert.new.self.keys (if new then fs ++ (m ∷ []) else fs)) (sym b)
          (subst (λ (ts : List Text). HasSeen ts (fs ++ (m ∷ []))) (sym (c.in_ok-insert.ensures.keys ∙ ap (with_text c.args.seen.now.keys) c.in_ok-place.ensures.text)) (seen_more c.args.seen.now.keys fs m c.in_ok-place.ensures.clean seen))
      | inr b ↦ subst (λ (new : Bool). HasSeen c.insert.new.self.keys (if new then fs ++ (m ∷ []) else fs)) (sym b)
          (subst (λ (ts : List Text). HasSeen ts fs) (sym (subst (λ (x : Bool). OnFalse x (c.insert.new.self.keys ≡ c.args.seen.now.keys)) b c.in_ok-insert.ensures.unchanged)) seen)
    ]
