use Rattle.std.proofs.Common.{◌≡◌, ◌++◌, ◌∷◌, [], ◌+◌, ◌-◌, ℕ, List, refl, sym, ap, ◌∙◌, append-nil, length, arith}
use Rattle.std.proofs.lemmas.List.{length-append}
use Rattle.bson_value.specs.declared.value.Value.{Value, Array, Object}
use Rattle.doc_path.specs.declared.parts.Part.{Part}
use Rattle.doc_path.specs.declared.parts.Form.TheVariants.{V2}
use Rattle.doc_path.specs.declared.parts.Change.TheVariants.{Put}
use Rattle.doc_path.specs.Touch.{changed}
use Rattle.doc_path.proofs.Steps.{on_ok}
use Rattle.update_model.specs.declared.mark.Mark.{Mark}
use Rattle.update_model.specs.Steps.{elements}
use Rattle.update_ops.proofs.draft.Draft.append.Goals as goal

pub returns : goal.returns
returns c is vs e k =
    let way : c.as_slice.result.now ≡ c.args.way = c.as_slice.ensures in
    let place : c.as_slice-2.result.now ≡ c.args.way ++ (c.args.last ∷ []) = c.as_slice-2.ensures ∙ c.in_ok-push.ensures.ok in
    let l : length (is ++ vs) ≡ length is + length vs = length-append is vs in
    let to : c.len-to.result ≡ length is + length vs = c.len-to.ensures ∙ (ap (λ (z : List Value). length z) e ∙ l) in
    let more : c.len-to.result - c.args.count ≡ length vs = omega arith in
    on_ok c.mark_elements.result (λ m. record {
      doc = c.in_ok-change_document.ensures.ok ∙ (λ i. changed V2 (way i) c.args.last (Put (Array (e i))) (Object c.args.self.now.doc));
      marks = m ∙ ((λ i. c.args.self.now.marks ++ elements (place i) (k i) (more i)) ∙ ap (λ (z : List Mark). c.args.self.now.marks ++ z) (sym (append-nil (elements (c.args.way ++ (c.args.last ∷ [])) (length is) (length vs)))));
      is_large = refl;
    }) c.mark_elements.ensures
