use Rattle.std.proofs.Common.{◌≡◌, [], ◌∷◌, sym, ap, ◌∙◌, subst, Option, Some}
use Rattle.bson_value.specs.declared.value.Value.{Value, out-Value}
use Rattle.std.specs.Prelude.{option_map}
use Rattle.bson_view.specs.HeldWalk.{fields_in}
use Rattle.bson_view.specs.declared.elem.Elem.{Elem}
use Rattle.bson_view.specs.Views.{document, elem_value}
use Rattle.doc_path.specs.declared.parts.Part.TheVariants.{Name}
use Rattle.entry_model.specs.Written.{Fields}
use Rattle.entry_reader.specs.FieldDeltas.{IsInDiff, IsOnlyField, place_of}
use Rattle.entry_reader.specs.Singles.{HasOneOrBoth}
use Rattle.entry_reader.proofs.FieldDeltas.{if_field, only_below}
use Rattle.entry_reader.proofs.field_delta.below_in.Goals as goal

pub returns-in-Some : goal.returns-in-Some
returns-in-Some c =
    let front = c.in_ok-front.front.now in
    let name = c.args.name.now in
    let w = elem_value c.args.kind.now in
    let first = c.in_ok-first.first in
    let field = c.in-Some.field in
    let diff = document c.in_ok-diff.diff in
    let fields : Fields = (first.name.now, elem_value first) ∷ ((field.name.now, elem_value field) ∷ []) in
    let same : diff ≡ fields = subst (λ (o : Option Elem). HasOneOrBoth first o diff) c.in-Some.is c.in_ok-first.ensures in
    let held : Some diff ≡ fields_in (out-Value w) = sym (ap (option_map document) c.in_ok-diff.was) ∙ c.document.ensures in
    if_field c.item_in.result (λ z. (v : Value) → IsInDiff (Some (Name front ∷ [])) (place_of z.0) (option_map elem_value z.1) ((first.name.now, v) ∷ ((field.name.now, elem_value field) ∷ []))) (λ z. IsOnlyField (place_of z.0) (option_map elem_value z.1) (115 ∷ name, w))
    (λ z i. only_below front name w diff (place_of z.0) (option_map elem_value z.1) c.in_ok-front.ensures.1 held
    (subst (λ (l : Fields). IsInDiff (Some (Name front ∷ [])) (place_of z.0) (option_map elem_value z.1) l) (sym same) (i (elem_value first)))) c.item_in.ensures

pub returns-in-None : goal.returns-in-None
returns-in-None c =
    let front = c.in_ok-front.front.now in
    let name = c.args.name.now in
    let w = elem_value c.args.kind.now in
    let first = c.in_ok-first.first in
    let diff = document c.in_ok-diff.diff in
    let fields : Fields = (first.name.now, elem_value first) ∷ [] in
    let same : diff ≡ fields = subst (λ (o : Option Elem). HasOneOrBoth first o diff) c.in-None.is c.in_ok-first.ensures in
    let held : Some diff ≡ fields_in (out-Value w) = sym (ap (option_map document) c.in_ok-diff.was) ∙ c.document.ensures in
    if_field c.field_in.result (λ z. IsInDiff (Some (Name front ∷ [])) (place_of z.0) (option_map elem_value z.1) fields) (λ z. IsOnlyField (place_of z.0) (option_map elem_value z.1) (115 ∷ name, w))
    (λ z i. only_below front name w diff (place_of z.0) (option_map elem_value z.1) c.in_ok-front.ensures.1 held
    (subst (λ (l : Fields). IsInDiff (Some (Name front ∷ [])) (place_of z.0) (option_map elem_value z.1) l) (sym same) i)) c.field_in.ensures
