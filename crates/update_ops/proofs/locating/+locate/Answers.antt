use Rattle.std.proofs.Common.{◌≡◌, ◌<◌, ◌∷◌, ℕ, List, Option, Some, None, Result, IfOk, false, sym, ap, ◌∙◌, subst, append-nil, length}
use Rattle.bson_value.specs.declared.value.Value.{Value}
use Rattle.bson_value.specs.Digits.{index_of}
use Rattle.bson_value.specs.Place.{nth}
use Rattle.containers.specs.Entries.{lookup}
use Rattle.doc_path.specs.Touch.{small, limit}
use Rattle.doc_path.proofs.Steps.{nth-slice_get}
use Rattle.update_model.specs.Located.{Located, Missing, located}
use Rattle.update_ops.specs.Sites.{located_as, behind, gone_on}
use Rattle.doc_path.specs.declared.parts.Part.{Part}
use Rattle.doc_path.specs.declared.parts.Part.TheVariants.{Name as name, Index as index}
use Rattle.update_ops.proofs.Leads.{field_located, no_field, element_located, no_element, no_index_located, other_located}
use Rattle.update_ops.proofs.locating.+locate.Goals as goal

pub locate_element-returns-in_default : goal.locate_element-returns-in_default
locate_element-returns-in_default t c =
    let none : small (index_of c.args.name.now) ≡ false = subst (λ (k : List ℕ). small (index_of k) ≡ false) c.as_str.ensures.text c.in_default.ensures.none in
    sym (ap (behind c.args.way.now) (no_index_located c.args.name.now c.args.rest.now c.args.items.now none))

pub locate_element-returns-in-Some-get : goal.locate_element-returns-in-Some-get
locate_element-returns-in-Some-get t c =
    let is : index_of c.args.name.now ≡ Some c.in-Some.at = subst (λ (k : List ℕ). index_of k ≡ Some c.in-Some.at) c.as_str.ensures.text c.in-Some.ensures.some.0 in
    let at : nth c.args.items.now c.in-Some.at ≡ Some c.in-Some-get.inner.now = nth-slice_get c.args.items.now c.in-Some.at ∙ sym c.in-Some-get.ensures in
    subst (λ (z : Located). IfOk c.go_on.result (λ f. located_as c.go_on.new.way f ≡ behind c.args.way.now z))
    (sym (element_located c.args.name.now c.args.rest.now c.args.items.now c.in-Some.at (Some c.in-Some-get.inner.now) is c.in-Some.ensures.some.1 at)) c.go_on.ensures

pub locate_element-returns-in-None : goal.locate_element-returns-in-None
locate_element-returns-in-None t c =
    let is : index_of c.args.name.now ≡ Some c.in-Some.at = subst (λ (k : List ℕ). index_of k ≡ Some c.in-Some.at) c.as_str.ensures.text c.in-Some.ensures.some.0 in
    let at : nth c.args.items.now c.in-Some.at ≡ None = nth-slice_get c.args.items.now c.in-Some.at ∙ sym c.in-None.ensures in
    rw c.len.ensures (sym (ap (behind c.args.way.now) (no_element c.args.name.now c.args.rest.now c.args.items.now c.in-Some.at is c.in-Some.ensures.some.1 at) ∙ ap (λ (z : List Part). Missing z (index c.in-Some.at) (length c.args.items.now) c.args.rest.now) (append-nil c.args.way.now)))

pub locate_field-returns-in-Some : goal.locate_field-returns-in-Some
locate_field-returns-in-Some t c =
    let at : lookup c.args.name.now c.args.doc.now ≡ Some c.in-Some.inner.now = ap (λ (k : List ℕ). lookup k c.args.doc.now) (sym c.as_str.ensures.text) ∙ sym c.in-Some.ensures in
    subst (λ (z : Located). IfOk c.go_on.result (λ f. located_as c.go_on.new.way f ≡ behind c.args.way.now z))
    (sym (field_located c.args.name.now c.args.rest.now c.args.doc.now (Some c.in-Some.inner.now) at))
    (subst (λ (k : List ℕ). IfOk c.go_on.result (λ f. located_as c.go_on.new.way f ≡ behind c.args.way.now (gone_on (name k) c.args.rest.now c.in-Some.inner.now))) c.in_ok-copy.ensures c.go_on.ensures)

pub locate_field-returns-in-None : goal.locate_field-returns-in-None
locate_field-returns-in-None t c =
    let at : lookup c.args.name.now c.args.doc.now ≡ None = ap (λ (k : List ℕ). lookup k c.args.doc.now) (sym c.as_str.ensures.text) ∙ sym c.in-None.ensures in
    rw c.in_ok-copy.ensures (sym (ap (behind c.args.way.now) (no_field c.args.name.now c.args.rest.now c.args.doc.now at) ∙ ap (λ (z : List Part). Missing z (name c.args.name.now) 0 c.args.rest.now) (append-nil c.args.way.now)))

pub locate_in-returns-in_default : goal.locate_in-returns-in_default
locate_in-returns-in_default t c =
    sym (ap (behind c.args.way.now) (other_located c.args.name.now c.args.rest.now c.args.value.now c.in_default.not-Object c.in_default.not-Array))
