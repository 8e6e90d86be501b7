use Rattle.std.proofs.Common.{◌≡◌, List, inl, inr, sym, subst, rules}
use Rattle.bson_value.specs.declared.value.Value.{out-Value}
use Rattle.bson_view.specs.Parts.{Part, AreElementsOf}
use Rattle.bson_view.specs.Views.{elem_value}
use Rattle.bson_view.proofs.Bodies.{IsNested, value_has, value_elements, value_has_none}
use Rattle.bson_view.proofs.elem.Elem.elements.Goals as goal
use Rattle.bson_view.proofs.elem.Elem.elements.Goals.{then-self-eq3, else-self-eq3}

pub of_frame-requires : goal.of_frame-requires
of_frame-requires c =
    let e = c.args.self.now in
    let nested : IsNested e.tag = elim c.if-self-eq3.branch [ then-self-eq3 w ↦ inl (search rules) | else-self-eq3 w ↦ inr (search rules) ] in
    record { elements = value_has e.tag e.value.now e.spelled nested; short = e.short }

pub returns-then-self-eq4 : goal.returns-then-self-eq4
returns-then-self-eq4 c =
    let e = c.args.self.now in
    let nested : IsNested e.tag = elim c.if-self-eq3.branch [ then-self-eq3 w ↦ inl (search rules) | else-self-eq3 w ↦ inr (search rules) ] in
    subst (λ (ps : List Part). AreElementsOf (out-Value (elem_value e)) e.value.now ps) (sym c.of_frame.ensures) (value_elements e.tag e.value.now e.spelled nested)

pub returns-else-self-eq4 : goal.returns-else-self-eq4
returns-else-self-eq4 c =
    let e = c.args.self.now in
    let other : (e.tag ≡ 3 → ⊥) × (e.tag ≡ 4 → ⊥) = elim c.if-self-eq3.branch [ then-self-eq3 w ↦ search rules | else-self-eq3 w ↦ search rules ] in
    subst (λ (ps : List Part). AreElementsOf (out-Value (elem_value e)) e.value.now ps) (sym c.none.ensures) (value_has_none e.tag e.value.now e.spelled other.0 other.1)
