use Rattle.std.proofs.Common.{◌≡◌, ℕ, suc, ◌+◌, List, length, drop, sym, ap, subst, arith, rules, ◌∙◌, inl, inr, Bool, true, false}
use Rattle.std.specs.Prelude.{IsTrue, ◌↔◌}
use Rattle.std.proofs.lemmas.List.{length-drop}
use Rattle.bson_view.specs.Views.{elem_part, elem_value, parts_left}
use Rattle.bson_view.specs.Meaning.{is_value, value_in}
use Rattle.bson_view.proofs.Meanings.{value_checked}
use Rattle.bson_spelling.specs.Spelled.{IsSpelled}
use Rattle.bson_spelling.proofs.Frames.{Within, document_is, array_is, scope_there, scope_is, no_level, leaf_is, behind_all, through}
use Rattle.bson_spelling.proofs.Steps.{fields_no, fields_on, fields_short, items_unnamed, items_no, items_on, items_short, items_names}
use Rattle.bson_spelling.proofs.walk.+walk.Goals.{are_fields-then-is_leaf, are_fields-else-is_leaf, are_items-then-is_leaf, are_items-else-is_leaf}
use Rattle.bson_spelling.proofs.walk.+walk.Goals as goal

-- a truth isn't false
apart : (b : Bool) → b ≡ true → b ≡ false → ⊥
apart b t f = let e : true ≡ false = sym t ∙ f in absurd cc

pub are_fields-returns-then-not-spelled : goal.are_fields-returns-then-not-spelled
are_fields-returns-then-not-spelled t c =
    fields_no c.args.levels (parts_left c.args.elements) (parts_left c.loop-elem.elem-iterator) (elem_part c.in-Some.elem) (parts_left c.next.new.self) c.in-Some.ensures.steps c.spells.ensures.spelled c.are_bytes.ensures c.loop-elem.invariant.same c.loop-elem.invariant.short
    (λ o. elim c.if-is_leaf.branch [ are_fields-then-is_leaf w ↦ apart c.if-is_leaf.spelled (w.spelled-is ∙ w.if-is_leaf.true) c.if-not-spelled.true | are_fields-else-is_leaf w ↦ apart c.if-is_leaf.spelled (w.spelled-is ∙ w.is_value-spelled.ensures.1 o) c.if-not-spelled.true ])

pub are_fields-loop-elem-preserved : goal.are_fields-loop-elem-preserved
are_fields-loop-elem-preserved t c =
    let all = parts_left c.args.elements in
    let left = parts_left c.loop-elem.elem-iterator in
    let p = elem_part c.in-Some.elem in
    let ps = parts_left c.next.new.self in
    let spelled : IsSpelled c.args.levels p = elim c.if-is_leaf.branch [ are_fields-then-is_leaf w ↦ c.is_leaf.ensures c.args.levels (search rules) | are_fields-else-is_leaf w ↦ w.is_value-spelled.ensures.0 (search rules) ] in
    record {
      same = fields_on c.args.levels all left p ps c.in-Some.ensures.steps c.spells.ensures.spelled c.are_bytes.ensures c.loop-elem.invariant.same c.loop-elem.invariant.short spelled;
      short = fields_short c.args.levels all left p ps c.in-Some.ensures.steps c.spells.ensures.spelled c.are_bytes.ensures c.loop-elem.invariant.same c.loop-elem.invariant.short;
    }

pub are_items-returns-then-not-named : goal.are_items-returns-then-not-named
are_items-returns-then-not-named t c =
    items_unnamed c.args.levels (parts_left c.args.elements) (parts_left c.loop-elem.elem-iterator) (elem_part c.in-Some.elem) (parts_left c.next.new.self) c.in-Some.ensures.steps c.spells.ensures.spelled c.are_bytes.ensures c.loop-elem.index c.loop-elem.invariant.same c.loop-elem.invariant.short c.loop-elem.invariant.names
    (λ e. apart c.is_index-named.result (c.is_index-named.ensures.1 e) c.if-not-named.true)

pub are_items-returns-then-not-spelled : goal.are_items-returns-then-not-spelled
are_items-returns-then-not-spelled t c =
    items_no c.args.levels (parts_left c.args.elements) (parts_left c.loop-elem.elem-iterator) (elem_part c.in-Some.elem) (parts_left c.next.new.self) c.in-Some.ensures.steps c.spells.ensures.spelled c.are_bytes.ensures c.loop-elem.index c.loop-elem.invariant.same c.loop-elem.invariant.short c.loop-elem.invariant.names
    (λ o. elim c.if-is_leaf.branch [ are_items-then-is_leaf w ↦ apart c.if-is_leaf.spelled (w.spelled-is ∙ w.if-is_leaf.true) c.if-not-spelled.true | are_items-else-is_leaf w ↦ apart c.if-is_leaf.spelled (w.spelled-is ∙ w.is_value-spelled.ensures.1 o) c.if-not-spelled.true ])

pub are_items-loop-elem-preserved : goal.are_items-loop-elem-preserved
are_items-loop-elem-preserved t c =
    let all = parts_left c.args.elements in
    let left = parts_left c.loop-elem.elem-iterator in
    let p = elem_part c.in-Some.elem in
    let ps = parts_left c.next.new.self in
    let spelled : IsSpelled c.args.levels p = elim c.if-is_leaf.branch [ are_items-then-is_leaf w ↦ c.is_leaf.ensures c.args.levels (search rules) | are_items-else-is_leaf w ↦ w.is_value-spelled.ensures.0 (search rules) ] in
    let named : c.is_index-named.result ≡ true = search rules in
    record {
      same = items_on c.args.levels all left p ps c.in-Some.ensures.steps c.spells.ensures.spelled c.are_bytes.ensures c.loop-elem.index c.loop-elem.invariant.same c.loop-elem.invariant.short c.loop-elem.invariant.names (c.is_index-named.ensures.0 named) spelled;
      short = items_short c.args.levels all left p ps c.in-Some.ensures.steps c.spells.ensures.spelled c.are_bytes.ensures c.loop-elem.index c.loop-elem.invariant.same c.loop-elem.invariant.short c.loop-elem.invariant.names;
      names = items_names c.args.levels all left p ps c.in-Some.ensures.steps c.spells.ensures.spelled c.are_bytes.ensures c.loop-elem.index c.loop-elem.invariant.same c.loop-elem.invariant.short c.loop-elem.invariant.names;
    }

pub is_array-returns-in-Some : goal.is_array-returns-in-Some
is_array-returns-in-Some t c =
    let e = c.args.elem.now in
    let k = array_is e.tag e.value.now (elem_value e) c.spells.ensures.spelled c.are_bytes.ensures (parts_left c.elements.result) c.in-Some.inner c.requires c.elements.ensures in
    let h = c.in-Some.ensures in
    let is : suc c.in-Some.inner ≡ c.args.levels = omega arith in
    subst (λ n. IsTrue c.are_items.result ↔ Within n e.value.now (elem_value e)) is (through k c.are_items.ensures)

pub is_array-returns-in-None : goal.is_array-returns-in-None
is_array-returns-in-None t c =
    let e = c.args.elem.now in
    let h = c.in-None.ensures in
    let zero : c.args.levels ≡ 0 = omega arith in
    (λ y. absurd cc, λ w. absurd (no_level e.value.now e.tag (elem_value e) c.spells.ensures.spelled (inr c.requires) (subst (λ n. Within n e.value.now (elem_value e)) zero w)))

pub is_document-returns-in-Some : goal.is_document-returns-in-Some
is_document-returns-in-Some t c =
    let e = c.args.elem.now in
    let k = document_is e.tag e.value.now (elem_value e) c.spells.ensures.spelled c.are_bytes.ensures (parts_left c.elements.result) c.in-Some.inner c.requires c.elements.ensures in
    let h = c.in-Some.ensures in
    let is : suc c.in-Some.inner ≡ c.args.levels = omega arith in
    subst (λ n. IsTrue c.are_fields.result ↔ Within n e.value.now (elem_value e)) is (through k c.are_fields.ensures)

pub is_document-returns-in-None : goal.is_document-returns-in-None
is_document-returns-in-None t c =
    let e = c.args.elem.now in
    let h = c.in-None.ensures in
    let zero : c.args.levels ≡ 0 = omega arith in
    (λ y. absurd cc, λ w. absurd (no_level e.value.now e.tag (elem_value e) c.spells.ensures.spelled (inl c.requires) (subst (λ n. Within n e.value.now (elem_value e)) zero w)))

pub is_scoped-invariant_of-scope : goal.is_scoped-invariant_of-scope
is_scoped-invariant_of-scope t c =
    let e = c.args.elem.now in
    let k = 4 + length c.scope.result.0.now in
    let s = scope_there e.tag e.value.now (elem_value e) c.spells.ensures.spelled c.are_bytes.ensures c.scope.result.0.now (parts_left c.scope.result.1) c.scope.ensures in
    record {
      spelled = subst (λ (b : List ℕ). IsTrue (is_value 3 b)) (sym (behind_all e.value.now k)) (value_checked 3 (drop k e.value.now) _ s.value);
      short = omega (arith, e.short, ap length (behind_all e.value.now k), length-drop k e.value.now);
    }

pub is_scoped-returns : goal.is_scoped-returns
is_scoped-returns t c =
    let e = c.args.elem.now in
    let text = c.scope.result.0.now in
    let s = scope_there e.tag e.value.now (elem_value e) c.spells.ensures.spelled c.are_bytes.ensures text (parts_left c.scope.result.1) c.scope.ensures in
    let n = c.args.levels in
    let inner = subst (λ (b : List ℕ). IsTrue c.is_document.result ↔ Within n b (value_in 3 b)) (behind_all e.value.now (4 + length text)) c.is_document.ensures in
    through (scope_is e.tag e.value.now (elem_value e) c.spells.ensures.spelled c.are_bytes.ensures text n s) inner

pub is_value-returns-in_default : goal.is_value-returns-in_default
is_value-returns-in_default t c =
    let e = c.args.elem in
    (λ y. leaf_is e.tag e.value.now (elem_value e) c.args.levels c.spells.ensures.spelled c.spells.ensures.leaf (search rules) (search rules) (search rules), λ w. search rules)
