use Rattle.std.proofs.Common.{◌≡◌, ℕ, ◌+◌, ◌<◌, ◌^◌, List, ◌∷◌, ◌++◌, [], length, refl, sym, ap, subst, ◌∙◌, arith}
use Rattle.std.specs.Ordering.{nat_cmp}
use Rattle.std.specs.Fmt.{decimal}
use Rattle.std.proofs.lemmas.List.{length-append}
use Rattle.std.specs.declared.cmp.Ordering.TheVariants.{Equal}
use Rattle.bson_value.specs.declared.value.Value.{Value}
use Rattle.bson_value.specs.Spelling.{count_bytes, counted, element, spelled, spelling, text_bytes, document_text}
use Rattle.bson_encode.specs.Leading.{Leads}
use Rattle.bson_encode.proofs.Comparing.{counted_count, spelled_regex, spelled_scoped}
use Rattle.bson_encode.proofs.Leading.{is_equal, leads_behind, leads_differ, leads_same}
use Rattle.bson_encode.proofs.Elements.{lead_differs, lead_on, fields_from, items_from, field_from, item_from, fields_greater, fields_ended, items_greater, items_ended, element_by_name, element_by_value}
use Rattle.bson_encode.proofs.order.+keys.Goals as goal

pub elements-returns-then-b-i : goal.elements-returns-then-b-i
elements-returns-then-b-i t c = items_greater c.args.a.now c.args.b.now c.loop-i.i c.loop-i.invariant.lead c.loop-i-test.true c.if-b-i.true

pub elements-returns-then-is_ne : goal.elements-returns-then-is_ne
elements-returns-then-is_ne t c =
    let a = c.args.a.now in
    let b = c.args.b.now in
    let i = c.loop-i.i in
    lead_differs (items_from a) (items_from b) i c.loop-i.invariant.lead (element (decimal i, spelling c.index-a-i.result)) (element (decimal i, spelling c.index-b-i.result)) (item_from a i c.index-a-i.result c.loop-i-test.true c.index-a-i.is) (item_from b i c.index-b-i.result (omega (arith, c.if-b-i.false)) c.index-b-i.is) c.one-order.result (sym c.is_ne.ensures ∙ c.if-is_ne.true) (c.one-order.ensures (decimal i))

pub elements-loop-i-preserved : goal.elements-loop-i-preserved
elements-loop-i-preserved t c =
    let a = c.args.a.now in
    let b = c.args.b.now in
    let i = c.loop-i.i in
    record {
      within = omega (arith, c.if-b-i.false);
      lead = lead_on (items_from a) (items_from b) i c.loop-i.invariant.lead (element (decimal i, spelling c.index-a-i.result)) (element (decimal i, spelling c.index-b-i.result)) (item_from a i c.index-a-i.result c.loop-i-test.true c.index-a-i.is) (item_from b i c.index-b-i.result (omega (arith, c.if-b-i.false)) c.index-b-i.is) c.one-order.result (is_equal c.one-order.result (sym c.is_ne.ensures ∙ c.if-is_ne.false)) (c.one-order.ensures (decimal i));
    }

pub elements-returns : goal.elements-returns
elements-returns t c =
    let i = c.loop-i.i in
    let ended : length c.args.a.now ≡ i = omega (arith, c.loop-i.auto.i-end, c.loop-i-test.false) in
    items_ended c.args.a.now c.args.b.now i c.loop-i.invariant.lead (omega (arith, ended)) c.loop-i.invariant.within c.cmp.result (c.cmp.ensures ∙ ap (λ n. nat_cmp n (length c.args.b.now)) ended)

pub fields-returns-then-b-i : goal.fields-returns-then-b-i
fields-returns-then-b-i t c = fields_greater c.args.a.now c.args.b.now c.loop-i.i c.loop-i.invariant.lead c.loop-i-test.true c.if-b-i.true

pub fields-returns-then-is_ne : goal.fields-returns-then-is_ne
fields-returns-then-is_ne t c =
    let a = c.args.a.now in
    let b = c.args.b.now in
    let i = c.loop-i.i in
    lead_differs (fields_from a) (fields_from b) i c.loop-i.invariant.lead (element (c.index-a-i.result.0, spelling c.index-a-i.result.1)) (element (c.index-b-i.result.0, spelling c.index-b-i.result.1)) (field_from a i c.index-a-i.result c.loop-i-test.true c.index-a-i.is) (field_from b i c.index-b-i.result (omega (arith, c.if-b-i.false)) c.index-b-i.is) c.field-order.result (sym c.is_ne.ensures ∙ c.if-is_ne.true) c.field-order.ensures

pub fields-loop-i-preserved : goal.fields-loop-i-preserved
fields-loop-i-preserved t c =
    let a = c.args.a.now in
    let b = c.args.b.now in
    let i = c.loop-i.i in
    record {
      within = omega (arith, c.if-b-i.false);
      lead = lead_on (fields_from a) (fields_from b) i c.loop-i.invariant.lead (element (c.index-a-i.result.0, spelling c.index-a-i.result.1)) (element (c.index-b-i.result.0, spelling c.index-b-i.result.1)) (field_from a i c.index-a-i.result c.loop-i-test.true c.index-a-i.is) (field_from b i c.index-b-i.result (omega (arith, c.if-b-i.false)) c.index-b-i.is) c.field-order.result (is_equal c.field-order.result (sym c.is_ne.ensures ∙ c.if-is_ne.false)) c.field-order.ensures;
    }

pub fields-returns : goal.fields-returns
fields-returns t c =
    let i = c.loop-i.i in
    let ended : length c.args.a.now ≡ i = omega (arith, c.loop-i.auto.i-end, c.loop-i-test.false) in
    fields_ended c.args.a.now c.args.b.now i c.loop-i.invariant.lead (omega (arith, ended)) c.loop-i.invariant.within c.cmp.result (c.cmp.ensures ∙ ap (λ n. nat_cmp n (length c.args.b.now)) ended)

pub field-returns-then-is_ne-2 : goal.field-returns-then-is_ne-2
field-returns-then-is_ne-2 t c =
    element_by_name c.args.a.now.1 c.args.b.now.1 c.type_of.result c.type_of-2.result c.byte-order.result c.type_of.ensures c.type_of-2.ensures c.byte-order.ensures (sym c.is_ne.ensures ∙ c.if-is_ne.false) c.args.a.now.0 c.args.b.now.0 c.name-order.result (sym c.is_ne-2.ensures ∙ c.if-is_ne-2.true) c.name-order.ensures

pub field-returns : goal.field-returns
field-returns t c =
    element_by_value c.args.a.now.1 c.args.b.now.1 c.type_of.result c.type_of-2.result c.byte-order.result c.type_of.ensures c.type_of-2.ensures c.byte-order.ensures (sym c.is_ne.ensures ∙ c.if-is_ne.false) c.args.a.now.0 c.args.b.now.0 c.name-order.result c.value.result (sym c.is_ne-2.ensures ∙ c.if-is_ne-2.false) c.name-order.ensures c.value.ensures

pub one-returns : goal.one-returns
one-returns t c = λ n.
    element_by_value c.args.a.now c.args.b.now c.type_of.result c.type_of-2.result c.byte-order.result c.type_of.ensures c.type_of-2.ensures c.byte-order.ensures (sym c.is_ne.ensures ∙ c.if-is_ne.false) n n Equal c.value.result refl (leads_same (n ++ 0 ∷ [])) c.value.ensures

pub code-returns : goal.code-returns
code-returns t c = λ p q.
    let x = text_bytes c.args.a.now in
    let y = text_bytes c.args.b.now in
    let r = document_text c.args.s.now in
    let s = document_text c.args.t.now in
    leads_behind x y r s c.boxed_text-order.result c.document.result (sym c.is_ne.ensures ∙ c.if-is_ne.false)
    (c.boxed_text-order.ensures (omega (arith, p, length-append x r)) (omega (arith, q, length-append y s)))
    (c.document.ensures (omega (arith, p, length-append x r)) (omega (arith, q, length-append y s)))

pub value-returns-in-Regex-b : goal.value-returns-in-Regex-b
value-returns-in-Regex-b t c = λ e p q.
    let a = c.args.a.now in
    let b = c.args.b.now in
    let f = ap (λ (v : Value). spelled v) c.in-Regex.is ∙ spelled_regex c.in-Regex.x c.in-Regex.s in
    let g = ap (λ (v : Value). spelled v) c.in-Regex-b.is ∙ spelled_regex c.in-Regex-b.y c.in-Regex-b.t in
    subst (λ (l : List ℕ). Leads l (spelled b) c.regex.result) (sym f) (subst (λ (l : List ℕ). Leads ((c.in-Regex.x ++ 0 ∷ []) ++ (c.in-Regex.s ++ 0 ∷ [])) l c.regex.result) (sym g) c.regex.ensures)

pub scoped-returns-then-is_ne : goal.scoped-returns-then-is_ne
scoped-returns-then-is_ne t c = λ p q.
    let x = text_bytes c.args.a.now ++ document_text c.args.s.now in
    let y = text_bytes c.args.b.now ++ document_text c.args.t.now in
    let o = c.count-order.result in
    let first : Leads (count_bytes (length x + 4)) (count_bytes (length y + 4)) o =
    subst (λ (l : List ℕ). Leads l (count_bytes (length y + 4)) o) (counted_count x c.args.first c.requires.first)
    (subst (λ (l : List ℕ). Leads (count_bytes c.args.first) l o) (counted_count y c.args.second c.requires.second) c.count-order.ensures.leads) in
    leads_differ (count_bytes (length x + 4)) (count_bytes (length y + 4)) x y o (sym c.is_ne.ensures ∙ c.if-is_ne.true) first

pub value-returns-in-ScopedCode-b : goal.value-returns-in-ScopedCode-b
value-returns-in-ScopedCode-b t c = λ e p q.
    let a = c.args.a.now in
    let b = c.args.b.now in
    let x = counted (text_bytes c.in-ScopedCode.x ++ document_text c.in-ScopedCode.s) in
    let f = ap (λ (v : Value). spelled v) c.in-ScopedCode.is ∙ spelled_scoped c.in-ScopedCode.x c.in-ScopedCode.s in
    let g = ap (λ (v : Value). spelled v) c.in-ScopedCode-b.is ∙ spelled_scoped c.in-ScopedCode-b.y c.in-ScopedCode-b.t in
    subst (λ (l : List ℕ). Leads l (spelled b) c.scoped.result) (sym f)
    (subst (λ (l : List ℕ). Leads x l c.scoped.result) (sym g) (c.scoped.ensures (subst (λ (l : List ℕ). length l < 2 ^ 31) f p) (subst (λ (l : List ℕ). length l < 2 ^ 31) g q)))
