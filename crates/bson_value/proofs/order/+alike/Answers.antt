use Rattle.bson_value.proofs.Unordered.{answer_object, answer_array, answer_code, answer_code_not, answer_unlike, answer_leaf, object_unlike, array_unlike, code_unlike, never, same_count, fields_fail, fields_end, alike_more, items_fail, items_more}
use Rattle.bson_value.proofs.order.+alike.Goals as goal
use Rattle.std.proofs.Common.{sym, ◌∙◌}

pub alike-returns-in-Object-b : goal.alike-returns-in-Object-b
alike-returns-in-Object-b t c = answer_object _ _ _ _ _ c.in-Object.is c.in-Object-b.is c.alike_fields.ensures

pub alike-returns-in_default-b : goal.alike-returns-in_default-b
alike-returns-in_default-b t c = answer_unlike _ _ _ c.in-Object.is (object_unlike _ _ c.in_default-b.not-Object)

pub alike-returns-in-Array-b : goal.alike-returns-in-Array-b
alike-returns-in-Array-b t c = answer_array _ _ _ _ _ _ _ c.in-Array.is c.in-Array-b.is c.as_slice.ensures c.as_slice-in-Array-b.ensures c.alike_items.ensures

pub alike-returns-in_default-b-2 : goal.alike-returns-in_default-b-2
alike-returns-in_default-b-2 t c = answer_unlike _ _ _ c.in-Array.is (array_unlike _ _ c.in_default-b-2.not-Array)

pub alike-returns-then-eq : goal.alike-returns-then-eq
alike-returns-then-eq t c =
    answer_code _ _ _ _ _ _ _ _ _ _ c.in-ScopedCode.is c.in-ScopedCode-b.is c.as_str.ensures c.as_str-in-ScopedCode-b.ensures c.eq.ensures c.if-eq.true c.alike_fields-then-eq.ensures

pub alike-returns-else-eq : goal.alike-returns-else-eq
alike-returns-else-eq t c =
    answer_code_not _ _ _ _ _ _ _ _ _ c.in-ScopedCode.is c.in-ScopedCode-b.is c.as_str.ensures c.as_str-in-ScopedCode-b.ensures c.eq.ensures c.if-eq.false

pub alike-returns-in_default-b-3 : goal.alike-returns-in_default-b-3
alike-returns-in_default-b-3 t c = answer_unlike _ _ _ c.in-ScopedCode.is (code_unlike _ _ _ c.in_default-b-3.not-ScopedCode)

pub alike-returns-in_default : goal.alike-returns-in_default
alike-returns-in_default t c = answer_leaf _ _ _ c.in_default.not-Object c.in_default.not-Array c.in_default.not-ScopedCode c.same.ensures

pub alike_fields-returns-then-len : goal.alike_fields-returns-then-len
alike_fields-returns-then-len t c =
    never (λ s. c.if-len.true (c.len.ensures.count ∙ (same_count _ _ c.len.ensures.distinct c.len-2.ensures.distinct s ∙ sym c.len-2.ensures.count)))

pub alike_fields-returns-then-not-has_alike : goal.alike_fields-returns-then-not-has_alike
alike_fields-returns-then-not-has_alike t c =
    fields_fail _ _ _ _ _ _ c.entries-entries.ensures.entries c.len.ensures.distinct c.loop-i-test.true c.index-entries-i.is c.if-not-has_alike.true c.has_alike.ensures

pub alike_fields-loop-i-preserved : goal.alike_fields-loop-i-preserved
alike_fields-loop-i-preserved t c =
    alike_more _ _ _ _ c.loop-i-test.true c.index-entries-i.is c.loop-i.invariant (c.has_alike.ensures.0 c.if-not-has_alike.false)

pub alike_fields-returns : goal.alike_fields-returns
alike_fields-returns t c =
    fields_end _ _ _ _ c.entries-entries.ensures.entries c.len.ensures.distinct (sym c.len.ensures.count ∙ (c.if-len.false ∙ c.len-2.ensures.count)) c.loop-i-test.false c.loop-i.invariant

pub alike_items-returns-then-not-alike : goal.alike_items-returns-then-not-alike
alike_items-returns-then-not-alike t c =
    items_fail _ _ _ _ _ _ c.loop-i-test.true c.if-a-b.false c.index-a-i.is c.index-b-i.is c.if-not-alike.true c.alike.ensures

pub alike_items-loop-i-preserved : goal.alike_items-loop-i-preserved
alike_items-loop-i-preserved t c =
    items_more _ _ _ _ _ c.loop-i-test.true c.if-a-b.false c.index-a-i.is c.index-b-i.is (c.alike.ensures.0 c.if-not-alike.false) c.loop-i.invariant
