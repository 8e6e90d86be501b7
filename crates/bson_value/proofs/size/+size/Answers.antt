use Rattle.std.proofs.Common.{refl, arith, ap, sym, ◌∙◌, ◌+◌, length, map}
use Rattle.bson_value.specs.Levels.{largest, levels_in}
use Rattle.bson_value.specs.Spelling.{items_of, document_text}
use Rattle.bson_value.proofs.Sizes.{value_size, leaf_size, none_left, behind, fields_stop, fields_go_on, items_no_room, items_stop, items_go_on, spelled-object, levels-object, spelled-array, levels-array, spelled-code, levels-code, spelled-str, levels-str, spelled-code_text, levels-code_text, spelled-symbol_text, levels-symbol_text, spelled-regex, levels-regex, spelled-pointer, levels-pointer, spelled-double, levels-double, spelled-decimal, levels-decimal, spelled-oid, levels-oid, leaf}
use Rattle.bson_value.proofs.size.+size.Goals as goal

pub array-returns-in_err-without : goal.array-returns-in_err-without
array-returns-in_err-without t c =
    none_left _ _ _ _ _ c.from_residual-in_err-without.ensures
    (items_no_room _ _ _ _ _ _ c.loop-i-test.true c.index-items-i.is c.loop-i.invariant.0 (omega (arith, c.in_err-without.ensures, c.digit_count.ensures.digits)))

pub array-returns-in_err-left-2 : goal.array-returns-in_err-left-2
array-returns-in_err-left-2 t c =
    none_left _ _ _ _ _ c.from_residual-in_err-left-2.ensures
    (items_stop _ _ _ _ _ _ _ c.loop-i-test.true c.index-items-i.is c.loop-i.invariant.0 (omega (arith, c.in_ok-without.ensures, c.digit_count.ensures.digits)) c.in_err-left-2.ensures)

pub array-loop-i-preserved : goal.array-loop-i-preserved
array-loop-i-preserved t c =
    items_go_on _ _ _ _ _ _ _ _ c.loop-i-test.true c.index-items-i.is c.loop-i.invariant (omega (arith, c.in_ok-without.ensures, c.digit_count.ensures.digits)) c.in_ok-left-2.ensures

pub fields-returns-in_err-left : goal.fields-returns-in_err-left
fields-returns-in_err-left t c =
    none_left _ _ _ _ _ c.from_residual.ensures (fields_stop _ _ _ _ _ _ c.loop-i-test.true c.index-entries-i.is c.loop-i.invariant c.in_err-left.ensures)

pub fields-loop-i-preserved : goal.fields-loop-i-preserved
fields-loop-i-preserved t c = fields_go_on _ _ _ _ _ _ _ c.loop-i-test.true c.index-entries-i.is c.loop-i.invariant c.in_ok-left.ensures

pub value-returns-in-Object : goal.value-returns-in-Object
value-returns-in-Object t c = value_size _ _ _ _ _ _ _ c.in-Object.is (spelled-object _) (levels-object _) c.document.ensures

pub value-returns-in-Array : goal.value-returns-in-Array
value-returns-in-Array t c =
    value_size _ _ _ _ _ _ _ c.in-Array.is (spelled-array _ ∙ ap (λ vs. length (items_of vs) + 5) (sym c.as_slice.ensures)) (levels-array _ ∙ ap (λ vs. largest (map levels_in vs) + 1) (sym c.as_slice.ensures)) c.array.ensures

pub value-returns-in_ok-without-in-ScopedCode : goal.value-returns-in_ok-without-in-ScopedCode
value-returns-in_ok-without-in-ScopedCode t c =
    value_size _ _ _ _ _ _ _ c.in-ScopedCode.is (spelled-code _ _ ∙ ap (λ n. length (document_text c.in-ScopedCode.scope) + (n + 9)) (sym c.len.ensures)) (levels-code _ _) (behind _ _ _ _ _ _ _ c.in_ok-without-in-ScopedCode.ensures c.document-in-ScopedCode.ensures)

pub value-returns-in_ok-without-in-Regex : goal.value-returns-in_ok-without-in-Regex
value-returns-in_ok-without-in-Regex t c =
    value_size _ _ ((c.len-in-Regex-2.result + 1) + (c.len-in-Regex.result + 1)) 0 _ _ _ c.in-Regex.is (spelled-regex _ _ ∙ omega (arith, c.len-in-Regex.ensures, c.len-in-Regex-2.ensures)) (levels-regex _ _)
    (behind _ _ _ _ _ _ _ c.in_ok-without-in-Regex.ensures (leaf _ 0 _ _ _ _ refl refl c.without-in-Regex-2.ensures))

pub value-returns-in_ok-without-in-DbPointer : goal.value-returns-in_ok-without-in-DbPointer
value-returns-in_ok-without-in-DbPointer t c =
    value_size _ _ ((length c.as_slice-in-DbPointer.result.now + 0) + (c.len-in-DbPointer.result + 5)) 0 _ _ _ c.in-DbPointer.is (spelled-pointer _ _ ∙ omega (arith, c.len-in-DbPointer.ensures, ap length c.as_slice-in-DbPointer.ensures)) (levels-pointer _ _)
    (behind _ _ _ _ _ _ _ c.in_ok-without-in-DbPointer.ensures (leaf _ 0 _ _ _ _ refl refl c.without-in-DbPointer-2.ensures))

pub value-returns-in-Str : goal.value-returns-in-Str
value-returns-in-Str t c = leaf_size _ _ _ _ _ _ _ c.in-Str.is (spelled-str _) (levels-str _) (ap (λ n. n + 5) c.len-in-Str.ensures) c.without-in-Str.ensures

pub value-returns-in-Code : goal.value-returns-in-Code
value-returns-in-Code t c = leaf_size _ _ _ _ _ _ _ c.in-Code.is (spelled-code_text _) (levels-code_text _) (ap (λ n. n + 5) c.len-in-Code.ensures) c.without-in-Code.ensures

pub value-returns-in-Symbol : goal.value-returns-in-Symbol
value-returns-in-Symbol t c = leaf_size _ _ _ _ _ _ _ c.in-Symbol.is (spelled-symbol_text _) (levels-symbol_text _) (ap (λ n. n + 5) c.len-in-Symbol.ensures) c.without-in-Symbol.ensures

pub value-returns-in-Double : goal.value-returns-in-Double
value-returns-in-Double t c = leaf_size _ _ _ _ _ _ _ c.in-Double.is (spelled-double _) (levels-double _) (omega (arith, ap length c.as_slice-in-Double.ensures)) c.without-in-Double.ensures

pub value-returns-in-Decimal : goal.value-returns-in-Decimal
value-returns-in-Decimal t c = leaf_size _ _ _ _ _ _ _ c.in-Decimal.is (spelled-decimal _) (levels-decimal _) (omega (arith, ap length c.as_slice-in-Decimal.ensures)) c.without-in-Decimal.ensures

pub value-returns-in-Oid : goal.value-returns-in-Oid
value-returns-in-Oid t c = leaf_size _ _ _ _ _ _ _ c.in-Oid.is (spelled-oid _) (levels-oid _) (omega (arith, ap length c.as_slice-in-Oid.ensures)) c.without-in-Oid.ensures
