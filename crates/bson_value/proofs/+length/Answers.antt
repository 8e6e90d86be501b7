use Rattle.std.proofs.Common.{ap, ◌+◌, length, arith}
use Rattle.bson_value.specs.Spelling.{document_text}
use Rattle.bson_value.proofs.Sizes.{items_total, value_total, spelled-code, spelled-str, spelled-code_text, spelled-symbol_text, spelled-regex, spelled-pointer}
use Rattle.bson_value.proofs.+length.Goals as goal

pub length::items-loop-i-preserved : goal.length::items-loop-i-preserved
length::items-loop-i-preserved t c =
    items_total c.args.items.now c.loop-i.i c.index-items-i.result c.loop-i.len c.sum.result c.digit_count.result c.spelling_len.result c.sum-in-loop-i.result c.sum-len.result c.loop-i-test.true c.index-items-i.is c.loop-i.invariant
    c.digit_count.ensures.digits c.sum.ensures c.spelling_len.ensures c.sum-in-loop-i.ensures c.sum-len.ensures

pub value::Value::spelling_len-returns-in-ScopedCode : goal.value::Value::spelling_len-returns-in-ScopedCode
value::Value::spelling_len-returns-in-ScopedCode t c =
    value_total _ _ (length (document_text c.in-ScopedCode.scope) + (length c.in-ScopedCode.code + 9)) _ c.in-ScopedCode.is (spelled-code _ _) (omega (arith, c.len.ensures, c.sum.ensures, c.spelling_len-in-ScopedCode.ensures, c.sum-in-ScopedCode.ensures))

pub value::Value::spelling_len-returns-in-Str : goal.value::Value::spelling_len-returns-in-Str
value::Value::spelling_len-returns-in-Str t c = value_total _ _ (length c.in-Str.text + 5) _ c.in-Str.is (spelled-str _) (omega (arith, c.len-in-Str.ensures, c.sum-in-Str.ensures))

pub value::Value::spelling_len-returns-in-Code : goal.value::Value::spelling_len-returns-in-Code
value::Value::spelling_len-returns-in-Code t c = value_total _ _ (length c.in-Code.text + 5) _ c.in-Code.is (spelled-code_text _) (omega (arith, c.len-in-Code.ensures, c.sum-in-Code.ensures))

pub value::Value::spelling_len-returns-in-Symbol : goal.value::Value::spelling_len-returns-in-Symbol
value::Value::spelling_len-returns-in-Symbol t c =
    value_total _ _ (length c.in-Symbol.text + 5) _ c.in-Symbol.is (spelled-symbol_text _) (omega (arith, c.len-in-Symbol.ensures, c.sum-in-Symbol.ensures))

pub value::Value::spelling_len-returns-in-Regex : goal.value::Value::spelling_len-returns-in-Regex
value::Value::spelling_len-returns-in-Regex t c =
    value_total _ _ ((length c.in-Regex.pattern + 1) + (length c.in-Regex.options + 1)) _ c.in-Regex.is (spelled-regex _ _) (omega (arith, c.len-in-Regex.ensures, c.len-in-Regex-2.ensures, c.sum-in-Regex.ensures, c.sum-in-Regex-2.ensures))

pub value::Value::spelling_len-returns-in-DbPointer : goal.value::Value::spelling_len-returns-in-DbPointer
value::Value::spelling_len-returns-in-DbPointer t c =
    value_total _ _ ((length c.in-DbPointer.ns + 5) + length c.in-DbPointer.id) _ c.in-DbPointer.is (spelled-pointer _ _)
    (omega (arith, c.len-in-DbPointer.ensures, c.sum-in-DbPointer.ensures, ap length c.as_slice-in-DbPointer.ensures, c.sum-in-DbPointer-2.ensures))
