use Rattle.std.proofs.Common.{◌≡◌, ◌++◌, sym, ap, ◌∙◌, inl, inr, rules, true, false}
use Rattle.std.specs.Prelude.{OnOk}
use Rattle.json_text.specs.Print.{text_of}
use Rattle.extjson.specs.Trees.{int_tree, long_tree, date_tree}
use Rattle.bson_value.specs.declared.value.Value.TheVariants as values
use Rattle.bson_view.specs.References.{value_meant}
use Rattle.document_lines.specs.Json.{json_of}
use Rattle.document_lines.proofs.LeafTexts.{appended, leaf_put, nested, is_object, is_array, is_scoped, text_kind, double_json, binary_json, undefined_json, oid_json, bool_json, date_json, null_json, regex_json, pointer_json, code_json, symbol_json, int_json, stamp_json, long_json, decimal_json, min_json, max_json}
use Rattle.document_lines.proofs.leaves.put_read.Goals as goal

pub unreachable-requires : goal.unreachable-requires
unreachable-requires c =
    let never = nested c.read.result _ c.read.ensures c.requires.leaf in
    elim c.in-Str.is [
      | inl t ↦ c.requires.no_text (text_kind t.0 _ _ _ c.spells.ensures.spelled (ap value_meant (sym t.1) ∙ c.read.ensures))
      | inr other ↦ elim other [
        | inl o ↦ never _ o.1 (is_object o.0)
        | inr more ↦ elim more [ inl a ↦ never _ a.1 (is_array a.0) | inr s ↦ never _ s.2 (is_scoped s.0 s.1) ]
      ]
    ]

pub returns-in-Double : goal.returns-in-Double
returns-in-Double c = leaf_put _ _ _ _ _ _ c.in-Double.ensures (double_json c.in-Double.bits) c.put_double.ensures

pub returns-in-Binary : goal.returns-in-Binary
returns-in-Binary c = leaf_put _ _ _ _ _ _ c.in-Binary.ensures (binary_json c.in-Binary.subtype c.in-Binary.bytes.now) c.put_binary.ensures

pub returns-in-Oid : goal.returns-in-Oid
returns-in-Oid c = leaf_put _ _ _ _ _ _ c.in-Oid.ensures (oid_json c.in-Oid.id) c.put_object_id.ensures

pub returns-in-Regex : goal.returns-in-Regex
returns-in-Regex c = leaf_put _ _ _ _ _ _ c.in-Regex.ensures (regex_json c.in-Regex.pattern.now c.in-Regex.options.now) c.put_regex.ensures

pub returns-in-DbPointer : goal.returns-in-DbPointer
returns-in-DbPointer c = leaf_put _ _ _ _ _ _ c.in-DbPointer.ensures (pointer_json c.in-DbPointer.ns.now c.in-DbPointer.id) c.put_pointer.ensures

pub returns-in-Code : goal.returns-in-Code
returns-in-Code c = leaf_put _ _ _ _ _ _ c.in-Code.ensures (code_json c.in-Code.code.now) c.put_code.ensures

pub returns-in-Symbol : goal.returns-in-Symbol
returns-in-Symbol c = leaf_put _ _ _ _ _ _ c.in-Symbol.ensures (symbol_json c.in-Symbol.text.now) c.put_symbol.ensures

pub returns-in-Decimal : goal.returns-in-Decimal
returns-in-Decimal c = leaf_put _ _ _ _ _ _ c.in-Decimal.ensures (decimal_json c.in-Decimal.bits) c.put_decimal.ensures

pub returns-in-Int : goal.returns-in-Int
returns-in-Int c =
    let put : OnOk c.put_int.result (c.put_int.new.out.items ≡ c.args.out.now.items ++ text_of (int_tree c.in-Int.n)) = search rules in
    leaf_put _ _ _ _ _ _ c.in-Int.ensures (int_json c.in-Int.n) put

pub returns-in-Long : goal.returns-in-Long
returns-in-Long c =
    let put : OnOk c.put_long.result (c.put_long.new.out.items ≡ c.args.out.now.items ++ text_of (long_tree c.in-Long.n)) = search rules in
    leaf_put _ _ _ _ _ _ c.in-Long.ensures (long_json c.in-Long.n) put

pub returns-in-Date : goal.returns-in-Date
returns-in-Date c =
    let put : OnOk c.put_date.result (c.put_date.new.out.items ≡ c.args.out.now.items ++ text_of (date_tree c.in-Date.millis)) = search rules in
    leaf_put _ _ _ _ _ _ c.in-Date.ensures (date_json c.in-Date.millis) put

pub returns-in-Stamp : goal.returns-in-Stamp
returns-in-Stamp c = leaf_put _ _ _ _ _ _ c.in-Stamp.ensures (stamp_json c.in-Stamp.ts) c.put_stamp.ensures

pub returns-in-Undefined : goal.returns-in-Undefined
returns-in-Undefined c = leaf_put _ _ _ _ _ _ c.in-Undefined.ensures undefined_json (appended _ _ _ _ c.extend_from_slice.ensures.items)

pub returns-in-Null : goal.returns-in-Null
returns-in-Null c = leaf_put _ _ _ _ _ _ c.in-Null.ensures null_json (appended _ _ _ _ c.extend_from_slice-in-Null.ensures.items)

pub returns-in-MinKey : goal.returns-in-MinKey
returns-in-MinKey c = leaf_put _ _ _ _ _ _ c.in-MinKey.ensures min_json (appended _ _ _ _ c.extend_from_slice-in-MinKey.ensures.items)

pub returns-in-MaxKey : goal.returns-in-MaxKey
returns-in-MaxKey c = leaf_put _ _ _ _ _ _ c.in-MaxKey.ensures max_json (appended _ _ _ _ c.extend_from_slice-in-MaxKey.ensures.items)

pub returns-in-Bool-true : goal.returns-in-Bool-true
returns-in-Bool-true c = leaf_put _ _ _ _ _ _ c.in-Bool-true.ensures (ap (λ b. json_of (values.Bool b)) c.in-Bool-true.field-0-test ∙ bool_json true) (appended _ _ _ _ c.extend_from_slice-in-Bool-true.ensures.items)

pub returns-in-Bool-false : goal.returns-in-Bool-false
returns-in-Bool-false c = leaf_put _ _ _ _ _ _ c.in-Bool-false.ensures (ap (λ b. json_of (values.Bool b)) c.in-Bool-false.field-0-test ∙ bool_json false) (appended _ _ _ _ c.extend_from_slice-in-Bool-false.ensures.items)
