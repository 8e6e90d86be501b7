use Rattle.std.proofs.Common.{ap, sym, refl, ◌∙◌, arith}
use Rattle.std.specs.Prelude.{codes}
use Rattle.std.proofs.lemmas.Result.{err_from_is_err_and}
use Rattle.extjson.specs.Values.{value_of}
use Rattle.extjson.proofs.Loops.{items_more, items_fail, items_end, fields_more, name_fails, value_fails, fields_end, names_more, failed}
use Rattle.extjson.proofs.TreeParts.{value_null, value_bool, value_number, value_str, value_items, value_object, plain_object, wrapper_object, wrapper_none, wrapper_one, wrapper_two, scoped_pair, scoped_is, both_size}
use Rattle.extjson.proofs.reading.+value_of.Goals as goal

-- ---- members

pub fields-returns-in_err-name : goal.fields-returns-in_err-name
fields-returns-in_err-name t c =
    let p = err_from_is_err_and c.from_residual-in_err-name.result c.from_residual-in_err-name.ensures.1 in
    rw (p.1, p.2) (name_fails c.args.entries.now c.loop-entry.entry-index c.entry-item.result c.loop-entry-test.true c.entry-item.is c.loop-entry.fields.items _ _ (rw c.as_str.ensures at c.in_err-name.ensures) c.loop-entry.invariant.read)

pub fields-returns-in_err-value : goal.fields-returns-in_err-value
fields-returns-in_err-value t c =
    let p = err_from_is_err_and c.from_residual-in_err-value.result c.from_residual-in_err-value.ensures.1 in
    rw (p.1, p.2) (value_fails c.args.entries.now c.loop-entry.entry-index c.entry-item.result c.loop-entry-test.true c.entry-item.is c.loop-entry.fields.items _ _ _ (rw c.as_str.ensures at c.in_ok-name.ensures) c.in_err-value.ensures c.loop-entry.invariant.read)

pub fields-loop-entry-preserved : goal.fields-loop-entry-preserved
fields-loop-entry-preserved t c = record {
  read = rw c.in_ok-push.ensures.items (fields_more c.args.entries.now c.loop-entry.entry-index c.entry-item.result c.loop-entry-test.true c.entry-item.is c.loop-entry.fields.items _ _ _ (rw c.as_str.ensures at c.in_ok-name.ensures) c.in_ok-value.ensures c.loop-entry.invariant.read);
  names = rw c.in_ok-push.ensures.items (names_more c.args.entries.now c.loop-entry.entry-index c.entry-item.result c.loop-entry-test.true c.entry-item.is c.loop-entry.fields.items _ _ (rw c.as_str.ensures at c.in_ok-name.ensures) c.loop-entry.invariant.names);
}

pub fields-returns : goal.fields-returns
fields-returns t c = rw c.of_distinct.ensures (fields_end c.args.entries.now c.loop-entry.entry-index c.loop-entry.fields.items _ c.loop-entry-test.false c.loop-entry.invariant.read)

-- ---- items

pub items-returns-in_err-value : goal.items-returns-in_err-value
items-returns-in_err-value t c =
    let p = err_from_is_err_and c.from_residual-in_err-value.result c.from_residual-in_err-value.ensures.1 in
    rw (p.1, p.2) (items_fail c.args.trees.now c.loop-tree.tree-index c.tree-item.result c.loop-tree-test.true c.tree-item.is c.loop-tree.values _ _ c.in_err-value.ensures c.loop-tree.invariant)

pub items-loop-tree-preserved : goal.items-loop-tree-preserved
items-loop-tree-preserved t c = rw c.in_ok-push.ensures.ok (items_more c.args.trees.now c.loop-tree.tree-index c.tree-item.result c.loop-tree-test.true c.tree-item.is c.loop-tree.values _ _ c.in_ok-value.ensures c.loop-tree.invariant)

pub items-returns : goal.items-returns
items-returns t c = items_end c.args.trees.now c.loop-tree.tree-index c.loop-tree.values _ c.loop-tree-test.false c.loop-tree.invariant

-- ---- objects

pub object-returns-in_err-fields : goal.object-returns-in_err-fields
object-returns-in_err-fields t c =
    let p = err_from_is_err_and c.from_residual.result c.from_residual.ensures.1 in
    rw (p.1, p.2, plain_object c.args.entries.now (sym c.has_wrapper.ensures ∙ c.if-not-has_wrapper.true)) (failed _ _ _ c.in_err-fields.ensures)

pub object-returns-then-not-has_wrapper : goal.object-returns-then-not-has_wrapper
object-returns-then-not-has_wrapper t c = rw (plain_object c.args.entries.now (sym c.has_wrapper.ensures ∙ c.if-not-has_wrapper.true), c.in_ok-fields.ensures) refl

pub object-returns-in-empty : goal.object-returns-in-empty
object-returns-in-empty t c = wrapper_object c.args.entries.now (sym c.has_wrapper.ensures ∙ c.if-not-has_wrapper.false) ∙ wrapper_none c.args.entries.now c.in-empty.len_below

pub object-returns-in-len1 : goal.object-returns-in-len1
object-returns-in-len1 t c =
    let e = wrapper_object c.args.entries.now (sym c.has_wrapper.ensures ∙ c.if-not-has_wrapper.false) ∙ wrapper_one c.args.entries.now c.entry-item.result c.in-len1.len_at_least c.in-len1.len_below c.entry-item.is in
    rw (e, ← c.as_str.ensures, ← c.named.ensures) c.wrapped.ensures

pub object-returns-in_default : goal.object-returns-in_default
object-returns-in_default t c =
    let e = wrapper_object c.args.entries.now (sym c.has_wrapper.ensures ∙ c.if-not-has_wrapper.false) ∙ wrapper_two c.args.entries.now c.in_default.len_at_least in
    rw e c.scoped.ensures

-- ---- codes with a scope

pub scoped-returns-in_err-code : goal.scoped-returns-in_err-code
scoped-returns-in_err-code t c =
    let p = err_from_is_err_and c.from_residual.result c.from_residual.ensures.1 in
    rw (p.1, p.2, scoped_is c.args.entries.now) (failed _ _ scoped_pair c.in_err-code.ensures)

pub scoped-returns-in_err-string : goal.scoped-returns-in_err-string
scoped-returns-in_err-string t c =
    let p = err_from_is_err_and c.from_residual-in_err-string.result c.from_residual-in_err-string.ensures.1 in
    rw (p.1, p.2, scoped_is c.args.entries.now, c.in_ok-code.ensures) (failed _ _ _ c.in_err-string.ensures)

pub scoped-document-requires : goal.scoped-document-requires
scoped-document-requires t c = (omega (arith, both_size (codes "$code") (codes "$scope") c.args.entries.now _ c.in_ok-code.ensures), tt)

pub scoped-returns-in_err-scope : goal.scoped-returns-in_err-scope
scoped-returns-in_err-scope t c =
    let p = err_from_is_err_and c.from_residual-in_err-scope.result c.from_residual-in_err-scope.ensures.1 in
    rw (p.1, p.2, scoped_is c.args.entries.now, c.in_ok-code.ensures, c.in_ok-string.ensures) (failed _ _ _ c.in_err-scope.ensures)

pub scoped-returns : goal.scoped-returns
scoped-returns t c = rw (scoped_is c.args.entries.now, c.in_ok-code.ensures, c.in_ok-string.ensures, c.in_ok-scope.ensures, c.in_ok-code-2.ensures) refl

-- ---- trees

pub value-returns-in_err-items-in-Items : goal.value-returns-in_err-items-in-Items
value-returns-in_err-items-in-Items t c =
    let p = err_from_is_err_and c.from_residual-in_err-items-in-Items.result c.from_residual-in_err-items-in-Items.ensures.1 in
    rw (p.1, p.2, c.in-Items.is, value_items) (failed _ _ _ (rw c.as_slice.ensures at c.in_err-items-in-Items.ensures))

pub value-returns-in-Null : goal.value-returns-in-Null
value-returns-in-Null t c = ap value_of c.in-Null.is ∙ value_null

pub value-returns-in-Bool : goal.value-returns-in-Bool
value-returns-in-Bool t c = ap value_of c.in-Bool.is ∙ value_bool c.in-Bool.b

pub value-returns-in-Number : goal.value-returns-in-Number
value-returns-in-Number t c = rw (c.in-Number.is, value_number c.in-Number.text) (rw c.as_str.ensures.text at c.plain.ensures)

pub value-returns-in_ok-copy-in-Str : goal.value-returns-in_ok-copy-in-Str
value-returns-in_ok-copy-in-Str t c = rw c.in_ok-copy-in-Str.ensures (ap value_of c.in-Str.is ∙ value_str c.in-Str.text)

pub value-returns-in_ok-items-in-Items : goal.value-returns-in_ok-items-in-Items
value-returns-in_ok-items-in-Items t c = rw (c.in-Items.is, value_items c.in-Items.trees, rw c.as_slice.ensures at c.in_ok-items-in-Items.ensures) refl

pub value-returns-in-Object : goal.value-returns-in-Object
value-returns-in-Object t c = rw (c.in-Object.is, value_object c.in-Object.fields) (rw c.entries.ensures.entries at c.object.ensures)
