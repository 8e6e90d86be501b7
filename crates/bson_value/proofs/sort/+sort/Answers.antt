use Rattle.std.proofs.Common.{sym, ap, subst, ◌∙◌, map, List, ℕ, arith, length, ◌<◌}
use Rattle.containers.specs.Entries.{AreDistinct, names_of}
use Rattle.bson_value.specs.declared.value.Value.{Value}
use Rattle.bson_value.specs.declared.value.Value.TheVariants.{Object, Array, ScopedCode}
use Rattle.bson_value.specs.Alike.{ordered}
use Rattle.bson_value.proofs.Ordered.{ordered-Object, ordered-Array, ordered-ScopedCode, ordered_leaf, names-ordered_fields, set_mapped_next, read_set, length-mapped}
use Rattle.bson_value.proofs.sort.+sort.Goals as goal

abbrev on_value : List ℕ × Value → List ℕ × Value
on_value e = (e.0, ordered e.1)

pub Fields+Value::into_ordered-sorted-requires : goal.Fields+Value::into_ordered-sorted-requires
Fields+Value::into_ordered-sorted-requires t c =
    subst AreDistinct (sym (ap names_of c.fields.ensures ∙ names-ordered_fields c.into_entries.result.items)) c.into_entries.ensures.distinct

pub items-loop-i-preserved : goal.items-loop-i-preserved
items-loop-i-preserved t c =
    set_mapped_next ordered c.args.items.items c.loop-i.items.items c.loop-i.i c.replace-item.new.dest c.index_mut.result.now c.value.result (omega (arith, c.loop-i-test.true, c.len-i-end.ensures)) c.loop-i.invariant c.index_mut.ensures.value
    (c.value.ensures ∙ ap ordered c.replace-item.ensures.value)

pub fields-loop-i-preserved : goal.fields-loop-i-preserved
fields-loop-i-preserved t c =
    let old = c.args.entries.items in
    let now = c.loop-i.entries.items in
    let i = c.loop-i.i in
    let here = c.index_mut.result.now in
    let lt : i < length old = omega (arith, c.loop-i-test.true, c.len-i-end.ensures) in
    let within : i < length now = omega (arith, lt, ap length c.loop-i.invariant, length-mapped on_value old i) in
    let same = read_set now i (here.0, c.replace-item.new.dest) c.index_mut-in-loop-i.result.now c.index_mut-in-loop-i.result.now within c.index_mut-in-loop-i.ensures.value in
    set_mapped_next on_value old now i (here.0, c.replace-item.new.dest) here (c.index_mut-in-loop-i.result.now.0, c.value.result) lt c.loop-i.invariant c.index_mut.ensures.value
    (λ j. (ap (λ (e : List ℕ × Value). e.0) same j, (c.value.ensures ∙ ap ordered c.replace-item.ensures.value) j))

pub value-returns-in-Object : goal.value-returns-in-Object
value-returns-in-Object t c = ap Object c.into_ordered.ensures ∙ (sym (ordered-Object c.in-Object.doc) ∙ ap ordered (sym c.in-Object.is))

pub value-returns-in-Array : goal.value-returns-in-Array
value-returns-in-Array t c =
    ap Array (c.from_vec.ensures ∙ (c.items.ensures ∙ ap (map ordered) c.into_vec.ensures)) ∙ (sym (ordered-Array c.in-Array.list) ∙ ap ordered (sym c.in-Array.is))

pub value-returns-in-ScopedCode : goal.value-returns-in-ScopedCode
value-returns-in-ScopedCode t c =
    ap (ScopedCode c.in-ScopedCode.code) c.into_ordered-in-ScopedCode.ensures ∙ (sym (ordered-ScopedCode c.in-ScopedCode.code c.in-ScopedCode.scope) ∙ ap ordered (sym c.in-ScopedCode.is))

pub value-returns-in_default : goal.value-returns-in_default
value-returns-in_default t c = sym (ordered_leaf c.args.value c.in_default.not-Object c.in_default.not-Array c.in_default.not-ScopedCode)
