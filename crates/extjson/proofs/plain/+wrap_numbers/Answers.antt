use Rattle.std.proofs.Common.{◌≡◌, ap, sym, subst, ◌∙◌}
use Rattle.std.specs.Prelude.{IfOk}
use Rattle.std.proofs.lemmas.List.{take_all}
use Rattle.json_tree.specs.declared.tree.Tree.{Tree}
use Rattle.extjson.specs.Plain.{wrapped_numbers, wrapped_fields}
use Rattle.extjson.proofs.Wrapping.{wrapped_null, wrapped_bool, wrapped_number, wrapped_str, wrapped_list, told_object, other_object, wrapped_names}
use Rattle.extjson.proofs.plain.+wrap_numbers.Goals as goal

pub fields-of_distinct-requires : goal.fields-of_distinct-requires
fields-of_distinct-requires t c =
    let all = ap wrapped_fields (take_all c.loop-entry.entry-index c.args.entries.now c.loop-entry-test.false) in
    rw (c.loop-entry.invariant ∙ all, wrapped_names) c.requires

pub wrapped-returns-then-branch : goal.wrapped-returns-then-branch
wrapped-returns-then-branch t c =
    let told = rw c.entries.ensures.entries at (sym c.in_ok-has_plain_parts-in-Object.ensures ∙ c.if-branch.true) in
    rw c.in_ok-copy-in-Object.ensures (sym (ap wrapped_numbers c.in-Object.is ∙ told_object c.in-Object.members told))

pub wrapped-returns-in-Null : goal.wrapped-returns-in-Null
wrapped-returns-in-Null t c = sym (ap wrapped_numbers c.in-Null.is ∙ wrapped_null)

pub wrapped-returns-in-Bool : goal.wrapped-returns-in-Bool
wrapped-returns-in-Bool t c = sym (ap wrapped_numbers c.in-Bool.is ∙ wrapped_bool c.in-Bool.b)

pub wrapped-returns-in-Number : goal.wrapped-returns-in-Number
wrapped-returns-in-Number t c =
    subst (λ (u : Tree). IfOk c.number.result (λ x. x ≡ u)) (sym (ap wrapped_numbers c.in-Number.is ∙ wrapped_number c.in-Number.text)) c.number.ensures

pub wrapped-returns-in_ok-copy-in-Str : goal.wrapped-returns-in_ok-copy-in-Str
wrapped-returns-in_ok-copy-in-Str t c = rw c.in_ok-copy-in-Str.ensures (sym (ap wrapped_numbers c.in-Str.is ∙ wrapped_str c.in-Str.text))

pub wrapped-returns-in_ok-items-in-Items : goal.wrapped-returns-in_ok-items-in-Items
wrapped-returns-in_ok-items-in-Items t c = rw (rw c.as_slice.ensures at c.in_ok-items-in-Items.ensures) (sym (ap wrapped_numbers c.in-Items.is ∙ wrapped_list c.in-Items.trees))

pub wrapped-returns-in_ok-fields-in-Object : goal.wrapped-returns-in_ok-fields-in-Object
wrapped-returns-in_ok-fields-in-Object t c =
    let told = rw c.entries.ensures.entries at (sym c.in_ok-has_plain_parts-in-Object.ensures ∙ c.if-branch.false) in
    rw (rw c.entries-in-Object.ensures.entries at c.in_ok-fields-in-Object.ensures) (sym (ap wrapped_numbers c.in-Object.is ∙ other_object c.in-Object.members told))
