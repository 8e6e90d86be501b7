use Rattle.std.proofs.Common.{◌≡◌, ℕ, List, ◌++◌, ap, ◌∙◌, true}
use Rattle.std.proofs.lemmas.Result.{on_ok_weaker}
use Rattle.bson_value.specs.Spelling.{elements_of}
use Rattle.entry_model.specs.Written.{s_of, diff}
use Rattle.entry_writer.specs.Elements.{opening}
use Rattle.entry_writer.specs.Edits.{edits_in}
use Rattle.entry_writer.specs.Groups.{groups_in, field_below, fields_at}
use Rattle.entry_writer.specs.Order.{risen}
use Rattle.entry_writer.proofs.Bytes.{closed, field_is}
use Rattle.entry_writer.proofs.Diffs.{grouped_once, fields_put, parts_put, gathered_put, document_put, array_put, with_below, without_below, no_edits, some_edits}
use Rattle.entry_writer.proofs.diff.+diff.Goals as goal

pub put_array_diff-rising-requires : goal.put_array_diff-rising-requires
put_array_diff-rising-requires t c = grouped_once true (edits_in c.args.edits.now) (groups_in c.in_ok-by_part.field-0.items) c.in_ok-by_part.ensures

pub put_array_diff-returns : goal.put_array_diff-returns
put_array_diff-returns t c =
    array_put c.args.levels (edits_in c.args.edits.now) c.as_slice-group-items.result.now c.loop-group.group-index c.args.out.now.items c.put_element.new.out.items c.put_level.new.out.items c.loop-group.out.items
    c.in_ok-put_element.ensures c.in_ok-put_level.ensures (ap groups_in c.as_slice-group-items.ensures.value ∙ (c.in_ok-groups.ensures ∙ ap risen c.in_ok-by_part.ensures)) c.loop-group-test.false c.loop-group.invariant

pub put_array_diff-loop-group-preserved : goal.put_array_diff-loop-group-preserved
put_array_diff-loop-group-preserved t c =
    gathered_put (fields_at c.args.levels) c.as_slice-group-items.result.now c.loop-group.group-index c.group-item.result c.put_level.new.out.items c.loop-group.out.items c.put_at_part.new.out.items
    c.loop-group-test.true c.group-item.is c.loop-group.invariant c.in_ok-put_at_part.ensures

pub put_document_diff-returns : goal.put_document_diff-returns
put_document_diff-returns t c =
    on_ok_weaker c.put_parts_below.result
    (λ h. document_put c.args.levels (edits_in c.args.edits.now) c.args.out.now.items c.put_section.new.out.items c.put_section-2.new.out.items c.put_section-3.new.out.items c.put_parts_below.new.out.items
    c.in_ok-put_section.ensures c.in_ok-put_section-2.ensures c.in_ok-put_section-3.ensures h)
    c.put_parts_below.ensures

pub put_parts_below-returns : goal.put_parts_below-returns
put_parts_below-returns t c =
    parts_put c.args.levels (edits_in c.args.edits.now) c.as_slice-group-items.result.now c.loop-group.group-index c.args.out.now.items c.loop-group.out.items
    (ap groups_in c.as_slice-group-items.ensures.value ∙ c.in_ok-groups.ensures) c.loop-group-test.false c.loop-group.invariant

pub put_parts_below-loop-group-preserved : goal.put_parts_below-loop-group-preserved
put_parts_below-loop-group-preserved t c =
    fields_put (field_below c.args.levels) c.as_slice-group-items.result.now c.loop-group.group-index c.group-item.result c.args.out.now.items c.loop-group.out.items c.put_field_below.new.out.items
    c.loop-group-test.true c.group-item.is c.loop-group.invariant c.in_ok-put_field_below.ensures

pub put_at_part-returns-then-is_empty : goal.put_at_part-returns-then-is_empty
put_at_part-returns-then-is_empty t c =
    let inner = c.in_ok-inner.inner in
    without_below c.args.levels c.args.group.now c.as_slice.result.now c.as_slice-2.result.now inner.items c.args.out.now.items c.put_elements_at.new.out.items
    c.as_slice.ensures.value c.as_slice-2.ensures.value c.in_ok-inner.ensures (no_edits inner.items _ _ c.is_empty.ensures inner.ok.0 c.if-is_empty.true) c.in_ok-put_elements_at.ensures

pub put_at_part-returns : goal.put_at_part-returns
put_at_part-returns t c =
    let inner = c.in_ok-inner.inner in
    on_ok_weaker c.put_below.result
    (λ h. with_below c.args.levels c.args.group.now c.as_slice.result.now c.as_slice-2.result.now inner.items c.as_slice-3.result.now c.args.out.now.items c.put_elements_at.new.out.items c.put_below.new.out.items
    c.as_slice.ensures.value c.as_slice-2.ensures.value c.as_slice-3.ensures.value c.in_ok-inner.ensures (some_edits inner.items _ _ c.is_empty.ensures inner.ok.0 c.if-is_empty.false) c.in_ok-put_elements_at.ensures h)
    c.put_below.ensures

pub put_below-returns : goal.put_below-returns
put_below-returns t c =
    let r = c.args.part.now in
    let es = edits_in c.args.edits.now in
    let old = c.args.out.now.items in
    let one = c.open.new.out.items in
    let two = c.put_diff.new.out.items in
    let opens : one ≡ old ++ opening (s_of r) = c.in_ok-open.ensures ∙ ap (λ (m : List ℕ). old ++ opening m) (c.as_str.ensures ∙ c.in_ok-name.ensures) in
    on_ok_weaker c.close.result
    (λ h. closed old (s_of r) one (elements_of (diff c.args.levels es)) two c.close.new.out.items c.len-start.result opens (c.len-start.ensures ∙ c.open.new.out.ok.0) c.in_ok-put_diff.ensures h
    ∙ ap (λ (b : List ℕ). old ++ b) (field_is (s_of r) (diff c.args.levels es)))
    c.close.ensures
