use Rattle.std.proofs.Common.{sym, ◌∙◌, ap, Some, None, [], arith}
use Rattle.std.specs.Prelude.{Option}
use Rattle.bson_value.specs.declared.value.Value.{Value}
use Rattle.bson_value.specs.declared.value.Value.TheVariants.{Array}
use Rattle.bson_value.proofs.Child.{nth-beyond, put_item_same}
use Rattle.doc_path.specs.Touch.{or_else, resize_here}
use Rattle.doc_path.proofs.Steps.{array_off, set_array, unset_array, array_step, array_stops, last_put, last_delete, last_length, set-put_item, nth-slice_get, on_ok, on_err}
use Rattle.doc_path.proofs.writing.change_in_array.Goals as goal

pub returns-in-None-clause-ok : goal.returns-in-None-clause-ok
returns-in-None-clause-ok c = array_off c.args.rule c.args.last.now c.args.action c.args.items.now c.in-None.ensures.none

pub returns-in-Put-clause-ok : goal.returns-in-Put-clause-ok
returns-in-Put-clause-ok c =
    on_ok c.put_element.result (λ e.
    last_put c.args.rule c.args.last.now c.args.action c.in-Put.value (Array c.args.items.now) _ c.in-Put.is
    (set_array c.args.rule c.args.last.now c.in-Put.value c.args.items.now c.put_element.new.items c.in-Some.at c.in-Some.ensures.some e)) c.put_element.ensures.ok

pub returns-in-Delete-clause-ok : goal.returns-in-Delete-clause-ok
returns-in-Delete-clause-ok c =
    last_delete c.args.rule c.args.last.now c.args.action (Array c.args.items.now) _ c.in-Delete.is
    (unset_array c.args.rule c.args.last.now c.args.items.now c.blank_element.new.items c.in-Some.at c.in-Some.ensures.some c.blank_element.ensures)

pub returns-then-at-len-clause-ok : goal.returns-then-at-len-clause-ok
returns-then-at-len-clause-ok c =
    let found = nth-slice_get c.args.items.now c.in-Some.at ∙ c.item_mut-inner.ensures.value in
    let l = c.len.ensures in
    on_ok c.resize_value.result (λ e.
    last_length c.args.rule c.args.last.now c.args.action c.in-Resize.len (Array c.args.items.now) _ c.in-Resize.is
    (array_step c.args.rule c.args.last.now None [] (resize_here c.in-Resize.len) c.args.items.now _ c.in-Some.at c.item_mut-inner.result.now c.resize_value.new.value c.in-Some.ensures.some
    (ap (λ (o : Option Value). or_else o None) found) e (set-put_item c.args.items.now c.in-Some.at c.resize_value.new.value (omega (arith, c.if-at-len.true, l))))) c.resize_value.ensures.ok

pub returns-then-at-len-clause-err : goal.returns-then-at-len-clause-err
returns-then-at-len-clause-err c =
    let found = nth-slice_get c.args.items.now c.in-Some.at ∙ c.item_mut-inner.ensures.value in
    let l = c.len.ensures in
    on_err c.resize_value.result (λ e. set-put_item c.args.items.now c.in-Some.at c.resize_value.new.value (omega (arith, c.if-at-len.true, l)) ∙ put_item_same c.args.items.now c.in-Some.at c.resize_value.new.value (found ∙ ap Some (sym e))) c.resize_value.ensures.err

pub returns-else-at-len-clause-ok : goal.returns-else-at-len-clause-ok
returns-else-at-len-clause-ok c =
    last_length c.args.rule c.args.last.now c.args.action c.in-Resize.len (Array c.args.items.now) (Array c.args.items.now) c.in-Resize.is
    (array_stops c.args.rule c.args.last.now None [] (resize_here c.in-Resize.len) c.args.items.now c.in-Some.at c.in-Some.ensures.some
    (ap (λ (o : Option Value). or_else o None) (nth-beyond c.args.items.now c.in-Some.at (rw c.len.ensures at c.if-at-len.false))))
