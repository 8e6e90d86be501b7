use Rattle.std.proofs.Common.{sym, ◌∙◌, ap, Some, None, []}
use Rattle.std.specs.Prelude.{Option}
use Rattle.bson_value.specs.declared.value.Value.{Value}
use Rattle.bson_value.specs.declared.value.Value.TheVariants.{Object}
use Rattle.containers.proofs.Entries.{place_is, found_at, not_found, put_same}
use Rattle.doc_path.specs.Touch.{name, or_else, resize_here}
use Rattle.doc_path.proofs.Steps.{takes_name, set_object, unset_object, last_put, last_delete, last_length, doc_step, doc_stops, on_ok, on_err}
use Rattle.doc_path.proofs.writing.change_field.Goals as goal

pub returns-in-Put-clause-ok : goal.returns-in-Put-clause-ok
returns-in-Put-clause-ok c =
    on_ok c.set_field.result (λ e.
    last_put c.args.rule (name c.args.name.now) c.args.action c.in-Put.value (Object c.args.doc.now) _ c.in-Put.is
    (set_object c.args.rule (name c.args.name.now) c.in-Put.value c.args.doc.now c.set_field.new.doc (takes_name c.args.rule c.args.name.now) e)) c.set_field.ensures.ok

pub returns-in-Delete-clause-ok : goal.returns-in-Delete-clause-ok
returns-in-Delete-clause-ok c =
    last_delete c.args.rule (name c.args.name.now) c.args.action (Object c.args.doc.now) _ c.in-Delete.is
    (unset_object c.args.rule (name c.args.name.now) c.args.doc.now c.remove.new.self (takes_name c.args.rule c.args.name.now) (rw c.as_str.ensures.text at c.remove.ensures.rest))

pub returns-in-Some-clause-ok : goal.returns-in-Some-clause-ok
returns-in-Some-clause-ok c =
    let place = rw c.as_str-in-Resize.ensures.text at c.in-Some.ensures.place in
    let found = found_at c.args.name.now c.args.doc.now c.in-Some.at c.value_mut-inner.result.now place c.value_mut-inner.ensures.value in
    on_ok c.resize_value.result (λ e.
    last_length c.args.rule (name c.args.name.now) c.args.action c.in-Resize.len (Object c.args.doc.now) _ c.in-Resize.is
    (doc_step c.args.rule (name c.args.name.now) None [] (resize_here c.in-Resize.len) c.args.doc.now _ c.value_mut-inner.result.now c.resize_value.new.value (takes_name c.args.rule c.args.name.now)
    (ap (λ (o : Option Value). or_else o None) found) e (sym ((place_is c.args.name.now c.args.doc.now c.in-Some.at place).written c.resize_value.new.value)))) c.resize_value.ensures.ok

pub returns-in-Some-clause-err : goal.returns-in-Some-clause-err
returns-in-Some-clause-err c =
    let place = rw c.as_str-in-Resize.ensures.text at c.in-Some.ensures.place in
    let found = found_at c.args.name.now c.args.doc.now c.in-Some.at c.value_mut-inner.result.now place c.value_mut-inner.ensures.value in
    on_err c.resize_value.result (λ e. sym ((place_is c.args.name.now c.args.doc.now c.in-Some.at place).written c.resize_value.new.value) ∙ put_same c.args.doc.now c.args.name.now c.resize_value.new.value (found ∙ ap Some (sym e))) c.resize_value.ensures.err

pub returns-in-None-clause-ok : goal.returns-in-None-clause-ok
returns-in-None-clause-ok c =
    let place = rw c.as_str-in-Resize.ensures.text at c.in-None.ensures.place in
    last_length c.args.rule (name c.args.name.now) c.args.action c.in-Resize.len (Object c.args.doc.now) (Object c.args.doc.now) c.in-Resize.is
    (doc_stops c.args.rule (name c.args.name.now) None [] (resize_here c.in-Resize.len) c.args.doc.now (takes_name c.args.rule c.args.name.now) (ap (λ (o : Option Value). or_else o None) (not_found c.args.name.now c.args.doc.now place)))
