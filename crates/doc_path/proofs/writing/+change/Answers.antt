use Rattle.std.proofs.Common.{[], sym, ◌∙◌, ap, Some, arith, true, false, ◌≡◌}
use Rattle.std.specs.Prelude.{Option}
use Rattle.bson_value.specs.declared.value.Value.{Value}
use Rattle.bson_value.specs.declared.value.Value.TheVariants.{Object}
use Rattle.containers.proofs.Entries.{place_is, has_not, found_at, not_found, put_same}
use Rattle.bson_value.proofs.Child.{nth-beyond, put_item_same}
use Rattle.doc_path.specs.Touch.{name, step_by, or_else}
use Rattle.doc_path.specs.Rules.{taken_by, made_by}
use Rattle.doc_path.proofs.Steps.{takes_name, doc_step, doc_stops, array_step, array_stops, array_untaken, index_stays, other_untaken, on_ok, on_err, set-put_item, nth-slice_get}
use Rattle.doc_path.proofs.writing.+change.Goals as goal

pub go-returns-in_default : goal.go-returns-in_default
go-returns-in_default t c =
    record {
      ok = other_untaken c.args.rule c.args.first.now (made_by c.args.rule c.args.action) c.args.rest.now (step_by (taken_by c.args.rule) c.args.last.now c.args.action) c.args.value.now c.in_default.not-Object c.in_default.not-Array;
      err = tt;
      calm = tt;
    }

pub go_in_document-returns-in_default : goal.go_in_document-returns-in_default
go_in_document-returns-in_default t c = record {
  ok = index_stays c.args.rule c.args.first.now (made_by c.args.rule c.args.action) c.args.rest.now (step_by (taken_by c.args.rule) c.args.last.now c.args.action) c.in-Index.at c.args.doc.now c.in_default.not-V1 c.in-Index.is;
  err = tt;
  calm = tt;
}

pub go_in_field-returns-in-Some-clause-ok : goal.go_in_field-returns-in-Some-clause-ok
go_in_field-returns-in-Some-clause-ok t c =
    let place = rw c.as_str.ensures.text at c.in-Some.ensures.place in
    let found = found_at c.args.name.now c.args.doc.now c.in-Some.at c.value_mut-inner.result.now place c.value_mut-inner.ensures.value in
    on_ok c.change.result (λ e.
    doc_step c.args.rule (name c.args.name.now) (made_by c.args.rule c.args.action) c.args.rest.now (step_by (taken_by c.args.rule) c.args.last.now c.args.action) c.args.doc.now _ c.value_mut-inner.result.now c.change.new.value (takes_name c.args.rule c.args.name.now)
    (ap (λ (o : Option Value). or_else o (made_by c.args.rule c.args.action)) found) e (sym ((place_is c.args.name.now c.args.doc.now c.in-Some.at place).written c.change.new.value))) c.change.ensures.ok

pub go_in_field-returns-in-Some-clause-err : goal.go_in_field-returns-in-Some-clause-err
go_in_field-returns-in-Some-clause-err t c =
    let place = rw c.as_str.ensures.text at c.in-Some.ensures.place in
    let found = found_at c.args.name.now c.args.doc.now c.in-Some.at c.value_mut-inner.result.now place c.value_mut-inner.ensures.value in
    on_err c.change.result (λ e. sym ((place_is c.args.name.now c.args.doc.now c.in-Some.at place).written c.change.new.value) ∙ put_same c.args.doc.now c.args.name.now c.change.new.value (found ∙ ap Some (sym e))) c.change.ensures.err

pub go_in_field-returns-in_ok-name-in-None-clause-ok : goal.go_in_field-returns-in_ok-name-in-None-clause-ok
go_in_field-returns-in_ok-name-in-None-clause-ok t c =
    let place = rw c.as_str.ensures.text at c.in-None.ensures.place in
    let none = ap (λ (o : Option Value). or_else o (made_by c.args.rule c.args.action)) (not_found c.args.name.now c.args.doc.now place) ∙ c.makes.ensures.0 c.if-makes.true in
    let inner = rw c.new.ensures at c.in_ok-change-in-None.ensures.ok in
    on_ok c.add.result (λ e.
    doc_step c.args.rule (name c.args.name.now) (made_by c.args.rule c.args.action) c.args.rest.now (step_by (taken_by c.args.rule) c.args.last.now c.args.action) c.args.doc.now c.add.new.self (Object []) c.change-then-makes.new.value (takes_name c.args.rule c.args.name.now)
    none inner (rw c.in_ok-name-in-None.ensures at e ∙ sym ((has_not c.args.name.now c.args.doc.now place).written c.change-then-makes.new.value))) c.add.ensures.ok

pub go_in_field-returns-else-makes-clause-ok : goal.go_in_field-returns-else-makes-clause-ok
go_in_field-returns-else-makes-clause-ok t c =
    let place = rw c.as_str.ensures.text at c.in-None.ensures.place in
    let none = ap (λ (o : Option Value). or_else o (made_by c.args.rule c.args.action)) (not_found c.args.name.now c.args.doc.now place) ∙ c.makes.ensures.1 (λ h. let f : true ≡ false = sym h ∙ c.if-makes.false in cc) in
    doc_stops c.args.rule (name c.args.name.now) (made_by c.args.rule c.args.action) c.args.rest.now (step_by (taken_by c.args.rule) c.args.last.now c.args.action) c.args.doc.now (takes_name c.args.rule c.args.name.now) none

pub go_in_array-returns-then-at-len-clause-ok : goal.go_in_array-returns-then-at-len-clause-ok
go_in_array-returns-then-at-len-clause-ok t c =
    let found = nth-slice_get c.args.items.now c.in-Some.at ∙ c.item_mut-inner.ensures.value in
    let l = c.len.ensures in
    on_ok c.change.result (λ e.
    array_step c.args.rule c.args.first.now (made_by c.args.rule c.args.action) c.args.rest.now (step_by (taken_by c.args.rule) c.args.last.now c.args.action) c.args.items.now _ c.in-Some.at c.item_mut-inner.result.now c.change.new.value
    c.in-Some.ensures.some (ap (λ (o : Option Value). or_else o (made_by c.args.rule c.args.action)) found) e (set-put_item c.args.items.now c.in-Some.at c.change.new.value (omega (arith, c.if-at-len.true, l)))) c.change.ensures.ok

pub go_in_array-returns-then-at-len-clause-err : goal.go_in_array-returns-then-at-len-clause-err
go_in_array-returns-then-at-len-clause-err t c =
    let found = nth-slice_get c.args.items.now c.in-Some.at ∙ c.item_mut-inner.ensures.value in
    let l = c.len.ensures in
    on_err c.change.result (λ e. set-put_item c.args.items.now c.in-Some.at c.change.new.value (omega (arith, c.if-at-len.true, l)) ∙ put_item_same c.args.items.now c.in-Some.at c.change.new.value (found ∙ ap Some (sym e))) c.change.ensures.err

pub go_in_array-returns-in_ok-change-in-Some-clause-ok : goal.go_in_array-returns-in_ok-change-in-Some-clause-ok
go_in_array-returns-in_ok-change-in-Some-clause-ok t c =
    let none = ap (λ (o : Option Value). or_else o (made_by c.args.rule c.args.action)) (nth-beyond c.args.items.now c.in-Some.at (rw c.len.ensures at c.if-at-len.false)) ∙ c.makes.ensures.0 c.if-makes.true in
    let inner = rw c.new.ensures at c.in_ok-change-in-Some.ensures.ok in
    on_ok c.put_element.result (λ e.
    array_step c.args.rule c.args.first.now (made_by c.args.rule c.args.action) c.args.rest.now (step_by (taken_by c.args.rule) c.args.last.now c.args.action) c.args.items.now c.put_element.new.items c.in-Some.at (Object []) c.change-then-makes.new.value
    c.in-Some.ensures.some none inner e) c.put_element.ensures.ok

pub go_in_array-returns-else-makes-clause-ok : goal.go_in_array-returns-else-makes-clause-ok
go_in_array-returns-else-makes-clause-ok t c =
    let none = ap (λ (o : Option Value). or_else o (made_by c.args.rule c.args.action)) (nth-beyond c.args.items.now c.in-Some.at (rw c.len.ensures at c.if-at-len.false)) ∙ c.makes.ensures.1 (λ h. let f : true ≡ false = sym h ∙ c.if-makes.false in cc) in
    array_stops c.args.rule c.args.first.now (made_by c.args.rule c.args.action) c.args.rest.now (step_by (taken_by c.args.rule) c.args.last.now c.args.action) c.args.items.now c.in-Some.at c.in-Some.ensures.some none

pub go_in_array-returns-in-None-clause-ok : goal.go_in_array-returns-in-None-clause-ok
go_in_array-returns-in-None-clause-ok t c =
    array_untaken c.args.rule c.args.first.now (made_by c.args.rule c.args.action) c.args.rest.now (step_by (taken_by c.args.rule) c.args.last.now c.args.action) c.args.items.now c.in-None.ensures.none
