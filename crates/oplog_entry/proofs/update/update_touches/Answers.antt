use Rattle.std.proofs.Common.{◌≡◌, ℕ, List, [], sym, ap, ◌∙◌, subst}
use Rattle.std.specs.Prelude.{None, Err}
use Rattle.std.proofs.lemmas.List.{take_all}
use Rattle.bson_value.specs.declared.value.Value.{Value}
use Rattle.oplog_entry.specs.declared.delta.DeltaFault.{DeltaFault}
use Rattle.entry_model.specs.declared.fault.EntryFault.TheVariants.{BadField}
use Rattle.entry_model.specs.Written.{Fields}
use Rattle.entry_model.specs.Reads.{Read, all_read}
use Rattle.oplog_entry.specs.DiffFields.{Adds, IsBad}
use Rattle.oplog_entry.specs.PathTouches.{form_field, fields_touches}
use Rattle.oplog_entry.proofs.Diffs.{adds_more}
use Rattle.oplog_entry.proofs.UpdateFields.{all_touches, bad_touches, fails_by}
use Rattle.oplog_entry.proofs.update.update_touches.Goals as goal

pub returns-in-Err-Bad-clause-err : goal.returns-in-Err-Bad-clause-err
returns-in-Err-Bad-clause-err c =
    let is_none : form_field c.args.form c.loop-name-item.result.0 c.loop-name-item.result.1 ≡ None =
    ap (λ (n : List ℕ). form_field c.args.form n c.loop-name-item.result.1) (sym c.as_str.ensures.text)
    ∙ subst (λ (e : DeltaFault). IsBad e (form_field c.args.form c.as_str.result.now c.loop-name-item.result.1)) c.in-Err-Bad.field-0-is c.in-Err-Bad.ensures.err in
    fails_by c.bad.result (BadField c.as_str-in-Err-Bad.result.now) (fields_touches c.args.form c.args.o.now) c.bad.ensures
    (ap (fields_touches c.args.form) (sym c.entries-name-items.ensures.entries)
    ∙ (bad_touches (form_field c.args.form) c.entries-name-items.result.now c.loop-name.name-index c.loop-name-item.result c.loop-name.touches c.loop-name-test.true c.loop-name-item.is c.loop-name.invariant is_none
    ∙ ap (λ (n : List ℕ). Err (BadField n)) (sym c.as_str-in-Err-Bad.ensures.text)))

pub loop-name-preserved : goal.loop-name-preserved
loop-name-preserved c =
    let read : List ℕ × Value → Read = λ f. form_field c.args.form f.0 f.1 in
    adds_more read [] c.entries-name-items.result.now c.loop-name.name-index c.loop-name-item.result [] c.loop-name.touches c.update_field.new.touches
    c.loop-name-test.true c.loop-name-item.is c.loop-name.invariant
    (subst (λ (n : List ℕ). Adds [] (form_field c.args.form n c.loop-name-item.result.1) c.loop-name.touches c.update_field.new.touches) c.as_str.ensures.text c.in-Ok.ensures.ok)

pub returns-clause-ok : goal.returns-clause-ok
returns-clause-ok c =
    let read : List ℕ × Value → Read = λ f. form_field c.args.form f.0 f.1 in
    let whole = take_all c.loop-name.name-index c.entries-name-items.result.now c.loop-name-test.false ∙ c.entries-name-items.ensures.entries in
    all_touches (form_field c.args.form) c.args.o.now c.loop-name.touches (subst (λ (fs : Fields). Adds [] (all_read read fs) [] c.loop-name.touches) whole c.loop-name.invariant)
