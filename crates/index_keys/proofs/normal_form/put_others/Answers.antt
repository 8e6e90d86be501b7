use Rattle.std.proofs.Common.{◌++◌, ◌∷◌, [], sym, ap, ◌∙◌, ℕ, List}
use Rattle.extjson.specs.Plain.{wrapped_numbers}
use Rattle.index_keys.specs.Definition.{is_one_of, placed}
use Rattle.index_keys.proofs.Others.{with_other, without_placed}
use Rattle.index_keys.proofs.normal_form.put_others.Goals.{then-not-is_placed+in_ok-put, else-not-is_placed}
use Rattle.index_keys.proofs.normal_form.put_others.Goals as goal

pub loop-field-preserved : goal.loop-field-preserved
loop-field-preserved c =
    let one = ap (is_one_of placed) (sym c.as_str.ensures) ∙ sym c.is_placed.ensures in
    elim c.if-not-is_placed.branch [
      | then-not-is_placed+in_ok-put w ↦
          ap (λ v. v.items) w.entries-is ∙ (w.in_ok-put.ensures
          ∙ (ap (λ (n : List ℕ). c.loop-field.entries.items ++ (n, wrapped_numbers c.field-item.result.1) ∷ []) w.as_str-then-not-is_placed.ensures
          ∙ with_other placed c.args.fields.now c.args.entries.now.items c.loop-field.entries.items c.loop-field.field-index c.field-item.result c.loop-field-test.true c.field-item.is (one ∙ w.if-not-is_placed.true) c.loop-field.invariant))
      | else-not-is_placed w ↦
          ap (λ v. v.items) w.entries-is
          ∙ without_placed placed c.args.fields.now c.args.entries.now.items c.loop-field.entries.items c.loop-field.field-index c.field-item.result c.loop-field-test.true c.field-item.is (one ∙ w.if-not-is_placed.false) c.loop-field.invariant
    ]
