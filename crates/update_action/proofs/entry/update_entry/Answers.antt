use Rattle.std.proofs.Common.{◌≡◌, ◌≤◌, length, IfOk, ap, ◌∙◌, subst, arith}
use Rattle.bson_value.specs.Spelling.{document_text}
use Rattle.entry_model.specs.Spelling.{entry_fields}
use Rattle.entry_model.specs.declared.entry.Action.{Action}
use Rattle.update_action.specs.Recorded.{delta_text}
use Rattle.update_action.proofs.Again.{again_recorded, second_form}
use Rattle.update_action.proofs.entry.update_entry.Goals as goal

pub returns-then-is_read_again : goal.returns-then-is_read_again
returns-then-is_read_again c =
    (let again = c.is_read_again.ensures c.if-is_read_again.true in
    let same : length c.as_slice.result.now ≡ length (delta_text c.args.form c.args.new.now c.args.touches.now) = ap length (c.as_slice.ensures ∙ c.in_ok-text.ensures) in
    let short : length (delta_text c.args.form c.args.new.now c.args.touches.now) ≤ length (document_text c.args.new.now) = omega (arith, same, ap length c.requires.spelling, c.if-spelling-as_slice.false, c.requires.short) in
    subst (λ (z : Action). IfOk c.write_update-then-is_read_again.result (λ bytes. bytes ≡ document_text (entry_fields (record { ts = c.args.ts; ns = c.args.ns.now; action = z }))))
    (again_recorded c.args.form c.args.id.now c.args.new.now c.args.touches.now again.0 again.1 short c.requires.short)
    (c.write_update-then-is_read_again.ensures.delta c.args.form c.args.touches.now (c.as_slice-then-is_read_again.ensures ∙ (c.in_ok-text.ensures ∙ second_form c.args.form c.args.new.now c.args.touches.now again.0))))
