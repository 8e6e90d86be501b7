use Rattle.std.proofs.Common.{◌≡◌, ◌≤◌, List, length, IfOk, ap, ◌∙◌, subst, arith}
use Rattle.bson_value.specs.Spelling.{document_text}
use Rattle.doc_path.specs.declared.touches.Touch.{Touch}
use Rattle.entry_model.specs.declared.entry.Action.{Action}
use Rattle.entry_model.specs.declared.entry.Action.TheVariants.{Delta}
use Rattle.update_action.specs.Recorded.{delta_text}
use Rattle.update_action.proofs.Again.{again_recorded}
use Rattle.update_action.proofs.action.update_action.Goals as goal

pub returns-then-is_read_again : goal.returns-then-is_read_again
returns-then-is_read_again c =
    (let again = c.is_read_again.ensures c.if-is_read_again.true in
    let same : length c.as_slice.result.now ≡ length (delta_text c.args.form c.args.new.now c.args.touches.now) = ap length (c.as_slice.ensures ∙ c.in_ok-text.ensures) in
    let short : length (delta_text c.args.form c.args.new.now c.args.touches.now) ≤ length (document_text c.args.new.now) = omega (arith, same, c.spelling_len.ensures, c.if-spelling_len-as_slice.false, c.requires) in
    subst (λ (z : Action). IfOk c.delta.result (λ a. a ≡ z))
    (ap (λ (ts : List Touch). Delta c.args.id.now c.args.form ts) c.in_ok-all_copied.ensures ∙ again_recorded c.args.form c.args.id.now c.args.new.now c.args.touches.now again.0 again.1 short c.requires)
    c.delta.ensures)
