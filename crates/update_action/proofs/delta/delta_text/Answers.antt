use Rattle.std.proofs.Common.{◌≡◌, ℕ, List, IfOk, map, ◌∙◌, subst}
use Rattle.bson_value.specs.declared.value.Value.{Object}
use Rattle.update_action.specs.Recorded.{without_length}
use Rattle.update_action.proofs.Alike.{first_text}
use Rattle.update_action.proofs.delta.delta_text.Goals as goal

pub returns-in_ok-all-in-V1 : goal.returns-in_ok-all-in-V1
returns-in_ok-all-in-V1 c =
    (let us : c.as_slice.result.now ≡ map (without_length (Object c.args.new.now)) c.args.touches.now = c.as_slice.ensures ∙ c.in_ok-all-in-V1.ensures in
    subst (λ (z : List ℕ). IfOk c.write_delta.result (λ bytes. bytes ≡ z))
    (first_text c.args.form c.args.new.now c.args.touches.now c.as_slice.result.now c.in-V1.is us) c.write_delta.ensures)
