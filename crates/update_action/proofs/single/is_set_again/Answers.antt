use Rattle.std.proofs.Common.{◌≡◌, true, false, sym, ap, ◌∙◌, subst}
use Rattle.update_action.specs.Single.{IsPlain, ends_at_index}
use Rattle.update_action.proofs.Again.{set_again}
use Rattle.update_action.proofs.single.is_set_again.Goals.{else-fresh-via-then-fresh+else-ends_at_index, else-fresh-via-else-fresh}
use Rattle.update_action.proofs.single.is_set_again.Goals as goal

pub returns-then-is_plain : goal.returns-then-is_plain
returns-then-is_plain c = λ t.
    (let parts : c.as_slice-parts.result.now ≡ c.args.place.now = c.as_slice-parts.ensures ∙ c.parts.ensures.parts in
    let end : c.args.fresh ≡ true → ends_at_index c.args.place.now ≡ false =
    elim c.else-fresh.branch [
      | else-fresh-via-then-fresh+else-ends_at_index w ↦ λ f. ap ends_at_index (sym parts) ∙ (sym w.ends_at_index.ensures ∙ search)
      | else-fresh-via-else-fresh w ↦ λ f. search
    ] in
    set_again c.args.place.now c.args.value.now c.args.fresh (subst IsPlain parts (c.is_plain.ensures c.if-is_plain.true)) (c.is_shallow.ensures t) end)
