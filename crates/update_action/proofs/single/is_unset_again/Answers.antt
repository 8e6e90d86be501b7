use Rattle.std.proofs.Common.{◌≡◌, sym, ap, ◌∙◌, subst}
use Rattle.update_action.specs.Single.{IsPlain, ends_at_index}
use Rattle.update_action.proofs.Again.{unset_again}
use Rattle.update_action.proofs.single.is_unset_again.Goals as goal

pub returns : goal.returns
returns c = λ t.
    (let parts : c.as_slice-parts.result.now ≡ c.args.place.now = c.as_slice-parts.ensures ∙ c.parts.ensures.parts in
    unset_again c.args.place.now (subst IsPlain parts (c.is_plain.ensures t)) (ap ends_at_index (sym parts) ∙ (sym c.ends_at_index.ensures ∙ search)))
