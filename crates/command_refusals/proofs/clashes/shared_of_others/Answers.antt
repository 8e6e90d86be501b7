use Rattle.std.proofs.Common.{ap, ◌∙◌, List, subst}
use Rattle.index_keys.specs.Definition.{plan_of}
use Rattle.index_build.specs.Counting.{held}
use Rattle.command_refusals.specs.Clashes.{Says}
use Rattle.index_keys.specs.Keys.{Fields}
use Rattle.command_refusals.proofs.Shared.{clash_told}
use Rattle.command_refusals.proofs.clashes.shared_of_others.Goals as goal

pub returns : goal.returns
returns c =
    let o = plan_of c.args.def.now in
    c.is_shared.ensures
    ∙ clash_told c.in_ok-judge.field-0 o (held c.args.docs.now) (subst (λ (z : List Fields). Says c.in_ok-judge.field-0 o z) (ap held c.as_slice.ensures.value ∙ c.in_ok-left.ensures) c.in_ok-judge.ensures)
