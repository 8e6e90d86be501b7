use Rattle.std.proofs.Common.{◌∙◌}
use Rattle.restore_plan.proofs.Steps.{on_ok, describe_made}
use Rattle.restore_plan.proofs.collections.describe.Goals as goal

pub returns-clause-ok : goal.returns-clause-ok
returns-clause-ok c =
    on_ok c.describe.result
    (λ e. describe_made c.args.state.now c.describe.new.self c.args.ns.now c.args.options c.from_vec.result c.args.definitions.now c.changes_are_moves.ensures.describe (c.from_vec.ensures ∙ c.in_ok-forms.ensures) e)
    c.describe.ensures.ok
