use Rattle.std.proofs.Common.{sym, ◌∙◌}
use Rattle.index_keys.specs.Definition.{starts_apart}
use Rattle.index_keys.proofs.Loops.{one_fails}
use Rattle.index_keys.proofs.plan.starts_apart.Goals as goal

pub returns-then-not-is_apart : goal.returns-then-not-is_apart
returns-then-not-is_apart c =
    one_fails (starts_apart c.args.path.now) c.args.others.now c.loop-other.other-index c.other-item.result c.loop-other-test.true c.other-item.is
    (sym c.is_apart.ensures ∙ c.if-not-is_apart.true)
