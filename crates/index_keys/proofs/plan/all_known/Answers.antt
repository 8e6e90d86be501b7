use Rattle.std.proofs.Common.{sym, ap, ◌∙◌}
use Rattle.index_keys.specs.Definition.{is_one_of, known}
use Rattle.index_keys.proofs.Loops.{one_fails}
use Rattle.index_keys.proofs.plan.all_known.Goals as goal

pub returns-then-not-is_known : goal.returns-then-not-is_known
returns-then-not-is_known c =
    one_fails (λ e. is_one_of known e.0) c.args.entries.now c.loop-entry.entry-index c.entry-item.result c.loop-entry-test.true c.entry-item.is
    (ap (is_one_of known) (sym c.as_str.ensures) ∙ (sym c.is_known.ensures ∙ c.if-not-is_known.true))
