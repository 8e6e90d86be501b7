use Rattle.std.proofs.Common.{sym, ap, ◌∙◌}
use Rattle.std.specs.FinMap as map
use Rattle.bson_value.specs.NamespaceOrder.{namespace_cmp}
use Rattle.coll_state.specs.Tables.{named_tables}
use Rattle.coll_state.proofs.Sound.{no_table}
use Rattle.coll_state.proofs.state.State.new.Goals as goal

pub invariant_of-result : goal.invariant_of-result
invariant_of-result c n t e =
    absurd (no_table t (sym (ap (λ es. map.get (map.from_entries {R = namespace_cmp} (named_tables es)) n) c.new.ensures.empty ∙ map.get-empty namespace_cmp n) ∙ e))
