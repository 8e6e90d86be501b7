use Rattle.std.proofs.Common.{sym, ◌∙◌}
use Rattle.store_core.proofs.Rows.{not_refused, form_there}
use Rattle.store_core.proofs.store.Store.index_to_add.Goals as goal

pub unreachable-requires : goal.unreachable-requires
unreachable-requires c =
    form_there c.args.ns.now c.args.def.now c.self.inside.state
    (sym (c.in_ok-index_refusal.ensures) ∙ not_refused c.in_ok-index_refusal.field-0 c.in_ok-unless.field-0 (sym c.unless.ensures ∙ c.in_ok-unless.was)) (sym c.in_ok-form.ensures ∙ c.in-None.is)
