use Rattle.std.proofs.Common.{sym, ap, ◌∙◌, is_some, option_map}
use Rattle.bson_value.specs.declared.value.Value.{out-Value}
use Rattle.bson_view.specs.Paths.{value_under}
use Rattle.bson_view.specs.Held.{held_value}
use Rattle.bson_view.specs.HeldWalk.{items_left, fields_left}
use Rattle.index_keys.proofs.Ways.{mapped_some, meets_here, no_array, meets_under, meets_scalar}
use Rattle.index_keys.proofs.branches.+meets.Goals as goal

pub returns-then-is_some : goal.returns-then-is_some
returns-then-is_some t c =
    meets_here c.args.path.now (held_value c.args.value) (sym (ap is_some c.items.ensures) ∙ (mapped_some items_left c.items.result ∙ (sym c.is_some.ensures ∙ c.if-is_some.true)))

pub returns-in-None : goal.returns-in-None
returns-in-None t c =
    no_array c.args.path.now (held_value c.args.value) c.in-None.ensures.cases (sym (ap is_some c.items.ensures) ∙ (mapped_some items_left c.items.result ∙ (sym c.is_some.ensures ∙ c.if-is_some.false)))

pub returns-in-None-fields : goal.returns-in-None-fields
returns-in-None-fields t c =
    meets_scalar c.args.path.now c.in-Some.rest.now c.in-Some.name.now (held_value c.args.value) c.in-Some.ensures.cases.0
    (sym (ap is_some c.items.ensures) ∙ (mapped_some items_left c.items.result ∙ (sym c.is_some.ensures ∙ c.if-is_some.false)))
    (sym c.fields.ensures ∙ ap (option_map fields_left) c.in-None-fields.is)

pub returns-in-None-under : goal.returns-in-None-under
returns-in-None-under t c =
    meets_under c.args.path.now c.in-Some.rest.now c.in-Some.name.now (held_value c.args.value) _ c.in-Some.ensures.cases.0
    (sym (ap is_some c.items.ensures) ∙ (mapped_some items_left c.items.result ∙ (sym c.is_some.ensures ∙ c.if-is_some.false)))
    (sym (ap is_some c.fields.ensures) ∙ ap (λ o. is_some (option_map fields_left o)) c.in-Some-fields.is)
    (ap (value_under (out-Value (held_value c.args.value))) (sym c.as_str.ensures.text) ∙ (sym c.under.ensures ∙ ap (option_map held_value) c.in-None-under.is))

pub returns-in-Some-under : goal.returns-in-Some-under
returns-in-Some-under t c =
    c.meets.ensures ∙ meets_under c.args.path.now c.in-Some.rest.now c.in-Some.name.now (held_value c.args.value) _ c.in-Some.ensures.cases.0
    (sym (ap is_some c.items.ensures) ∙ (mapped_some items_left c.items.result ∙ (sym c.is_some.ensures ∙ c.if-is_some.false)))
    (sym (ap is_some c.fields.ensures) ∙ ap (λ o. is_some (option_map fields_left o)) c.in-Some-fields.is)
    (ap (value_under (out-Value (held_value c.args.value))) (sym c.as_str.ensures.text) ∙ (sym c.under.ensures ∙ ap (option_map held_value) c.in-Some-under.is))
