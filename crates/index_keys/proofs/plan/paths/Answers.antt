use Rattle.std.proofs.Common.{sym, ap, ◌∙◌, take_all}
use Rattle.std.specs.List.{list_all}
use Rattle.index_keys.specs.Definition.{is_plain_field, all_apart, paths_of}
use Rattle.index_keys.proofs.Loops.{one_fails}
use Rattle.index_keys.proofs.Built.{no_path, not_plain, none_built, not_apart, all_built}
use Rattle.index_keys.proofs.plan.paths.Goals as goal

pub returns-in-None : goal.returns-in-None
returns-in-None c =
    not_plain c.args.key.now (one_fails is_plain_field c.args.key.now c.loop-field.field-index c.field-item.result c.loop-field-test.true c.field-item.is
    (no_path c.field-item.result (sym c.in-None.is ∙ c.in_ok-path.ensures)))

pub returns-then-is_empty : goal.returns-then-is_empty
returns-then-is_empty c =
    let all = take_all c.loop-field.field-index c.args.key.now c.loop-field-test.false in
    none_built c.args.key.now c.loop-field.paths (c.loop-field.invariant.0 ∙ ap paths_of all) (c.is_empty.ensures.0 c.if-is_empty.true)

pub returns-then-not-all_apart : goal.returns-then-not-all_apart
returns-then-not-all_apart c =
    let all = take_all c.loop-field.field-index c.args.key.now c.loop-field-test.false in
    not_apart c.args.key.now c.loop-field.paths (c.loop-field.invariant.0 ∙ ap paths_of all)
    (sym c.if-not-all_apart.true ∙ (c.all_apart.ensures ∙ ap all_apart c.as_slice.ensures))

pub returns : goal.returns
returns c =
    let all = take_all c.loop-field.field-index c.args.key.now c.loop-field-test.false in
    all_built c.args.key.now c.loop-field.paths (c.loop-field.invariant.0 ∙ ap paths_of all)
    (λ e. let t = c.is_empty.ensures.1 e in let f = c.if-is_empty.false in absurd cc)
    (ap (list_all is_plain_field) (sym all) ∙ c.loop-field.invariant.1)
    (sym c.if-not-all_apart.false ∙ (c.all_apart.ensures ∙ ap all_apart c.as_slice.ensures))
