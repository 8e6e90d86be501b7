use Rattle.std.proofs.Common.{◌≡◌, Bool, true, sym, ap, ◌∙◌, arith}
use Rattle.std.proofs.lemmas.Grind.{common_steps}
use Rattle.command_refusals.specs.Collections.{form_refusal_if}
use Rattle.std.specs.Option.{option_copied}
use Rattle.std.specs.FinMap as map
use Rattle.history_model.specs.Refusals.{rows_in}
use Rattle.index_build.specs.Counting.{held}
use Rattle.command_refusals.proofs.RowTests.{form_told}
use Rattle.command_refusals.proofs.collection_rows.tested.Goals as goal

pub returns : goal.returns
returns c =
    let t : c.args.good ≡ true = first_of (cc, grind (arith, common_steps)) in
    form_told (option_copied c.args.form) c.in-Some.form.now (rows_in (map.get c.args.state.now.tables c.args.ns.now)) (held c.as_slice.result.now) c.in_ok-tested.tested.clash c.in_ok-tested.tested.parallel c.refusal_by.result
    (ap option_copied c.in-Some.is) (ap held c.as_slice.ensures.value ∙ c.in_ok-docs.ensures) c.in_ok-tested.ensures.clash c.in_ok-tested.ensures.parallel c.refusal_by.ensures
    ∙ ap (λ (b : Bool). form_refusal_if b (option_copied c.args.form) (rows_in (map.get c.args.state.now.tables c.args.ns.now))) (sym t)
