use Rattle.std.proofs.Common.{◌≡◌, List, ℕ, ap, sym, ◌∙◌}
use Rattle.std.specs.Str.{bytes_eq}
use Rattle.state_model.specs.Keys.{same_key}
use Rattle.command_refusals.proofs.RowTests.{bytes_key}
use Rattle.store_core.proofs.Elsewhere.{among_forgotten, among_passed, as_before}
use Rattle.store_core.proofs.writes.forget_in.Goals as goal

pub returns-then-eq-clause-kept : goal.returns-then-eq-clause-kept
returns-then-eq-clause-kept c = λ r k. c.forget.ensures.kept r r k (as_before c.args.ns.now r)

pub returns-then-eq-clause-among : goal.returns-then-eq-clause-among
returns-then-eq-clause-among c = λ rest h. among_forgotten c.args.db.now c.args.indexes.now c.forget.new.self c.args.ns.now rest h c.forget.ensures.gone c.forget.ensures.others

pub returns-else-eq-clause-among : goal.returns-else-eq-clause-among
returns-else-eq-clause-among c =
    let db = c.args.db.now in
    let n = c.args.ns.now in
    let same : c.eq.result ≡ same_key n.db db = c.eq.ensures ∙ (ap (λ (x : List ℕ). bytes_eq x db) c.as_str.ensures ∙ bytes_key n.db db) in
    λ rest h. among_passed db c.args.indexes.now n rest h (sym same ∙ c.if-eq.false)
