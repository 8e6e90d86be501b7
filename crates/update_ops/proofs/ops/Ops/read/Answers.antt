use Rattle.std.proofs.Common.{◌≡◌, ◌<◌, sym, ap, subst, ◌∙◌, List, [], ℕ, length, take, get_or, Err, rules, arith}
use Rattle.bson_value.specs.declared.value.Value.{Value}
use Rattle.std.proofs.lemmas.List.{take_all}
use Rattle.update_model.specs.Reading.{all_met}
use Rattle.update_ops.specs.Behind.{Goes}
use Rattle.update_ops.proofs.Clashes.{fault_told, none_told}
use Rattle.update_ops.proofs.ops.Ops.read.Goals as goal

pub returns-in_err-read_field-clause-fault : goal.returns-in_err-read_field-clause-fault
returns-in_err-read_field-clause-fault c =
    let is : c.from_residual.result ≡ Err c.in_err-read_field.field-0.0 = search rules in
    let all = c.entries-entry-items.ensures.entries in
    let i = c.loop-entry.entry-index in
    let x = c.entry-item.result in
    let l : i < length c.args.doc.now = subst (λ (z : List (List ℕ × Value)). i < length z) all c.loop-entry-test.true in
    let at : x ≡ get_or c.args.doc.now i x = subst (λ (z : List (List ℕ × Value)). x ≡ get_or z i x) all c.entry-item.is in
    let goes = subst (λ (z : List (List ℕ × Value)). Goes (all_met (take i z)) [] c.loop-entry.reader.paths) all c.loop-entry.invariant.goes in
    rw is (fault_told c.args.doc.now i x c.loop-entry.reader.paths c.in_err-read_field.field-0.0 l at goes c.in_err-read_field.ensures.stops)

pub returns-clause-faultless : goal.returns-clause-faultless
returns-clause-faultless c =
    let whole = take_all c.loop-entry.entry-index c.entries-entry-items.result.now c.loop-entry-test.false ∙ c.entries-entry-items.ensures.entries in
    none_told c.args.doc.now c.loop-entry.reader.paths (subst (λ (z : List (List ℕ × Value)). Goes (all_met z) [] c.loop-entry.reader.paths) whole c.loop-entry.invariant.goes)
