use Rattle.std.proofs.Common.{◌≡◌, ◌<◌, sym, ap, subst, ◌∙◌, List, ℕ, length, take, get_or, Err, rules}
use Rattle.std.specs.List.{flat_map}
use Rattle.bson_value.specs.declared.value.Value.{Value}
use Rattle.update_model.specs.Reading.{met_at}
use Rattle.update_ops.specs.Behind.{Goes}
use Rattle.update_ops.proofs.Behind.{stops_in}
use Rattle.update_ops.proofs.reader.Reader.read_paths.Goals as goal

pub returns-in_err-read_at-clause-stops : goal.returns-in_err-read_at-clause-stops
returns-in_err-read_at-clause-stops c =
    let is : c.from_residual.result ≡ Err c.in_err-read_at.field-0.0 = search rules in
    let all = c.entries-entry-items.ensures.entries in
    let i = c.loop-entry.entry-index in
    let x = c.entry-item.result in
    let l : i < length c.args.doc.now = subst (λ (z : List (List ℕ × Value)). i < length z) all c.loop-entry-test.true in
    let at : x ≡ get_or c.args.doc.now i x = subst (λ (z : List (List ℕ × Value)). x ≡ get_or z i x) all c.entry-item.is in
    let goes = subst (λ (z : List (List ℕ × Value)). Goes (flat_map (met_at c.args.name) (take i z)) c.args.self.now.paths c.loop-entry.self.paths) all c.loop-entry.invariant.goes in
    rw is (stops_in (met_at c.args.name) c.args.doc.now i x c.args.self.now.paths c.loop-entry.self.paths c.in_err-read_at.field-0.0 l at goes c.in_err-read_at.ensures.stops)
