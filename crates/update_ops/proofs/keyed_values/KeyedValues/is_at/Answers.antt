use Rattle.std.proofs.Common.{◌≡◌, List, Some, sym, ap, ◌∙◌}
use Rattle.std.specs.List.{slice_get}
use Rattle.bson_value.specs.declared.value.Value.{Value}
use Rattle.update_ops.proofs.Placed.{found}
use Rattle.update_ops.proofs.keyed_values.KeyedValues.is_at.Goals as goal

pub returns-in-Some : goal.returns-in-Some
returns-in-Some c = λ t.
    let at : slice_get c.args.self.now c.args.place ≡ Some c.in-Some.other.now = ap (λ (vs : List Value). slice_get vs c.args.place) (sym c.self.view_is) ∙ sym c.in-Some.ensures in
    found c.args.self.now c.args.place c.args.value.now c.in-Some.other.now at (sym c.equals.ensures ∙ t)
