use Rattle.std.proofs.Common.{ℕ, List}
use Rattle.bson_value.specs.declared.value.Value.{Value}
use Rattle.std.specs.Prelude.{option_map}
use Rattle.bson_view.specs.Views.{document, elem_value}
use Rattle.entry_reader.specs.FieldDeltas.{IsDelta, IsOnlyField, place_of}
use Rattle.entry_reader.proofs.FieldDeltas.{delta_is, if_field}
use Rattle.entry_reader.proofs.field_delta.field_of.Goals as goal

pub returns : goal.returns
returns c =
    let o = document c.args.o.now in
    let d = document c.in_ok-diff.diff in
    let f : List ℕ × Value = (c.in_ok-kind.kind.name.now, elem_value c.in_ok-kind.kind) in
    if_field c.place_in.result (λ z. IsOnlyField (place_of z.0) (option_map elem_value z.1) f) (λ z. IsDelta (place_of z.0) (option_map elem_value z.1) o)
    (λ z. delta_is o d f (place_of z.0) (option_map elem_value z.1) c.in_ok-diff.ensures c.in_ok-kind.ensures) c.place_in.ensures
