use Rattle.std.proofs.Common.{ℕ, List, [], ◌∷◌, sym, ap, ◌∙◌, None}
use Rattle.bson_value.specs.declared.value.Value.{Value}
use Rattle.std.specs.Prelude.{option_map}
use Rattle.std.specs.Option.{option_copied}
use Rattle.bson_view.specs.Views.{elem_value}
use Rattle.entry_reader.specs.FieldDeltas.{IsInDiff, IsOnlyField, place_of}
use Rattle.entry_reader.proofs.FieldDeltas.{if_field, only_named, only_own}
use Rattle.entry_reader.proofs.field_delta.place_in.Goals as goal

pub returns-in-Some : goal.returns-in-Some
returns-in-Some c =
    let w = elem_value c.args.kind.now in
    let name = c.args.kind.now.name.now in
    let k = c.in-Some.name.now in
    if_field c.below_in.result (λ z. IsOnlyField (place_of z.0) (option_map elem_value z.1) (115 ∷ k, w)) (λ z. IsOnlyField (place_of z.0) (option_map elem_value z.1) (name, w))
    (λ z. only_named name k w (place_of z.0) (option_map elem_value z.1) (sym (ap option_copied c.in-Some.is) ∙ c.behind_s.ensures)) c.below_in.ensures

pub returns-in-None : goal.returns-in-None
returns-in-None c =
    let f : List ℕ × Value = (c.args.kind.now.name.now, elem_value c.args.kind.now) in
    if_field c.field_in.result (λ z. IsInDiff None (place_of z.0) (option_map elem_value z.1) (f ∷ [])) (λ z. IsOnlyField (place_of z.0) (option_map elem_value z.1) f)
    (λ z. only_own (place_of z.0) (option_map elem_value z.1) f) c.field_in.ensures
