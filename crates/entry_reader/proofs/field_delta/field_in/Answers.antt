use Rattle.std.proofs.Common.{[], ◌∷◌, sym, ap, ◌∙◌}
use Rattle.std.specs.Prelude.{option_map}
use Rattle.bson_view.specs.Views.{document, elem_value}
use Rattle.doc_path.specs.declared.parts.Part.TheVariants.{Name}
use Rattle.entry_reader.specs.FieldDeltas.{place_of}
use Rattle.entry_reader.proofs.FieldDeltas.{holds_one, sets_field, takes_field}
use Rattle.entry_reader.proofs.field_delta.field_in.Goals as goal

pub returns-then-is_set : goal.returns-then-is_set
returns-then-is_set c =
    let w = elem_value c.args.kind.now in
    let n = c.in_ok-name.name.now in
    let x = elem_value c.in_ok-field.field in
    let is = holds_one w (document c.in_ok-fields.fields) c.in_ok-field.field.name.now n x (sym (ap (option_map document) c.in_ok-fields.was) ∙ c.document.ensures) c.in_ok-field.ensures c.in_ok-name.ensures.1 in
    sets_field (option_map (λ f. Name f.now ∷ []) c.args.front) (place_of c.place_at-place.result) c.args.kind.now.name.now w n x c.place_at-place.ensures is (sym c.is_set.ensures ∙ c.if-is_set.true)

pub returns-then-is_unset : goal.returns-then-is_unset
returns-then-is_unset c =
    let w = elem_value c.args.kind.now in
    let n = c.in_ok-name.name.now in
    let x = elem_value c.in_ok-field.field in
    let is = holds_one w (document c.in_ok-fields.fields) c.in_ok-field.field.name.now n x (sym (ap (option_map document) c.in_ok-fields.was) ∙ c.document.ensures) c.in_ok-field.ensures c.in_ok-name.ensures.1 in
    takes_field (option_map (λ f. Name f.now ∷ []) c.args.front) (place_of c.place_at-place.result) c.args.kind.now.name.now w n x c.place_at-place.ensures is (sym c.is_unset.ensures ∙ c.if-is_unset.true)
