use Rattle.std.proofs.Common.{◌≡◌, false, [], ◌∷◌, rules, option_map, Option, Bor}
use Rattle.std.specs.Str.{bytes_eq}
use Rattle.bson_value.specs.declared.value.Value.{Value}
use Rattle.bson_view.specs.declared.elem.Elem.{Elem}
use Rattle.bson_view.specs.Views.{document, elem_value}
use Rattle.doc_path.specs.declared.parts.Part.TheVariants.{Name as name}
use Rattle.doc_path.specs.Played.{id_name}
use Rattle.replay.specs.Splicing.{IsWithBelow}
use Rattle.replay.proofs.ChangedPlace.{changes_below, made_if, number_if}
use Rattle.replay.proofs.field_below.splice_below.Goals as goal

pub replace-requires-clause-number : goal.replace-requires-clause-number
replace-requires-clause-number c =
    let f = c.args.field.now in
    let k = c.args.name.now in
    let value : Option Value = option_map (λ (e : Bor Elem). elem_value e.now) c.args.value in
    let other : bytes_eq f id_name ≡ false = search rules in
    number_if (name f ∷ (name k ∷ [])) value (IsWithBelow f k value) (changes_below f k other value) c.args.ns.now c.args.id.now c.args.state.now c.in-Some.number (document c.in-Some.view) c.in-Some.ensures.there c.in_ok-changed.changed c.in_ok-changed.ensures.document

pub returns-clause-made : goal.returns-clause-made
returns-clause-made c =
    let f = c.args.field.now in
    let k = c.args.name.now in
    let value : Option Value = option_map (λ (e : Bor Elem). elem_value e.now) c.args.value in
    let other : bytes_eq f id_name ≡ false = search rules in
    λ done. made_if (name f ∷ (name k ∷ [])) value (IsWithBelow f k value) (changes_below f k other value) c.args.ns.now c.args.id.now c.args.state.now c.in-Some.number (document c.in-Some.view) c.in-Some.ensures.there c.in_ok-changed.changed c.in_ok-changed.ensures.document c.replace.new.state c.replace.ensures.put (c.replace.ensures.done.0 done)
