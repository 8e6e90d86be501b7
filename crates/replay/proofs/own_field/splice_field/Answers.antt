use Rattle.std.proofs.Common.{◌≡◌, false, [], ◌∷◌, rules, option_map, Option, Bor}
use Rattle.std.specs.Str.{bytes_eq}
use Rattle.bson_value.specs.declared.value.Value.{Value}
use Rattle.bson_view.specs.declared.elem.Elem.{Elem}
use Rattle.bson_view.specs.Views.{document, elem_value}
use Rattle.doc_path.specs.declared.parts.Part.TheVariants.{Name as name}
use Rattle.doc_path.specs.Played.{id_name}
use Rattle.replay.specs.Splicing.{IsWith}
use Rattle.replay.proofs.ChangedPlace.{changes_field, made_if, number_if}
use Rattle.replay.proofs.own_field.splice_field.Goals as goal

pub replace-requires-clause-number : goal.replace-requires-clause-number
replace-requires-clause-number c =
    let k = c.args.name.now in
    let value : Option Value = option_map (λ (e : Bor Elem). elem_value e.now) c.args.value in
    let other : bytes_eq k id_name ≡ false = search rules in
    number_if (name k ∷ []) value (IsWith k value) (changes_field k other value) c.args.ns.now c.args.id.now c.args.state.now c.in-Some.number (document c.in-Some.view) c.in-Some.ensures.there c.in_ok-changed.changed c.in_ok-changed.ensures.document

pub returns-clause-made : goal.returns-clause-made
returns-clause-made c =
    let k = c.args.name.now in
    let value : Option Value = option_map (λ (e : Bor Elem). elem_value e.now) c.args.value in
    let other : bytes_eq k id_name ≡ false = search rules in
    λ done. made_if (name k ∷ []) value (IsWith k value) (changes_field k other value) c.args.ns.now c.args.id.now c.args.state.now c.in-Some.number (document c.in-Some.view) c.in-Some.ensures.there c.in_ok-changed.changed c.in_ok-changed.ensures.document c.replace.new.state c.replace.ensures.put (c.replace.ensures.done.0 done)
