use Rattle.std.proofs.Common.{◌≡◌, ◌<◌, false, [], ◌∷◌, arith, rules, Some}
use Rattle.std.specs.Str.{bytes_eq}
use Rattle.bson_view.specs.Views.{document, elem_value}
use Rattle.doc_path.specs.declared.parts.Part.TheVariants.{Index as index, Name as name}
use Rattle.doc_path.specs.Played.{id_name}
use Rattle.doc_path.specs.Touch.{limit}
use Rattle.spliced_documents.specs.Splicing.{IsItemPut}
use Rattle.replay.proofs.Items.{changes_item}
use Rattle.replay.proofs.ChangedPlace.{made_if, number_if}
use Rattle.replay.proofs.item.splice_item.Goals as goal

pub replace-requires-clause-number : goal.replace-requires-clause-number
replace-requires-clause-number c =
    let f = c.args.field.now in
    let k = c.args.index in
    let v = elem_value c.args.elem.now in
    let low : k < limit = omega (arith, c.if-index-ge-INDEX_LIMIT.false) in
    let other : bytes_eq f id_name ≡ false = search rules in
    number_if (name f ∷ (index k ∷ [])) (Some v) (IsItemPut f k v) (changes_item f k v other low) c.args.ns.now c.args.id.now c.args.state.now c.in-Some.number (document c.in-Some.view) c.in-Some.ensures.there c.in_ok-changed.changed c.in_ok-changed.ensures.document

pub returns-clause-made : goal.returns-clause-made
returns-clause-made c =
    let f = c.args.field.now in
    let k = c.args.index in
    let v = elem_value c.args.elem.now in
    let low : k < limit = omega (arith, c.if-index-ge-INDEX_LIMIT.false) in
    let other : bytes_eq f id_name ≡ false = search rules in
    λ done. made_if (name f ∷ (index k ∷ [])) (Some v) (IsItemPut f k v) (changes_item f k v other low) c.args.ns.now c.args.id.now c.args.state.now c.in-Some.number (document c.in-Some.view) c.in-Some.ensures.there c.in_ok-changed.changed c.in_ok-changed.ensures.document c.replace.new.state c.replace.ensures.put (c.replace.ensures.done.0 done)
