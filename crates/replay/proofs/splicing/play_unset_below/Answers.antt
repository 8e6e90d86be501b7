use Rattle.std.proofs.Common.{◌≡◌, ℕ, List, [], ◌∷◌, map, subst}
use Rattle.std.specs.Prelude.{IfOk, IfSome}
use Rattle.bson_view.specs.Kept.{kept_document}
use Rattle.bson_view.specs.Views.{document}
use Rattle.doc_path.specs.declared.touches.Touch.{Touch}
use Rattle.doc_path.specs.Played.{touch_of}
use Rattle.doc_path.specs.Touch.{Touch as Played}
use Rattle.spliced_documents.specs.Splicing.{IsCutBelow}
use Rattle.replay.specs.Splicing.{Changes}
use Rattle.replay.proofs.FieldBelow.{changed_played}
use Rattle.replay.proofs.splicing.play_unset_below.Goals as goal

pub returns-in-Some-clause-played : goal.returns-in-Some-clause-played
returns-in-Some-clause-played c =
    let f = c.in-Some.field.now in
    let r = IsCutBelow f c.in-Some.name.now in
    let changes = subst (λ (ts : List Touch). (p : Played) × (map touch_of ts ≡ p ∷ []) × Changes r p) c.as_slice.ensures c.in-Some.ensures in
    let d = document c.args.view.now in
    let below = subst (λ (g : List ℕ). IfOk c.without_field_below.result (λ o. IfSome o (λ b. IsCutBelow g c.as_str-in-Some.result.now d (kept_document b)))) c.as_str.ensures.text c.without_field_below.ensures.document in
    let cut = subst (λ (n : List ℕ). IfOk c.without_field_below.result (λ o. IfSome o (λ b. IsCutBelow f n d (kept_document b)))) c.as_str-in-Some.ensures.text below in
    changed_played c.args.form d r c.args.touches.now changes c.without_field_below.result cut

pub returns-in-Some-clause-spelling : goal.returns-in-Some-clause-spelling
returns-in-Some-clause-spelling c = c.without_field_below.ensures.spelling c.requires.text
