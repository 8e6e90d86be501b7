use Rattle.std.proofs.Common.{◌≡◌, List, [], ◌∷◌, map, subst}
use Rattle.bson_view.specs.Views.{document}
use Rattle.doc_path.specs.declared.touches.Touch.{Touch}
use Rattle.doc_path.specs.Played.{touch_of}
use Rattle.doc_path.specs.Touch.{Touch as Played}
use Rattle.spliced_documents.specs.Splicing.{IsPutBelow}
use Rattle.replay.specs.Splicing.{Changes}
use Rattle.replay.proofs.FieldBelow.{changed_played}
use Rattle.replay.proofs.splicing.play_below.Goals as goal

pub returns-in-Some-clause-played : goal.returns-in-Some-clause-played
returns-in-Some-clause-played c =
    let r = IsPutBelow c.in-Some.field.now c.in-Some.name.now c.in-Some.value.now in
    let changes = subst (λ (ts : List Touch). (p : Played) × (map touch_of ts ≡ p ∷ []) × Changes r p) c.as_slice.ensures c.in-Some.ensures in
    changed_played c.args.form (document c.args.view.now) r c.args.touches.now changes c.with_field_below.result c.with_field_below.ensures.document

pub returns-in-Some-clause-spelling : goal.returns-in-Some-clause-spelling
returns-in-Some-clause-spelling c = c.with_field_below.ensures.spelling c.requires.text
