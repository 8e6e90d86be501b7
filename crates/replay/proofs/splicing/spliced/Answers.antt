use Rattle.std.proofs.Common.{◌≡◌, List, [], ◌∷◌, map, subst}
use Rattle.bson_view.specs.Views.{document}
use Rattle.doc_path.specs.declared.touches.Touch.{Touch}
use Rattle.doc_path.specs.Played.{touch_of}
use Rattle.doc_path.specs.Touch.{Touch as Played}
use Rattle.replay.specs.Splicing.{SetsField}
use Rattle.replay.proofs.OneField.{put_played}
use Rattle.replay.proofs.splicing.spliced.Goals as goal

pub returns-in-Some-clause-played : goal.returns-in-Some-clause-played
returns-in-Some-clause-played c =
    let k = c.in-Some.name.now in
    let a = c.in-Some.value.now in
    let sets = subst (λ (ts : List Touch). (p : Played) × (map touch_of ts ≡ p ∷ []) × SetsField k a p) c.as_slice.ensures c.in-Some.ensures in
    put_played c.args.form (document c.args.view.now) c.args.touches.now k a c.with_field.result sets c.with_field.ensures.document

pub returns-in-Some-clause-spelling : goal.returns-in-Some-clause-spelling
returns-in-Some-clause-spelling c = c.with_field.ensures.spelling c.requires.text
