use Rattle.std.proofs.Common.{◌≡◌, ℕ, List, [], ◌∷◌, map, subst}
use Rattle.std.specs.Prelude.{IfOk, IfSome}
use Rattle.containers.specs.Entries.{without}
use Rattle.bson_view.specs.Kept.{kept_document}
use Rattle.bson_view.specs.Views.{document}
use Rattle.doc_path.specs.declared.touches.Touch.{Touch}
use Rattle.doc_path.specs.Played.{touch_of}
use Rattle.doc_path.specs.Touch.{Touch as Played}
use Rattle.replay.specs.Splicing.{TakesField}
use Rattle.replay.proofs.OneField.{taken_played}
use Rattle.replay.proofs.splicing.take_or_play.Goals as goal

pub returns-in-Some-clause-played : goal.returns-in-Some-clause-played
returns-in-Some-clause-played c =
    let k = c.in-Some.name.now in
    let takes = subst (λ (ts : List Touch). (p : Played) × (map touch_of ts ≡ p ∷ []) × TakesField k p) c.as_slice.ensures c.in-Some.ensures in
    let d = document c.args.view.now in
    let gone = subst (λ (n : List ℕ). IfOk c.without_field.result (λ o. IfSome o (λ b. kept_document b ≡ without n d))) c.as_str.ensures.text c.without_field.ensures.document in
    taken_played c.args.form d c.args.touches.now k c.without_field.result takes gone

pub returns-in-Some-clause-spelling : goal.returns-in-Some-clause-spelling
returns-in-Some-clause-spelling c = c.without_field.ensures.spelling c.requires.text
