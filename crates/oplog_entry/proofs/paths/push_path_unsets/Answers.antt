use Rattle.std.proofs.Common.{◌≡◌, ℕ, List, [], ◌∷◌, ◌++◌, ap, ◌∙◌}
use Rattle.bson_value.specs.declared.value.Value.{Value}
use Rattle.doc_path.specs.declared.parts.Part.TheVariants.{Name as name}
use Rattle.doc_path.specs.declared.touches.Touch.TheVariants.{Unset}
use Rattle.doc_path.specs.Paths.{parts_of}
use Rattle.entry_model.specs.Edits.{mapped}
use Rattle.oplog_entry.specs.PathTouches.{path_unset}
use Rattle.oplog_entry.proofs.Pushes.{pushed, all_pushed}
use Rattle.oplog_entry.proofs.paths.push_path_unsets.Goals as goal

pub loop-path-preserved : goal.loop-path-preserved
loop-path-preserved c =
    let where_is : c.in_ok-place.place ≡ mapped name (parts_of c.loop-path-item.result.0) = c.in_ok-place.ensures ∙ ap (λ (t : List ℕ). mapped name (parts_of t)) c.as_str.ensures.text in
    pushed path_unset c.entries-path-items.result.now c.loop-path.path-index c.loop-path-item.result c.args.touches.now c.loop-path.touches c.push.new.self
    c.loop-path-test.true c.loop-path-item.is c.loop-path.invariant (c.in_ok-push.ensures.ok ∙ (λ k. c.loop-path.touches ++ Unset (where_is k) ∷ []))

pub returns : goal.returns
returns c =
    all_pushed path_unset c.entries-path-items.result.now c.loop-path.path-index c.args.touches.now c.loop-path.touches c.loop-path-test.false c.loop-path.invariant
    ∙ ap (λ (l : List (List ℕ × Value)). c.args.touches.now ++ mapped path_unset l) c.entries-path-items.ensures.entries
