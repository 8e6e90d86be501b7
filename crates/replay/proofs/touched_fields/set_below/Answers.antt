use Rattle.std.proofs.Common.{List, sym, subst}
use Rattle.doc_path.specs.declared.parts.Part.{Part}
use Rattle.doc_path.specs.declared.touches.Touch.{Touch}
use Rattle.doc_path.specs.declared.touches.Touch.TheVariants.{Set as Sets}
use Rattle.doc_path.specs.Played.{touch_of}
use Rattle.spliced_documents.specs.Splicing.{IsPutBelow}
use Rattle.replay.specs.Splicing.{Changes}
use Rattle.replay.proofs.FieldBelow.{sets_below}
use Rattle.replay.proofs.touched_fields.set_below.Goals as goal

pub returns-in-Some : goal.returns-in-Some
returns-in-Some c =
    let f = c.in-Some.field.now in
    let k = c.in-Some.name.now in
    let v = c.in-Set.value in
    let here = subst (λ (ps : List Part). Changes (IsPutBelow f k v) (touch_of (Sets ps v c.in-Set.fresh))) (sym c.in-Some.ensures.0) (sets_below f k v c.in-Set.fresh c.in-Some.ensures.1) in
    subst (λ (t : Touch). Changes (IsPutBelow f k v) (touch_of t)) (sym c.in-Set.is) here
