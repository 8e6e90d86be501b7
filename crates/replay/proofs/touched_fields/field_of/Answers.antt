use Rattle.std.proofs.Common.{List, sym, subst}
use Rattle.doc_path.specs.declared.parts.Part.{Part}
use Rattle.doc_path.specs.declared.touches.Touch.{Touch}
use Rattle.doc_path.specs.declared.touches.Touch.TheVariants.{Set as Sets}
use Rattle.doc_path.specs.Played.{touch_of}
use Rattle.replay.specs.Splicing.{SetsField}
use Rattle.replay.proofs.OneField.{sets_field}
use Rattle.replay.proofs.touched_fields.field_of.Goals as goal

pub returns-in-Some : goal.returns-in-Some
returns-in-Some c =
    let k = c.in-Some.name.now in
    let v = c.in-Set.value in
    let here = subst (λ (ps : List Part). SetsField k v (touch_of (Sets ps v c.in-Set.fresh))) (sym c.in-Some.ensures.0) (sets_field k v c.in-Set.fresh c.in-Some.ensures.1) in
    subst (λ (t : Touch). SetsField k v (touch_of t)) (sym c.in-Set.is) here
