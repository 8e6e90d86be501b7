use Rattle.std.proofs.Common.{◌≡◌, List, [], ◌∷◌, ◌++◌, append_assoc, ap, sym, ◌∙◌, subst}
use Rattle.bson_encode.specs.Key.{key_of}
use Rattle.index_build.specs.Owned.{Holding}
use Rattle.kept_indexes.specs.Moves.{AreTakenOut}
use Rattle.kept_indexes.proofs.Over.{taken_more}
use Rattle.kept_indexes.proofs.collection.without_document.Goals as goal

pub loop-index-preserved : goal.loop-index-preserved
loop-index-preserved c =
    let w = c.loop-index.invariant in
    let index = c.in-Some.index in
    let g = c.in_ok-taken_out.field-0 in
    let rest = c.next.new.self.rest.items in
    let step : c.loop-index.index-iterator.rest.items ≡ index ∷ rest = c.in-Some.ensures.steps.0 in (
      w.0 ++ index ∷ [],
      w.1 ∙ (ap (λ (hs : List Holding). w.0 ++ hs) step ∙ sym (append_assoc w.0 (index ∷ []) rest)),
      subst (λ (hs : List Holding). AreTakenOut (key_of c.args.id.now) (w.0 ++ index ∷ []) hs) (sym c.in_ok-after.ensures) (taken_more (key_of c.args.id.now) w.0 c.loop-index.after index g w.2 c.in_ok-taken_out.ensures.plan c.in_ok-taken_out.ensures.owned),
    )
