use Rattle.std.proofs.Common.{◌≡◌, List, [], ◌∷◌, ◌++◌, append_assoc, ap, sym, ◌∙◌, subst}
use Rattle.bson_encode.specs.Key.{key_of}
use Rattle.coll_state.specs.Rows.{id_of, key_in}
use Rattle.index_build.specs.Owned.{Holding, put_document}
use Rattle.kept_indexes.specs.Moves.{ArePut}
use Rattle.kept_indexes.proofs.Over.{put_more}
use Rattle.kept_indexes.proofs.collection.with_document.Goals as goal

pub loop-index-preserved : goal.loop-index-preserved
loop-index-preserved c =
    let w = c.loop-index.invariant in
    let index = c.in-Some.index in
    let g = c.in_ok-added.field-0 in
    let rest = c.next.new.self.rest.items in
    let step : c.loop-index.index-iterator.rest.items ≡ index ∷ rest = c.in-Some.ensures.steps.0 in
    let key : key_in (id_of c.args.doc.now) ≡ key_of c.in_ok-id.id.now = ap key_in (sym c.in_ok-id.ensures) in
    let owned = subst (λ (k : _). g.owned ≡ put_document index.plan index.owned (k, c.args.doc.now)) (sym key) c.in_ok-added.ensures.owned in (
      w.0 ++ index ∷ [],
      w.1 ∙ (ap (λ (hs : List Holding). w.0 ++ hs) step ∙ sym (append_assoc w.0 (index ∷ []) rest)),
      subst (λ (hs : List Holding). ArePut (key_in (id_of c.args.doc.now)) c.args.doc.now (w.0 ++ index ∷ []) hs) (sym c.in_ok-after.ensures) (put_more (key_in (id_of c.args.doc.now)) c.args.doc.now w.0 c.loop-index.after index g w.2 c.in_ok-added.ensures.plan owned),
    )
