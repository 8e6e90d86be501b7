-- The indexes of a collection, one after the other.
use Rattle.std.proofs.Common.{◌≡◌, ℕ, List, [], ◌∷◌, ◌++◌, refl, sym, ap, ◌∙◌, Option, Some, None}
use Rattle.std.specs.FinMap as map
use Rattle.json_tree.specs.declared.tree.Tree.{Tree}
use Rattle.state_model.specs.Keys.{Key}
use Rattle.coll_state.specs.Rows.{Row, Rising}
use Rattle.coll_state.specs.Changes.{put_row, drop_row}
use Rattle.index_keys.specs.declared.plan.Plan.{Plan}
use Rattle.index_keys.specs.Definition.{plan_of}
use Rattle.index_keys.specs.Keys.{Fields, Docs}
use Rattle.index_build.specs.Owned.{Holding, put_document, build}
use Rattle.kept_indexes.specs.Kept.{paired, with_plan, plans_of, AreOver}
use Rattle.kept_indexes.specs.Moves.{ArePut, AreTakenOut}
use Rattle.kept_indexes.proofs.Owned.{built_put, built_drop}

-- ---- a document that comes or goes

pub over_put : (rs : List Row) (hs gs : List Holding) (ps : List Plan) (low low' next : ℕ) (k : Key) (d : Fields) →
    AreOver (paired rs) hs ps → ArePut k d hs gs → Rising low rs → Rising low' (put_row next k d rs) → AreOver (paired (put_row next k d rs)) gs ps
over_put rs [] [] [] low low' next k d over put up after = tt
over_put rs [] [] (p ∷ ps) low low' next k d over put up after = over
over_put rs [] (g ∷ gs) ps low low' next k d over put up after = absurd put
over_put rs (h ∷ hs) [] ps low low' next k d over put up after = absurd put
over_put rs (h ∷ hs) (g ∷ gs) [] low low' next k d over put up after = over
over_put rs (h ∷ hs) (g ∷ gs) (p ∷ ps) low low' next k d over put up after = (
  put.0 ∙ over.0,
  put.1 ∙ ((λ i. put_document (over.0 i) (over.1 i) (k, d)) ∙ sym (built_put p rs low low' next k d up after)),
  over_put rs hs gs ps low low' next k d over.2 put.2 up after,
)

pub over_taken : (rs : List Row) (hs gs : List Holding) (ps : List Plan) (low low' : ℕ) (k : Key) →
    AreOver (paired rs) hs ps → AreTakenOut k hs gs → Rising low rs → Rising low' (drop_row k rs) → AreOver (paired (drop_row k rs)) gs ps
over_taken rs [] [] [] low low' k over taken up after = tt
over_taken rs [] [] (p ∷ ps) low low' k over taken up after = over
over_taken rs [] (g ∷ gs) ps low low' k over taken up after = absurd taken
over_taken rs (h ∷ hs) [] ps low low' k over taken up after = absurd taken
over_taken rs (h ∷ hs) (g ∷ gs) [] low low' k over taken up after = over
over_taken rs (h ∷ hs) (g ∷ gs) (p ∷ ps) low low' k over taken up after = (
  taken.0 ∙ over.0,
  taken.1 ∙ ((λ i. map.remove (over.1 i) k) ∙ sym (built_drop p rs low low' k up after)),
  over_taken rs hs gs ps low low' k over.2 taken.2 up after,
)

-- ---- one index more

pub over_more : (ds : Docs) (hs : List Holding) (ps : List Plan) (h : Holding) (p : Plan) → AreOver ds hs ps → h.plan ≡ p → h.owned ≡ build p ds → AreOver ds (hs ++ h ∷ []) (ps ++ p ∷ [])
over_more ds [] [] h p over e f = (e, f, tt)
over_more ds [] (q ∷ ps) h p over e f = absurd over
over_more ds (g ∷ hs) [] h p over e f = absurd over
over_more ds (g ∷ hs) (q ∷ ps) h p over e f = (over.0, over.1, over_more ds hs ps h p over.2 e f)

pub plans_more : (ds : List Tree) (d : Tree) → plans_of (ds ++ d ∷ []) ≡ plans_of ds ++ with_plan (plan_of d) []
plans_more [] d = refl
plans_more (e ∷ ds) d = by (plan_of e) (plans_more ds d)
  where
    by : (o : Option Plan) → plans_of (ds ++ d ∷ []) ≡ plans_of ds ++ with_plan (plan_of d) [] → with_plan o (plans_of (ds ++ d ∷ [])) ≡ with_plan o (plans_of ds) ++ with_plan (plan_of d) []
    by None h = h
    by (Some p) h = ap (λ (ps : List Plan). p ∷ ps) h

pub put_more : (k : Key) (d : Fields) (hs gs : List Holding) (h g : Holding) → ArePut k d hs gs → g.plan ≡ h.plan → g.owned ≡ put_document h.plan h.owned (k, d) → ArePut k d (hs ++ h ∷ []) (gs ++ g ∷ [])
put_more k d [] [] h g put e f = (e, f, tt)
put_more k d [] (y ∷ gs) h g put e f = absurd put
put_more k d (x ∷ hs) [] h g put e f = absurd put
put_more k d (x ∷ hs) (y ∷ gs) h g put e f = (put.0, put.1, put_more k d hs gs h g put.2 e f)

pub taken_more : (k : Key) (hs gs : List Holding) (h g : Holding) → AreTakenOut k hs gs → g.plan ≡ h.plan → g.owned ≡ map.remove h.owned k → AreTakenOut k (hs ++ h ∷ []) (gs ++ g ∷ [])
taken_more k [] [] h g taken e f = (e, f, tt)
taken_more k [] (y ∷ gs) h g taken e f = absurd taken
taken_more k (x ∷ hs) [] h g taken e f = absurd taken
taken_more k (x ∷ hs) (y ∷ gs) h g taken e f = (taken.0, taken.1, taken_more k hs gs h g taken.2 e f)
