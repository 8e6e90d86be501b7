use Rattle.std.proofs.Common.{◌≡◌, List, [], ◌∷◌, ◌++◌, Some, Option, None, sym, ◌∙◌, subst}
use Rattle.std.specs.Prelude.{IfSome}
use Rattle.index_keys.specs.declared.plan.Plan.{Plan}
use Rattle.index_keys.specs.Definition.{plan_of}
use Rattle.index_keys.specs.Keys.{Docs}
use Rattle.index_build.specs.Counting.{held}
use Rattle.index_build.specs.Owned.{Holding, build}
use Rattle.kept_indexes.specs.Kept.{keyed, with_plan, AreOver}
use Rattle.kept_indexes.proofs.Over.{over_more}
use Rattle.kept_indexes.proofs.collection.with_index.Goals as goal

-- one index more
one_more : (ds : Docs) (hs : List Holding) (h : Holding) (p : Plan) (o : Option Plan) (r : Option (List Holding)) → IfSome r (λ after. after ≡ hs ++ h ∷ []) → Some p ≡ o → h.plan ≡ p → h.owned ≡ build p ds →
    IfSome r (λ after. (ps : List Plan) → AreOver ds hs ps → AreOver ds after (ps ++ with_plan o []))
one_more ds hs h p o None f e q m = tt
one_more ds hs h p o (Some after) f e q m = λ ps over. subst (λ (x : Option Plan). AreOver ds after (ps ++ with_plan x [])) e (subst (λ (x : List Holding). AreOver ds x (ps ++ p ∷ [])) (sym f) (over_more ds hs ps h p over q m))

pub returns-in_ok-index_over-in-Some : goal.returns-in_ok-index_over-in-Some
returns-in_ok-index_over-in-Some c =
    one_more (keyed (held c.args.docs.now)) c.args.indexes c.in_ok-index_over-in-Some.field-0 c.in-Some.plan (plan_of c.args.def.now) c.pushed.result
    (subst (λ (hs : List Holding). IfSome c.pushed.result (λ after. after ≡ hs ++ c.in_ok-index_over-in-Some.field-0 ∷ [])) c.indexes.view_is c.pushed.ensures) (sym c.in-Some.is ∙ c.in_ok-plan.ensures) c.in_ok-index_over-in-Some.ensures.plan c.in_ok-index_over-in-Some.ensures.owned
