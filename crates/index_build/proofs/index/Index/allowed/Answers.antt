use Rattle.std.proofs.Common.{◌≡◌, false, sym, ap, ◌∙◌, subst}
use Rattle.std.specs.Prelude.{is_some}
use Rattle.bson_view.specs.Held.{held_document}
use Rattle.index_keys.specs.Keys.{parallel}
use Rattle.index_keys.specs.Texts.{key_texts}
use Rattle.index_build.specs.Owned.{Holding, IsIndexFault, refusal_by, first_other}
use Rattle.index_build.proofs.index.Index.allowed.Goals as goal

pub returns-in-Err-no_other-clause-fault : goal.returns-in-Err-no_other-clause-fault
returns-in-Err-no_other-clause-fault c =
    let m = c.args.self.now.owned in
    let d = held_document c.args.doc in
    let apart : is_some (parallel c.args.self.now.plan d) ≡ false = ap (λ (h : Holding). is_some (parallel h.plan d)) (sym c.self.view_is) ∙ c.in-Ok.ensures.apart in
    let keys : c.as_slice.result.now ≡ key_texts c.args.self.now.plan d = c.as_slice.ensures ∙ (c.in-Ok.ensures.keys ∙ ap (λ (h : Holding). key_texts h.plan d) c.self.view_is) in
    subst (IsIndexFault c.in-Err-no_other.e c.args.id.now)
    (λ i. refusal_by (sym apart i) c.args.self.now.plan.unique (first_other c.args.key.now (keys i) m)) c.in-Err-no_other.ensures.fault
