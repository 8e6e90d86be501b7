use Rattle.std.proofs.Common.{◌≡◌, ◌+◌, ◌++◌, List, [], ◌∷◌, take, refl, sym, ap, ◌∙◌, subst}
use Rattle.std.proofs.lemmas.List.{take_more}
use Rattle.bson_encode.specs.Key.{key_of}
use Rattle.coll_state.specs.declared.change.Change.{Change}
use Rattle.kept_indexes.specs.Moves.{AreTakenOut}
use Rattle.transaction_indexes.specs.Reversal.{HaveKeysOf, without}
use Rattle.transaction_indexes.proofs.Indexes.{become_stays}
use Rattle.transaction_indexes.proofs.TakingBack.{out_none, out_more, none_of_at}
use Rattle.transaction_indexes.proofs.reversal.take_out.Goals as goal

pub loop-change-init : goal.loop-change-init
loop-change-init c = (λ f r h. out_none c.args.changes.now f c.args.indexes.now r h, λ n h. refl, λ n e. e)

pub loop-change-preserved : goal.loop-change-preserved
loop-change-preserved c =
    let all = c.args.changes.now in
    let i = c.loop-change.change-index in
    let more : take (i + 1) all ≡ take i all ++ c.change-item.result ∷ [] = take_more all i c.change-item.result c.loop-change-test.true ∙ ap (λ (z : Change). take i all ++ z ∷ []) (sym c.change-item.is) in (
      (λ f r h.
          subst (λ (cs : List Change). HaveKeysOf (without cs f) c.remove.new.self r) (sym more)
          (out_more (take i all) c.change-item.result f c.loop-change.indexes c.remove.new.self r (c.loop-change.invariant.0 f r h) c.in_ok-remove.ensures.moved c.remove.ensures.others)),
      (λ n h. c.remove.ensures.others n (none_of_at all i c.change-item.result n c.loop-change-test.true c.change-item.is h) ∙ c.loop-change.invariant.1 n h),
      (λ n e. become_stays (AreTakenOut (key_of c.change-item.result.id)) c.loop-change.indexes c.remove.new.self c.change-item.result.ns c.in_ok-remove.ensures.moved c.remove.ensures.others n (c.loop-change.invariant.2 n e)),
    )

pub returns-in_err-remove-clause-others : goal.returns-in_err-remove-clause-others
returns-in_err-remove-clause-others c =
    λ n h. c.remove.ensures.others n (none_of_at c.args.changes.now c.loop-change.change-index c.change-item.result n c.loop-change-test.true c.change-item.is h) ∙ c.loop-change.invariant.1 n h
