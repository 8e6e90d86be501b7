use Rattle.std.proofs.Common.{◌≡◌, ◌+◌, ◌++◌, List, [], ◌∷◌, take, refl, sym, ap, ◌∙◌, subst}
use Rattle.std.specs.Prelude.{is_some}
use Rattle.std.proofs.lemmas.List.{take_more}
use Rattle.bson_encode.specs.Key.{key_of}
use Rattle.state_model.specs.Keys.{Key}
use Rattle.coll_state.specs.declared.change.Change.{Change}
use Rattle.coll_state.specs.Rows.{id_of, key_in}
use Rattle.kept_indexes.specs.Kept.{KeptCollections, kept_at}
use Rattle.kept_indexes.specs.Moves.{ArePut, Becomes}
use Rattle.transaction_indexes.specs.Reversal.{HaveKeysOf}
use Rattle.transaction_indexes.proofs.Indexes.{become_stays}
use Rattle.transaction_indexes.proofs.TakingBack.{back_to, back_none, back_more, back_same_none, named_at, named_key, none_of_at}
use Rattle.transaction_indexes.proofs.reversal.put_back.Goals as goal
use Rattle.transaction_indexes.proofs.reversal.put_back.Goals.{in-Some+in_ok-put, in_default}

pub loop-change-init : goal.loop-change-init
loop-change-init c = (λ f h. back_none c.args.changes.now f c.args.indexes.now c.args.state.now h, λ n h. refl, λ n e. e)

pub loop-change-preserved : goal.loop-change-preserved
loop-change-preserved c =
    let all = c.args.changes.now in
    let i = c.loop-change.change-index in
    let x = c.change-item.result in
    let r = c.args.state.now in
    let ks = c.loop-change.indexes in
    let more : take (i + 1) all ≡ take i all ++ x ∷ [] = take_more all i x c.loop-change-test.true ∙ ap (λ (z : Change). take i all ++ z ∷ []) (sym c.change-item.is) in
    elim c.match-branch-2.branch [
      | in-Some+in_ok-put w ↦ (
        (λ f h.
            subst (λ (cs : List Change). HaveKeysOf (back_to r cs all f) c.match-branch-2.indexes r) (sym more)
            (subst (λ (js : KeptCollections). HaveKeysOf (back_to r (take i all ++ x ∷ []) all f) js r) (sym w.indexes-is)
            (back_more (take i all) all x w.in-Some.doc f ks w.put.new.self r (sym w.in-Some.is ∙ c.in_ok-doc.ensures.doc) (c.loop-change.invariant.0 f h)
            (subst (λ (k : Key). Becomes (ArePut k w.in-Some.doc) (kept_at ks x.ns) (kept_at w.put.new.self x.ns)) (named_key c.in_ok-doc.field-0 w.in-Some.doc (key_of x.id) c.in_ok-doc.ensures.id w.in-Some.is) w.in_ok-put.ensures.moved) w.put.ensures.others))),
        (λ n h. ap (λ (js : KeptCollections). kept_at js n) w.indexes-is ∙ (w.put.ensures.others n (none_of_at all i x n c.loop-change-test.true c.change-item.is h) ∙ c.loop-change.invariant.1 n h)),
        (λ n e. ap (λ (js : KeptCollections). is_some (kept_at js n)) w.indexes-is ∙ become_stays (ArePut (key_in (id_of w.in-Some.doc)) w.in-Some.doc) ks w.put.new.self x.ns w.in_ok-put.ensures.moved w.put.ensures.others n (c.loop-change.invariant.2 n e)),
      )
      | in_default w ↦ (
        (λ f h.
            subst (λ (cs : List Change). HaveKeysOf (back_to r cs all f) c.match-branch-2.indexes r) (sym more)
            (subst (λ (js : KeptCollections). HaveKeysOf (back_to r (take i all ++ x ∷ []) all f) js r) (sym w.indexes-is)
            (back_same_none (take i all) all x f ks r (sym w.in_default.is ∙ c.in_ok-doc.ensures.doc) (named_at all i x c.loop-change-test.true c.change-item.is) (c.loop-change.invariant.0 f h)))),
        (λ n h. ap (λ (js : KeptCollections). kept_at js n) w.indexes-is ∙ c.loop-change.invariant.1 n h),
        (λ n e. ap (λ (js : KeptCollections). is_some (kept_at js n)) w.indexes-is ∙ c.loop-change.invariant.2 n e),
      )
    ]

pub returns-in_err-put-clause-others : goal.returns-in_err-put-clause-others
returns-in_err-put-clause-others c =
    λ n h. c.put.ensures.others n (none_of_at c.args.changes.now c.loop-change.change-index c.change-item.result n c.loop-change-test.true c.change-item.is h) ∙ c.loop-change.invariant.1 n h
