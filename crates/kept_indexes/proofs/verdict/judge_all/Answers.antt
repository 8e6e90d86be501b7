use Rattle.std.proofs.Common.{◌≡◌, List, take, take_all, sym, ap, ◌∙◌}
use Rattle.std.specs.Prelude.{◌||◌}
use Rattle.bson_encode.specs.Key.{key_of}
use Rattle.index_build.specs.Owned.{Holding, refusal}
use Rattle.command_refusals.proofs.Shared.{met_before, met_now}
use Rattle.kept_indexes.specs.Verdicts.{is_shared, is_parallel, some_shared, some_parallel}
use Rattle.kept_indexes.proofs.Judged.{shared_more, parallel_more}
use Rattle.kept_indexes.proofs.verdict.judge_all.Goals as goal
use Rattle.kept_indexes.proofs.verdict.judge_all.Goals.{then-shared, else-shared, then-parallel, else-parallel}

pub loop-index-preserved : goal.loop-index-preserved
loop-index-preserved c =
    let hs = c.args.indexes.now in
    let k = key_of c.args.id.now in
    let d = c.args.doc.now in
    let i = c.loop-index.index-index in
    let h = c.index-item.result in
    let shared : c.if-shared.shared ≡ (some_shared (take i hs) k d || is_shared (refusal h.plan k d h.owned)) =
    elim c.if-shared.branch [
      | then-shared w ↦ met_before c.if-shared.shared c.loop-index.shared (some_shared (take i hs) k d) (is_shared (refusal h.plan k d h.owned)) (w.shared-is ∙ w.if-shared.true) w.if-shared.true c.loop-index.invariant.0
      | else-shared w ↦ met_now c.if-shared.shared c.loop-index.shared c.in_ok-verdict.verdict.shared (some_shared (take i hs) k d) (is_shared (refusal h.plan k d h.owned)) w.shared-is w.if-shared.false c.loop-index.invariant.0 c.in_ok-verdict.ensures.shared
    ] in
    let parallel : c.if-parallel.parallel ≡ (some_parallel (take i hs) k d || is_parallel (refusal h.plan k d h.owned)) =
    elim c.if-parallel.branch [
      | then-parallel w ↦ met_before c.if-parallel.parallel c.loop-index.parallel (some_parallel (take i hs) k d) (is_parallel (refusal h.plan k d h.owned)) (w.parallel-is ∙ w.if-parallel.true) w.if-parallel.true c.loop-index.invariant.1
      | else-parallel w ↦ met_now c.if-parallel.parallel c.loop-index.parallel c.in_ok-verdict.verdict.parallel (some_parallel (take i hs) k d) (is_parallel (refusal h.plan k d h.owned)) w.parallel-is w.if-parallel.false c.loop-index.invariant.1 c.in_ok-verdict.ensures.parallel
    ] in
    (shared ∙ sym (shared_more hs i h k d c.loop-index-test.true c.index-item.is), parallel ∙ sym (parallel_more hs i h k d c.loop-index-test.true c.index-item.is))

pub returns-clause-shared : goal.returns-clause-shared
returns-clause-shared c = c.loop-index.invariant.0 ∙ ap (λ (hs : List Holding). some_shared hs (key_of c.args.id.now) c.args.doc.now) (take_all c.loop-index.index-index c.args.indexes.now c.loop-index-test.false)

pub returns-clause-parallel : goal.returns-clause-parallel
returns-clause-parallel c = c.loop-index.invariant.1 ∙ ap (λ (hs : List Holding). some_parallel hs (key_of c.args.id.now) c.args.doc.now) (take_all c.loop-index.index-index c.args.indexes.now c.loop-index-test.false)
