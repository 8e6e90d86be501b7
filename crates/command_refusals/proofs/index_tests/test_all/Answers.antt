use Rattle.std.proofs.Common.{◌≡◌, List, take, take_all, sym, ap, ◌∙◌}
use Rattle.std.specs.Prelude.{◌||◌}
use Rattle.json_tree.specs.declared.tree.Tree.{Tree}
use Rattle.index_keys.specs.Definition.{plan_of}
use Rattle.index_build.specs.Counting.{held}
use Rattle.command_refusals.specs.Clashes.{unique_clash, any_parallel}
use Rattle.command_refusals.specs.Tests.{some_clash, some_parallel}
use Rattle.command_refusals.proofs.Shared.{clash_more, parallel_more, met_before, met_now}
use Rattle.command_refusals.proofs.index_tests.test_all.Goals as goal
use Rattle.command_refusals.proofs.index_tests.test_all.Goals.{then-clash, else-clash, then-parallel, else-parallel}

pub loop-def-preserved : goal.loop-def-preserved
loop-def-preserved c =
    let defs = c.args.defs.now in
    let docs = held c.args.docs.now in
    let i = c.loop-def.def-index in
    let clash : c.if-clash.clash ≡ (some_clash (take i defs) docs || unique_clash (plan_of c.def-item.result) docs) =
    elim c.if-clash.branch [
      | then-clash w ↦ met_before c.if-clash.clash c.loop-def.clash (some_clash (take i defs) docs) (unique_clash (plan_of c.def-item.result) docs) (w.clash-is ∙ w.if-clash.true) w.if-clash.true c.loop-def.invariant.0
      | else-clash w ↦ met_now c.if-clash.clash c.loop-def.clash c.in_ok-tested.tested.clash (some_clash (take i defs) docs) (unique_clash (plan_of c.def-item.result) docs) w.clash-is w.if-clash.false c.loop-def.invariant.0 c.in_ok-tested.ensures.clash
    ] in
    let parallel : c.if-parallel.parallel ≡ (some_parallel (take i defs) docs || any_parallel (plan_of c.def-item.result) docs) =
    elim c.if-parallel.branch [
      | then-parallel w ↦ met_before c.if-parallel.parallel c.loop-def.parallel (some_parallel (take i defs) docs) (any_parallel (plan_of c.def-item.result) docs) (w.parallel-is ∙ w.if-parallel.true) w.if-parallel.true c.loop-def.invariant.1
      | else-parallel w ↦ met_now c.if-parallel.parallel c.loop-def.parallel c.in_ok-tested.tested.parallel (some_parallel (take i defs) docs) (any_parallel (plan_of c.def-item.result) docs) w.parallel-is w.if-parallel.false c.loop-def.invariant.1 c.in_ok-tested.ensures.parallel
    ] in
    (clash ∙ sym (clash_more defs i c.def-item.result docs c.loop-def-test.true c.def-item.is), parallel ∙ sym (parallel_more defs i c.def-item.result docs c.loop-def-test.true c.def-item.is))

pub returns-clause-clash : goal.returns-clause-clash
returns-clause-clash c = c.loop-def.invariant.0 ∙ ap (λ (ds : List Tree). some_clash ds (held c.args.docs.now)) (take_all c.loop-def.def-index c.args.defs.now c.loop-def-test.false)

pub returns-clause-parallel : goal.returns-clause-parallel
returns-clause-parallel c = c.loop-def.invariant.1 ∙ ap (λ (ds : List Tree). some_parallel ds (held c.args.docs.now)) (take_all c.loop-def.def-index c.args.defs.now c.loop-def-test.false)
