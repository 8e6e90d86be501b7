use Rattle.std.proofs.Common.{List, sym, ap, ◌∙◌, ◌+◌, length, subst, take, take_all}
use Rattle.std.specs.Prelude.{is_some}
use Rattle.bson_view.specs.declared.held.Held.{Held}
use Rattle.bson_view.specs.Held.{held_document}
use Rattle.index_keys.specs.Keys.{parallel}
use Rattle.index_keys.specs.Texts.{key_texts}
use Rattle.index_build.specs.Counting.{held}
use Rattle.index_build.specs.Faults.{first_parallel}
use Rattle.index_build.specs.Numbers.{pair_count}
use Rattle.index_build.specs.Repeated.{Watched, IsRepeat}
use Rattle.index_build.proofs.Places.{first_here}
use Rattle.index_build.proofs.Counted.{count_more, apart_more, parallel_told, told, held_more, held_before}
use Rattle.index_build.proofs.count.count_pairs.Goals as goal

pub returns-in-Err-clause-fault : goal.returns-in-Err-clause-fault
returns-in-Err-clause-fault c =
    let plan = c.args.plan.now in
    parallel_told c.in-Err.e c.args.at.ns.now c.args.at.index.now plan (held c.args.docs.now) (held_document c.index-docs-i.result) c.in-Err.ensures.fault
    (first_here held_document (λ d. is_some (parallel plan d)) c.args.docs.now c.loop-i.i c.index-docs-i.result c.loop-i-test.true c.index-docs-i.is c.loop-i.invariant.1)

pub loop-i-preserved : goal.loop-i-preserved
loop-i-preserved c =
    let plan = c.args.plan.now in
    let d = held_document c.index-docs-i.result in
    let ds = held (take c.loop-i.i c.args.docs.now) in
    let more = held_more c.args.docs.now c.loop-i.i c.index-docs-i.result c.loop-i-test.true c.index-docs-i.is in (
      c.in-Ok.ensures.count ∙ (ap (λ n. n + length (key_texts plan d)) c.loop-i.invariant.0 ∙ (sym (count_more plan ds d) ∙ ap (pair_count plan) (sym more))),
      ap (first_parallel plan) more ∙ apart_more plan ds d c.loop-i.invariant.1 c.in-Ok.ensures.apart,
      subst (Watched plan c.count_document.new.repeats) (sym more) (c.in-Ok.ensures.watched ds c.loop-i.invariant.2 (held_before c.args.docs.now c.loop-i.i c.loop-i-test.true)),
    )

pub no_repeat-requires-clause-told : goal.no_repeat-requires-clause-told
no_repeat-requires-clause-told c =
    subst (λ (hs : List Held). IsRepeat c.args.plan.now c.loop-i.repeats.first (held hs)) (take_all c.loop-i.i c.args.docs.now c.loop-i-test.false) (told c.args.plan.now c.loop-i.repeats (held (take c.loop-i.i c.args.docs.now)) c.loop-i.invariant.2)
