use Rattle.std.proofs.Common.{take, sym, ◌∙◌, ap, refl, arith, length-append}
use Rattle.bson_value.specs.declared.value.Value.{Null}
use Rattle.bson_value.specs.Place.{put_item}
use Rattle.doc_path.proofs.Steps.{set-put_item, take_all, take_push, put_item-padded, put_item-behind}
use Rattle.doc_path.proofs.elements.put_element.Goals as goal

pub returns-then-at-count-clause-ok : goal.returns-then-at-count-clause-ok
returns-then-at-count-clause-ok c = c.replace.ensures.new ∙ set-put_item c.args.items.now c.args.at c.args.value (omega (arith, c.if-at-count.true, c.len-count.ensures))

pub pad-init : goal.pad-init
pad-init c = record { front = take_all c.len-count.result c.args.items.now c.len-count.ensures; padded = λ a. refl; kept = refl; count = sym c.len-count.ensures }

pub pad-preserved : goal.pad-preserved
pad-preserved c =
    let n = c.pad.invariant.count in
    record {
      front = rw c.in-Ok.ensures.ok (take_push c.len-count.result c.pad.items Null (omega (arith, n, c.pad.auto.counter)) ∙ c.pad.invariant.front);
      padded = λ a. rw c.in-Ok.ensures.ok (put_item-padded c.pad.items c.args.at a (omega (arith, n, c.pad-test.true)) ∙ c.pad.invariant.padded a);
      kept = c.pad.invariant.kept;
      count = rw (c.in-Ok.ensures.ok, length-append) (omega (arith, n));
    }

pub returns-in-Err-clause-err : goal.returns-in-Err-clause-err
returns-in-Err-clause-err c = c.truncate.ensures ∙ (ap (take c.len-count.result) c.in-Err.ensures.err ∙ c.pad.invariant.front)

pub returns-in-Ok-push-clause-ok : goal.returns-in-Ok-push-clause-ok
returns-in-Ok-push-clause-ok c =
    c.in-Ok-push.ensures.ok
    ∙ (sym (put_item-behind c.pad.items c.args.at _ (omega (arith, c.pad.invariant.count, c.pad-test.false, c.pad.auto.counter-end c.if-at-count.false))) ∙ (c.pad.invariant.padded _ ∙ ap (put_item c.args.items.now c.args.at) c.pad.invariant.kept))

pub returns-in-Err-push-clause-err : goal.returns-in-Err-push-clause-err
returns-in-Err-push-clause-err c = c.truncate-in-Err-push.ensures ∙ (ap (take c.len-count.result) c.in-Err-push.ensures.err ∙ c.pad.invariant.front)
