use Rattle.std.proofs.Common.{◌∙◌, ◌+◌, ℕ, [], ◌∷◌, ◌++◌, sym, ap, lit<, length, drop, arith, rules}
use Rattle.std.proofs.lemmas.List.{length_push, at_drop_all, map-append}
use Rattle.std.proofs.lemmas.Iterator.Splits.{YieldsList-from_str_split}
use Rattle.std.proofs.lemmas.Iterator.Consumers.{YieldsList-turn, YieldsList-end}
use Rattle.doc_path.specs.Paths.{parts_of, first_fault}
use Rattle.doc_path.proofs.Named.{is_path, first_fault-drop, passes, stops, some_text}
use Rattle.doc_path.proofs.path.Path.read.Goals as goal

pub returns-in_err-read_part-clause-fault : goal.returns-in_err-read_part-clause-fault
returns-in_err-read_part-clause-fault c =
    let y = YieldsList-from_str_split 46 c.args.text.now (lit< tt) (rw c.into_iter-part-iterator.ensures.into_iter_gives c.split-part-items.ensures.text) (rw c.into_iter-part-iterator.ensures.into_iter_gives c.split-part-items.ensures.has_more) (rw c.into_iter-part-iterator.ensures.into_iter_gives c.split-part-items.ensures.pattern) in
    let t = YieldsList-turn y c.loop-part.yielded _ c.loop-part.yielded_by _ _ c.in-Some.part c.in-Some.is c.next.ensures.steps in
    let all = parts_of c.args.text.now in
    let n = length c.loop-part.yielded in
    let e = some_text c.args.text.now (sym c.is_empty.ensures ∙ c.if-is_empty.false) ∙ (c.loop-part.invariant.passed ∙ first_fault-drop all n c.in-Some.part.now t) in
    let f = stops _ _ (first_fault (drop (n + 1) all)) c.in_err-read_part.ensures.fault in
    let r = c.from_residual.ensures in
    rw e (search rules)

pub loop-part-preserved : goal.loop-part-preserved
loop-part-preserved c =
    let y = YieldsList-from_str_split 46 c.args.text.now (lit< tt) (rw c.into_iter-part-iterator.ensures.into_iter_gives c.split-part-items.ensures.text) (rw c.into_iter-part-iterator.ensures.into_iter_gives c.split-part-items.ensures.has_more) (rw c.into_iter-part-iterator.ensures.into_iter_gives c.split-part-items.ensures.pattern) in
    let t = YieldsList-turn y c.loop-part.yielded _ c.loop-part.yielded_by _ _ c.in-Some.part c.in-Some.is c.next.ensures.steps in
    let all = parts_of c.args.text.now in
    let n = length c.loop-part.yielded in
    let m = length_push c.loop-part.yielded c.in-Some.part in
    record {
      next = tt;
      ends = tt;
      named = rw map-append (c.in_ok-push.ensures.ok ∙ (λ i. c.loop-part.invariant.named i ++ (c.in_ok-read_part.ensures.ok i ∷ [])));
      passed = c.loop-part.invariant.passed ∙ (first_fault-drop all n c.in-Some.part.now t ∙ (passes c.in-Some.part.now (first_fault (drop (n + 1) all)) c.in_ok-read_part.ensures.faultless ∙ ap (λ (k : ℕ). first_fault (drop k all)) (sym m)));
    }

pub returns-clause-ok : goal.returns-clause-ok
returns-clause-ok c =
    let y = YieldsList-from_str_split 46 c.args.text.now (lit< tt) (rw c.into_iter-part-iterator.ensures.into_iter_gives c.split-part-items.ensures.text) (rw c.into_iter-part-iterator.ensures.into_iter_gives c.split-part-items.ensures.has_more) (rw c.into_iter-part-iterator.ensures.into_iter_gives c.split-part-items.ensures.pattern) in
    let t = YieldsList-end y c.loop-part.yielded _ c.loop-part.yielded_by _ _ c.in-None.is c.next.ensures.steps in
    c.loop-part.invariant.named ∙ t.0

pub returns-clause-faultless : goal.returns-clause-faultless
returns-clause-faultless c =
    let y = YieldsList-from_str_split 46 c.args.text.now (lit< tt) (rw c.into_iter-part-iterator.ensures.into_iter_gives c.split-part-items.ensures.text) (rw c.into_iter-part-iterator.ensures.into_iter_gives c.split-part-items.ensures.has_more) (rw c.into_iter-part-iterator.ensures.into_iter_gives c.split-part-items.ensures.pattern) in
    let t = YieldsList-end y c.loop-part.yielded _ c.loop-part.yielded_by _ _ c.in-None.is c.next.ensures.steps in
    some_text c.args.text.now (sym c.is_empty.ensures ∙ c.if-is_empty.false) ∙ (c.loop-part.invariant.passed ∙ at_drop_all first_fault (parts_of c.args.text.now) (length c.loop-part.yielded) (omega (arith, t.1)))

pub invariant_of-result : goal.invariant_of-result
invariant_of-result c =
    let y = YieldsList-from_str_split 46 c.args.text.now (lit< tt) (rw c.into_iter-part-iterator.ensures.into_iter_gives c.split-part-items.ensures.text) (rw c.into_iter-part-iterator.ensures.into_iter_gives c.split-part-items.ensures.has_more) (rw c.into_iter-part-iterator.ensures.into_iter_gives c.split-part-items.ensures.pattern) in
    let t = YieldsList-end y c.loop-part.yielded _ c.loop-part.yielded_by _ _ c.in-None.is c.next.ensures.steps in
    is_path c.args.text.now c.loop-part.names (c.loop-part.invariant.named ∙ t.0) (c.loop-part.invariant.passed ∙ at_drop_all first_fault (parts_of c.args.text.now) (length c.loop-part.yielded) (omega (arith, t.1)))
