use Rattle.std.proofs.Common.{◌≡◌, ◌≤◌, ◌++◌, ◌-◌, ℕ, List, sym, ap, ◌∙◌, append_assoc, arith}
use Rattle.update_model.specs.declared.mark.Mark.{Mark}
use Rattle.update_model.specs.Steps.{elements}
use Rattle.update_ops.proofs.Elements.{elements_next}
use Rattle.update_ops.proofs.draft.mark_elements.Goals as goal

pub loop-at-preserved : goal.loop-at-preserved
loop-at-preserved c = record {
  marks = c.in_ok-mark_element.ensures
      ∙ (ap (λ (z : List Mark). z ++ elements c.args.way.now c.loop-at.at 1) c.loop-at.invariant.marks
      ∙ (append_assoc c.args.marks.now (elements c.args.way.now c.args.from (c.loop-at.at - c.args.from)) (elements c.args.way.now c.loop-at.at 1)
      ∙ ap (λ (z : List Mark). c.args.marks.now ++ z) (elements_next c.args.way.now c.args.from c.loop-at.at c.loop-at.auto.at)));
  bound = omega arith;
}

pub returns : goal.returns
returns c =
    let b = c.loop-at.invariant.bound in
    let same : c.loop-at.at - c.args.from ≡ c.args.to - c.args.from = omega arith in
    c.loop-at.invariant.marks ∙ ap (λ (n : ℕ). c.args.marks.now ++ elements c.args.way.now c.args.from n) same
