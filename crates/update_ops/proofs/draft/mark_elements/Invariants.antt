use Rattle.std.proofs.Common.{◌≡◌, ◌≤◌, ◌++◌, ◌-◌}
use Rattle.update_model.specs.Steps.{elements}
use Rattle.update_ops.proofs.draft.mark_elements.Given as goal

abbrev pub invariant-loop-at : goal.invariant-loop-at
invariant-loop-at l = record {
  marks : l.marks ≡ l.fn.marks ++ elements l.way l.from (l.at - l.from);
  bound : l.at - l.from ≤ l.to - l.from;
}
