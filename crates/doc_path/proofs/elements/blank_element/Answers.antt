use Rattle.std.proofs.Common.{arith, ◌∙◌}
use Rattle.doc_path.proofs.Steps.{blank_within, blank_beyond}
use Rattle.doc_path.proofs.elements.blank_element.Goals as goal

pub returns-then-at-len : goal.returns-then-at-len
returns-then-at-len c = c.replace.ensures.new ∙ blank_within c.args.items.now c.args.at (omega (arith, c.if-at-len.true, c.len.ensures))

pub returns-else-at-len : goal.returns-else-at-len
returns-else-at-len c = blank_beyond c.args.items.now c.args.at (omega (arith, c.if-at-len.false, c.len.ensures))
