use Rattle.std.proofs.Common.{ap, ◌∙◌, List}
use Rattle.ns_patterns.specs.Literals.{Literals}
use Rattle.restore_filter.specs.Names.{text_of, any_matches}
use Rattle.restore_filter.proofs.Names.{no_patterns, some_patterns}
use Rattle.restore_filter.proofs.filter.included.Goals as goal

pub returns-then-is_empty : goal.returns-then-is_empty
returns-then-is_empty c = c.if-is_empty.true ∙ no_patterns c.args.patterns.now (text_of c.args.ns.now) c.is_empty.result c.is_empty.ensures c.if-is_empty.true

pub returns-else-is_empty : goal.returns-else-is_empty
returns-else-is_empty c =
    c.any_matches.ensures ∙ (ap (λ (ps : List Literals). any_matches ps (text_of c.args.ns.now)) c.as_slice.ensures ∙ some_patterns c.args.patterns.now (text_of c.args.ns.now) c.is_empty.result c.is_empty.ensures c.if-is_empty.false)
