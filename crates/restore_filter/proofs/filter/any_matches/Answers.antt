use Rattle.std.proofs.Common.{◌≡◌, true}
use Rattle.restore_filter.specs.Names.{text_of}
use Rattle.restore_filter.proofs.Firsts.{any_here, any_next}
use Rattle.restore_filter.proofs.filter.any_matches.Goals as goal

pub returns-then-matches_ns : goal.returns-then-matches_ns
returns-then-matches_ns c =
    any_here c.args.patterns.now c.loop-pattern.pattern-index c.pattern-item.result (text_of c.args.ns.now) c.loop-pattern-test.true c.pattern-item.is c.loop-pattern.invariant (c.matches_ns.ensures.0 c.if-matches_ns.true)

pub loop-pattern-preserved : goal.loop-pattern-preserved
loop-pattern-preserved c =
    any_next c.args.patterns.now c.loop-pattern.pattern-index c.pattern-item.result (text_of c.args.ns.now) c.loop-pattern-test.true c.pattern-item.is c.loop-pattern.invariant (λ m. let e : c.matches_ns.result ≡ true = c.matches_ns.ensures.1 m in cc)
