use Rattle.restore_filter.proofs.Firsts.{stars_here, renamed_here, renamed_next, none_renames}
use Rattle.restore_filter.proofs.filter.first_renamed.Goals as goal

pub returns-in-Some : goal.returns-in-Some
returns-in-Some c =
    renamed_here c.args.renames.now c.loop-from.from-index c.loop-from-item.result c.args.name.now c.loop-from-test.true c.loop-from-item.is c.loop-from.invariant.1 c.in-Some.new (rw c.in-Some.is at c.in_ok-new.ensures.some)

pub loop-from-preserved : goal.loop-from-preserved
loop-from-preserved c = (
  (stars_here c.args.renames.now c.loop-from.from-index c.loop-from-item.result c.loop-from-test.true c.loop-from-item.is c.loop-from.invariant.0).1,
  renamed_next c.args.renames.now c.loop-from.from-index c.loop-from-item.result c.args.name.now c.loop-from-test.true c.loop-from-item.is c.loop-from.invariant.1 (rw c.in_default.is at c.in_ok-new.ensures.none),
)

pub returns : goal.returns
returns c = none_renames c.args.renames.now c.loop-from.from-index c.args.name.now c.loop-from-test.false c.loop-from.invariant.1
