use Rattle.oplog_entry.proofs.Pushes.{first_and_others}
use Rattle.oplog_entry.proofs.delta.place_of.Goals as goal

pub returns : goal.returns
returns c =
    first_and_others c.args.others.now c.in_ok-place.place c.loop-other.place c.args.first.now c.in_ok-copy.field-0 c.loop-other.other-index
    c.in_ok-place.ensures c.in_ok-copy.ensures c.loop-other.invariant c.loop-other-test.false
