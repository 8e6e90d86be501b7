use Rattle.update_replay.proofs.PlainTouches.{touches_are_plain}
use Rattle.update_replay.proofs.laws.touches_are_plain.Goals as goal

pub returns : goal.returns
returns c = touches_are_plain
