use Rattle.touch_laws.proofs.Bridge.{same_way, plain_is_played}
use Rattle.touch_laws.proofs.plain.plain_changes_are_played.Goals as goal

pub returns : goal.returns
returns c = record { way = same_way; played = plain_is_played }
