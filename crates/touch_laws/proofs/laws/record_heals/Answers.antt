use Rattle.touch_laws.proofs.PlayedLaws.{record_played_heals}
use Rattle.touch_laws.proofs.laws.record_heals.Goals as goal

pub returns : goal.returns
returns c = record_played_heals
