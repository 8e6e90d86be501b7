use Rattle.touch_laws.proofs.Agreement.{record_is_alike}
use Rattle.touch_laws.proofs.PlayedLaws.{record_played_law}
use Rattle.touch_laws.proofs.laws.record_law.Goals as goal

pub returns : goal.returns
returns c = record { looks = record_played_law; alike = record_is_alike }
