use Rattle.touch_laws.proofs.Agreement.{playing_keeps_same, playing_all_keeps_agreement}
use Rattle.touch_laws.proofs.PlayedLaws.{agree_played}
use Rattle.touch_laws.proofs.laws.playing_keeps_agreement.Goals as goal

pub returns : goal.returns
returns c = record { same = playing_keeps_same; one = agree_played; all = playing_all_keeps_agreement }
