use Rattle.doc_path.proofs.Played.{change_is_played, far_change_stays}
use Rattle.doc_path.proofs.laws.changes_are_played.Goals as goal

pub returns : goal.returns
returns c = record { played = change_is_played; stays = far_change_stays }
