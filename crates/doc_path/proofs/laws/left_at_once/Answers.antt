use Rattle.doc_path.proofs.Left.{left_iff, left_stays, others_play}
use Rattle.doc_path.proofs.laws.left_at_once.Goals as goal

pub returns : goal.returns
returns c = record { exactly = left_iff; stays = left_stays; others = others_play }
