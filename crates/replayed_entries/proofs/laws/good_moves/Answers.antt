use Rattle.replayed_entries.proofs.Moved.{moves_are}
use Rattle.replayed_entries.proofs.Played.{good_played}
use Rattle.replayed_entries.proofs.laws.good_moves.Goals as goal

pub returns : goal.returns
returns c = record { moves = moves_are; played = good_played }
