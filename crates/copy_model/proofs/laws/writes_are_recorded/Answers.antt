use Rattle.copy_model.proofs.Writes.{write_recorded}
use Rattle.copy_model.proofs.RowWrites.{change_link, change_sound}
use Rattle.copy_model.proofs.laws.writes_are_recorded.Goals as goal

pub returns : goal.returns
returns c = record { recorded = write_recorded c.moves_change_what_they_cover.ensures c.made_moves.ensures.settled; rows = change_link; sound = change_sound }
