use Rattle.state_model.proofs.Keeps.{move_keeps}
use Rattle.state_model.proofs.laws.moves_change_what_they_cover.Goals as goal

pub returns : goal.returns
returns c = λ m s made p e. move_keeps c.changes_what_it_covers.ensures m s made p e
