use Rattle.state_model.proofs.Shown.{shown_alike}
use Rattle.state_model.proofs.laws.same_is_shown_alike.Goals as goal

pub returns : goal.returns
returns c = shown_alike c.alike_looks_the_same.ensures
