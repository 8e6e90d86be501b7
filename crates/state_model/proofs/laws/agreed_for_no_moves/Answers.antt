use Rattle.std.proofs.Common.{refl}
use Rattle.state_model.proofs.laws.agreed_for_no_moves.Goals as goal

pub returns : goal.returns
returns c = λ y x. ((λ h p. h p refl), (λ h p e. h p))
