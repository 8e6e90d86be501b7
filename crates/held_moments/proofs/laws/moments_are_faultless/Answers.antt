use Rattle.held_moments.proofs.Moments.{moments_faultless}
use Rattle.held_moments.proofs.laws.moments_are_faultless.Goals as goal

pub returns : goal.returns
returns c = moments_faultless c.held_are_faultless.ensures
