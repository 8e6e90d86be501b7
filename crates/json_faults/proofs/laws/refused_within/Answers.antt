use Rattle.json_faults.proofs.Texts.{refused_within}
use Rattle.json_faults.proofs.laws.refused_within.Goals as goal

pub returns : goal.returns
returns c = refused_within
