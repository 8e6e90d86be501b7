use Rattle.json_faults.proofs.Fronts.{refused_at_end}
use Rattle.json_faults.proofs.laws.refused_at_its_end.Goals as goal

pub returns : goal.returns
returns c = refused_at_end
