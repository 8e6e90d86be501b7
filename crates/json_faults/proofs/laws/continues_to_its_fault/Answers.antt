use Rattle.json_faults.proofs.Fronts.{continues_to_fault}
use Rattle.json_faults.proofs.laws.continues_to_its_fault.Goals as goal

pub returns : goal.returns
returns c = continues_to_fault
