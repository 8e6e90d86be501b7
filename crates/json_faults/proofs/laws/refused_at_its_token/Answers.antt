use Rattle.json_faults.proofs.Texts.{refused_at_token}
use Rattle.json_faults.proofs.laws.refused_at_its_token.Goals as goal

pub returns : goal.returns
returns c = refused_at_token
