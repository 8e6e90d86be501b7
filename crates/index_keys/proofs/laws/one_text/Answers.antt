use Rattle.index_keys.proofs.OneText.{one_text}
use Rattle.index_keys.proofs.laws.one_text.Goals as goal

pub returns : goal.returns
returns c = one_text
