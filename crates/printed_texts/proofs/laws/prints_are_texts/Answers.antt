use Rattle.printed_texts.proofs.Prints.{prints_texts}
use Rattle.printed_texts.proofs.laws.prints_are_texts.Goals as goal

pub returns : goal.returns
returns c = prints_texts
