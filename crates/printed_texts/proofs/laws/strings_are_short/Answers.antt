use Rattle.printed_texts.proofs.Strings.{strings_short}
use Rattle.printed_texts.proofs.laws.strings_are_short.Goals as goal

pub returns : goal.returns
returns c = strings_short
