use Rattle.std.proofs.lemmas.Bool.Decides.{Decides-eqb}
use Rattle.std.proofs.lemmas.Slice.Eq.{strip_prefix_is}
use Rattle.plain_json.proofs.Values.{some_of}
use Rattle.plain_json.proofs.tokens.word.Goals as goal

pub returns-clause-word : goal.returns-clause-word
returns-clause-word c = some_of _ _ c.strip_prefix.result (strip_prefix_is Decides-eqb c.args.bytes.now c.args.word.now c.strip_prefix.result c.strip_prefix.ensures.cases)
