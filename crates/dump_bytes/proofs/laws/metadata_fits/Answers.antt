use Rattle.dump_bytes.proofs.Metadata.{texts_fit}
use Rattle.dump_bytes.proofs.laws.metadata_fits.Goals as goal

pub returns : goal.returns
returns c = texts_fit c.trees_are_formed.ensures c.prints_are_texts.ensures c.strings_are_short.ensures c.steps_follow.ensures
