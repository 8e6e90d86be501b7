use Rattle.index_keys.proofs.EachOnce.{texts_once, texts_are_keys}
use Rattle.index_keys.proofs.laws.texts_of_keys.Goals as goal

pub returns-clause-once : goal.returns-clause-once
returns-clause-once c = texts_once

pub returns-clause-all : goal.returns-clause-all
returns-clause-all c = texts_are_keys
