use Rattle.index_keys.proofs.AlikeKeys.{alike_keys, alike_parallel}
use Rattle.index_keys.proofs.laws.alike_documents.Goals as goal

pub returns-clause-keys : goal.returns-clause-keys
returns-clause-keys c = alike_keys

pub returns-clause-parallel : goal.returns-clause-parallel
returns-clause-parallel c = alike_parallel
