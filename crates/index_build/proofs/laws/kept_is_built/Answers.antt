use Rattle.index_build.proofs.Built.{built_empty, built_with, built_without, builds_are_counted}
use Rattle.index_build.proofs.laws.kept_is_built.Goals as goal

pub returns-clause-empty : goal.returns-clause-empty
returns-clause-empty c = built_empty

pub returns-clause-with : goal.returns-clause-with
returns-clause-with c = built_with

pub returns-clause-without : goal.returns-clause-without
returns-clause-without c = built_without

pub returns-clause-counted : goal.returns-clause-counted
returns-clause-counted c = builds_are_counted
