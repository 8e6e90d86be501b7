use Rattle.index_keys.specs.Definition.{plan_of}
use Rattle.bson_view.specs.Held.{held_document}
use Rattle.command_refusals.proofs.Shared.{apart_alone, parallel_told_alone, shared_alone}
use Rattle.command_refusals.proofs.clashes.is_parallel.Goals as goal

pub returns-in-Apart : goal.returns-in-Apart
returns-in-Apart c = apart_alone c.in_ok-judge.field-0 (plan_of c.args.def.now) (held_document c.args.doc) c.in_ok-judge.ensures c.in-Apart.is

pub returns-in-Parallel : goal.returns-in-Parallel
returns-in-Parallel c = parallel_told_alone c.in_ok-judge.field-0 (plan_of c.args.def.now) (held_document c.args.doc) c.in_ok-judge.ensures c.in-Parallel.is

pub returns-in-Shared : goal.returns-in-Shared
returns-in-Shared c = shared_alone c.in_ok-judge.field-0 (plan_of c.args.def.now) (held_document c.args.doc) c.in_ok-judge.ensures c.in-Shared.is
