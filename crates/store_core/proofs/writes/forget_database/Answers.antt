use Rattle.std.proofs.Common.{subst}
use Rattle.coll_state.specs.Walks.{names_left}
use Rattle.store_core.specs.Databases.{AreAmong}
use Rattle.store_core.proofs.Elsewhere.{all_among, without_database}
use Rattle.store_core.proofs.writes.forget_database.Goals as goal

pub names-init : goal.names-init
names-init c = (c.requires, all_among c.args.db.now c.args.indexes.now c.args.state.now (names_left c.namespaces-left.result) c.requires c.namespaces-left.ensures)

pub names-preserved : goal.names-preserved
names-preserved c = (
  c.forget_in.ensures.kept c.args.state.now c.names.invariant.0,
  c.forget_in.ensures.among (names_left c.next.new.self) (subst (AreAmong c.args.db.now c.names.indexes) c.in-Some.ensures.steps c.names.invariant.1),
)

pub returns : goal.returns
returns c = without_database c.args.db.now c.names.indexes c.args.state.now c.names.invariant.0 (subst (AreAmong c.args.db.now c.names.indexes) c.in_default.ensures.steps.0 c.names.invariant.1)
