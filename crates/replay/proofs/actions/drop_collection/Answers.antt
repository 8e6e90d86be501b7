use Rattle.std.proofs.Common.{ap, ◌∙◌}
use Rattle.coll_state.specs.Rows.{state_of}
use Rattle.coll_state.proofs.Links.{drop_link}
use Rattle.replay.proofs.actions.drop_collection.Goals as goal

pub returns-clause-state : goal.returns-clause-state
returns-clause-state c = ap state_of c.drop_ns.ensures.state ∙ drop_link c.args.ns.now c.args.state.now
