use Rattle.std.proofs.Common.{ap, ◌∙◌}
use Rattle.coll_state.specs.Rows.{state_of}
use Rattle.coll_state.proofs.Links.{drop_index_link}
use Rattle.replay.proofs.actions.drop_index.Goals as goal

pub returns-clause-state : goal.returns-clause-state
returns-clause-state c = ap state_of c.drop_index.ensures.state ∙ drop_index_link c.args.ns.now c.args.name.now c.args.state.now
