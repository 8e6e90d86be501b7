use Rattle.std.proofs.Common.{ap, ◌∙◌}
use Rattle.coll_state.specs.Rows.{state_of}
use Rattle.coll_state.proofs.Links.{drop_db_link}
use Rattle.replay.proofs.actions.drop_database.Goals as goal

pub returns-clause-state : goal.returns-clause-state
returns-clause-state c = ap state_of c.drop_db.ensures.state ∙ drop_db_link c.args.db.now c.args.state.now
