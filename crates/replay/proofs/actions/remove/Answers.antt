use Rattle.std.proofs.Common.{ap, ◌∙◌}
use Rattle.bson_encode.specs.Key.{key_of}
use Rattle.coll_state.specs.Rows.{state_of}
use Rattle.coll_state.proofs.Links.{remove_link}
use Rattle.replay.proofs.actions.remove.Goals as goal

pub returns-clause-state : goal.returns-clause-state
returns-clause-state c = ap state_of c.remove.ensures.state ∙ remove_link c.args.ns.now (key_of c.args.id.now) c.args.state.now c.is_sound.ensures
