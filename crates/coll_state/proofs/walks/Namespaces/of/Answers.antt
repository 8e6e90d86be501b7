use Rattle.std.proofs.Common.{sym, ◌∙◌}
use Rattle.coll_state.proofs.Named.{keys_are}
use Rattle.coll_state.proofs.walks.Namespaces.of.Goals as goal

pub returns : goal.returns
returns c = c.keys.ensures.rest ∙ sym (keys_are c.args.tables.now c.keys.ensures.ordered)
