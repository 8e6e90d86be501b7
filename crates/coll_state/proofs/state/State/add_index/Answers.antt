use Rattle.coll_state.specs.Changes.{put_index}
use Rattle.coll_state.specs.Definitions.{definition_name}
use Rattle.coll_state.specs.Tables.{tables_in}
use Rattle.coll_state.proofs.Sound.{kept_there, index_keeps, tried}
use Rattle.coll_state.proofs.state.State.add_index.Goals as goal

pub invariant_of-self : goal.invariant_of-self
invariant_of-self c =
    tried c.add_index.result c.self.inside.count (tables_in c.self.inside.tables) _ (tables_in c.add_index.new.tables) c.self.invariant
    (kept_there c.self.inside.count (tables_in c.self.inside.tables) c.args.ns.now (put_index (definition_name c.args.def) c.args.def) (index_keeps c.self.inside.count (definition_name c.args.def) c.args.def) c.self.invariant)
    c.add_index.ensures.ok c.add_index.ensures.err
