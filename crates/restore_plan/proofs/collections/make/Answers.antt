use Rattle.std.proofs.Common.{rules}
use Rattle.json_tree.specs.declared.tree.Tree.TheVariants as trees
use Rattle.restore_plan.proofs.Steps.{on_ok, made_there, made_new}
use Rattle.restore_plan.proofs.collections.make.Goals as goal

pub returns-then-has-clause-ok : goal.returns-then-has-clause-ok
returns-then-has-clause-ok c = made_there c.args.state.now c.args.ns.now c.has.result c.has.ensures c.if-has.true

pub returns-clause-ok : goal.returns-clause-ok
returns-clause-ok c =
    on_ok c.create.result
    (λ e. made_new c.args.state.now c.create.new.self c.args.ns.now c.has.result (trees.Object c.new.result) c.changes_are_moves.ensures.create c.has.ensures c.if-has.false (search rules) e)
    c.create.ensures.ok
