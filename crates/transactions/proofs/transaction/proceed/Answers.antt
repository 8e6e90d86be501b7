use Rattle.transactions.proofs.Running.{step_keyed, step_names, step_elsewhere, settled_proceeds, settled_keyed, settled_stays}
use Rattle.transactions.proofs.transaction.proceed.Goals as goal

pub tested-refused-requires : goal.tested-refused-requires
tested-refused-requires c = step_names c.args.form c.args.command.now c.in_ok-answer.answer c.args.rows.now c.step.new.rows c.in_ok-answer.ensures

pub returns-clause-proceeds : goal.returns-clause-proceeds
returns-clause-proceeds c =
    settled_proceeds c.args.form c.args.command.now c.in_ok-answer.answer c.tested-refused.result c.settled.result c.args.rows.now c.step.new.rows c.args.indexes.now c.tested-refused.new.indexes c.settled.ensures c.in_ok-answer.ensures c.tested-refused.ensures.tested

pub returns-clause-keyed : goal.returns-clause-keyed
returns-clause-keyed c =
    settled_keyed c.in_ok-answer.answer c.tested-refused.result c.settled.result c.step.new.rows c.settled.ensures
    (step_keyed c.args.form c.args.command.now c.in_ok-answer.answer c.args.rows.now c.step.new.rows c.in_ok-answer.ensures c.requires)

pub returns-clause-stay : goal.returns-clause-stay
returns-clause-stay c = settled_stays c.in_ok-answer.answer c.tested-refused.result c.settled.result c.args.indexes.now c.tested-refused.new.indexes c.settled.ensures c.tested-refused.ensures.tested

pub returns-clause-others : goal.returns-clause-others
returns-clause-others c =
    λ n h. c.tested-refused.ensures.others n (step_elsewhere c.args.form c.args.command.now c.in_ok-answer.answer c.args.rows.now c.step.new.rows n c.in_ok-answer.ensures h)
