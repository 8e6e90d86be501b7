use Rattle.std.proofs.Common.{sym, ◌∙◌}
use Rattle.transactions.proofs.Progress.{good_there, good_ids}
use Rattle.transactions.proofs.Running.{runs_answer, runs_good, runs_count, runs_kept, failed_kept}
use Rattle.transactions.proofs.transaction.changes_together.Goals as goal
use Rattle.kept_indexes.proofs.Told.{if_ok}

pub returns-then-is_err-clause-kept : goal.returns-then-is_err-clause-kept
returns-then-is_err-clause-kept c =
    failed_kept c.trial-answer.result c.args.commands.now c.args.indexes.now c.trial-answer.new.indexes c.forget_all.new.indexes c.args.state.now (sym c.is_err.ensures.value ∙ c.if-is_err.true) c.requires.kept c.trial-answer.ensures.others c.forget_all.ensures.forgotten

pub returns-else-is_err-clause-answer : goal.returns-else-is_err-clause-answer
returns-else-is_err-clause-answer c =
    if_ok c.trial-answer.result c.trial-answer.ensures.runs (λ a h. runs_answer c.args.ts c.args.form c.args.commands.now a c.trial-answer.new.indexes c.args.state.now h)

pub returns-else-is_err-clause-there : goal.returns-else-is_err-clause-there
returns-else-is_err-clause-there c =
    if_ok c.trial-answer.result c.trial-answer.ensures.runs
    (λ a h. if_ok a (runs_good c.args.ts c.args.form c.args.commands.now a c.trial-answer.new.indexes c.args.state.now h) (λ t g. good_there t.changes c.args.state.now.tables g))

pub returns-else-is_err-clause-ids : goal.returns-else-is_err-clause-ids
returns-else-is_err-clause-ids c =
    if_ok c.trial-answer.result c.trial-answer.ensures.runs
    (λ a h. if_ok a (runs_good c.args.ts c.args.form c.args.commands.now a c.trial-answer.new.indexes c.args.state.now h) (λ t g. good_ids t.changes c.args.state.now.tables g))

pub returns-else-is_err-clause-good : goal.returns-else-is_err-clause-good
returns-else-is_err-clause-good c =
    if_ok c.trial-answer.result c.trial-answer.ensures.runs (λ a h. runs_good c.args.ts c.args.form c.args.commands.now a c.trial-answer.new.indexes c.args.state.now h)

pub returns-else-is_err-clause-count : goal.returns-else-is_err-clause-count
returns-else-is_err-clause-count c =
    if_ok c.trial-answer.result c.trial-answer.ensures.runs (λ a h. runs_count c.args.ts c.args.form c.args.commands.now a c.trial-answer.new.indexes c.args.state.now h)

pub returns-else-is_err-clause-kept : goal.returns-else-is_err-clause-kept
returns-else-is_err-clause-kept c =
    runs_kept c.args.ts c.args.form c.args.commands.now c.trial-answer.result c.trial-answer.new.indexes c.args.state.now (sym c.is_err.ensures.value ∙ c.if-is_err.false) c.trial-answer.ensures.runs
