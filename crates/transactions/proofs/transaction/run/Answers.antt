use Rattle.std.proofs.Common.{◌+◌, ◌∷◌, List, drop, sym, refl, ◌∙◌, subst, Ok, Result, Option}
use Rattle.coll_state.specs.declared.change.Change.{Change}
use Rattle.coll_state.specs.ChangeAll.{AreThere, change_all}
use Rattle.coll_state.specs.Rows.{Rows}
use Rattle.schedule_model.specs.declared.refused.Refused.{Refused}
use Rattle.kept_indexes.specs.Kept.{AreKept}
use Rattle.transaction_indexes.specs.Reversal.{NoneOf}
use Rattle.transaction_indexes.proofs.Indexes.{none_at}
use Rattle.transactions.specs.declared.change_record.ChangeRecord.{ChangeRecord}
use Rattle.transactions.specs.Running.{Stands, Proceeds}
use Rattle.transactions.proofs.Progress.{good_there, next_left}
use Rattle.transactions.proofs.Running.{running_none, running_more, running_refused, running_done, refused_on, none_on, keyed_on}
use Rattle.transactions.proofs.transaction.run.Goals as goal

pub loop-command-init : goal.loop-command-init
loop-command-init c = (
  running_none c.args.ts c.args.form c.args.commands.now c.args.state.now c.args.rows.now c.args.indexes.now c.new-changes.result c.new-entries.result c.new-changes.ensures c.new-entries.ensures c.requires.stands,
  c.requires.keyed,
  λ n h. refl,
  λ n h. subst (λ (xs : List Change). NoneOf xs n) (sym c.new-changes.ensures) tt,
  λ n e. e,
)

pub returns-in_err-recorded-clause-others : goal.returns-in_err-recorded-clause-others
returns-in_err-recorded-clause-others c =
    λ n h. c.proceed.ensures.others n (none_at c.args.commands.now c.loop-command.command-index c.command-item.result n c.loop-command-test.true c.command-item.is h) ∙ c.loop-command.invariant.2 n h

pub returns-in_err-add-in-Ok-clause-others : goal.returns-in_err-add-in-Ok-clause-others
returns-in_err-add-in-Ok-clause-others c =
    λ n h. c.proceed.ensures.others n (none_at c.args.commands.now c.loop-command.command-index c.command-item.result n c.loop-command-test.true c.command-item.is h) ∙ c.loop-command.invariant.2 n h

pub take_back-requires-clause-there : goal.take_back-requires-clause-there
take_back-requires-clause-there c =
    subst (λ (xs : List Change). AreThere xs c.args.state.now.tables) (sym c.as_slice.ensures) (good_there c.loop-command.changes c.args.state.now.tables c.loop-command.invariant.0.made.good)

pub take_back-requires-clause-kept : goal.take_back-requires-clause-kept
take_back-requires-clause-kept c =
    let cs = c.args.commands.now in
    let i = c.loop-command.command-index in
    let x = c.command-item.result in
    subst (λ (xs : List Change). AreKept c.proceed.new.indexes (change_all xs c.args.state.now)) (sym c.as_slice.ensures)
    (refused_on c.args.ts c.args.form cs i x c.in-Err.refused c.args.state.now c.loop-command.rows c.proceed.new.rows c.loop-command.indexes c.proceed.new.indexes c.loop-command.changes c.loop-command.entries (next_left cs i x c.loop-command-test.true c.command-item.is)
    c.loop-command.invariant.0
    (λ r h. subst (λ (a : Result (Option ChangeRecord) Refused). Proceeds c.args.form x (drop (i + 1) cs) a c.proceed.new.rows c.proceed.new.indexes r) c.in-Err.is (c.in_ok-recorded.ensures.proceeds (drop (i + 1) cs) r h)))

pub returns-in_err-take_back-in-Err-clause-others : goal.returns-in_err-take_back-in-Err-clause-others
returns-in_err-take_back-in-Err-clause-others c =
    λ n h.
    c.take_back.ensures.others n (subst (λ (xs : List Change). NoneOf xs n) (sym c.as_slice.ensures) (c.loop-command.invariant.3 n h))
    ∙ (c.proceed.ensures.others n (none_at c.args.commands.now c.loop-command.command-index c.command-item.result n c.loop-command-test.true c.command-item.is h) ∙ c.loop-command.invariant.2 n h)

pub returns-in-Err-clause-runs : goal.returns-in-Err-clause-runs
returns-in-Err-clause-runs c =
    let cs = c.args.commands.now in
    let i = c.loop-command.command-index in
    let x = c.command-item.result in
    running_refused c.args.ts c.args.form cs i x c.in-Err.refused c.args.state.now c.loop-command.rows c.proceed.new.rows c.loop-command.indexes c.proceed.new.indexes c.take_back.new.indexes c.loop-command.changes c.loop-command.entries
    (next_left cs i x c.loop-command-test.true c.command-item.is) c.loop-command.invariant.0
    (λ r h. subst (λ (a : Result (Option ChangeRecord) Refused). Proceeds c.args.form x (drop (i + 1) cs) a c.proceed.new.rows c.proceed.new.indexes r) c.in-Err.is (c.in_ok-recorded.ensures.proceeds (drop (i + 1) cs) r h))
    c.in_ok-take_back-in-Err.ensures.kept

pub returns-in-Err-clause-others : goal.returns-in-Err-clause-others
returns-in-Err-clause-others c =
    λ n h.
    c.take_back.ensures.others n (subst (λ (xs : List Change). NoneOf xs n) (sym c.as_slice.ensures) (c.loop-command.invariant.3 n h))
    ∙ (c.proceed.ensures.others n (none_at c.args.commands.now c.loop-command.command-index c.command-item.result n c.loop-command-test.true c.command-item.is h) ∙ c.loop-command.invariant.2 n h)

pub returns-in-Err-clause-stay : goal.returns-in-Err-clause-stay
returns-in-Err-clause-stay c = λ n e. c.in_ok-take_back-in-Err.ensures.stay n (c.in_ok-recorded.ensures.stay n (c.loop-command.invariant.4 n e))

pub loop-command-preserved : goal.loop-command-preserved
loop-command-preserved c =
    let ts = c.args.ts in
    let f = c.args.form in
    let cs = c.args.commands.now in
    let i = c.loop-command.command-index in
    let x = c.command-item.result in
    let left = next_left cs i x c.loop-command-test.true c.command-item.is in
    let go : (r : Rows) → Stands (x ∷ drop (i + 1) cs) c.loop-command.rows c.loop-command.indexes r → Proceeds f x (drop (i + 1) cs) (Ok c.in-Ok.recorded) c.proceed.new.rows c.proceed.new.indexes r =
    λ r h. subst (λ (a : Result (Option ChangeRecord) Refused). Proceeds f x (drop (i + 1) cs) a c.proceed.new.rows c.proceed.new.indexes r) c.in-Ok.is (c.in_ok-recorded.ensures.proceeds (drop (i + 1) cs) r h) in (
      running_more ts f cs i x c.in-Ok.recorded c.args.state.now c.loop-command.rows c.proceed.new.rows c.loop-command.indexes c.proceed.new.indexes c.loop-command.changes c.add.new.changes c.loop-command.entries c.add.new.entries left c.loop-command.invariant.0 go
          c.in_ok-add-in-Ok.ensures,
      keyed_on c.in_ok-recorded.field-0 c.in-Ok.recorded c.proceed.new.rows c.in-Ok.is c.in_ok-recorded.ensures.keyed,
      λ n h. c.proceed.ensures.others n (none_at cs i x n c.loop-command-test.true c.command-item.is h) ∙ c.loop-command.invariant.2 n h,
      λ n h.
          none_on ts f cs i x c.in-Ok.recorded c.args.state.now c.loop-command.rows c.proceed.new.rows c.loop-command.indexes c.proceed.new.indexes c.loop-command.changes c.add.new.changes c.loop-command.entries c.add.new.entries n left c.loop-command.invariant.0 go
          c.in_ok-add-in-Ok.ensures (none_at cs i x n c.loop-command-test.true c.command-item.is h) (c.loop-command.invariant.3 n h),
      λ n e. c.in_ok-recorded.ensures.stay n (c.loop-command.invariant.4 n e),
    )

pub returns-clause-runs : goal.returns-clause-runs
returns-clause-runs c =
    running_done c.args.ts c.args.form c.args.commands.now c.loop-command.command-index c.args.state.now c.loop-command.rows c.loop-command.indexes c.loop-command.changes c.loop-command.entries c.loop-command-test.false c.loop-command.auto.command-index-end c.loop-command.invariant.0
