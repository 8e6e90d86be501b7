use Rattle.oplog_entry.proofs.PathFields.{sets_added, unsets_added, as_sets, as_unsets, as_diff, adds_by}
use Rattle.oplog_entry.proofs.Diffs.{on_ok, if_bad}
use Rattle.oplog_entry.proofs.update.update_field.Goals as goal

pub returns-in_ok-push_path_sets-in-V1-clause-ok : goal.returns-in_ok-push_path_sets-in-V1-clause-ok
returns-in_ok-push_path_sets-in-V1-clause-ok c =
    adds_by _ _ c.args.touches.now c.push_path_sets.new.touches (as_sets c.args.form c.args.name.now c.args.value.now c.in-Object.fields c.in-V1.is c.if-eq-2.ensures c.in-Object.is)
    (sets_added c.in-Object.fields c.args.touches.now c.push_path_sets.new.touches c.in_ok-push_path_sets-in-V1.ensures)

pub returns-in_ok-push_path_unsets-in-V1-clause-ok : goal.returns-in_ok-push_path_unsets-in-V1-clause-ok
returns-in_ok-push_path_unsets-in-V1-clause-ok c =
    adds_by _ _ c.args.touches.now c.push_path_unsets.new.touches (as_unsets c.args.form c.args.name.now c.args.value.now c.in-Object.fields c.in-V1.is c.if-eq-3.ensures c.in-Object.is)
    (unsets_added c.in-Object.fields c.args.touches.now c.push_path_unsets.new.touches c.in_ok-push_path_unsets-in-V1.ensures)

pub returns-then-eq-4-clause-ok : goal.returns-then-eq-4-clause-ok
returns-then-eq-4-clause-ok c =
    on_ok c.diff.result _ _ (adds_by _ _ c.args.touches.now c.diff.new.touches (as_diff c.args.form c.args.name.now c.args.value.now c.in-Object.fields c.in-V2.is c.if-eq-4.ensures c.in-Object.is)) c.diff.ensures.ok

pub returns-then-eq-4-clause-err : goal.returns-then-eq-4-clause-err
returns-then-eq-4-clause-err c =
    if_bad c.diff.result _ _ (as_diff c.args.form c.args.name.now c.args.value.now c.in-Object.fields c.in-V2.is c.if-eq-4.ensures c.in-Object.is) c.diff.ensures.err
