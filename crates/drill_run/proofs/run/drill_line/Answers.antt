use Rattle.std.proofs.Common.{◌≡◌, ℕ, ◌+◌, length, refl, sym, ap, ◌∙◌}
use Rattle.std.specs.FinMap as map
use Rattle.coll_state.specs.Rows.{Rows}
use Rattle.drill_run.specs.declared.line.Counts.{Counts}
use Rattle.drill_run.proofs.Reported.{least, most, restorable, same_listings, counts_are, told_line}
use Rattle.drill_run.proofs.run.drill_line.Goals as goal

pub dump_into_memory-requires-clause-least : goal.dump_into_memory-requires-clause-least
dump_into_memory-requires-clause-least c = least c.args.n c.in_ok-schedule.schedule c.in_ok-schedule.ensures

pub dump_into_memory-requires-clause-most : goal.dump_into_memory-requires-clause-most
dump_into_memory-requires-clause-most c = most c.args.n c.in_ok-schedule.schedule c.in_ok-schedule.ensures

pub list_restored-requires : goal.list_restored-requires
list_restored-requires c =
    restorable c.args.n c.in_ok-schedule.schedule c.in_ok-schedule.ensures c.as_slice-2.result.now c.in_ok-report.field-0.archive c.as_slice-2.ensures c.in_ok-report.ensures.archive (c.drills_heal.ensures c.args.n c.requires.least c.requires.most)

pub equal-requires : goal.equal-requires
equal-requires c =
    let same =
    same_listings c.args.n c.in_ok-schedule.schedule c.in_ok-schedule.ensures c.as_slice-2.result.now c.in_ok-report.field-0.archive c.in_ok-restored.restored c.in_ok-listed.listed c.in_ok-report.field-0.store.rows
    c.as_slice-2.ensures c.in_ok-report.ensures.archive (c.drills_heal.ensures c.args.n c.requires.least c.requires.most) c.in_ok-restored.ensures c.in_ok-listed.ensures c.in_ok-report.ensures.store in
    c.as_slice-3.ensures ∙ (same ∙ sym c.as_slice-4.ensures)

pub returns : goal.returns
returns c =
    let rows = c.in_ok-report.field-0.store.rows in
    let counts : Counts = record { lines = c.len-lines.result + 1; documents = c.in_ok-report.field-0.report.documents; entries = c.in_ok-report.field-0.report.entries; namespaces = c.namespaces.result; bytes = length c.as_slice.result.now } in
    let are =
    counts_are c.args.n c.in_ok-schedule.schedule c.in_ok-schedule.ensures counts c.in_ok-report.field-0.report rows c.in_ok-report.field-0.archive c.in_ok-report.ensures.report
    (ap (λ (z : ℕ). z + 1) c.len-lines.ensures) refl refl (c.namespaces.ensures ∙ ap (λ (r : Rows). length (map.keys r.tables)) c.state.ensures) (ap length c.as_slice.ensures) c.in_ok-report.ensures.archive c.in_ok-report.ensures.store in
    told_line c.args.n counts c.equal.result.now c.counts_line.result are c.equal.ensures c.counts_line.ensures
