use Rattle.std.proofs.Common.{◌≡◌, true, sym, ◌∙◌, rules}
use Rattle.dump_run.proofs.Marking.{marked_ok, marked_err}
use Rattle.dump_run.proofs.dump.Dump.mark.Goals as goal

pub returns-in-None-clause-marks : goal.returns-in-None-clause-marks
returns-in-None-clause-marks c = λ r st m.
    let i = c.self.inside in
    let all : c.have_ended.result ≡ true = search rules in
    marked_ok i.copies i.oplog i.start i.last_read i.mark i.sent i.closed i.documents i.entries i.failed c.args.self.now r c.args.store.now c.self.view_is
    (sym c.is_some.ensures ∙ c.if-is_some.false) (sym c.have_ended.ensures ∙ all) st m c.newest.result c.newest.ensures (sym c.in-None.is ∙ c.fault_at_mark.ensures.fault r.stage st)

pub returns-in-Some-fault_at_mark-clause-marks : goal.returns-in-Some-fault_at_mark-clause-marks
returns-in-Some-fault_at_mark-clause-marks c = λ r st m.
    let i = c.self.inside in
    let all : c.have_ended.result ≡ true = search rules in
    marked_err i.copies i.oplog i.start i.last_read i.mark i.sent i.closed i.documents i.entries i.failed c.args.self.now r c.args.store.now c.self.view_is
    (sym c.is_some.ensures ∙ c.if-is_some.false) (sym c.have_ended.ensures ∙ all) st m c.in-Some-fault_at_mark.fault (sym c.in-Some-fault_at_mark.is ∙ c.fault_at_mark.ensures.fault r.stage st)
