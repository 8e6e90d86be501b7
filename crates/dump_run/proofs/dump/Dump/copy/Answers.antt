use Rattle.std.proofs.Common.{sym, ap, refl, Bool}
use Rattle.history_model.specs.Runs.{last_read_at}
use Rattle.dump_run.proofs.Reading.{copied_ok, copied_err}
use Rattle.dump_run.proofs.dump.Dump.copy.Goals as goal

pub returns-then-have_ended-clause-comes : goal.returns-then-have_ended-clause-comes
returns-then-have_ended-clause-comes g c = λ r st m.
    let i = c.self.inside in
    let step = rw c.in-Ok-Some.field-0-is at c.in-Ok-Some.ensures.step in
    copied_ok i.copies c.step.new.self i.oplog i.start i.last_read i.mark i.sent i.closed i.documents i.entries i.failed c.args.self.now r c.args.store.now c.args.ns.now c.args.n c.in-Ok-Some.count
    (g.K.Sink.end c.args.sink.now).bytes (g.K.Sink.end c.step.new.sink).bytes c.newest-self-inside.result c.newest-self-inside.result c.saturating_add-self-inside.result c.have_ended.result
    c.self.view_is step c.newest-self-inside.ensures c.have_ended.ensures (ap (λ (b : Bool). last_read_at b c.newest-self-inside.result i.last_read) (sym c.if-have_ended.true)) c.saturating_add-self-inside.ensures st m

pub returns-else-have_ended-clause-comes : goal.returns-else-have_ended-clause-comes
returns-else-have_ended-clause-comes g c = λ r st m.
    let i = c.self.inside in
    let step = rw c.in-Ok-Some.field-0-is at c.in-Ok-Some.ensures.step in
    copied_ok i.copies c.step.new.self i.oplog i.start i.last_read i.mark i.sent i.closed i.documents i.entries i.failed c.args.self.now r c.args.store.now c.args.ns.now c.args.n c.in-Ok-Some.count
    (g.K.Sink.end c.args.sink.now).bytes (g.K.Sink.end c.step.new.sink).bytes c.args.store.now.log.newest i.last_read c.saturating_add-self-inside.result c.have_ended.result
    c.self.view_is step refl c.have_ended.ensures (ap (λ (b : Bool). last_read_at b c.args.store.now.log.newest i.last_read) (sym c.if-have_ended.false)) c.saturating_add-self-inside.ensures st m

pub returns-in-Err-clause-comes : goal.returns-in-Err-clause-comes
returns-in-Err-clause-comes g c = λ r st m.
    let i = c.self.inside in
    copied_err i.copies c.step.new.self i.oplog i.start i.last_read i.mark i.sent i.closed i.documents i.entries i.failed c.args.self.now r c.args.store.now c.args.ns.now c.args.n
    (g.K.Sink.end c.args.sink.now) (g.K.Sink.end c.step.new.sink) c.in-Err.fault c.from-fault.result c.self.view_is c.in-Err.ensures.step c.from-fault.ensures st m
