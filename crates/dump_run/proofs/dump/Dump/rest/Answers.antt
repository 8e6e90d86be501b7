use Rattle.std.specs.FinMap as map
use Rattle.history_model.specs.Runs.{copied_out, marked_out}
use Rattle.dump_run.proofs.Finishing.{copied_stands, marked_stands, marked_good, marked_whole, copy_failed, mark_failed, tail_does}
use Rattle.dump_run.proofs.dump.Dump.rest.Goals as goal

pub returns-in-Ok-mark_rest-clause-does : goal.returns-in-Ok-mark_rest-clause-does
returns-in-Ok-mark_rest-clause-does g c = λ k r ok st m.
    let d = c.args.self.now in
    let store = c.args.store.now in
    let first = g.K.Sink.end c.args.sink.now in
    let mid = g.K.Sink.end c.copy_all.new.sink in
    let s = copied_out (map.keys d.state.cursors) r in
    let a = c.in-Ok.ensures.does k r ok st m in
    let b = c.in-Ok-mark_rest.ensures.does s mid (copied_stands k r store d ok st m) a.0 in
    tail_does k r store d ok st m c.tail_rest.new.self first mid (g.K.Sink.end c.tail_rest.new.sink) c.tail_rest.result a.1 b.1
    (c.tail_rest.ensures.does k (marked_out s) (marked_good k r store d ok st m) (marked_stands k r store d ok st m) b.0 (marked_whole k r store d ok st m))

pub returns-in-Err-mark_rest-clause-does : goal.returns-in-Err-mark_rest-clause-does
returns-in-Err-mark_rest-clause-does g c = λ k r ok st m.
    let d = c.args.self.now in
    let store = c.args.store.now in
    let first = g.K.Sink.end c.args.sink.now in
    let mid = g.K.Sink.end c.copy_all.new.sink in
    let a = c.in-Ok.ensures.does k r ok st m in
    mark_failed k r store d ok st m c.mark_rest.new.self first mid mid c.in-Err-mark_rest.fault a.1 (c.in-Err-mark_rest.ensures.does (copied_out (map.keys d.state.cursors) r) mid (copied_stands k r store d ok st m) a.0)

pub returns-in-Err-clause-does : goal.returns-in-Err-clause-does
returns-in-Err-clause-does g c = λ k r ok st m.
    let mid = g.K.Sink.end c.copy_all.new.sink in
    copy_failed k r c.args.store.now c.args.self.now ok st m c.copy_all.new.self (g.K.Sink.end c.args.sink.now) mid mid c.in-Err.fault (c.in-Err.ensures.does k r ok st m)
