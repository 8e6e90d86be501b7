use Rattle.std.proofs.Common.{[], sym, subst, refl, map as each}
use Rattle.schedule_report.specs.Schedules.{numbered}
use Rattle.schedule_dump.specs.declared.fault.RunFault.{RunFault}
use Rattle.schedule_dump.specs.Progress.{Ends, ends}
use Rattle.schedule_dump.specs.Outcomes.{Fails}
use Rattle.schedule_dump.proofs.Going.{goes_first, start_front, start_told}
use Rattle.schedule_dump.proofs.Coming.{start_fails, finish_fails, finish_dumps, is_source}
use Rattle.schedule_dump.proofs.run.dump_beside.Goals as goal

pub returns-in-Err-clause-comes : goal.returns-in-Err-clause-comes
returns-in-Err-clause-comes g c s first formed w =
    let a = (g.K.Sink.end c.args.output.now).bytes in
    let b = (g.K.Sink.end c.start.new.sink).bytes in
    let d = (g.R.Sink.end c.args.report.now).bytes in
    let rest = each numbered c.args.lines in
    subst (λ (f : RunFault). Fails f s (record { output = a; report = first }) (record { output = b; report = d })) (sym c.fault_of.ensures)
    (start_fails s c.in-Err.fault a b first d c.in-Err.ensures.faults (start_front s c.args.store rest a b first d c.in-Err.ensures.err w) (start_told s c.args.store rest first d w))

pub returns-in-Err-run_beside-clause-comes : goal.returns-in-Err-run_beside-clause-comes
returns-in-Err-run_beside-clause-comes g c s first formed w =
    let a = (g.K.Sink.end c.args.output.now).bytes in
    let b = (g.K.Sink.end c.start.new.sink).bytes in
    let d = (g.R.Sink.end c.args.report.now).bytes in
    c.in-Err-run_beside.ensures.runs s (record { output = a; report = first }) (goes_first s c.args.store c.in-Ok.dump (each numbered c.args.lines) a b first d c.in-Ok.ensures.begun c.in-Ok.ensures.ok w)

pub returns-in-Ok-finish-clause-comes : goal.returns-in-Ok-finish-clause-comes
returns-in-Ok-finish-clause-comes g c s first formed w =
    let a = (g.K.Sink.end c.args.output.now).bytes in
    let b = (g.K.Sink.end c.start.new.sink).bytes in
    let d = (g.R.Sink.end c.args.report.now).bytes in
    let v = c.in-Ok-run_beside.ensures.runs s (record { output = a; report = first }) (goes_first s c.args.store c.in-Ok.dump (each numbered c.args.lines) a b first d c.in-Ok.ensures.begun c.in-Ok.ensures.ok w) in
    let x : Ends = record { output = a; report = first } in
    let p = g.K.Sink.end c.run_beside.new.output in
    let q = g.R.Sink.end c.run_beside.new.report in (
      finish_dumps s c.run_beside.new.store c.run_beside.new.dump x p q v c.in-Ok-finish.report c.finish.new.self (g.K.Sink.end c.finish.new.sink) c.done_is_healed_before.ensures formed
          (c.in-Ok-finish.ensures.finishes s.caps v.at (v.reached.good [] [] refl) v.reached.stands v.meets),
      is_source s c.run_beside.new.store c.run_beside.new.dump x p q v,
    )

pub returns-in-Err-finish-clause-comes : goal.returns-in-Err-finish-clause-comes
returns-in-Err-finish-clause-comes g c s first formed w =
    let a = (g.K.Sink.end c.args.output.now).bytes in
    let b = (g.K.Sink.end c.start.new.sink).bytes in
    let d = (g.R.Sink.end c.args.report.now).bytes in
    let p = g.K.Sink.end c.finish.new.sink in
    let q = g.R.Sink.end c.run_beside.new.report in
    let v = c.in-Ok-run_beside.ensures.runs s (record { output = a; report = first }) (goes_first s c.args.store c.in-Ok.dump (each numbered c.args.lines) a b first d c.in-Ok.ensures.begun c.in-Ok.ensures.ok w) in
    subst (λ (f : RunFault). Fails f s (record { output = a; report = first }) (ends p q)) (sym c.fault_of-in-Err-finish.ensures)
    (finish_fails s c.run_beside.new.store c.run_beside.new.dump (record { output = a; report = first }) (g.K.Sink.end c.run_beside.new.output) q v c.in-Err-finish.fault c.finish.new.self p
    (c.in-Err-finish.ensures.finishes s.caps v.at (v.reached.good [] [] refl) v.reached.stands v.meets))
