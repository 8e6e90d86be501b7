use Rattle.std.proofs.Common.{◌∙◌, sym, ap, subst, Result}
use Rattle.history_model.specs.Runs.{finished}
use Rattle.dump_run.specs.Dumps.{Dumping}
use Rattle.dump_run.specs.Calls.{Does, Finishes}
use Rattle.dump_run.specs.declared.fault.DumpFault.{DumpFault}
use Rattle.dump_run.specs.declared.fault.DumpReport.{DumpReport}
use Rattle.dump_run.proofs.Finishing.{is_marked}
use Rattle.dump_run.proofs.dump.Dump.finish.Goals as goal
use Rattle.dump_run.proofs.dump.Dump.finish.Goals.{in-Ok+in-Some-mark, in-Ok+in-None, in-Err}

pub returns-clause-finishes : goal.returns-clause-finishes
returns-clause-finishes g c = λ k r ok st m.
    let first = g.K.Sink.end c.args.sink.now in
    let last = g.K.Sink.end c.rest.new.sink in
    let new = c.rest.new.self in
    let does = c.rest.ensures.does k r ok st m in
    elim c.match-rest.branch as (λ _. Finishes c.match-rest.result r (finished r) new first last) [
      | in-Ok+in-Some-mark w ↦
          let h = subst (λ (z : Result (Unit {0}) DumpFault). Does z r (finished r) new first last) w.in-Ok.is does in
          subst (λ (z : Result DumpReport DumpFault). Finishes z r (finished r) new first last) (sym w.result-is) (
            h.0.done,
            h.0,
            record {
              start = ap (λ (z : Dumping). z.state.start) c.self-2.view_is;
              last_read = ap (λ (z : Dumping). z.state.last_read) c.self-2.view_is;
              end_ts = sym w.in-Some-mark.is ∙ ap (λ (z : Dumping). z.state.mark) c.self-2.view_is;
              documents = ap (λ (z : Dumping). z.documents) c.self-2.view_is;
              entries = ap (λ (z : Dumping). z.entries) c.self-2.view_is;
            },
            h.1,
          )
      | in-Ok+in-None w ↦
          let h = subst (λ (z : Result (Unit {0}) DumpFault). Does z r (finished r) new first last) w.in-Ok.is does in
          absurd (is_marked k r c.args.store.now c.args.self.now ok st m new h.0 (sym (ap (λ (z : Dumping). z.state.mark) c.self-2.view_is) ∙ w.in-None.is))
      | in-Err w ↦
          let h = subst (λ (z : Result (Unit {0}) DumpFault). Does z r (finished r) new first last) w.in-Err.is does in
          subst (λ (z : Result DumpReport DumpFault). Finishes z r (finished r) new first last) (sym w.result-is) h
    ]
