-- What a dump comes to, at its start and at its end.
use Rattle.std.proofs.Common.{◌≡◌, ℕ, ◌+◌, List, [], ◌∷◌, length, refl, sym, ap, ◌∙◌, subst, append-nil, Option, Some, Result, Ok, Err}
use Rattle.std.specs.Prelude.{filter, true}
use Rattle.std.specs.Io.KnownBytes.{Appends}
use Rattle.std.proofs.lemmas.List.{length-append}
use Rattle.tool_io.specs.Causes.{AppendsFront}
use Rattle.tool_io.specs.Ends.{End}
use Rattle.tool_io.specs.declared.ends.Fault.{Fault}
use Rattle.tool_io.specs.declared.ends.Fault.TheVariants as ends_faults
use Rattle.tool_io.proofs.Writes.{front_none}
use Rattle.bson_value.specs.declared.value.Ts.{Ts}
use Rattle.coll_state.specs.Rows.{state_of}
use Rattle.history_model.specs.Stages.{Made}
use Rattle.history_model.specs.WellFormed.{AreWellFormedLines}
use Rattle.history_model.specs.Laws.{DoneIsHealedBefore}
use Rattle.history_model.specs.Runs.{Schedule, Run, Step, Documents, Entries, DumpState, Done, Refusal, finished, run, window, entries_from}
use Rattle.history_model.specs.Histories.{Moments, history, history_of, state, moments_of, moments, reads, outcome, refusals, refusals_told, documents_in, entries_in, sent_in}
use Rattle.dump_model.specs.Archives.{written}
use Rattle.store_core.specs.Stores.{Stored}
use Rattle.dump_run.specs.declared.fault.DumpFault.{DumpFault}
use Rattle.dump_run.specs.declared.fault.DumpFault.TheVariants as steps
use Rattle.dump_run.specs.declared.fault.DumpReport.{DumpReport}
use Rattle.dump_run.specs.Dumps.{Dumping, counted}
use Rattle.dump_run.specs.Calls.{steps_text, Reports, Finishes}
use Rattle.dump_run.specs.Calls as calls
use Rattle.dump_run.specs.Faults.{of_sink, IsOfSink}
use Rattle.schedule_report.specs.Lines.{refusals_text}
use Rattle.schedule_dump.specs.declared.fault.RunFault.{RunFault}
use Rattle.schedule_dump.specs.declared.fault.RunFault.TheVariants as faults
use Rattle.schedule_dump.specs.Lines.{IsOfReport, fault_of}
use Rattle.schedule_dump.specs.Progress.{Breaks, Ends, ends, DuringDump}
use Rattle.schedule_dump.specs.Outcomes.{TellsFirst, WritesAll, Fails, Dumps, IsSource}
use Rattle.schedule_dump.proofs.Refused.{finished_leaves}
use Rattle.schedule_dump.proofs.Reaching.{told_first, first_front}
use Rattle.schedule_dump.proofs.Going.{written_front, written_all}
use Rattle.history_model.proofs.Answered.{same_some as some_is}
use Rattle.history_model.proofs.SourceMade.{finished_made}

-- ---- before the start

-- nothing was done
pub nothing_done : (s : Schedule) (before : Ends) → Fails faults.NoMemory s before before
nothing_done s before = (front_none before.output (written s), front_none before.report (refusals_text (refusals_told s)))

-- the telling of a line failed
pub breaks : (s : Schedule) (f : RunFault) (output before after : Option (List ℕ)) → Breaks f s before after → Fails f s (record { output = output; report = before }) (record { output = output; report = after })
breaks s faults.ReportFault output before after b = (front_none output (written s), b.1)
breaks s faults.NoMemory output before after b = (front_none output (written s), b.1)
breaks s faults.OutputFault output before after b = absurd b.0
breaks s (faults.Renamed ts) output before after b = absurd b.0
breaks s (faults.Rolled start oldest) output before after b = absurd b.0

-- it isn't the output that failed then
pub never_output : {A : Type 0} (f : RunFault) (r : Result A RunFault) → IsOfReport f → r ≡ Err f → r ≡ Err faults.OutputFault → ⊥
never_output {A} f r h is e = (let same : f ≡ faults.OutputFault = cc in subst IsOfReport same h)

-- the dump didn't start
pub start_fails : (s : Schedule) (f : DumpFault) (a b c d : Option (List ℕ)) → IsOfSink f → AppendsFront a b (written s) → TellsFirst s c d → Fails (fault_of f) s (record { output = a; report = c }) (record { output = b; report = d })
start_fails s f a b c d is w t = subst (λ (z : DumpFault). Fails (fault_of z) s (record { output = a; report = c }) (record { output = b; report = d })) (sym is.1) (by is.0)
  where
    by : (e : Fault) → Fails (fault_of (of_sink e)) s (record { output = a; report = c }) (record { output = b; report = d })
    by ends_faults.NoMemory = (w, first_front s c d t)
    by ends_faults.Failed = (w, t)

-- ---- the end

all_stay : {A : Type 0} (xs : List A) → filter (λ (x : A). true) xs ≡ xs
all_stay [] = refl
all_stay (x ∷ xs) = ap (λ (ys : List _). x ∷ ys) (all_stay xs)

moments_in : (o : Option DumpState) (d : DumpState) (e : Ts) → o ≡ Some d → Some e ≡ d.mark → moments_of o ≡ record { start = Some d.start; last_read = Some d.last_read; end_ts = Some e }
moments_in o d e is mark = ap moments_of is ∙ ap (λ (z : Option Ts). record { start = Some d.start; last_read = Some d.last_read; end_ts = z }) (sym mark)

entries_sent : (ss : List Step) → entries_in ss ≡ length (sent_in ss)
entries_sent [] = refl
entries_sent (Documents n rs b ∷ ss) = entries_sent ss
entries_sent (Entries es b ∷ ss) = ap (λ (i : ℕ). length es + i) (entries_sent ss) ∙ sym (length-append es (sent_in ss))

module _ (s : Schedule) (store : Stored) (dump : Dumping) (first : Ends) (o q : End) (g : DuringDump s store dump [] first (ends o q)) where
  whole : run s ≡ finished g.at
  whole = g.reached.whole

  told_all : refusals s ≡ g.at.refused
  told_all = ap (λ (z : Run). z.refused) whole ∙ finished_leaves g.at

  told_up_to : refusals_told s ≡ g.at.refused
  told_up_to = ap (λ (z : Run). z.refused) g.reached.stops ∙ finished_leaves g.at

  all : (p : End) → calls.Writes g.at (finished g.at) o.bytes p.bytes → WritesAll s first (ends p q)
  all p w = (
    written_all s g.at w.0 first.output o.bytes p.bytes g.wrote (ap (λ (z : Run). steps_text z.steps) whole ∙ w.1) w.2,
    subst (λ (z : List (ℕ × Refusal)). Appends first.report q.bytes (refusals_text z)) (sym told_up_to) g.reached.told,
  )

  front : (p : End) → calls.WritesFront g.at (finished g.at) o.bytes p.bytes → AppendsFront first.output p.bytes (written s)
  front p w = written_front s g.at w.0 [] first.output o.bytes p.bytes g.wrote (ap (λ (z : Run). steps_text z.steps) whole ∙ (w.1 ∙ sym (append-nil _))) w.2

  told : TellsFirst s first.report q.bytes
  told = told_first s store g.at [] first.report q.bytes g.reached

  -- what is left of a dump makes no change
  pub is_source : IsSource store s
  is_source =
      ap state_of g.reached.stands.rows ∙ ((g.reached.good [] [] refl).0.state
      ∙ (ap (λ (ms : List Made). state (history_of ms)) (sym (ap (λ (z : Run). z.made) whole ∙ finished_made g.at)) ∙ ap state (sym (all_stay (history s)))))

  pub finish_fails : (f : DumpFault) (new : Dumping) (p : End) → Finishes (Err f) g.at (finished g.at) new o p → Fails (fault_of f) s first (ends p q)
  finish_fails (steps.Renamed ts) new p h = (ap (λ (z : Run). z.outcome) whole ∙ h.0, all p h.1)
  finish_fails (steps.Rolled a b) new p h = (ap (λ (z : Run). z.outcome) whole ∙ h.0, all p h.1)
  finish_fails steps.WriteFault new p h = (front p h.0, told)
  finish_fails steps.NoMemory new p h = (front p h.0, first_front s first.report q.bytes told)
  finish_fails steps.NotNow new p h = absurd h
  finish_fails steps.NoCursor new p h = absurd h

  pub finish_dumps : (report : DumpReport) (new : Dumping) (p : End) → DoneIsHealedBefore → AreWellFormedLines s.lines → Finishes (Ok report) g.at (finished g.at) new o p → Dumps report s first (ends p q)
  finish_dumps report new p healed formed h =
      (let done : outcome s ≡ Done = ap (λ (z : Run). z.outcome) whole ∙ h.0 in
      let k = healed s formed done in
      let r = h.2 in
      let moments_are : moments s ≡ record { start = Some report.start; last_read = Some report.last_read; end_ts = Some report.end } =
      moments_in (run s).dump new.state report.end (ap (λ (z : Run). z.dump) whole ∙ h.1.there) r.end_ts ∙ (λ i. record { start = Some (sym r.start i); last_read = Some (sym r.last_read i); end_ts = Some report.end }) in
      let same = sym k.moments_are ∙ moments_are in
      let start : k.start ≡ report.start = some_is k.start report.start (ap (λ (z : Moments). z.start) same) in
      let end : k.last ≡ report.end = some_is k.last report.end (ap (λ (z : Moments). z.end_ts) same) in
      record {
        done = done;
        reports = record {
          moments_are = moments_are;
          documents = r.documents ∙ (h.1.documents ∙ ap (λ (z : Run). counted (documents_in z.steps)) (sym whole));
          entries = r.entries ∙ (h.1.entries ∙ (ap (λ (z : Run). counted (entries_in z.steps)) (sym whole)
              ∙ ap counted (entries_sent (reads s) ∙ (ap length k.sent ∙ (λ i. length (window (start i) (end i) (entries_from (run s))))))));
        };
        wrote = written_all s g.at h.3.0 first.output o.bytes p.bytes g.wrote (ap (λ (z : Run). steps_text z.steps) whole ∙ h.3.1) h.3.2;
        told = subst (λ (z : List (ℕ × Refusal)). Appends first.report q.bytes (refusals_text z)) (sym told_all) g.reached.told;
      })
