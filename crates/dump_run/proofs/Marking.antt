-- A dump stands where the run does after the mark.
use Rattle.std.proofs.Common.{◌≡◌, ℕ, Bool, true, false, Option, Some, None, Ok, Err, refl, sym, ap, ◌∙◌, subst}
use Rattle.std.specs.Prelude.{◌||◌, not, is_some}
use Rattle.bson_value.specs.declared.value.Ts.{Ts}
use Rattle.archive_format.specs.Written.{Writing}
use Rattle.schedule_model.specs.declared.line.Line.TheVariants as lines
use Rattle.history_model.specs.Runs.{Run, DumpState, Renamed, on_line, all_ended, marked_by, renamed_since, rolled, is_gone, oldest}
use Rattle.store_core.specs.Stores.{Stored, StandsAt}
use Rattle.dump_copies.specs.Steps.{Copying}
use Rattle.dump_run.specs.declared.fault.DumpFault.{DumpFault}
use Rattle.dump_run.specs.declared.fault.DumpFault.TheVariants as faults
use Rattle.dump_run.specs.Dumps.{Dumping, Meets}
use Rattle.dump_run.specs.Calls.{Marks, failed_with}
use Rattle.dump_run.specs.Faults.{rolled_if, renamed_or, fault_at_mark}
use Rattle.dump_run.proofs.Lines.{mark_by}
use Rattle.dump_run.proofs.Reading.{dump_of, opened}

module _ (c : Copying) (w : Writing) (start last : Ts) (mark : Option Ts) (sent : ℕ) (closed : Bool) (documents entries : ℕ) (failed : Option DumpFault) (d : Dumping) (r : Run) (s : Stored) (is : dump_of c w start last mark sent closed documents entries failed ≡ d)
    (none : is_some mark ≡ false) (all : all_ended c.cursors ≡ true) (stands : StandsAt s r.stage) (m : Meets d r) where
  meets : Meets (dump_of c w start last mark sent closed documents entries None) r
  meets = opened c w start last mark sent closed documents entries failed d r is m

  abbrev state : DumpState
  state = (dump_of c w start last mark sent closed documents entries None).state

  line : on_line lines.Mark r ≡ Ok (marked_by (renamed_since start r.stage.renamed) state r)
  line = mark_by r state meets.there meets.done (ap (λ (b : Bool). b || not (all_ended c.cursors)) none ∙ ap not all)

  passes : (o : Option Ts) → None ≡ renamed_or o (rolled_if (is_gone start r.stage.oplog) start r.stage.oplog) → marked_by o state r ≡ record r { dump = Some (record state { mark = Some r.stage.newest }) }
  passes (Some ts) e = cc
  passes None e = by (is_gone start r.stage.oplog) e
    where
      by : (b : Bool) → None ≡ rolled_if b start r.stage.oplog → elim b as (λ _. Run) [ true ↦ rolled start r | false ↦ record r { dump = Some (record state { mark = Some r.stage.newest }) } ] ≡ record r { dump = Some (record state { mark = Some r.stage.newest }) }
      by true e = cc
      by false e = refl

  pub marked_ok : (newest : Ts) → newest ≡ s.log.newest → None ≡ fault_at_mark start r.stage.renamed r.stage.oplog →
      (x : Run) × (on_line lines.Mark r ≡ Ok x) × Meets (dump_of c w start last (Some newest) sent closed documents entries failed) x
  marked_ok newest n e =
      let now : newest ≡ r.stage.newest = n ∙ stands.newest in
      let h : Meets (dump_of c w start last (Some newest) sent closed documents entries None) (record r { dump = Some (record state { mark = Some r.stage.newest }) }) = record {
        there = λ i. Some (record { start = start; cursors = c.cursors; last_read = last; mark = Some (sym now i); sent = sent; closed = closed });
        done = meets.done;
        going = refl;
        writers = meets.writers;
        others = meets.others;
        oplog_writer = meets.oplog_writer;
        documents = meets.documents;
        entries = meets.entries;
        few = meets.few;
      } in
      let f : failed ≡ None = ap (λ (z : Dumping). z.failed) is ∙ m.going in (
        record r { dump = Some (record state { mark = Some r.stage.newest }) },
        line ∙ ap Ok (passes (renamed_since start r.stage.renamed) e),
        subst (λ (o : Option DumpFault). Meets (dump_of c w start last (Some newest) sent closed documents entries o) (record r { dump = Some (record state { mark = Some r.stage.newest }) })) (sym f) h,
      )

  same_fault : (f g : DumpFault) → Some f ≡ Some g → f ≡ g
  same_fault f g e = cc

  failing : (o : Option Ts) (f : DumpFault) → on_line lines.Mark r ≡ Ok (marked_by o state r) → Some f ≡ renamed_or o (rolled_if (is_gone start r.stage.oplog) start r.stage.oplog) → Marks (Err f) (on_line lines.Mark r) d (dump_of c w start last mark sent closed documents entries (Some f))
  failing (Some ts) f l e = subst (λ (z : DumpFault). Marks (Err z) (on_line lines.Mark r) d (dump_of c w start last mark sent closed documents entries (Some z))) (sym (same_fault f (faults.Renamed ts) e))
      (record r { outcome = Renamed ts }, l, refl, ap (failed_with (faults.Renamed ts)) is)
  failing None f l e = by (is_gone start r.stage.oplog) refl e
    where
      by : (b : Bool) → is_gone start r.stage.oplog ≡ b → Some f ≡ rolled_if b start r.stage.oplog → Marks (Err f) (on_line lines.Mark r) d (dump_of c w start last mark sent closed documents entries (Some f))
      by true g e = subst (λ (z : DumpFault). Marks (Err z) (on_line lines.Mark r) d (dump_of c w start last mark sent closed documents entries (Some z))) (sym (same_fault f (faults.Rolled start (oldest start r.stage.oplog)) e))
          (rolled start r, l ∙ ap (λ (b : Bool). Ok (elim b as (λ _. Run) [ true ↦ rolled start r | false ↦ record r { dump = Some (record state { mark = Some r.stage.newest }) } ])) g, refl, ap (failed_with (faults.Rolled start (oldest start r.stage.oplog))) is)
      by false g e = cc

  pub marked_err : (f : DumpFault) → Some f ≡ fault_at_mark start r.stage.renamed r.stage.oplog → Marks (Err f) (on_line lines.Mark r) d (dump_of c w start last mark sent closed documents entries (Some f))
  marked_err f e = failing (renamed_since start r.stage.renamed) f line e
