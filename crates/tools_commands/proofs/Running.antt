-- A run of a schedule and its listing say what `source` says.
use Rattle.std.proofs.Common.{◌≡◌, List, [], ℕ, map as each, ap, subst, inr}
use Rattle.std.specs.Prelude.{Option, Some, None, Ok, IfSome}
use Rattle.coll_state.specs.Rows.{state_of}
use Rattle.state_listing.specs.Listing.{listing}
use Rattle.schedule_text.specs.Reading.{schedule_of}
use Rattle.schedule_report.specs.Lines.{refusals_text}
use Rattle.schedule_source.specs.declared.run.SourceRun.{SourceRun}
use Rattle.schedule_source.specs.Inputs.{RunsInput}
use Rattle.schedule_source.specs.Progress.{refusal_in}
use Rattle.tools_words.specs.declared.order.SourceOrder.{SourceOrder}
use Rattle.tools_commands.specs.declared.status.Status.{Status}
use Rattle.tools_commands.specs.declared.status.Status.TheVariants as is
use Rattle.tools_commands.specs.Ends.{Turn}
use Rattle.tools_commands.specs.SourceAnswers.{IsSchedule, Lists, ScheduleSays, SourceSays, refused}

both : {A : Type 0} (P Q : A → Type 0) (o : Option A) → IfSome o P → IfSome o Q → IfSome o (λ x. P x × Q x)
both P Q None p q = tt
both P Q (Some x) p q = (p, q)

module _ (order : SourceOrder) (i o t : Turn) (r : SourceRun) (w : RunsInput order.limit r i.before.bytes i.after.bytes) where
  abbrev made : List ℕ
  made = listing order.form (state_of r.store.rows)

  abbrev told : List ℕ
  told = refusals_text (each refusal_in r.refused)

  is_schedule : IsSchedule i w.schedule
  is_schedule = both (λ all. schedule_of all ≡ Ok w.schedule) (λ all. i.after.bytes ≡ Some []) i.before.bytes w.is w.whole

  says : (s : Status) → Lists made told s o t → ScheduleSays order w.schedule s o t
  says s h =
      subst (λ (x : List ℕ). Lists x (refused order w.schedule) s o t) (ap (listing order.form) w.makes.makes)
      (subst (λ (x : List ℕ). Lists made x s o t) (ap refusals_text w.makes.refuses) h)

  pub run_says : (s : Status) → Lists made told s o t → SourceSays order s i o t
  run_says is.Done h = (w.schedule, is_schedule, says is.Done h)
  run_says is.WriteFault h = (w.schedule, is_schedule, says is.WriteFault h)
  run_says is.NoMemory h = inr (w.schedule, is_schedule, says is.NoMemory h)
  run_says (is.Usage at) h = absurd h
  run_says (is.BadSchedule line kind) h = absurd h
  run_says (is.BadArchive f) h = absurd h
  run_says (is.Rolled start oldest) h = absurd h
  run_says (is.Renamed ts) h = absurd h
  run_says (is.NotRestored f) h = absurd h
  run_says is.ReadFault h = absurd h
