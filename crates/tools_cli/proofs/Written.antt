-- A call with status 0 on the archive of a dump writes the listing of the source.
use Rattle.std.proofs.Common.{ℕ, ◌≡◌, List, [], inl, inr, sym, ◌∙◌, subst}
use Rattle.std.specs.Prelude.{⊤, Option, Some}
use Rattle.state_listing.specs.Listing.{listing}
use Rattle.restore_plan.specs.Outcome.{restores, IsOutcome, OnInput}
use Rattle.history_model.specs.Runs.{Schedule}
use Rattle.dump_model.specs.Archives.{written}
use Rattle.restored_source.specs.Laws.{ReplaysDump, source_taken, ListsSource}
use Rattle.tools_words.specs.declared.order.RestoreOrder.{RestoreOrder}
use Rattle.tools_commands.specs.declared.status.Status.{Status}
use Rattle.tools_commands.specs.declared.status.Status.TheVariants as is
use Rattle.tools_words.specs.Words.{Meaning, meaning_of}
use Rattle.tools_commands.specs.Ends.{Turn, Writes, turn}
use Rattle.tools_commands.specs.RestoreAnswers.{RestoreSays, RestoreAnswers}
use Rattle.tools_commands.specs.Telling.{Told}
use Rattle.tools_cli.specs.Answers.{Says, Answers}
use Rattle.tools_commands.proofs.Numbers.{numbered}
use Rattle.schedule_text.specs.declared.schedule.Schedule.{Schedule as Text}
use Rattle.schedule_report.specs.Schedules.{schedule_in}
use Rattle.schedule_bounds.specs.Laws.{ReadIsDumped}
use Rattle.restore_filter.specs.Laws.{NamesStay}
use Rattle.dump_steps.proofs.DumpRuns.{lines_formed}
use Rattle.whole_transactions.specs.Laws.{AtIsWhole}
use Rattle.tools_cli.specs.Headline.{RestoresDump, ListsDump, ListsWholeTransactions}
use Rattle.tools_cli.proofs.Replaying.{replays}

-- a schedule that was read and whose dump is done is one that was dumped
pub replays_dump : ReadIsDumped → NamesStay → (text : List ℕ) (s : Text) (words : List (List ℕ)) (order : RestoreOrder) (input : Turn) → RestoresDump text s words order input → ReplaysDump (schedule_in s) order.plan
replays_dump law stay text s words order input d =
    record { dumped = law text s d.read d.done; last_read = d.last_read; read = d.copied; replays = replays stay words order d.last_read d.means d.replaying d.late }

done_writes : ListsSource → (order : RestoreOrder) (i o : Turn) → RestoreSays order is.Done i o → (s : Schedule) → ReplaysDump s order.plan → i.before.bytes ≡ Some (written s) →
    Writes o (listing order.form (source_taken s order.plan)) × (i.after.bytes ≡ Some [])
done_writes law order i o h s d e =
    let made = h.1.1.0 in
    let Q : Option (List ℕ) → Type 0 = λ known. OnInput known (λ b. IsOutcome order.plan b (restores made)) in
    let has : IsOutcome order.plan (written s) (restores made) = subst Q e h.1.1.1 in
    let E : Option (List ℕ) → Type 0 = λ known. OnInput known (λ b. i.after.bytes ≡ Some []) in
    (subst (λ (t : List ℕ). Writes o t) (h.1.1.2 ∙ law s order.plan d made has order.form) h.1.2, subst E e h.0)

abbrev IsDone : Status → Type 0
IsDone is.Done = ⊤
IsDone _ = ⊥

-- a status that was told as done was done
told_done : (status final : Status) (report : Turn) → Told status final report → final ≡ is.Done → status ≡ is.Done
told_done status final report (inl h) e = sym h.0 ∙ e
told_done status final report (inr h) e = absurd (subst IsDone (sym e ∙ h.0) tt)

pub call_writes : ListsSource → ReadIsDumped → NamesStay → (words : List (List ℕ)) (code : ℕ) (i o r : Turn) → Answers (meaning_of words) code i o r → ListsDump words code i o
call_writes law dumped stay words code i o r a text s order d zero =
    let done : a.status ≡ is.Done = told_done a.status a.final (turn a.ran r.after) a.told ((numbered a.final).done (sym a.number ∙ zero)) in
    let P : Meaning → Type 0 = λ m. Says m a.status i o (turn r.before a.ran) in
    let answers : RestoreAnswers order a.status i o (turn r.before a.ran) = subst P d.means a.says in
    let R : Status → Type 0 = λ status. RestoreSays order status i o in
    done_writes law order i o (subst R done answers.says) (schedule_in s) (replays_dump dumped stay text s words order i d) d.given

-- and the state of the source that it lists has each transaction whole, or not at all
pub call_writes_whole : ListsSource → ReadIsDumped → NamesStay → AtIsWhole → (words : List (List ℕ)) (code : ℕ) (i o r : Turn) → Answers (meaning_of words) code i o r → ListsWholeTransactions words code i o
call_writes_whole law dumped stay wholes words code i o r a text s order d zero earlier ts ws later committed =
    let formed = lines_formed (schedule_in s).lines (dumped text s d.read d.done).given in
    ((call_writes law dumped stay words code i o r a text s order d zero).0, wholes (schedule_in s) formed earlier ts ws later committed order.plan.limit)
