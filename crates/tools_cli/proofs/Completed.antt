-- A call on the archive of a dump whose ends don't fail ends with status 0 or without memory.
use Rattle.std.proofs.Common.{◌≡◌, ℕ, List, refl, ap, ◌∙◌, subst, inl, inr}
use Rattle.std.specs.Prelude.{◌⊎◌}
use Rattle.restore_plan.specs.Outcome.{restores}
use Rattle.dump_model.specs.Archives.{written}
use Rattle.restored_dump.specs.Laws.{ArchiveRestores}
use Rattle.tools_words.specs.declared.order.RestoreOrder.{RestoreOrder}
use Rattle.tools_commands.specs.declared.status.Status.{Status}
use Rattle.tools_commands.specs.declared.status.Status.TheVariants as is
use Rattle.tools_words.specs.Words.{Meaning, meaning_of}
use Rattle.tools_commands.specs.Statuses.{code_of, IsOutside, Gives}
use Rattle.tools_commands.specs.Ends.{Turn, Failed, turn}
use Rattle.tools_commands.specs.RestoreAnswers.{RestoreSays, RestoreAnswers}
use Rattle.tools_commands.specs.Telling.{Told}
use Rattle.tools_cli.specs.Answers.{Says, Answers}
use Rattle.tools_commands.proofs.Numbers.{numbered}
use Rattle.schedule_report.specs.Schedules.{schedule_in}
use Rattle.schedule_bounds.specs.Laws.{ReadIsDumped}
use Rattle.archive_length.specs.Laws.{ArchivesAreShort}
use Rattle.restore_filter.specs.Laws.{NamesStay}
use Rattle.tools_cli.specs.Headline.{CompletesDump}
use Rattle.tools_cli.proofs.Replaying.{replays}

abbrev IsComplete : Status → Type 0
IsComplete status = (status ≡ is.Done) ⊎ (status ≡ is.NoMemory)

-- of what comes from outside, where no end fails
no_memory : (order : RestoreOrder) (status : Status) (i o : Turn) → RestoreSays order status i o → IsOutside status → (Failed i → ⊥) → (Failed o → ⊥) → status ≡ is.NoMemory
no_memory order is.NoMemory i o says from f g = refl
no_memory order is.ReadFault i o says from f g = absurd (f says.0)
no_memory order is.WriteFault i o says from f g = absurd (g says.0)
no_memory order is.Done i o says from f g = absurd from
no_memory order (is.Usage at) i o says from f g = absurd from
no_memory order (is.BadSchedule line kind) i o says from f g = absurd from
no_memory order (is.BadArchive x) i o says from f g = absurd from
no_memory order (is.NotRestored x) i o says from f g = absurd from
no_memory order (is.Rolled start oldest) i o says from f g = absurd from
no_memory order (is.Renamed ts) i o says from f g = absurd from

came_to : (order : RestoreOrder) (status : Status) (i o : Turn) → RestoreSays order status i o → Gives status 0 → (Failed i → ⊥) → (Failed o → ⊥) → IsComplete status
came_to order status i o says (inl e) f g = inl ((numbered status).done e)
came_to order status i o says (inr from) f g = inr (no_memory order status i o says from f g)

-- once that was told
told_complete : (status final : Status) (report : Turn) → Told status final report → IsComplete status → IsComplete final
told_complete status final report (inr h) c = inr h.0
told_complete status final report (inl h) (inl e) = inl (h.0 ∙ e)
told_complete status final report (inl h) (inr e) = inr (h.0 ∙ e)

with_number : (code : ℕ) (final : Status) → code ≡ code_of final → IsComplete final → (code ≡ 0) ⊎ (code ≡ 11)
with_number code final e (inl f) = inl (e ∙ ap code_of f)
with_number code final e (inr f) = inr (e ∙ ap code_of f)

pub call_completes : ArchiveRestores → ReadIsDumped → ArchivesAreShort → NamesStay → (words : List (List ℕ)) (code : ℕ) (i o r : Turn) → Answers (meaning_of words) code i o r → CompletesDump words code i o
call_completes law dumped short stay words code i o r a text s order d f g =
    let P : Meaning → Type 0 = λ m. Says m a.status i o (turn r.before a.ran) in
    let answers : RestoreAnswers order a.status i o (turn r.before a.ran) = subst P d.means a.says in
    let made = law (schedule_in s) order.plan d.last_read (dumped text s d.read d.done) d.copied (replays stay words order d.last_read d.means d.replaying d.late) (short text s d.read d.done) in
    let came = came_to order a.status i o answers.says (answers.due (written (schedule_in s)) (restores made.0) d.given made.1) f g in
    with_number code a.final a.number (told_complete a.status a.final (turn a.ran r.after) a.told came)
