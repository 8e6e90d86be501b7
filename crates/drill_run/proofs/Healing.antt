-- The dump of a drill is done, and its archive restores to what is listed as the source.
use Rattle.std.proofs.Common.{◌≡◌, ℕ, suc, ◌≤◌, List, [], ◌∷◌, length, refl, ap, ◌∙◌, arith, None, true, map as each}
use Rattle.std.specs.List.{AllByRecursion}
use Rattle.bson_value.specs.declared.namespace.NsName.{NsName}
use Rattle.document_lines.specs.declared.form.ListForm.TheVariants.{Hex}
use Rattle.state_model.specs.States.{State}
use Rattle.state_listing.specs.Listing.{listing}
use Rattle.restore_filter.specs.Names.{takes}
use Rattle.restore_filter.specs.Laws.{NamesStay}
use Rattle.schedule_model.specs.declared.command.Command.TheVariants as commands
use Rattle.schedule_model.specs.declared.line.Line.{Line}
use Rattle.schedule_model.specs.declared.line.Line.TheVariants as lines
use Rattle.schedule_text.specs.DrillText.{drill_text}
use Rattle.schedule_text.specs.declared.schedule.NumberedLine.{NumberedLine}
use Rattle.schedule_report.specs.Schedules.{numbered}
use Rattle.history_model.specs.Runs.{Done}
use Rattle.history_model.specs.Histories.{outcome, at, before}
use Rattle.dump_content.specs.Laws.{Dumped}
use Rattle.archive_heals.specs.Laws.{Replays}
use Rattle.schedule_bounds.specs.Laws.{ReadIsDumped}
use Rattle.archive_length.specs.Laws.{ArchivesAreShort}
use Rattle.restored_dump.specs.Laws.{ArchiveRestores}
use Rattle.restored_source.specs.Laws.{ReplaysDump, ListsWholeSource}
use Rattle.done_dumps.specs.Laws.{IsNoRenameLine, AreNoRenames, IsNoMark, AreNoMarks, Plain, PlainDumpsAreDone, DumpsStart, UnmarkedStatesAreLast}
use Rattle.drill_schedule.specs.Drills.{drill}
use Rattle.drill_schedule.specs.Laws.{IsPlainLine, DrillsAreSchedules, DrillsArePlain, DrillsHaveLines}
use Rattle.drill_run.specs.Drills.{drilled}
use Rattle.drill_run.specs.Restores.{whole_plan, DrillsHeal}

no_rename : (l : Line) → IsPlainLine l → IsNoRenameLine l
no_rename (lines.Cmd (commands.Create ns options)) p = tt
no_rename (lines.Cmd (commands.Document d)) p = tt
no_rename (lines.Cmd (commands.At s)) p = absurd p
no_rename (lines.Cmd (commands.Recording f)) p = absurd p
no_rename (lines.Cmd (commands.DropColl ns)) p = absurd p
no_rename (lines.Cmd (commands.DropDatabase db)) p = absurd p
no_rename (lines.Cmd (commands.Rename a b)) p = absurd p
no_rename (lines.Cmd (commands.CreateIndex ns def)) p = absurd p
no_rename (lines.Cmd (commands.DropIndex ns name)) p = absurd p
no_rename (lines.Cmd (commands.Txn ds)) p = absurd p
no_rename lines.Dump p = tt
no_rename (lines.Copy ns n) p = tt
no_rename lines.Mark p = absurd p
no_rename (lines.Tail n) p = absurd p

no_mark : (l : Line) → IsPlainLine l → IsNoMark l
no_mark (lines.Cmd k) p = tt
no_mark lines.Dump p = tt
no_mark (lines.Copy ns n) p = tt
no_mark lines.Mark p = absurd p
no_mark (lines.Tail n) p = absurd p

abbrev AreAllPlain : List NumberedLine → Type 0
AreAllPlain ls = AllByRecursion (λ l. IsPlainLine l.line) ls

none_renames : (ls : List NumberedLine) → AreAllPlain ls → AreNoRenames (each numbered ls)
none_renames [] p = tt
none_renames (l ∷ ls) p = (no_rename l.line p.0, none_renames ls p.1)

none_marks : (ls : List NumberedLine) → AreAllPlain ls → AreNoMarks (each numbered ls)
none_marks [] p = tt
none_marks (l ∷ ls) p = (no_mark l.line p.0, none_marks ls p.1)

as_many : (ls : List NumberedLine) → length (each numbered ls) ≡ length ls
as_many [] = refl
as_many (l ∷ ls) = ap suc (as_many ls)

cap_is : (n : ℕ) → (drill n).cap ≡ 1000000
unfolding drill
cap_is n = refl

bytes_are : (n : ℕ) → (drill n).bytes ≡ None
unfolding drill
bytes_are n = refl

takes_all : (m : NsName) → takes whole_plan.filter m ≡ true
unfolding takes
takes_all m = refl

plain : DrillsArePlain → DrillsHaveLines → (n : ℕ) → 1 ≤ n → n ≤ 100000 → Plain (drilled n)
plain are have n a b = record {
  no_rename = none_renames (drill n).lines (are n);
  any_bytes = bytes_are n;
  room = omega (arith, as_many (drill n).lines, have n a, cap_is n, b);
}

pub heals : DrillsAreSchedules → DrillsArePlain → DrillsHaveLines → PlainDumpsAreDone → DumpsStart → UnmarkedStatesAreLast → ReadIsDumped → ArchivesAreShort → NamesStay → ArchiveRestores → ListsWholeSource → DrillsHeal
heals read are have done start last dumped short stay restores lists n a b =
    let s = drilled n in
    let d : outcome s ≡ Done = done s (plain are have n a b) in
    let of_dump : Dumped s = dumped (drill_text n) (drill n) (read n a b) d in
    let told = (start s).1 in
    let replays : Replays whole_plan told.0 = record { replaying = refl; late = tt; plain = λ (m : NsName). stay whole_plan.filter m refl } in
    let replayed : ReplaysDump s whole_plan = record { dumped = of_dump; last_read = told.0; read = told.1; replays = replays } in
    let ended : at s None ≡ before s None = last s (none_marks (drill n).lines (are n)) None in
    record {
      done = d;
      restored = restores s whole_plan told.0 of_dump told.1 replays (short (drill_text n) (drill n) (read n a b) d);
      listed = λ (text : List ℕ) l. l.2 ∙ (lists s whole_plan replayed takes_all l.0 l.1 Hex ∙ ap (λ (x : State). listing Hex x) ended);
    }
