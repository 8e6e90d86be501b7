-- Documents in lines are as Extended JSON is read.
use Rattle.std.proofs.Common.{◌≡◌, ℕ, List, [], ◌∷◌, ◌++◌, sym, ap, ◌∙◌, subst, Option, Some, None, inl, inr}
use Rattle.std.specs.Prelude.{⊤, map as each, codes}
use Rattle.bson_value.specs.declared.value.Value.{Value, Value-F, Object, out-Value, roll-Value, roll-out-Value, every-Value}
use Rattle.bson_value.specs.declared.value.Value.TheVariants as values
use Rattle.bson_value.specs.WellFormed.{IsWellFormedLevel, IsWellFormed, IsWellFormedDocument}
use Rattle.bson_value.proofs.WellFormed.{IsHeldWellFormed, here_formed, held_formed}
use Rattle.extjson.specs.RoundTrip.{IsPlain}
use Rattle.coll_state.specs.Rows.{Document as Fields}
use Rattle.update_records.proofs.Changed.{field_formed, without_fields, without_names, without_distinct}
use Rattle.plain_values.specs.Laws.{JsonIsFormed, ReadIsFormed, ReadIsPlain}
use Rattle.schedule_model.specs.declared.command.DocumentCommand.{DocumentCommand}
use Rattle.schedule_model.specs.declared.command.DocumentCommand.TheVariants as documents
use Rattle.schedule_model.specs.declared.command.Command.{Command}
use Rattle.schedule_model.specs.declared.command.Command.TheVariants as commands
use Rattle.schedule_model.specs.declared.line.Line.{Line}
use Rattle.schedule_model.specs.declared.line.Line.TheVariants as lines
use Rattle.schedule_text.specs.declared.schedule.NumberedLine.{NumberedLine}
use Rattle.schedule_text.specs.declared.schedule.Schedule.{Schedule}
use Rattle.schedule_text.specs.Grammar.{IsDocument, IsIdentified, IsDocumentCommand, IsCommand, IsStep, AreSteps, ends, passed, outer, single, dumping, opens, inner, commits, aborts, IsRead, uncapped, skipped, capped}
use Rattle.schedule_report.specs.Schedules.{numbered}
use Rattle.recorded_entries.specs.Given.{IsPlainDocument, IsGivenChange, AreGivenChanges, IsGivenCommand, IsGivenLine, AreGivenLines}
use Rattle.given_lines.specs.Laws.{ReadIsGiven}

abbrev Transaction : Type 0
Transaction = Option (List DocumentCommand)

-- the commands of a transaction so far
abbrev AreGivenSo : Transaction → Type 0
AreGivenSo None = ⊤
AreGivenSo (Some ds) = AreGivenChanges ds

given_last : (ds : List DocumentCommand) (d : DocumentCommand) → AreGivenChanges ds → IsGivenChange d → AreGivenChanges (ds ++ d ∷ [])
given_last [] d h g = (g, tt)
given_last (e ∷ ds) d h g = (h.0, given_last ds d h.1 g)

step_given : (line : List ℕ) (x : Line) → IsStep line x → IsGivenLine x
step_given line (lines.Cmd c) h = absurd h
step_given line lines.Dump h = tt
step_given line (lines.Copy ns n) h = tt
step_given line lines.Mark h = tt
step_given line (lines.Tail n) h = tt

object_is : (v : Value) (d : Fields) → out-Value v ≡ Value-F.Object d → v ≡ Object d
object_is v d e = sym (roll-out-Value v) ∙ (ap roll-Value e ∙ values.rolls-Object d)

module _ (json : JsonIsFormed) (formed : ReadIsFormed) (plain : ReadIsPlain) where
  document_given : (text : List ℕ) (d : Fields) → IsDocument text d → IsWellFormedDocument d × IsPlainDocument d
  document_given text d h =
      let k = json text h.0 h.2 in
      let f = formed h.0 h.1 k h.3 in
      ((subst IsWellFormedLevel h.4 (here_formed h.1 f), subst IsHeldWellFormed h.4 (held_formed h.1 f)), subst (every-Value IsPlain) (object_is h.1 d h.4) (plain h.0 h.1 k h.3))

  identified_given : (text : List ℕ) (id : Value) (others : Fields) → IsIdentified text id others → IsWellFormed id × IsWellFormedDocument others
  identified_given text id others h =
      let w = (document_given text h.0 h.1).0 in
      let k = codes "_id" in
      (field_formed h.0 k id w.1 h.2, subst IsWellFormedDocument h.3 ((without_distinct h.0 k w.0.0, without_names h.0 k w.0.1), without_fields h.0 k w.1))

  change_given : (line : List ℕ) (d : DocumentCommand) → IsDocumentCommand line d → IsGivenChange d
  change_given line (documents.Insert ns doc) h = (document_given h.1 doc h.3).0
  change_given line (documents.Replace ns doc) h = (document_given h.1 doc h.3).0
  change_given line (documents.Update ns id ops) h = identified_given h.1 id ops h.3
  change_given line (documents.Delete ns id) h = (identified_given h.1 id [] h.3).0

  command_given : (line : List ℕ) (c : Command) → IsCommand line c → IsGivenCommand c
  command_given line (commands.At second) h = tt
  command_given line (commands.Recording form) h = tt
  command_given line (commands.Create ns options) (inl h) = subst IsWellFormedDocument (sym h.1) ((tt, tt), tt)
  command_given line (commands.Create ns options) (inr h) = (document_given h.1 options h.3).0
  command_given line (commands.DropColl ns) h = tt
  command_given line (commands.DropDatabase db) h = tt
  command_given line (commands.Rename from to) h = tt
  command_given line (commands.Document d) h = absurd h
  command_given line (commands.CreateIndex ns def) h = document_given h.1 def h.3
  command_given line (commands.DropIndex ns name) h = tt
  command_given line (commands.Txn ds) h = absurd h

  steps_given : {t : Transaction} {rest : List (ℕ × List ℕ)} {steps : List NumberedLine} → AreSteps t rest steps → AreGivenSo t → AreGivenLines (each numbered steps)
  steps_given ends g = tt
  steps_given (passed p k) g = steps_given k g
  steps_given (outer {line} {d} u h k) g = (change_given line d h, steps_given k g)
  steps_given (single {line} {c} u h k) g = (command_given line c h, steps_given k g)
  steps_given (dumping {line} {x} u h k) g = (step_given line x h, steps_given k g)
  steps_given (opens u h k) g = steps_given k tt
  steps_given (inner d {line} {before} u h k) g = steps_given k (given_last before d g (change_given line d h))
  steps_given (commits u h k) g = (g, steps_given k tt)
  steps_given (aborts u h k) g = steps_given k tt

  all_given : {rest : List (ℕ × List ℕ)} {s : Schedule} → IsRead rest s → AreGivenLines (each numbered s.lines)
  all_given (uncapped k) = steps_given k tt
  all_given (skipped p k) = all_given k
  all_given (capped u h k) = steps_given k tt

  pub read_given : ReadIsGiven
  read_given text s h = all_given h.are_read
