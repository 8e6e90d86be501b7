-- What the lines of a schedule hold, as the types have it and as Extended JSON is read: values, options and definitions are well-formed, and no document in a definition has an outermost name of a wrapper.
use Rattle.std.specs.Prelude.{⊤, ℕ, List, [], ◌∷◌}
use Rattle.bson_value.specs.declared.value.Value.{Object, every-Value}
use Rattle.bson_value.specs.WellFormed.{IsWellFormed, IsWellFormedDocument}
use Rattle.extjson.specs.RoundTrip.{IsPlain}
use Rattle.coll_state.specs.Rows.{Document as Fields}
use Rattle.schedule_model.specs.declared.command.DocumentCommand.{DocumentCommand}
use Rattle.schedule_model.specs.declared.command.DocumentCommand.TheVariants.{Insert, Replace, Update, Delete}
use Rattle.schedule_model.specs.declared.command.Command.{Command}
use Rattle.schedule_model.specs.declared.command.Command.TheVariants.{Create, Document, CreateIndex, Txn}
use Rattle.schedule_model.specs.declared.line.Line.{Line}
use Rattle.schedule_model.specs.declared.line.Line.TheVariants.{Cmd}

abbrev pub IsPlainDocument : Fields → Type 0
IsPlainDocument d = every-Value IsPlain (Object d)

abbrev pub IsGivenChange : DocumentCommand → Type 0
IsGivenChange (Insert n d) = IsWellFormedDocument d
IsGivenChange (Replace n d) = IsWellFormedDocument d
IsGivenChange (Update n id ops) = IsWellFormed id × IsWellFormedDocument ops
IsGivenChange (Delete n id) = IsWellFormed id

abbrev pub AreGivenChanges : List DocumentCommand → Type 0
AreGivenChanges [] = ⊤
AreGivenChanges (d ∷ ds) = IsGivenChange d × AreGivenChanges ds

abbrev pub IsGivenCommand : Command → Type 0
IsGivenCommand (Create n o) = IsWellFormedDocument o
IsGivenCommand (Document d) = IsGivenChange d
IsGivenCommand (CreateIndex n d) = IsWellFormedDocument d × IsPlainDocument d
IsGivenCommand (Txn ds) = AreGivenChanges ds
IsGivenCommand _ = ⊤

abbrev pub IsGivenLine : Line → Type 0
IsGivenLine (Cmd k) = IsGivenCommand k
IsGivenLine _ = ⊤

abbrev pub AreGivenLines : List (ℕ × Line) → Type 0
AreGivenLines [] = ⊤
AreGivenLines (l ∷ ls) = IsGivenLine l.1 × AreGivenLines ls
