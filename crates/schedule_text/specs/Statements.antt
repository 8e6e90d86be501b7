-- What a line says: a table from its words.
use Rattle.std.specs.Prelude.{ℕ, List, [], ◌∷◌, Some, None, Ok, Err}
use Rattle.bson_value.specs.declared.namespace.NsName.{NsName}
use Rattle.bson_value.specs.declared.value.Value.{Value}
use Rattle.schedule_model.specs.declared.command.DocumentCommand.{DocumentCommand}
use Rattle.schedule_model.specs.declared.command.DocumentCommand.TheVariants as documents
use Rattle.schedule_model.specs.declared.command.Command.{Command}
use Rattle.schedule_model.specs.declared.command.Command.TheVariants as commands
use Rattle.schedule_model.specs.declared.line.Line.TheVariants as lines
use Rattle.schedule_text.specs.declared.fault.LineKind.TheVariants as kinds
use Rattle.schedule_text.specs.declared.verb.Verb.{Verb}
use Rattle.schedule_text.specs.declared.verb.Verb.TheVariants as verbs
use Rattle.schedule_text.specs.declared.statement.Statement.{Statement}
use Rattle.schedule_text.specs.declared.statement.Statement.TheVariants as statements
use Rattle.schedule_text.specs.Words.{form_of}
use Rattle.schedule_text.specs.Operands.{Read, ◌>>=◌, some_or, number_in, name_of, document_in, identified, alone}

abbrev pub command : Command → Read Statement
command c = Ok (statements.Line (lines.Cmd c))

abbrev pub document : DocumentCommand → Read Statement
document d = Ok (statements.Document d)

abbrev pub bare : Verb → Read Statement
bare verbs.Dump = Ok (statements.Line lines.Dump)
bare verbs.Mark = Ok (statements.Line lines.Mark)
bare verbs.Begin = Ok statements.Begin
bare verbs.Commit = Ok statements.Commit
bare verbs.Abort = Ok statements.Abort
bare _ = Err kinds.Words

abbrev pub with_one : Verb → List ℕ → Read Statement
with_one verbs.Oplog n = number_in 1 1000000 n >>= λ entries. Ok (statements.Cap entries None)
with_one verbs.Record v = some_or kinds.Words (form_of v) >>= λ form. command (commands.Recording form)
with_one verbs.At s = number_in 0 4294967295 s >>= λ second. command (commands.At second)
with_one verbs.Create a = name_of a >>= λ ns. command (commands.Create ns [])
with_one verbs.DropColl a = name_of a >>= λ ns. command (commands.DropColl ns)
with_one verbs.DropDatabase db = command (commands.DropDatabase db)
with_one verbs.Tail n = number_in 1 1000000 n >>= λ entries. Ok (statements.Line (lines.Tail entries))
with_one _ a = Err kinds.Words

abbrev pub update : NsName → Value × List (List ℕ × Value) → Read Statement
update ns (id, ops) = document (documents.Update ns id ops)

abbrev pub with_two : Verb → List ℕ → List ℕ → Read Statement
with_two verbs.Oplog n b = number_in 1 1000000 n >>= λ entries. number_in 1 1073741824 b >>= λ bytes. Ok (statements.Cap entries (Some bytes))
with_two verbs.Create a text = name_of a >>= λ ns. document_in text >>= λ options. command (commands.Create ns options)
with_two verbs.Rename a b = name_of a >>= λ from. name_of b >>= λ to. command (commands.Rename from to)
with_two verbs.Insert a text = name_of a >>= λ ns. document_in text >>= λ doc. document (documents.Insert ns doc)
with_two verbs.Replace a text = name_of a >>= λ ns. document_in text >>= λ doc. document (documents.Replace ns doc)
with_two verbs.Update a text = name_of a >>= λ ns. document_in text >>= λ doc. identified doc >>= λ x. update ns x
with_two verbs.Delete a text = name_of a >>= λ ns. document_in text >>= λ doc. identified doc >>= λ x. alone x >>= λ id. document (documents.Delete ns id)
with_two verbs.CreateIndex a text = name_of a >>= λ ns. document_in text >>= λ def. command (commands.CreateIndex ns def)
with_two verbs.DropIndex a name = name_of a >>= λ ns. command (commands.DropIndex ns name)
with_two verbs.Copy a n = number_in 1 1000000 n >>= λ count. name_of a >>= λ ns. Ok (statements.Line (lines.Copy ns count))
with_two _ a b = Err kinds.Words

-- what these words say
unfoldable pub statement_of : Verb → List (List ℕ) → Read Statement
statement_of verb [] = bare verb
statement_of verb (a ∷ []) = with_one verb a
statement_of verb (a ∷ b ∷ rest) = with_two verb a b
