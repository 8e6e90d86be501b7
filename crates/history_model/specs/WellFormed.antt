-- Well-formed documents, as the types of Rust hold them: those of rows, of commands and of lines.
use Rattle.std.specs.Prelude.{⊤, ℕ, ◌≡◌, List, [], ◌∷◌, Some}
use Rattle.std.specs.FinMap as map
use Rattle.bson_value.specs.declared.namespace.NsName.{NsName}
use Rattle.bson_value.specs.WellFormed.{IsWellFormedDocument}
use Rattle.schedule_model.specs.declared.command.DocumentCommand.{DocumentCommand}
use Rattle.schedule_model.specs.declared.command.DocumentCommand.TheVariants.{Insert, Replace, Update, Delete}
use Rattle.schedule_model.specs.declared.command.Command.{Command}
use Rattle.schedule_model.specs.declared.command.Command.TheVariants.{Document, Txn}
use Rattle.schedule_model.specs.declared.line.Line.{Line}
use Rattle.schedule_model.specs.declared.line.Line.TheVariants.{Cmd}
use Rattle.coll_state.specs.Rows.{Row, Table, Rows}

-- the documents that stand
abbrev pub HasWellFormed : List Row → Type 0
HasWellFormed [] = ⊤
HasWellFormed (w ∷ ws) = IsWellFormedDocument w.document × HasWellFormed ws

abbrev pub IsWellFormedTable : Table → Type 0
IsWellFormedTable t = HasWellFormed t.rows

abbrev pub AreWellFormed : Rows → Type 0
AreWellFormed r = (n : NsName) (t : Table) → map.get r.tables n ≡ Some t → IsWellFormedTable t

-- the documents of commands, and of operators
abbrev pub IsWellFormedChange : DocumentCommand → Type 0
IsWellFormedChange (Insert n d) = IsWellFormedDocument d
IsWellFormedChange (Replace n d) = IsWellFormedDocument d
IsWellFormedChange (Update n id ops) = IsWellFormedDocument ops
IsWellFormedChange (Delete n id) = ⊤

abbrev pub AreWellFormedChanges : List DocumentCommand → Type 0
AreWellFormedChanges [] = ⊤
AreWellFormedChanges (d ∷ ds) = IsWellFormedChange d × AreWellFormedChanges ds

abbrev pub IsWellFormedCommand : Command → Type 0
IsWellFormedCommand (Document d) = IsWellFormedChange d
IsWellFormedCommand (Txn ds) = AreWellFormedChanges ds
IsWellFormedCommand _ = ⊤

abbrev pub IsWellFormedLine : Line → Type 0
IsWellFormedLine (Cmd k) = IsWellFormedCommand k
IsWellFormedLine _ = ⊤

abbrev pub AreWellFormedLines : List (ℕ × Line) → Type 0
AreWellFormedLines [] = ⊤
AreWellFormedLines (l ∷ ls) = IsWellFormedLine l.1 × AreWellFormedLines ls
