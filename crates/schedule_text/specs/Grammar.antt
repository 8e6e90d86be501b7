-- The grammar of schedules: which texts are a schedule, and which one.
use Rattle.std.specs.Prelude.{◌≡◌, ◌≢◌, ◌⊎◌, ℕ, ◌+◌, ◌≤◌, true, false, List, [], ◌∷◌, ◌++◌, length, Option, Some, None, Ok, codes}
use Rattle.std.specs.Str.{is_utf8}
use Rattle.containers.specs.Entries.{lookup, without}
use Rattle.doc_path.specs.declared.parts.Form.TheVariants as forms
use Rattle.bson_value.specs.Digits.{digits}
use Rattle.bson_value.specs.Namespace.{IsSplit}
use Rattle.bson_value.specs.declared.namespace.NsName.{NsName}
use Rattle.bson_value.specs.declared.value.Value.{Value, Value-F, out-Value}
use Rattle.json_tree.specs.declared.tree.Tree.{Tree}
use Rattle.json_text.specs.Grammar.{Json}
use Rattle.extjson.specs.Values.{value_of}
use Rattle.schedule_model.specs.declared.command.DocumentCommand.{DocumentCommand}
use Rattle.schedule_model.specs.declared.command.DocumentCommand.TheVariants as documents
use Rattle.schedule_model.specs.declared.command.Command.{Command}
use Rattle.schedule_model.specs.declared.command.Command.TheVariants as commands
use Rattle.schedule_model.specs.declared.line.Line.{Line}
use Rattle.schedule_model.specs.declared.line.Line.TheVariants as lines
use Rattle.schedule_text.specs.declared.schedule.NumberedLine.{NumberedLine}
use Rattle.schedule_text.specs.declared.schedule.Schedule.{Schedule}
use Rattle.schedule_text.specs.Lines.{ends_with}
use Rattle.schedule_text.specs.Words.{lacks}
use Rattle.schedule_text.specs.Operands.{Doc}

-- ---- what the words of a line mean

-- not empty, and without a space
abbrev pub IsWord : List ℕ → Type 0
IsWord text = (text ≢ []) × (lacks 32 text ≡ true)

-- the digits of a number within these bounds
abbrev pub IsNumber : ℕ → ℕ → List ℕ → ℕ → Type 0
IsNumber low high text n = (text ≡ digits n) × (low ≤ n) × (n ≤ high)

-- a database, a dot and a collection, without a space
abbrev pub IsName : List ℕ → NsName → Type 0
IsName text ns = IsWord text × IsSplit text ns.db ns.coll

-- the JSON text of a document
abbrev pub IsDocument : List ℕ → Doc → Type 0
IsDocument text doc = (tree : Tree) × (value : Value) × Json text tree × (value_of tree ≡ Ok value) × (out-Value value ≡ Value-F.Object doc)

-- the JSON text of a document with this `_id` and these other fields
abbrev pub IsIdentified : List ℕ → Value → Doc → Type 0
IsIdentified text id others = (doc : Doc) × IsDocument text doc × (lookup (codes "_id") doc ≡ Some id) × (without (codes "_id") doc ≡ others)

-- ---- lines

abbrev pub one : List ℕ → List ℕ → List ℕ
one verb a = verb ++ 32 ∷ a

abbrev pub two : List ℕ → List ℕ → List ℕ → List ℕ
two verb a b = verb ++ 32 ∷ (a ++ 32 ∷ b)

-- a line with a namespace
abbrev pub OfName : List ℕ → List ℕ → NsName → Type 0
OfName line verb ns = (a : List ℕ) × IsName a ns × (line ≡ one verb a)

-- a line with a number
abbrev pub OfNumber : List ℕ → List ℕ → ℕ → ℕ → ℕ → Type 0
OfNumber line verb low high n = (a : List ℕ) × IsNumber low high a n × (line ≡ one verb a)

-- a line with a namespace and a document
abbrev pub OfDocument : List ℕ → List ℕ → NsName → Doc → Type 0
OfDocument line verb ns doc = (a text : List ℕ) × IsName a ns × IsDocument text doc × (line ≡ two verb a text)

-- a line with a namespace and a document with this `_id`
abbrev pub OfIdentified : List ℕ → List ℕ → NsName → Value → Doc → Type 0
OfIdentified line verb ns id others = (a text : List ℕ) × IsName a ns × IsIdentified text id others × (line ≡ two verb a text)

-- the line is this command on a document
abbrev pub IsDocumentCommand : List ℕ → DocumentCommand → Type 0
IsDocumentCommand line (documents.Insert ns doc) = OfDocument line (codes "insert") ns doc
IsDocumentCommand line (documents.Replace ns doc) = OfDocument line (codes "replace") ns doc
IsDocumentCommand line (documents.Update ns id ops) = OfIdentified line (codes "update") ns id ops
IsDocumentCommand line (documents.Delete ns id) = OfIdentified line (codes "delete") ns id []

-- the line is this command
abbrev pub IsCommand : List ℕ → Command → Type 0
IsCommand line (commands.At second) = OfNumber line (codes "at") 0 4294967295 second
IsCommand line (commands.Recording forms.V1) = line ≡ codes "record v1"
IsCommand line (commands.Recording forms.V2) = line ≡ codes "record v2"
IsCommand line (commands.Create ns options) = (OfName line (codes "create") ns × (options ≡ [])) ⊎ OfDocument line (codes "create") ns options
IsCommand line (commands.DropColl ns) = OfName line (codes "drop") ns
IsCommand line (commands.DropDatabase db) = IsWord db × (line ≡ one (codes "dropDatabase") db)
IsCommand line (commands.Rename from to) = (a b : List ℕ) × IsName a from × IsName b to × (line ≡ two (codes "rename") a b)
IsCommand line (commands.Document command) = ⊥
IsCommand line (commands.CreateIndex ns def) = OfDocument line (codes "createIndex") ns def
IsCommand line (commands.DropIndex ns name) = (a : List ℕ) × IsName a ns × IsWord name × (line ≡ two (codes "dropIndex") a name)
IsCommand line (commands.Txn commands) = ⊥

-- the line is this step of the dump
abbrev pub IsStep : List ℕ → Line → Type 0
IsStep line (lines.Cmd command) = ⊥
IsStep line lines.Dump = line ≡ codes "dump"
IsStep line (lines.Copy ns n) = (a b : List ℕ) × IsName a ns × IsNumber 1 1000000 b n × (line ≡ two (codes "copy") a b)
IsStep line lines.Mark = line ≡ codes "mark"
IsStep line (lines.Tail n) = OfNumber line (codes "tail") 1 1000000 n

-- the line is this cap
abbrev pub IsCap : List ℕ → ℕ → Option ℕ → Type 0
IsCap line entries None = OfNumber line (codes "oplog") 1 1000000 entries
IsCap line entries (Some bytes) = (a b : List ℕ) × IsNumber 1 1000000 a entries × IsNumber 1 1073741824 b bytes × (line ≡ two (codes "oplog") a b)

-- empty lines and comments
abbrev pub IsPassed : List ℕ → Type 0
IsPassed [] = Unit {0}
IsPassed (b ∷ bytes) = b ≡ 35

-- ---- the lines of a text

-- Each is ended by a line feed, before which a carriage return may stand. The last one may have no end, and isn't empty then.
pub data AreLines : List ℕ → List (List ℕ) → Type 0 where
  no_lines : AreLines [] []
  last_line : {line : List ℕ} → line ≢ [] → lacks 10 line ≡ true → AreLines line (line ∷ [])
  ended : {line text : List ℕ} {lines : List (List ℕ)} → lacks 10 line ≡ true → ends_with 13 line ≡ false → AreLines text lines → AreLines (line ++ 10 ∷ text) (line ∷ lines)
  returned : {line text : List ℕ} {lines : List (List ℕ)} → lacks 10 line ≡ true → AreLines text lines → AreLines (line ++ 13 ∷ 10 ∷ text) (line ∷ lines)

-- ---- the lines of a schedule

-- from this number on
abbrev pub numbered : ℕ → List (List ℕ) → List (ℕ × List ℕ)
numbered n [] = []
numbered n (line ∷ lines) = (n, line) ∷ numbered (n + 1) lines

abbrev pub at : ℕ → Line → NumberedLine
at n line = record { number = n; line = line }

-- What these lines of a text are in a schedule, outside of transactions, or behind the `begin` and these commands of one.
-- A transaction is a line where its `commit` stands; what isn't committed is none.
pub data AreSteps : Option (List DocumentCommand) → List (ℕ × List ℕ) → List NumberedLine → Type 0 where
  ends : {t : Option (List DocumentCommand)} → AreSteps t [] []
  passed : {t : Option (List DocumentCommand)} {n : ℕ} {line : List ℕ} {rest : List (ℕ × List ℕ)} {steps : List NumberedLine} → IsPassed line → AreSteps t rest steps → AreSteps t ((n, line) ∷ rest) steps
  outer : {n : ℕ} {line : List ℕ} {d : DocumentCommand} {rest : List (ℕ × List ℕ)} {steps : List NumberedLine} → is_utf8 line ≡ true → IsDocumentCommand line d → AreSteps None rest steps
      → AreSteps None ((n, line) ∷ rest) (at n (lines.Cmd (commands.Document d)) ∷ steps)
  single : {n : ℕ} {line : List ℕ} {c : Command} {rest : List (ℕ × List ℕ)} {steps : List NumberedLine} → is_utf8 line ≡ true → IsCommand line c → AreSteps None rest steps
      → AreSteps None ((n, line) ∷ rest) (at n (lines.Cmd c) ∷ steps)
  dumping : {t : Option (List DocumentCommand)} {n : ℕ} {line : List ℕ} {x : Line} {rest : List (ℕ × List ℕ)} {steps : List NumberedLine} → is_utf8 line ≡ true → IsStep line x → AreSteps t rest steps
      → AreSteps t ((n, line) ∷ rest) (at n x ∷ steps)
  opens : {n : ℕ} {line : List ℕ} {rest : List (ℕ × List ℕ)} {steps : List NumberedLine} → is_utf8 line ≡ true → line ≡ codes "begin" → AreSteps (Some []) rest steps
      → AreSteps None ((n, line) ∷ rest) steps
  inner : (d : DocumentCommand) {n : ℕ} {line : List ℕ} {before : List DocumentCommand} {rest : List (ℕ × List ℕ)} {steps : List NumberedLine} → is_utf8 line ≡ true → IsDocumentCommand line d → AreSteps (Some (before ++ d ∷ [])) rest steps
      → AreSteps (Some before) ((n, line) ∷ rest) steps
  commits : {n : ℕ} {line : List ℕ} {before : List DocumentCommand} {rest : List (ℕ × List ℕ)} {steps : List NumberedLine} → is_utf8 line ≡ true → line ≡ codes "commit" → AreSteps None rest steps
      → AreSteps (Some before) ((n, line) ∷ rest) (at n (lines.Cmd (commands.Txn before)) ∷ steps)
  aborts : {n : ℕ} {line : List ℕ} {before : List DocumentCommand} {rest : List (ℕ × List ℕ)} {steps : List NumberedLine} → is_utf8 line ≡ true → line ≡ codes "abort" → AreSteps None rest steps
      → AreSteps (Some before) ((n, line) ∷ rest) steps

-- The cap stands in the first line that isn't passed over. It is 1,000 entries where none stands there.
pub data IsRead : List (ℕ × List ℕ) → Schedule → Type 0 where
  uncapped : {rest : List (ℕ × List ℕ)} {steps : List NumberedLine} → AreSteps None rest steps → IsRead rest (record { cap = 1000; bytes = None; lines = steps })
  skipped : {n : ℕ} {line : List ℕ} {rest : List (ℕ × List ℕ)} {s : Schedule} → IsPassed line → IsRead rest s → IsRead ((n, line) ∷ rest) s
  capped : {n : ℕ} {line : List ℕ} {entries : ℕ} {bytes : Option ℕ} {rest : List (ℕ × List ℕ)} {steps : List NumberedLine} → is_utf8 line ≡ true → IsCap line entries bytes → AreSteps None rest steps
      → IsRead ((n, line) ∷ rest) (record { cap = entries; bytes = bytes; lines = steps })

-- a text of at most 67,108,864 bytes and 1,048,576 lines
pub record IsSchedule (text : List ℕ) (s : Schedule) : Type 0 where
  pub lines : List (List ℕ)
  pub are_lines : AreLines text lines
  pub are_read : IsRead (numbered 1 lines) s
  pub few_bytes : length text ≤ 67108864
  pub few_lines : length lines ≤ 1048576
