-- The drill of a number as a schedule: four collections, and a line for each place, as the draws say.
use Rattle.std.specs.Prelude.{ℕ, zero, suc, pos, ◌+◌, ◌/◌, ◌==◌, nat_lt, List, [], ◌∷◌, ◌++◌, None, codes, replicate, if◌then◌else◌}
use Rattle.std.specs.Fmt.{decimal}
use Rattle.bson_value.specs.declared.namespace.NsName.{NsName}
use Rattle.bson_value.specs.declared.value.Value.{Value}
use Rattle.bson_value.specs.declared.value.Value.TheVariants as values
use Rattle.schedule_model.specs.declared.command.DocumentCommand.{DocumentCommand}
use Rattle.schedule_model.specs.declared.command.DocumentCommand.TheVariants as documents
use Rattle.schedule_model.specs.declared.command.Command.TheVariants as commands
use Rattle.schedule_model.specs.declared.line.Line.{Line}
use Rattle.schedule_model.specs.declared.line.Line.TheVariants as lines
use Rattle.schedule_text.specs.declared.schedule.NumberedLine.{NumberedLine}
use Rattle.schedule_text.specs.declared.schedule.Schedule.{Schedule}
use Rattle.schedule_text.specs.DrillText.{next, drawn}
use Rattle.schedule_text.specs.Grammar.{at}
use Rattle.schedule_text.specs.Operands.{Doc}

-- the collection d.c0, d.c1 and so on
abbrev pub collection : ℕ → NsName
collection j = record { db = codes "d"; coll = codes "c" ++ decimal j }

abbrev pub int : ℕ → Value
int n = values.Int (pos n)

-- the document {name: value}
abbrev pub alone : List ℕ → Value → Doc
alone name value = (name, value) ∷ []

abbrev pub change : DocumentCommand → Line
change command = lines.Cmd (commands.Document command)

-- {_id: k, a: [..], b: {x: n}}, and further fields
abbrev pub stored : ℕ → List Value → ℕ → Doc → Doc
stored k items n more = (codes "_id", int k) ∷ (codes "a", values.Array items) ∷ (codes "b", values.Object (alone (codes "x") (int n))) ∷ more

abbrev pub insert : ℕ → ℕ → ℕ → Line
insert j k i = change (documents.Insert (collection j) (stored k (int i ∷ []) i (alone (codes "p") (values.Str (replicate 100 120)))))

-- an operator on one field
abbrev pub update : ℕ → ℕ → List ℕ → List ℕ → ℕ → Line
update j k operator field n = change (documents.Update (collection j) (int k) (alone operator (values.Object (alone field (int n)))))

abbrev pub replace : ℕ → ℕ → Line
replace j k = change (documents.Replace (collection j) (stored k [] 0 []))

abbrev pub delete : ℕ → ℕ → Line
delete j k = change (documents.Delete (collection j) (int k))

abbrev pub copy : ℕ → Line
copy j = lines.Copy (collection j) 7

-- the line that a draw below 10 gives, with the collection j and the document k, at the place i
abbrev pub line_of : ℕ → ℕ → ℕ → ℕ → Line
line_of t j k i =
    if nat_lt t 4 then insert j k i
    else (if t == 4 then update j k (codes "$set") (codes "b.x") i
    else (if t == 5 then update j k (codes "$push") (codes "a") i
    else (if t == 6 then update j k (codes "$pop") (codes "a") 1
    else (if t == 7 then replace j k
    else (if t == 8 then delete j k
    else copy j)))))

-- the dump starts before the line of the place n / 2 + 1
abbrev pub starts : ℕ → ℕ → List Line
starts n i = if i == n / 2 + 1 then lines.Dump ∷ [] else []

-- the line of a place, where the generator is at a, b and c after its draws
abbrev pub drawn_line : ℕ → ℕ → ℕ → ℕ → ℕ → Line
drawn_line n i a b c = line_of (drawn 10 a) (drawn 4 b) (drawn n c) i

-- the lines of so many places, from the place i on, where the generator is at g
unfoldable pub places : ℕ → ℕ → ℕ → ℕ → List Line
places n zero i g = []
places n (suc left) i g = starts n i ++ drawn_line n i (next g) (next (next g)) (next (next (next g))) ∷ places n left (i + 1) (next (next (next g)))

abbrev pub create : ℕ → Line
create j = lines.Cmd (commands.Create (collection j) [])

abbrev pub creates : List Line
creates = create 0 ∷ create 1 ∷ create 2 ∷ create 3 ∷ []

-- numbered from this number on
abbrev pub numbered_from : ℕ → List Line → List NumberedLine
numbered_from number [] = []
numbered_from number (line ∷ rest) = at number line ∷ numbered_from (number + 1) rest

-- the drill of n: its first line says the cap, and the others are numbered on
unfoldable pub drill : ℕ → Schedule
drill n = record { cap = 1000000; bytes = None; lines = numbered_from 2 (creates ++ places n n 1 n) }
