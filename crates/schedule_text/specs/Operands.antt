-- What operands mean: numbers, names and documents.
use Rattle.std.specs.Prelude.{ℕ, ◌&&◌, List, [], ◌∷◌, length, nat_lt, nat_le, Option, Some, None, Result, Ok, Err, codes, if◌then◌else◌}
use Rattle.std.specs.List.{before_first, after_first, position_or_len}
use Rattle.std.specs.Prelude.{◌==◌, ◌≡◌, Bool}
use Rattle.containers.specs.Entries.{lookup, without}
use Rattle.bson_value.specs.Digits.{index_of}
use Rattle.bson_value.specs.declared.namespace.NsName.{NsName}
use Rattle.bson_value.specs.declared.value.Value.{Value, Value-F, out-Value}
use Rattle.json_tree.specs.declared.tree.Tree.{Tree}
use Rattle.json_text.specs.Reading.{tree_of_text}
use Rattle.extjson.specs.Values.{value_of}
use Rattle.schedule_text.specs.declared.fault.LineKind.{LineKind}
use Rattle.schedule_text.specs.declared.fault.LineKind.TheVariants as kinds
use Rattle.schedule_text.specs.declared.fault.StatementFault.{StatementFault}
use Rattle.schedule_text.specs.declared.fault.StatementFault.TheVariants as faults
use Rattle.schedule_text.specs.declared.words.Operands.{Operands}
use Rattle.schedule_text.specs.declared.words.Operands.TheVariants as operands
use Rattle.schedule_text.specs.Words.{is_empty}

abbrev pub Doc : Type 0
Doc = List (List ℕ × Value)

-- what was read, or what is wrong with the line
abbrev pub Read : Type 0 → Type 0
Read A = Result A LineKind

infixl 10 ◌>>=◌
abbrev pub ◌>>=◌ : {A B : Type 0} → Read A → (A → Read B) → Read B
(Ok x) >>= f = f x
(Err e) >>= f = Err e

abbrev pub or_kind : {A E : Type 0} → LineKind → Result A E → Read A
or_kind kind (Ok x) = Ok x
or_kind kind (Err e) = Err kind

abbrev pub some_or : {A : Type 0} → LineKind → Option A → Read A
some_or kind None = Err kind
some_or kind (Some x) = Ok x

-- What a function returned, seen by view, is what is read, unless memory ran out.
abbrev pub Fails : {Y : Type 0} → StatementFault → Read Y → Type 0
Fails faults.NoMemory read = Unit {0}
Fails (faults.Bad kind) read = read ≡ Err kind

abbrev pub Gives : {X Y : Type 0} → (X → Y) → Result X StatementFault → Read Y → Type 0
Gives view (Ok x) read = read ≡ Ok (view x)
Gives view (Err e) read = Fails e read

-- the operands, as a list
abbrev pub listed : Operands → List (List ℕ)
listed operands.None = []
listed (operands.One a) = a.now ∷ []
listed (operands.Two a b) = a.now ∷ b.now ∷ []

-- ---- numbers: digits without a sign or a leading zero, within these bounds

abbrev pub bounded : ℕ → ℕ → Option ℕ → Option ℕ
bounded low high None = None
bounded low high (Some n) = if nat_le low n && nat_le n high then Some n else None

unfoldable pub number_in : ℕ → ℕ → List ℕ → Read ℕ
number_in low high text = some_or kinds.Number (bounded low high (index_of text))

-- ---- names

abbrev pub is_dot : ℕ → Bool
is_dot b = b == 46

abbrev pub named : List ℕ → List ℕ → Read NsName
named db coll = if is_empty db then Err kinds.Name else (if is_empty coll then Err kinds.Name else Ok (record { db = db; coll = coll }))

-- the database before the first dot, and the collection behind it
unfoldable pub name_of : List ℕ → Read NsName
name_of text =
    if nat_lt (position_or_len is_dot text) (length text) then named (before_first is_dot text) (after_first is_dot text)
    else Err kinds.Name

-- ---- documents

abbrev pub document_at : Value-F Value → Read Doc
document_at (Value-F.Object fields) = Ok fields
document_at _ = Err kinds.Shape

unfoldable pub tree_in : List ℕ → Read Tree
tree_in text = or_kind kinds.Json (tree_of_text text)

unfoldable pub value_in : Tree → Read Value
value_in tree = or_kind kinds.Extended (value_of tree)

unfoldable pub document_of : Value → Read Doc
document_of value = document_at (out-Value value)

-- the document that a JSON text is
unfoldable pub document_in : List ℕ → Read Doc
document_in text = tree_in text >>= λ tree. value_in tree >>= λ value. document_of value

-- the `_id` of a document, and its other fields
unfoldable pub identified : Doc → Read (Value × Doc)
identified doc = some_or kinds.Shape (lookup (codes "_id") doc) >>= λ id. Ok (id, without (codes "_id") doc)

abbrev pub alone : Value × Doc → Read Value
alone (id, []) = Ok id
alone (id, field ∷ fields) = Err kinds.Shape
