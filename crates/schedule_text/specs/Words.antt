-- The words of a line: the one that says what is done, and those behind it.
use Rattle.std.specs.Prelude.{ℕ, ◌==◌, ◌&&◌, Bool, true, false, not, List, [], ◌∷◌, length, Option, Some, None, is_some, nat_lt, nat_le, codes, Result, Ok, Err, if◌then◌else◌}
use Rattle.std.specs.List.{list_all, before_first, after_first, position_or_len}
use Rattle.containers.specs.Entries.{lookup}
use Rattle.doc_path.specs.declared.parts.Form.{Form}
use Rattle.doc_path.specs.declared.parts.Form.TheVariants as forms
use Rattle.schedule_text.specs.declared.fault.LineKind.{LineKind}
use Rattle.schedule_text.specs.declared.fault.LineKind.TheVariants as kinds
use Rattle.schedule_text.specs.declared.verb.Verb.{Verb}
use Rattle.schedule_text.specs.declared.verb.Verb.TheVariants as verbs
use Rattle.schedule_text.specs.declared.verb.Context.{Context}
use Rattle.schedule_text.specs.declared.verb.Context.TheVariants as contexts

unfoldable pub verb_names : List (List ℕ × Verb)
verb_names =
    (codes "oplog", verbs.Oplog)
    ∷ (codes "record", verbs.Record)
    ∷ (codes "at", verbs.At)
    ∷ (codes "create", verbs.Create)
    ∷ (codes "drop", verbs.DropColl)
    ∷ (codes "dropDatabase", verbs.DropDatabase)
    ∷ (codes "rename", verbs.Rename)
    ∷ (codes "insert", verbs.Insert)
    ∷ (codes "replace", verbs.Replace)
    ∷ (codes "update", verbs.Update)
    ∷ (codes "delete", verbs.Delete)
    ∷ (codes "createIndex", verbs.CreateIndex)
    ∷ (codes "dropIndex", verbs.DropIndex)
    ∷ (codes "dump", verbs.Dump)
    ∷ (codes "copy", verbs.Copy)
    ∷ (codes "mark", verbs.Mark)
    ∷ (codes "tail", verbs.Tail)
    ∷ (codes "begin", verbs.Begin)
    ∷ (codes "commit", verbs.Commit)
    ∷ (codes "abort", verbs.Abort)
    ∷ []

unfoldable pub verb_of : List ℕ → Option Verb
verb_of word = lookup word verb_names

unfoldable pub form_of : List ℕ → Option Form
form_of word = lookup word ((codes "v1", forms.V1) ∷ (codes "v2", forms.V2) ∷ [])

-- ---- words are parted by one space

abbrev pub is_space : ℕ → Bool
is_space b = b == 32

-- what stands before the first space, and behind it where there is one
abbrev pub cut : List ℕ → List ℕ × Option (List ℕ)
cut text =
    if nat_lt (position_or_len is_space text) (length text) then (before_first is_space text, Some (after_first is_space text))
    else (text, None)

abbrev pub cut_operand : List ℕ × Option (List ℕ) → List (List ℕ)
cut_operand (a, None) = a ∷ []
cut_operand (a, Some b) = a ∷ b ∷ []

-- The operands, which stand behind the first space. What stands behind the second space is one of them, as a JSON text may hold spaces.
abbrev pub operands_of : Option (List ℕ) → List (List ℕ)
operands_of None = []
operands_of (Some rest) = cut_operand (cut rest)

abbrev pub is_empty : List ℕ → Bool
is_empty text = length text == 0

-- without this byte
abbrev pub lacks : ℕ → List ℕ → Bool
lacks c text = list_all (λ b. not (b == c)) text

abbrev pub is_word : List ℕ → Bool
is_word text = not (is_empty text) && lacks 32 text

-- ---- which operands a line has

abbrev pub least : Verb → ℕ
least verbs.Dump = 0
least verbs.Mark = 0
least verbs.Begin = 0
least verbs.Commit = 0
least verbs.Abort = 0
least verbs.Oplog = 1
least verbs.Record = 1
least verbs.At = 1
least verbs.Create = 1
least verbs.DropColl = 1
least verbs.DropDatabase = 1
least verbs.Tail = 1
least _ = 2

abbrev pub most : Verb → ℕ
most verbs.Oplog = 2
most verbs.Create = 2
most verb = least verb

-- the second operand is a JSON text
abbrev pub has_text : Verb → Bool
has_text verbs.Create = true
has_text verbs.Insert = true
has_text verbs.Replace = true
has_text verbs.Update = true
has_text verbs.Delete = true
has_text verbs.CreateIndex = true
has_text _ = false

abbrev pub is_second : Verb → List ℕ → Bool
is_second verb text = if has_text verb then not (is_empty text) else is_word text

abbrev pub is_first : Verb → List ℕ → Bool
is_first verbs.Record word = is_some (form_of word)
is_first _ word = is_word word

-- a line of this verb has these operands
unfoldable pub takes : Verb → List (List ℕ) → Bool
takes verb [] = least verb == 0
takes verb (a ∷ []) = nat_le (least verb) 1 && nat_le 1 (most verb) && is_first verb a
takes verb (a ∷ b ∷ []) = most verb == 2 && is_word a && is_second verb b
takes verb (a ∷ b ∷ c ∷ rest) = false

-- ---- where a line may stand

abbrev pub is_at_start : Context → Bool
is_at_start contexts.Start = true
is_at_start _ = false

abbrev pub is_inside : Context → Bool
is_inside contexts.Inside = true
is_inside _ = false

-- in a transaction, its commands, steps of the dump and its end; `oplog` in the first line; all else outside of transactions
abbrev pub may_stand : Verb → Context → Bool
may_stand verbs.Oplog context = is_at_start context
may_stand verbs.Insert context = true
may_stand verbs.Replace context = true
may_stand verbs.Update context = true
may_stand verbs.Delete context = true
may_stand verbs.Dump context = true
may_stand verbs.Copy context = true
may_stand verbs.Mark context = true
may_stand verbs.Tail context = true
may_stand verbs.Commit context = is_inside context
may_stand verbs.Abort context = is_inside context
may_stand _ context = not (is_inside context)

-- ---- the verb and the operands of a line that stands there, or its first fault

abbrev pub Words : Type 0
Words = Verb × List (List ℕ)

abbrev pub placed : Context → Verb → List (List ℕ) → Result Words LineKind
placed context verb operands =
    if takes verb operands then (if may_stand verb context then Ok (verb, operands) else Err kinds.Place)
    else Err kinds.Words

abbrev pub known : Context → Option Verb → List (List ℕ) → Result Words LineKind
known context None operands = Err kinds.Command
known context (Some verb) operands = placed context verb operands

unfoldable pub words_of : Context → List ℕ → Result Words LineKind
words_of context line = known context (verb_of (cut line).0) (operands_of (cut line).1)
