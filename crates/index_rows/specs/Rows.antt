-- What rows write, and what they show of definitions, keys, collections and a kept index.
use Rattle.std.specs.Prelude.{◌≡◌, ◌⊎◌, ◌++◌, ◌==◌, ◌^◌, ◌-◌, ℕ, List, [], ◌∷◌, Bool, Option, None, Some, Result, Ok, Err, bytes_eq, codes, if◌then◌else◌, length, map as each, min}
use Rattle.std.specs.Fmt.{decimal}
use Rattle.std.specs.FinMap as map
use Rattle.std.specs.List.{slice_split}
use Rattle.std.specs.Str.Pattern.{FindsText, SplitsAroundMatch}
use Rattle.json_tree.specs.declared.tree.Tree.{Tree}
use Rattle.json_text.specs.Print.{text_of}
use Rattle.json_text.specs.Reading.{tree_of_text}
use Rattle.row_script.specs.Jsons.{value_text}
use Rattle.bson_value.specs.declared.namespace.NsName.{NsName}
use Rattle.bson_value.specs.declared.value.Value.{Value}
use Rattle.bson_encode.specs.Key.{key_of}
use Rattle.doc_path.specs.Paths.{parts_of}
use Rattle.coll_state.specs.Rows.{Document, Rows, state_of}
use Rattle.index_keys.specs.Branches.{Path}
use Rattle.index_keys.specs.Definition.{is_one_of, normal}
use Rattle.index_keys.specs.Faults.{dotted}
use Rattle.index_keys.specs.Keys.{parallel}
use Rattle.index_keys.specs.Texts.{key_texts}
use Rattle.index_keys.specs.declared.plan.Plan.{Plan}
use Rattle.index_build.specs.Faults.{fault}
use Rattle.index_build.specs.Numbers.{counts, number_at}
use Rattle.index_build.specs.Owned.{Holding, Owned, Refusal, Parallel, Shared, pairs_in, put_document, refusal, IsIndexFault}
use Rattle.index_build.specs.declared.fault.CountFault.{CountFault}
use Rattle.index_build.specs.declared.fault.CountFault.TheVariants as count_faults
use Rattle.index_build.specs.declared.index_fault.IndexFault.{IndexFault}

-- ---- what rows write

-- a text writes a definition, whose normal form this is
unfoldable pub WriteDefinition : List ℕ → Tree → Type 0
WriteDefinition text def = (tree : Tree) × (tree_of_text text ≡ Ok tree) × (normal tree ≡ Some def)

-- the fields between the commas of a text
abbrev pub fields_of : List ℕ → List (List ℕ)
fields_of text = slice_split (λ b. b == 44) text

-- the plan of these fields
abbrev pub plan_over : List ℕ → Bool → Bool → Plan
plan_over text sparse unique = record { paths = each parts_of (fields_of text); sparse = sparse; unique = unique }

-- what stands between two documents
abbrev pub mark : List ℕ
mark = codes " ~ "

-- the texts round the first mark, or a text twice where it has none
abbrev pub AreBoth : List ℕ → List ℕ → List ℕ → Type 0
AreBoth text first second =
    SplitsAroundMatch (FindsText mark) text first second
    ⊎ (FindsText mark text None × (first ≡ text) × (second ≡ text))

-- ---- values and numbers

abbrev pub pair_text : Value → Value → List ℕ
pair_text a b = value_text a ++ codes " " ++ value_text b

abbrev pub number_text : Option ℕ → List ℕ
number_text None = codes "None"
number_text (Some n) = codes "Some(" ++ decimal n ++ codes ")"

-- ---- definitions

-- the normal form of a definition
abbrev pub form_text : Option Tree → List ℕ
form_text None = codes "none"
form_text (Some form) = text_of form

abbrev pub kind_text : Plan → List ℕ
kind_text plan = if plan.unique then codes "unique" else (if plan.sparse then codes "sparse" else codes "plain")

-- the kind of an index, and how many fields it has
abbrev pub plan_text : Option Plan → List ℕ
plan_text None = codes "unbuilt"
plan_text (Some plan) = kind_text plan ++ codes " " ++ decimal (length plan.paths)

-- ---- keys

-- how many keys there are, or the two fields that meet arrays
abbrev pub count_text : Option (Path × Path) → ℕ → List ℕ
count_text None count = decimal count
count_text (Some two) count = codes "parallel " ++ dotted two.0 ++ codes " " ++ dotted two.1

abbrev pub keys_text : Plan → Document → List ℕ
keys_text plan doc = count_text (parallel plan doc) (length (key_texts plan doc))

-- ---- collections

-- an index by its names
abbrev pub place_text : NsName → List ℕ → List ℕ
place_text ns index = ns.db ++ codes "." ++ ns.coll ++ codes " " ++ index

abbrev pub fault_text : Option CountFault → List ℕ
fault_text None = codes "none"
fault_text (Some count_faults.NoMemory) = codes "no memory"
fault_text (Some (count_faults.Parallel ns index id)) = codes "parallel " ++ place_text ns index ++ codes " " ++ value_text id
fault_text (Some (count_faults.Duplicate ns index first second)) = codes "duplicate " ++ place_text ns index ++ codes " " ++ pair_text first second

-- the first fault of the indexes
unfoldable pub fault_in : Rows → Option CountFault
fault_in s = fault (state_of s)

abbrev pub number_unless : Option CountFault → Option ℕ → Option ℕ
number_unless None number = number
number_unless (Some f) number = None

-- the number of an index, where the indexes have no fault
unfoldable pub number_in : Rows → NsName → List ℕ → Option ℕ
number_in s ns index = number_unless (fault (state_of s)) (number_at (counts (state_of s)) ns index)

-- ---- a kept index

-- whether a verb takes a document out
abbrev pub takes_out : List ℕ → Bool
takes_out verb = is_one_of (codes "none" ∷ codes "out" ∷ []) verb

-- why a verb's call on a document is refused
unfoldable pub refusal_of : List ℕ → Value → Document → Holding → Option Refusal
refusal_of verb id doc h = if takes_out verb then None else refusal h.plan (key_of id) doc h.owned

-- what is in where it isn't refused
unfoldable pub owned_by : List ℕ → Value → Document → Holding → Owned
owned_by verb id doc h =
    if takes_out verb then map.remove h.owned (key_of id)
    else (if bytes_eq verb (codes "test") then h.owned else put_document h.plan h.owned (key_of id, doc))

-- what a verb's call on a document answers, and what is in then
abbrev pub Answers : List ℕ → Value → Document → Holding → Holding → Result (Unit {0}) IndexFault → Type 0
Answers verb id doc old new (Ok u) = (refusal_of verb id doc old ≡ None) × (new.owned ≡ owned_by verb id doc old)
Answers verb id doc old new (Err fault) = IsIndexFault fault id (refusal_of verb id doc old) × (new.owned ≡ old.owned)

-- what was refused, unless memory ran out
abbrev pub IsAnswer : Result (Unit {0}) IndexFault → Value → Option Refusal → Type 0
IsAnswer (Ok u) id refusal = refusal ≡ None
IsAnswer (Err fault) id refusal = IsIndexFault fault id refusal

-- whether a document of this _id is refused, and why
abbrev pub TellsRefusal : Value → Option Refusal → List ℕ → Type 0
TellsRefusal id None text = text ≡ codes "ok"
TellsRefusal id (Some Parallel) text = text ≡ codes "parallel " ++ value_text id
TellsRefusal id (Some (Shared key)) text = (first : Value) × (key_of first ≡ key) × (text ≡ codes "duplicate " ++ pair_text first id)

-- what is in behind a call: where it is refused, what was in
abbrev pub owned_unless : Option Refusal → Owned → Owned → Owned
owned_unless None new old = new
owned_unless (Some refusal) new old = old

-- what a verb's call on a document makes of an index, and what is told of it: the refusal, and how many pairs there are then
pub record IsCalled (verb : List ℕ) (id : Value) (doc : Document) (old new : Holding) (answer : List ℕ) : Type 0 where
  pub plan : new.plan ≡ old.plan
  pub owned : new.owned ≡ owned_unless (refusal_of verb id doc old) (owned_by verb id doc old) old.owned
  pub told : (text : List ℕ) × TellsRefusal id (refusal_of verb id doc old) text
      × (answer ≡ text ++ codes " " ++ decimal (min (pairs_in new.owned) (2 ^ 64 - 1)))
