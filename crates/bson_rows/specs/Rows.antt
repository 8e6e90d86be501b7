-- What rows ask of.
use Rattle.std.specs.Prelude.{◌≡◌, ◌++◌, ◌<◌, ◌^◌, ◌==◌, ℕ, ℤ, Bool, List, [], ◌∷◌, length, Option, None, Some, Ok, IfSome, codes, is_some, slice_get, option_map, if◌then◌else◌, nat_lt}
use Rattle.std.specs.List.{before_first, after_first, slice_split}
use Rattle.std.specs.Ordering.{nat_cmp}
use Rattle.std.specs.Cmp.Lexicographic.{slice_cmp}
use Rattle.std.specs.declared.cmp.Ordering.{Ordering}
use Rattle.std.specs.declared.cmp.Ordering.TheVariants.{Less, Equal, Greater}
use Rattle.std.specs.BTreeMap.{insert_entry}
use Rattle.std.specs.Fmt.{decimal, debug_list, debug_option, debug_str, signed_decimal}
use Rattle.std.specs.Str.Parse.{digits_value, without_leading_plus}
use Rattle.hex.specs.Hex.{decode_of, encode_lower}
use Rattle.containers.specs.Entries.{lookup}
use Rattle.bson_check.specs.Reading.{document_of}
use Rattle.bson_check.specs.declared.fault.BsonFault.{BsonFault}
use Rattle.bson_check.specs.declared.fault.BsonKind.{BsonKind}
use Rattle.bson_check.specs.declared.fault.BsonKind.TheVariants as kinds
use Rattle.bson_value.specs.Digits.{index_of}
use Rattle.bson_value.specs.Namespace.{IsSplit}
use Rattle.bson_value.specs.NamespaceOrder.{namespace_cmp}
use Rattle.bson_value.specs.Spelling.{document_text, spelled, tag_of}
use Rattle.bson_value.specs.Timestamp.{stamp_cmp, stamp_number}
use Rattle.bson_value.specs.declared.namespace.NsName.{NsName}
use Rattle.bson_value.specs.declared.value.Ts.{Ts}
use Rattle.bson_encode.specs.Key.{key_of}
use Rattle.bson_view.specs.HeldWalk.{fields_in, items_in}
use Rattle.bson_view.specs.Meaning.{document_in}
use Rattle.bson_view.specs.Parts.{Part}
use Rattle.bson_view.specs.Paths.{part_at, value_at}
use Rattle.bson_view.specs.References.{value_meant, str_in, int_in, long_in, bool_in, stamp_in}
use Rattle.bson_view.specs.declared.value_ref.ValueRef.{ValueRef}
use Rattle.row_script.specs.Rows.{is_blank}
use Rattle.row_script.specs.Tallies.{one_more}
use Rattle.bson_value.specs.declared.value.Value.{Value, out-Value}
use Rattle.bson_value.specs.declared.value.Value.TheOpen.{Value-F}

abbrev pub Document : Type 0
Document = List (List ℕ × Value)

-- the number that a word writes
abbrev pub number_of : List ℕ → ℕ
number_of word = digits_value 10 (without_leading_plus word)

-- bytes spell a document within the limits
abbrev pub Spell : List ℕ → Document → Type 0
Spell bytes doc = document_of 16793600 200 bytes ≡ Ok doc

-- hexadecimal digits write the bytes of a document
unfoldable pub Write : List ℕ → Document → Type 0
Write digits doc = (bytes : List ℕ) × (decode_of digits ≡ Ok bytes) × Spell bytes doc

-- the first field of the document that digits write
unfoldable pub IsFirst : List ℕ → List ℕ × Value → Type 0
IsFirst digits field = (doc : Document) × Write digits doc × (slice_get doc 0 ≡ Some field)

-- the digits of a document's spelling
abbrev pub digits_of : Document → List ℕ
digits_of doc = encode_lower (document_text doc)

-- how one stands to another, in a word
abbrev pub order_word : Ordering → List ℕ
order_word Less = codes "Less"
order_word Equal = codes "Equal"
order_word Greater = codes "Greater"

-- a timestamp is written as seconds and an ordinal, with a colon between
abbrev pub is_colon : ℕ → Bool
is_colon b = b == 58

abbrev pub stamp_of : List ℕ → Ts
stamp_of word = record { secs = number_of (before_first is_colon word); inc = number_of (after_first is_colon word) }

-- how a timestamp stands to another one, and how their numbers do
abbrev pub stamps_text : Ts → Ts → List ℕ
stamps_text a b = order_word (stamp_cmp a b) ++ codes " " ++ order_word (nat_cmp (stamp_number a) (stamp_number b))

-- how a text stands to another one, as texts, as texts without zeros and as bytes
abbrev pub texts_text : List ℕ → List ℕ → List ℕ
texts_text a b = let word = order_word (slice_cmp nat_cmp a b) in word ++ codes " " ++ word ++ codes " " ++ word

-- how the key of a value stands to that of another one, where neither is too long for one document
unfoldable pub AreComparedSo : Value → Value → List ℕ → Type 0
AreComparedSo a b word =
    length (spelled a) < 2 ^ 31 → length (spelled b) < 2 ^ 31 → word ≡ order_word (slice_cmp nat_cmp (key_of a) (key_of b))

-- what is wrong, in a word
abbrev pub kind_word : BsonKind → List ℕ
kind_word kinds.Short = codes "Short"
kind_word kinds.Length = codes "Length"
kind_word kinds.Tag = codes "Tag"
kind_word kinds.Text = codes "Text"
kind_word kinds.Repeat = codes "Repeat"
kind_word kinds.Deep = codes "Deep"
kind_word kinds.Bool = codes "Bool"
kind_word kinds.TooLong = codes "TooLong"

-- a fault and its place
abbrev pub fault_word : BsonFault → List ℕ
fault_word f = kind_word f.kind ++ codes " " ++ decimal f.at

-- the name of an element, its type and the digits of its bytes
abbrev pub part_answer : Option Part → List ℕ
part_answer None = codes "none"
part_answer (Some p) = p.name ++ codes " " ++ decimal p.tag ++ codes " (" ++ encode_lower p.value ++ codes ")"

-- the first fault, or that there is none
abbrev pub check_text : Option BsonFault → List ℕ
check_text None = codes "none"
check_text (Some f) = fault_word f

-- the digits of bytes that are a document, or their first fault
abbrev pub kept_text : Option BsonFault → List ℕ → List ℕ
kept_text None bytes = encode_lower bytes
kept_text (Some f) bytes = fault_word f

-- a number, or that there is none
abbrev pub number_text : Option ℕ → List ℕ
number_text None = codes "None"
number_text (Some n) = codes "Some(" ++ decimal n ++ codes ")"

-- the type of a value, or that there is no value
abbrev pub tag_text : Option Value → List ℕ
tag_text value = number_text (option_map tag_of value)

abbrev pub is_dot : ℕ → Bool
is_dot b = b == 46

-- the names between the dots of a path, of which an empty one has none
abbrev pub names_of : List ℕ → List (List ℕ)
names_of [] = []
names_of (b ∷ text) = slice_split is_dot (b ∷ text)

-- the element at a path in bytes, and the types of the values at the path in the document that they spell and in another one
abbrev pub path_text : List (List ℕ) → List ℕ → Document → List ℕ
path_text names bytes doc = part_answer (part_at names bytes)
    ++ codes ", held " ++ tag_text (value_at names (document_in bytes)) ++ codes " " ++ tag_text (value_at names doc)

-- the number, where it is below 2^64
abbrev pub if_small : Option ℕ → Option ℕ
if_small None = None
if_small (Some n) = if nat_lt n (2 ^ 64) then Some n else None

-- the index that a name is, where it is below 2^64
abbrev pub index_text : List ℕ → List ℕ
index_text name = number_text (if_small (index_of name))

-- what is shown of the document that bytes spell, and of another one
abbrev pub shown_of_both : (Document → List ℕ) → List ℕ → Document → List ℕ
shown_of_both shown bytes doc = shown (document_in bytes) ++ codes ", " ++ shown doc

abbrev pub truth_text : Bool → List ℕ
truth_text is_so = if is_so then codes "true" else codes "false"

-- the name and the type of a field, and whether it has fields and items
abbrev pub field_text : Option (List ℕ × Value) → List ℕ
field_text None = codes "none"
field_text (Some f) = f.0 ++ codes " " ++ decimal (tag_of f.1)
    ++ codes " " ++ truth_text (is_some (fields_in (out-Value f.1))) ++ codes " " ++ truth_text (is_some (items_in (out-Value f.1)))

-- the field of this number
abbrev pub walked_text : ℕ → Document → List ℕ
walked_text place doc = field_text (slice_get doc place)

-- the values, where there is a value and it is an array
abbrev pub items_of : Option Value → Option (List Value)
items_of None = None
items_of (Some value) = items_in (out-Value value)

abbrev pub nth_item : Option (List Value) → ℕ → Option Value
nth_item None place = None
nth_item (Some items) place = slice_get items place

-- the type of the item of this number of the array of this name
abbrev pub item_text : List ℕ → ℕ → Document → List ℕ
item_text name place doc = tag_text (nth_item (items_of (lookup name doc)) place)

-- the same of a number with a sign, of a truth and of a timestamp
abbrev pub signed_text : Option ℤ → List ℕ
signed_text None = codes "None"
signed_text (Some z) = codes "Some(" ++ signed_decimal z ++ codes ")"

abbrev pub bool_text : Option Bool → List ℕ
bool_text None = codes "None"
bool_text (Some b) = codes "Some(" ++ truth_text b ++ codes ")"

abbrev pub stamp_text : Option Ts → List ℕ
stamp_text None = codes "None"
stamp_text (Some ts) = codes "Some(Ts { secs: " ++ decimal ts.secs ++ codes ", inc: " ++ decimal ts.inc ++ codes " })"

-- a value as numbers of 32 and 64 bits
abbrev pub sizes_text : ValueRef → List ℕ
sizes_text r = signed_text (int_in r) ++ codes " " ++ signed_text (long_in r)

-- a value as a truth and as a timestamp
abbrev pub truths_text : ValueRef → List ℕ
truths_text r = bool_text (bool_in r) ++ codes " " ++ stamp_text (stamp_in r)

-- a value as a text, as numbers of 32 and 64 bits, as a truth and as a timestamp, where the text has no letters but those of ASCII
abbrev pub read_text : ValueRef → Option (List ℕ)
read_text r = option_map (λ text. text ++ codes " " ++ sizes_text r ++ codes " " ++ truths_text r) (debug_option debug_str (str_in r))

-- this shows a value, or that there is none
abbrev pub ShowsValue : Option Value → List ℕ → Type 0
ShowsValue None shown = shown ≡ codes "none"
ShowsValue (Some value) shown = (r : ValueRef) × (value_meant r ≡ value) × IfSome (read_text r) (λ text. shown ≡ text)

abbrev pub int_in_value : Value-F Value → Option ℤ
int_in_value (Value-F.Int z) = Some z
int_in_value _ = None

-- the number, where there is a value and it is one of 32 bits
abbrev pub int_of : Option Value → Option ℤ
int_of None = None
int_of (Some value) = int_in_value (out-Value value)

-- the fields, where there is a value and it is a document
abbrev pub fields_of : Option Value → Option Document
fields_of None = None
fields_of (Some value) = fields_in (out-Value value)

-- the number of 32 bits of this name
abbrev pub int_within : Option Document → List ℕ → Option ℤ
int_within None name = None
int_within (Some doc) name = int_of (lookup name doc)

-- the number of 32 bits in the document of a field
abbrev pub inner_text : List ℕ → List ℕ → Document → List ℕ
inner_text outer name doc = signed_text (int_within (fields_of (lookup outer doc)) name)

-- the text of a code, and the type of a field of its scope
abbrev pub code_text : List ℕ → Value-F Value → List ℕ
code_text name (Value-F.ScopedCode code scope) = code ++ codes " " ++ tag_text (lookup name scope)
code_text name _ = codes "no code"

-- the same of a value, where there is one
abbrev pub scoped_text : List ℕ → Option Value → List ℕ
scoped_text name None = codes "none"
scoped_text name (Some value) = code_text name (out-Value value)

-- the namespaces that words name, in their order, each with the place of the last word that names it; and how many words there are
abbrev pub Places : Type 0
Places = List (NsName × ℕ) × ℕ

-- a word more names a namespace
abbrev pub IsPlaced : Places → List ℕ → Places → Type 0
IsPlaced old word new = (ns : NsName) × IsSplit word ns.db ns.coll
    × (new.1 ≡ one_more old.1) × (new.0 ≡ insert_entry namespace_cmp old.0 ns new.1)

-- the words between the blanks of a text
abbrev pub words_of : List ℕ → List (List ℕ)
words_of text = slice_split is_blank text

-- the database of a namespace and its place, and how many there are
abbrev pub place_text : Option (NsName × ℕ) → ℕ → List ℕ
place_text None count = []
place_text (Some e) count = e.0.db ++ codes " " ++ decimal e.1 ++ codes " " ++ decimal count

-- the same of the first namespace
abbrev pub first_text : List (NsName × ℕ) → List ℕ
first_text places = place_text (slice_get places 0) (length places)

-- what a list of numbers is shown as
abbrev pub numbers_text : List ℤ → Option (List ℕ)
numbers_text numbers = debug_list (λ z. Some (signed_decimal z)) numbers
