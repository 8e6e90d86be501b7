-- What rows show of patterns, of an archive's parts and of the ring.
use Rattle.std.specs.Prelude.{◌≡◌, ◌↔◌, ◌⊎◌, ◌++◌, ◌==◌, ◌+◌, ◌-◌, ℕ, ℤ, pos, List, [], ◌∷◌, Bool, Option, None, Some, Result, Ok, Err, IsTrue, bytes_eq, codes, if◌then◌else◌, length, nat_lt, option_map, replicate, slice_get, take}
use Rattle.std.specs.Fmt.{decimal, signed_decimal}
use Rattle.hex.specs.Hex.{decode_of, encode_lower}
use Rattle.bson_value.specs.declared.namespace.NsName.{NsName}
use Rattle.bson_value.specs.declared.value.Ts.{Ts}
use Rattle.bson_value.specs.declared.value.Value.{Value}
use Rattle.bson_check.specs.declared.fault.BsonFault.{BsonFault}
use Rattle.row_script.specs.Names.{ns_text}
use Rattle.ns_patterns.specs.Literals.{Literals}
use Rattle.ns_patterns.specs.Matches.{Matches, Renamed}
use Rattle.archive_format.specs.Crc.{crc_start, crc_on}
use Rattle.archive_format.specs.Shapes.{Shaped, ShapeFault, missing_field, wrong_type, wrong_version, bad_ns, Header, Metadata, Head, ns_head_of}
use Rattle.archive_prelude.specs.declared.prelude.Meta.{Meta}
use Rattle.archive_prelude.specs.declared.prelude.Prelude.{Prelude}
use Rattle.archive_format.specs.Written.{block_text, end_text, joined}
use Rattle.capped_oplog.specs.Ring.{Entry, Ring, pushed}
use Rattle.tool_io.specs.declared.ends.Fault.{Fault}

-- the answer tells whether something is so
abbrev pub TellsWhether : Type 0 → List ℕ → Type 0
TellsWhether P answer = (is_so : Bool) × (IsTrue is_so ↔ P) × (answer ≡ (if is_so then codes "yes" else codes "no"))

abbrev pub truth_text : Bool → List ℕ
truth_text is_so = if is_so then codes "true" else codes "false"

-- ---- patterns

-- whether a pattern takes a name, where there is a pattern
abbrev pub TellsTaken : Option Literals → List ℕ → List ℕ → Type 0
TellsTaken None name answer = answer ≡ codes "LoneEscape"
TellsTaken (Some p) name answer = TellsWhether (Matches p name) answer

-- the new name, or that the first pattern doesn't take the old one
abbrev pub TellsRenamed : Literals → Literals → List ℕ → List ℕ → Type 0
TellsRenamed from to name answer = Renamed from to name answer ⊎ ((Matches from name → ⊥) × (answer ≡ codes "none"))

-- ---- what is written

-- behind what was there stands all of it, or some front where there was a fault
abbrev pub Writes : Result (Unit {0}) Fault → List ℕ → List ℕ → List ℕ → Type 0
Writes (Ok u) old new all = new ≡ old ++ all
Writes (Err f) old new all = (n : ℕ) × (new ≡ old ++ take n all)

-- the digits of all of it, or of some front behind a fault
abbrev pub TellsWritten : List ℕ → List ℕ → Type 0
TellsWritten all answer = (answer ≡ encode_lower all) ⊎ ((n : ℕ) × (answer ≡ codes "fault behind " ++ encode_lower (take n all)))

-- the digits of what was written, and whether there was a fault
abbrev pub written_text : Result (Unit {0}) Fault → List ℕ → List ℕ
written_text (Ok u) written = encode_lower written
written_text (Err f) written = codes "fault behind " ++ encode_lower written

-- the namespace a.b
abbrev pub own_namespace : NsName
own_namespace = record { db = codes "a"; coll = codes "b" }

-- a block of these documents, and the end behind it
abbrev pub namespace_text : List (List ℕ) → List ℕ
namespace_text docs = block_text own_namespace docs ++ end_text own_namespace (crc_on crc_start (joined docs))

-- the document that digits write, or none
abbrev pub AreDocuments : List ℕ → List (List ℕ) → Type 0
AreDocuments [] docs = docs ≡ []
AreDocuments (digit ∷ digits) docs = (bytes : List ℕ) × (decode_of (digit ∷ digits) ≡ Ok bytes) × (docs ≡ bytes ∷ [])

abbrev pub own_header : Header
own_header = record { concurrent = pos 1; server = codes "0.0.0"; tool = codes "0.0.0" }

-- the metadata of that namespace
abbrev pub own_metadata : Meta
own_metadata = record { ns = own_namespace; text = codes "{}" }

-- the prelude of the versions 0.0.0 and these metadata
abbrev pub prelude_over : List Meta → Prelude
prelude_over metas = record { concurrent = pos 1; server = codes "0.0.0"; tool = codes "0.0.0"; metas = metas }

-- the metadata of a prelude that a word names
abbrev pub metas_named : List ℕ → List Metadata
metas_named word = if bytes_eq word (codes "bare") then [] else record { ns = own_namespace; text = codes "{}" } ∷ []

-- ---- what is read

-- why a document has another shape, in a word
abbrev pub shape_word : ShapeFault → List ℕ
shape_word (missing_field name) = codes "MissingField"
shape_word (wrong_type name) = codes "WrongType"
shape_word (wrong_version version) = codes "Version"
shape_word bad_ns = codes "BadNs"

-- the same with what it is of
abbrev pub shape_text : ShapeFault → List ℕ
shape_text (missing_field name) = codes "MissingField " ++ name
shape_text (wrong_type name) = codes "WrongType " ++ name
shape_text (wrong_version version) = codes "Version " ++ version
shape_text bad_ns = codes "BadNs"

abbrev pub shape_answer : Option ShapeFault → List ℕ
shape_answer None = codes "ok"
shape_answer (Some f) = shape_text f

abbrev pub meta_answer : Shaped Metadata → List ℕ
meta_answer (Ok m) = ns_text m.ns ++ codes " " ++ m.text
meta_answer (Err f) = shape_text f

abbrev pub crc_text : Option ℤ → List ℕ
crc_text None = codes "none"
crc_text (Some crc) = signed_decimal crc

abbrev pub head_line : Head → List ℕ
head_line h = ns_text h.ns ++ codes " " ++ truth_text h.eof ++ codes " " ++ crc_text h.crc

abbrev pub head_answer : Shaped Head → List ℕ
head_answer (Ok h) = head_line h
head_answer (Err f) = shape_word f

-- the header that bytes are, where they are a document
abbrev pub head_answer_in : Result (List (List ℕ × Value)) BsonFault → List ℕ
head_answer_in (Err f) = codes "no document"
head_answer_in (Ok fields) = head_answer (ns_head_of fields)

-- ---- the ring

-- the timestamp with this ordinal in the second 1
abbrev pub stamp : ℕ → Ts
stamp inc = record { secs = 1; inc = inc }

abbrev pub stamp_text : Option Ts → List ℕ
stamp_text None = codes "none"
stamp_text (Some ts) = decimal ts.secs ++ codes ":" ++ decimal ts.inc

abbrev pub stamp_of : Option Entry → Option Ts
stamp_of e = option_map (λ e. e.0) e

-- the entry that falls out where there is one more
abbrev pub falls_out : Ring → Option Entry
falls_out r = if nat_lt (length r.entries) r.cap then None else slice_get r.entries 0

-- entries of these sizes, whose timestamps rise by one
abbrev pub entries_from : ℕ → List ℕ → List Entry
entries_from inc [] = []
entries_from inc (size ∷ sizes) = (stamp (inc + 1), replicate size 0) ∷ entries_from (inc + 1) sizes

abbrev pub with_entry : Ring → Entry → Ring
with_entry r e = record r { entries = pushed r.cap r.entries e }

-- whether there is an entry, and the oldest and the newest timestamp
abbrev pub ends_text : List Entry → List ℕ
ends_text es = codes "empty " ++ truth_text (length es == 0)
    ++ codes ", oldest " ++ stamp_text (stamp_of (slice_get es 0))
    ++ codes ", newest " ++ stamp_text (stamp_of (slice_get es (length es - 1)))

abbrev pub place_text : Option ℕ → List ℕ
place_text None = codes "none"
place_text (Some i) = decimal i

abbrev pub entry_text : Option Entry → List ℕ
entry_text None = codes "none"
entry_text (Some e) = stamp_text (Some e.0) ++ codes " " ++ encode_lower e.1
