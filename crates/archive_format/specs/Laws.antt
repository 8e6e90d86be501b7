-- The laws of the definitions.
use Rattle.std.specs.Prelude.{ℕ, ℤ, ◌≡◌, ◌+◌, List, ◌++◌, length, Bool, true, Option, Some, None, FitsSigned, if◌then◌else◌}
use Rattle.std.specs.Int.{w32, w64}
use Rattle.std.specs.Str.{is_utf8}
use Rattle.bson_value.specs.declared.namespace.NsName.{NsName}
use Rattle.archive_format.specs.declared.fault.FormatFault.{FormatFault}
use Rattle.archive_format.specs.Archive.{Taking, Content, EndsOf, Refuses, head_in, metadata_in, header_in}
use Rattle.archive_format.specs.Crc.{crc_on}
use Rattle.archive_format.specs.Shapes.{Header, Metadata, is_namespace}
use Rattle.archive_format.specs.Written.{head_text, meta_text, header_text, AreTexts, HeadFits, MetaFits, HeaderFits}

abbrev pub OneEnd : Type 0
OneEnd = (bytes : List ℕ) → ((ts : List Taking) × (e : Option FormatFault) × EndsOf bytes ts e)
    × ((ts us : List Taking) (e f : Option FormatFault) → EndsOf bytes ts e → EndsOf bytes us f → (ts ≡ us) × (e ≡ f))

-- a content or a fault, never both, and each once
abbrev pub ContentOrFault : Type 0
ContentOrFault = (bytes : List ℕ)
    → (((f : FormatFault) → Refuses bytes f → ⊥) → (ts : List Taking) × Content bytes ts)
    × ((ts : List Taking) (f : FormatFault) → Content bytes ts → Refuses bytes f → ⊥)
    × ((ts us : List Taking) → Content bytes ts → Content bytes us → ts ≡ us)
    × ((f h : FormatFault) → Refuses bytes f → Refuses bytes h → f ≡ h)

abbrev pub CrcByParts : Type 0
CrcByParts = (r : ℕ) (a b : List ℕ) → crc_on r (a ++ b) ≡ crc_on (crc_on r a) b

-- what is written of these documents is read again, where their texts are texts and they have at most 16,793,600 bytes
abbrev pub HeadsAreRead : Type 0
HeadsAreRead = (ns : NsName) (eof : Bool) (crc : ℤ) → AreTexts ns → FitsSigned w64 crc → HeadFits ns → is_namespace ns ≡ true → head_in (head_text ns eof crc) ≡ Some (record { ns = ns; eof = eof; crc = if eof then Some crc else None })

abbrev pub MetasAreRead : Type 0
MetasAreRead = (m : Metadata) → AreTexts m.ns → is_utf8 m.text ≡ true → MetaFits m → is_namespace m.ns ≡ true → metadata_in (meta_text m) ≡ Some m

abbrev pub HeadersAreRead : Type 0
HeadersAreRead = (h : Header) → is_utf8 h.server ≡ true → is_utf8 h.tool ≡ true → FitsSigned w32 h.concurrent → HeaderFits h → header_in (header_text h) ≡ Some h

-- how long each of them is
abbrev pub WrittenSizes : Type 0
WrittenSizes = ((ns : NsName) (eof : Bool) (crc : ℤ) → length (head_text ns eof crc) ≡ length ns.db + length ns.coll + 50)
    × ((m : Metadata) → length (meta_text m) ≡ length m.ns.db + length m.ns.coll + length m.text + 77)
    × ((h : Header) → length (header_text h) ≡ length h.server + length h.tool + 90)
