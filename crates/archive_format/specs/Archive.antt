-- An archive: its items, what the grammar makes of them one after the other, and the fault that is met.
use Rattle.std.specs.Prelude.{⊤, ℕ, ℤ, ◌≡◌, ◌+◌, ◌≤◌, List, [], ◌∷◌, ◌++◌, length, take, set, map, flat_map, filter, Bool, true, false, ◌||◌, ◌&&◌, Option, Some, None, Result, Ok, Err, if◌then◌else◌, ◌==◌, nat_lt, slice_get, bytes_eq, is_some}
use Rattle.std.specs.Int.{w32, w64, from_le_bytes, cast_unsigned}
use Rattle.std.specs.List.{position_from}
use Rattle.std.specs.Result.{result_err, result_ok}
use Rattle.bson_value.specs.declared.namespace.NsName.{NsName}
use Rattle.bson_value.specs.declared.value.Value.{Value}
use Rattle.bson_check.specs.declared.fault.BsonFault.{BsonFault}
use Rattle.bson_check.specs.declared.fault.BsonKind.TheVariants as kinds
use Rattle.bson_check.specs.Reading.{document_of}
use Rattle.archive_format.specs.Crc.{crc_start, crc_on, crc_end}
use Rattle.archive_format.specs.Shapes.{Shaped, ShapeFault, Header as PreludeHeader, header_of, Metadata, meta_of, Head, ns_head_of, is_oplog}
use Rattle.archive_format.specs.declared.fault.FormatFault.{FormatFault}
use Rattle.archive_format.specs.declared.fault.FormatFault.TheVariants.{BadMagic, Truncated, BadBson, BadPrelude, BadHeader, AfterEnd, DocsInEnd, Crc, NotEnded, TooLong}
use Rattle.archive_format.specs.declared.place.Place.{Place}
use Rattle.archive_format.specs.declared.place.Place.TheVariants.{Front, Header, Metas, Blocks, Inside, Ending}

pub data Item : Type 0 where
  magic : Item
  terminator : Item
  document : List ℕ → Item

-- what an item hands out: a namespace's metadata text, a document of it, or its end
pub data Taking : Type 0 where
  meta : NsName → List ℕ → Taking
  doc : NsName → List ℕ → Taking
  end : NsName → Taking

abbrev pub magic_bytes : List ℕ
magic_bytes = 0x6d ∷ 0xe2 ∷ 0x99 ∷ 0x81 ∷ []

abbrev pub stop_bytes : List ℕ
stop_bytes = 255 ∷ 255 ∷ 255 ∷ 255 ∷ []

abbrev pub text_of : Item → List ℕ
text_of magic = magic_bytes
text_of terminator = stop_bytes
text_of (document b) = b

-- the number that the first four bytes spell, the low byte first
unfoldable pub number : List ℕ → ℕ
number word = from_le_bytes w32 word

-- a document has as many bytes as its length says, within the bounds
abbrev pub IsItem : Item → Type 0
IsItem magic = ⊤
IsItem terminator = ⊤
IsItem (document b) = (5 ≤ length b) × (length b ≤ 16793600) × (number (take 4 b) ≡ length b)

-- a namespace that a header named: the checksum of its documents so far, before its last inversion, and whether it was ended
pub record Seen : Type 0 where
  pub ns : NsName
  pub sum : ℕ
  pub ended : Bool

-- where the grammar stands: what may come, the namespaces of the metadata, and those that headers named, in order of first sight
pub record Stage : Type 0 where
  pub place : Place
  pub metas : List NsName
  pub seen : List Seen

abbrev pub start : Stage
start = record { place = Front; metas = []; seen = [] }

-- the next stage and what is handed out, or the fault
pub data Verdict : Type 0 where
  goes : Stage → List Taking → Verdict
  bad : FormatFault → Verdict

abbrev pub same_ns : NsName → NsName → Bool
same_ns a b = bytes_eq a.db b.db && bytes_eq a.coll b.coll

-- where a namespace's metadata stand, and its entry
abbrev pub meta_place : NsName → List NsName → Option ℕ
meta_place n ms = position_from (λ m. same_ns m n) 0 ms

abbrev pub seat_of : NsName → List Seen → Option ℕ
seat_of n es = position_from (λ e. same_ns e.ns n) 0 es

-- what the bytes spell, within the bounds of an archive
unfoldable pub fields_of : List ℕ → Result (List (List ℕ × Value)) BsonFault
fields_of b = document_of 16793600 200 b

abbrev pub shaped_in : {A : Type 0} → (List (List ℕ × Value) → Shaped A) → Result (List (List ℕ × Value)) BsonFault → Option A
shaped_in look (Err f) = None
shaped_in look (Ok fs) = result_ok (look fs)

-- the first fault of a document's shape
abbrev pub misshapen_in : {A : Type 0} → (List (List ℕ × Value) → Shaped A) → Result (List (List ℕ × Value)) BsonFault → Option ShapeFault
misshapen_in look (Err f) = None
misshapen_in look (Ok fs) = result_err (look fs)

-- what the parts read of a document of BSON, and nothing where it has another shape
unfoldable pub header_in : List ℕ → Option PreludeHeader
header_in b = shaped_in header_of (fields_of b)

unfoldable pub metadata_in : List ℕ → Option Metadata
metadata_in b = shaped_in meta_of (fields_of b)

unfoldable pub head_in : List ℕ → Option Head
head_in b = shaped_in ns_head_of (fields_of b)

unfoldable pub head_fault_in : List ℕ → Option ShapeFault
head_fault_in b = misshapen_in ns_head_of (fields_of b)

-- bytes that are no document of BSON are a fault before any other
unfoldable pub fault_in : List ℕ → Option BsonFault
fault_in b = result_err (fields_of b)

abbrev pub sound : ℕ → Verdict → Option BsonFault → Verdict
sound at v None = v
sound at v (Some f) = bad (BadBson at f.kind)

unfoldable pub header_step : Stage → ℕ → Option PreludeHeader → Verdict
header_step s at None = bad (BadPrelude at)
header_step s at (Some h) = goes (record s { place = Metas }) []

-- the metadata of the oplog is passed over
unfoldable pub meta_step : Stage → ℕ → Option Metadata → Verdict
meta_step s at None = bad (BadPrelude at)
meta_step s at (Some m) = if is_oplog m.ns then goes s [] else (if is_some (meta_place m.ns s.metas) then bad (BadPrelude at) else goes (record s { metas = s.metas ++ m.ns ∷ [] }) (meta m.ns m.text ∷ []))

-- the bits of the checksum that an end says
abbrev pub bits_of : Option ℤ → Option ℕ
bits_of None = None
bits_of (Some z) = Some (cast_unsigned w64 z)

-- behind a header of the namespace with this number
abbrev pub behind : Bool → Option ℤ → ℕ → Place
behind eof crc i = if eof then Ending i (bits_of crc) else Inside i

abbrev pub opened_entry : Stage → ℕ → Place → Option Seen → Verdict
opened_entry s at next None = bad (BadHeader at)
opened_entry s at next (Some e) = if e.ended then bad (AfterEnd e.ns at) else goes (record s { place = next }) []

abbrev pub opened : Stage → ℕ → Head → Option ℕ → Verdict
opened s at h None = goes (record { place = behind h.eof h.crc (length s.seen); metas = s.metas; seen = s.seen ++ record { ns = h.ns; sum = crc_start; ended = false } ∷ [] }) []
opened s at h (Some i) = opened_entry s at (behind h.eof h.crc i) (slice_get s.seen i)

unfoldable pub head_step : Stage → ℕ → Option Head → Verdict
head_step s at None = bad (BadHeader at)
head_step s at (Some h) = opened s at h (seat_of h.ns s.seen)

-- the entry that a place names is there
unfoldable pub doc_step : Stage → ℕ → ℕ → List ℕ → Option Seen → Verdict
doc_step s at i b None = bad (BadHeader at)
doc_step s at i b (Some e) = goes (record s { seen = set s.seen i (record e { sum = crc_on e.sum b }) }) (doc e.ns b ∷ [])

abbrev pub closed_entry : Stage → ℕ → Seen → Verdict
closed_entry s i e = goes (record { place = Blocks; metas = s.metas; seen = set s.seen i (record e { ended = true }) }) (end e.ns ∷ [])

-- an end that says no checksum isn't checked
abbrev pub checked : Stage → ℕ → Seen → Option ℕ → Verdict
checked s i e None = closed_entry s i e
checked s i e (Some said) = if crc_end e.sum == said then closed_entry s i e else bad (Crc e.ns said (crc_end e.sum))

unfoldable pub end_step : Stage → ℕ → ℕ → Option ℕ → Option Seen → Verdict
end_step s at i said None = bad (BadHeader at)
end_step s at i said (Some e) = checked s i e said

-- one item at its place; no item is taken at the place of another
unfoldable pub step_at : Place → Stage → ℕ → Item → Verdict
step_at Front s at magic = goes (record s { place = Header }) []
step_at Front s at terminator = bad BadMagic
step_at Front s at (document b) = bad BadMagic
step_at Header s at magic = bad (BadBson at kinds.Length)
step_at Header s at terminator = bad (BadPrelude at)
step_at Header s at (document b) = sound at (header_step s at (header_in b)) (fault_in b)
step_at Metas s at magic = bad (BadBson at kinds.Length)
step_at Metas s at terminator = goes (record s { place = Blocks }) []
step_at Metas s at (document b) = sound at (meta_step s at (metadata_in b)) (fault_in b)
step_at Blocks s at magic = bad (BadBson at kinds.Length)
step_at Blocks s at terminator = bad (BadHeader at)
step_at Blocks s at (document b) = sound at (head_step s at (head_in b)) (fault_in b)
step_at (Inside i) s at magic = bad (BadBson at kinds.Length)
step_at (Inside i) s at terminator = goes (record s { place = Blocks }) []
step_at (Inside i) s at (document b) = sound at (doc_step s at i b (slice_get s.seen i)) (fault_in b)
step_at (Ending i said) s at magic = bad (DocsInEnd at)
step_at (Ending i said) s at terminator = end_step s at i said (slice_get s.seen i)
step_at (Ending i said) s at (document b) = bad (DocsInEnd at)

abbrev pub step : Stage → ℕ → Item → Verdict
step s at item = step_at s.place s at item

-- taking the item takes memory: a document of the prelude, or the first header of a namespace
abbrev pub IsNew : Stage → Option Head → Type 0
IsNew s None = ⊥
IsNew s (Some h) = seat_of h.ns s.seen ≡ None

abbrev pub Asks_at : Place → Stage → Item → Type 0
Asks_at Header s (document b) = ⊤
Asks_at Metas s (document b) = ⊤
Asks_at Blocks s (document b) = IsNew s (head_in b)
Asks_at p s i = ⊥

abbrev pub Asks : Stage → Item → Type 0
Asks s i = Asks_at s.place s i

-- whole items take the grammar from one stage to another, and hand out these takings
abbrev pub Runs : Stage → ℕ → List Item → Stage → List Taking → Type 0
Runs s at [] t ts = (t ≡ s) × (ts ≡ [])
Runs s at (i ∷ is) t ts = (m : Stage) × (one : List Taking) × (more : List Taking) × IsItem i × (step s at i ≡ goes m one) × Runs m (at + length (text_of i)) is t more × (ts ≡ one ++ more)

-- the bytes begin with whole items that the grammar allows, and then there is a rest
pub record Clean (s : Stage) (at : ℕ) (bytes : List ℕ) (t : Stage) (to : ℕ) (rest : List ℕ) (ts : List Taking) : Type 0 where
  pub items : List Item
  pub text : bytes ≡ flat_map text_of items ++ rest
  pub runs : Runs s at items t ts
  pub here : to ≡ at + length (flat_map text_of items)

-- the fault that the first four bytes of an item show by themselves
abbrev pub is_magic : List ℕ → Bool
is_magic word = bytes_eq word magic_bytes

abbrev pub is_stop : List ℕ → Bool
is_stop word = bytes_eq word stop_bytes

unfoldable pub lengthy : ℕ → ℕ → Option FormatFault
lengthy at n = if nat_lt n 5 || nat_lt 2147483647 n then Some (BadBson at kinds.Length) else (if nat_lt 16793600 n then Some (BadBson at kinds.TooLong) else None)

unfoldable pub early : Place → ℕ → List ℕ → Option FormatFault
early Front at word = if is_magic word then None else Some BadMagic
early Header at word = if is_stop word then Some (BadPrelude at) else lengthy at (number word)
early Metas at word = if is_stop word then None else lengthy at (number word)
early Blocks at word = if is_stop word then Some (BadHeader at) else lengthy at (number word)
early (Inside i) at word = if is_stop word then None else lengthy at (number word)
early (Ending i said) at word = if is_stop word then None else Some (DocsInEnd at)

-- how long an item is
unfoldable pub size_of : List ℕ → ℕ
size_of word = if is_stop word || is_magic word then 4 else number word

unfoldable pub item_of : List ℕ → List ℕ → Item
item_of word b = if is_stop word then terminator else (if is_magic word then magic else document b)

-- what the bytes behind a clean front show: less than an item that isn't a fault yet, an item that is allowed and its length, or a fault
pub data Next : Type 0 where
  short : Next
  onward : Stage → List Taking → ℕ → Next
  wrong : FormatFault → Next

abbrev pub judged : ℕ → Verdict → Next
judged n (goes s ts) = onward s ts n
judged n (bad f) = wrong f

abbrev pub unless_early : Stage → ℕ → List ℕ → List ℕ → Option FormatFault → Next
unless_early s at bytes word (Some f) = wrong f
unless_early s at bytes word None = if nat_lt (length bytes) (size_of word) then short else judged (size_of word) (step s at (item_of word (take (size_of word) bytes)))

unfoldable pub next : Stage → ℕ → List ℕ → Next
next s at bytes = if nat_lt (length bytes) 4 then short else unless_early s at bytes (take 4 bytes) (early s.place at (take 4 bytes))

abbrev pub limit : ℕ
limit = 281474976710656

-- the first namespace that wasn't ended
abbrev pub open_of : List Seen → Option FormatFault
open_of [] = None
open_of (e ∷ es) = if e.ended then open_of es else Some (NotEnded e.ns)

abbrev pub at_end : Place → Stage → ℕ → List ℕ → Option FormatFault
at_end Blocks s at [] = open_of s.seen
at_end p s at rest = Some (Truncated (at + length rest))

-- how the input ends behind the last item that is held whole; `more`: it goes on past the limit
unfoldable pub ending : Bool → Stage → ℕ → List ℕ → Option FormatFault
ending true s at rest = Some TooLong
ending false s at rest = at_end s.place s at rest

-- the fault, or that there is none, where no item goes on
abbrev pub closing : Bool → Stage → ℕ → List ℕ → Next → Option (Option FormatFault)
closing more s at rest (onward t ts n) = None
closing more s at rest (wrong f) = Some (Some f)
closing more s at rest short = Some (ending more s at rest)

-- the longest clean front hands out these takings, and behind it there is this fault, or none
pub record Ends (s : Stage) (at : ℕ) (bytes : List ℕ) (more : Bool) (ts : List Taking) (e : Option FormatFault) : Type 0 where
  pub stage : Stage
  pub to : ℕ
  pub rest : List ℕ
  pub clean : Clean s at bytes stage to rest ts
  pub stops : closing more stage to rest (next stage to rest) ≡ Some e

abbrev pub EndsOf : List ℕ → List Taking → Option FormatFault → Type 0
EndsOf bytes ts e = Ends start 0 (take limit bytes) (nat_lt limit (length bytes)) ts e

-- the bytes are an archive with these takings, in order of the bytes
pub record Content (bytes : List ℕ) (ts : List Taking) : Type 0 where
  pub items : List Item
  pub stage : Stage
  pub within : length bytes ≤ limit
  pub text : bytes ≡ flat_map text_of items
  pub runs : Runs start 0 items stage ts
  pub closed : stage.place ≡ Blocks
  pub ended : open_of stage.seen ≡ None

abbrev pub Refuses : List ℕ → FormatFault → Type 0
Refuses bytes f = (ts : List Taking) × EndsOf bytes ts (Some f)

-- what an archive holds, each in order of the bytes: the metadata texts, the documents, and the namespaces that were ended
abbrev pub texts_in : List Taking → List (NsName × List ℕ)
texts_in [] = []
texts_in (meta n t ∷ ts) = (n, t) ∷ texts_in ts
texts_in (doc n b ∷ ts) = texts_in ts
texts_in (end n ∷ ts) = texts_in ts

abbrev pub documents_in : List Taking → List (NsName × List ℕ)
documents_in [] = []
documents_in (meta n t ∷ ts) = documents_in ts
documents_in (doc n b ∷ ts) = (n, b) ∷ documents_in ts
documents_in (end n ∷ ts) = documents_in ts

abbrev pub ends_in : List Taking → List NsName
ends_in [] = []
ends_in (meta n t ∷ ts) = ends_in ts
ends_in (doc n b ∷ ts) = ends_in ts
ends_in (end n ∷ ts) = n ∷ ends_in ts

-- the documents of one namespace
abbrev pub documents_of : NsName → List Taking → List (List ℕ)
documents_of n ts = map (λ e. e.1) (filter (λ e. same_ns e.0 n) (documents_in ts))
