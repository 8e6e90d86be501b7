-- An archive as it is written: blocks and ends one after the other, each with its text, and what they hand out.
use Rattle.std.specs.Prelude.{⊤, ℕ, ◌≡◌, ◌<◌, List, [], ◌∷◌, ◌++◌, map, flat_map, Bool, true, false, None, FitsSigned, if◌then◌else◌}
use Rattle.std.specs.Int.{w32}
use Rattle.std.specs.Str.{is_utf8}
use Rattle.std.specs.List.{list_any}
use Rattle.bson_value.specs.declared.namespace.NsName.{NsName}
use Rattle.archive_format.specs.Crc.{crc_start, crc_on}
use Rattle.archive_format.specs.Shapes.{Header, Metadata, is_namespace, is_oplog}
use Rattle.archive_format.specs.Archive.{Taking, meta, doc, end, same_ns, IsItem, document, fault_in}
use Rattle.archive_format.specs.Written.{prelude_text, block_text, end_text, joined, AreTexts, HeadFits, MetaFits, HeaderFits}

-- documents of a namespace, or its end
pub data Piece : Type 0 where
  Block : NsName → List (List ℕ) → Piece
  End : NsName → Piece

-- the documents of a namespace in a piece, and whether it is its end
abbrev pub documents_in : NsName → Piece → List (List ℕ)
documents_in n (Block m ds) = if same_ns m n then ds else []
documents_in n (End m) = []

abbrev pub is_end : NsName → Piece → Bool
is_end n (Block m ds) = false
is_end n (End m) = same_ns m n

abbrev pub has_ended : NsName → List Piece → Bool
has_ended n ps = list_any (is_end n) ps

-- the sum of a namespace's documents, before its last inversion
abbrev pub sum_on : NsName → ℕ → List Piece → ℕ
sum_on n r [] = r
sum_on n r (p ∷ ps) = sum_on n (crc_on r (joined (documents_in n p))) ps

abbrev pub sum_of : NsName → List Piece → ℕ
sum_of n ps = sum_on n crc_start ps

-- the text of a piece behind others
abbrev pub piece_text : List Piece → Piece → List ℕ
piece_text before (Block n ds) = block_text n ds
piece_text before (End n) = end_text n (sum_of n before)

abbrev pub pieces_text : List Piece → List Piece → List ℕ
pieces_text before [] = []
pieces_text before (p ∷ ps) = piece_text before p ++ pieces_text (before ++ p ∷ []) ps

abbrev pub takings_of : Piece → List Taking
takings_of (Block n ds) = map (λ d. doc n d) ds
takings_of (End n) = end n ∷ []

abbrev pub all_takings : List Piece → List Taking
all_takings ps = flat_map takings_of ps

-- ---- what may be written

-- a name that a header can have
pub record IsNamed (n : NsName) : Type 0 where
  pub texts : AreTexts n
  pub fits : HeadFits n
  pub named : is_namespace n ≡ true

abbrev pub AreSound : List (List ℕ) → Type 0
AreSound [] = ⊤
AreSound (b ∷ bs) = IsItem (document b) × (fault_in b ≡ None) × AreSound bs

-- bytes
abbrev pub AreBytes : List ℕ → Type 0
AreBytes [] = ⊤
AreBytes (b ∷ bs) = (b < 256) × AreBytes bs

abbrev pub AllBytes : List (List ℕ) → Type 0
AllBytes [] = ⊤
AllBytes (d ∷ ds) = AreBytes d × AllBytes ds

-- documents of BSON, at least one, of a namespace that wasn't ended; or its end
abbrev pub MayFollow : List Piece → Piece → Type 0
MayFollow before (Block n []) = ⊥
MayFollow before (Block n (d ∷ ds)) = IsNamed n × (has_ended n before ≡ false) × AreSound (d ∷ ds) × AllBytes (d ∷ ds)
MayFollow before (End n) = IsNamed n × (has_ended n before ≡ false)

abbrev pub AllMayFollow : List Piece → List Piece → Type 0
AllMayFollow before [] = ⊤
AllMayFollow before (p ∷ ps) = MayFollow before p × AllMayFollow (before ++ p ∷ []) ps

-- a piece is of the namespace
abbrev pub is_of : NsName → Piece → Bool
is_of n (Block m ds) = same_ns m n
is_of n (End m) = same_ns m n

-- every namespace has its end
abbrev pub AreEnded : List Piece → Type 0
AreEnded ps = (n : NsName) → list_any (is_of n) ps ≡ true → has_ended n ps ≡ true

-- ---- the prelude

pub record IsHeader (h : Header) : Type 0 where
  pub server : is_utf8 h.server ≡ true
  pub tool : is_utf8 h.tool ≡ true
  pub number : FitsSigned w32 h.concurrent
  pub fits : HeaderFits h

pub record IsMeta (m : Metadata) : Type 0 where
  pub texts : AreTexts m.ns
  pub text : is_utf8 m.text ≡ true
  pub fits : MetaFits m
  pub named : is_namespace m.ns ≡ true
  pub other : is_oplog m.ns ≡ false

-- no namespace twice, and none the oplog
abbrev pub AreMetas : List NsName → List Metadata → Type 0
AreMetas before [] = ⊤
AreMetas before (m ∷ ms) = IsMeta m × (list_any (λ k. same_ns k m.ns) before ≡ false) × AreMetas (before ++ m.ns ∷ []) ms

abbrev pub meta_taking : Metadata → Taking
meta_taking m = meta m.ns m.text

-- ---- the whole

abbrev pub archive_text : Header → List Metadata → List Piece → List ℕ
archive_text h ms ps = prelude_text h ms ++ pieces_text [] ps
