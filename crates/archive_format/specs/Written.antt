-- What is written of an archive: the documents that stand beside those of the collections, the prelude and the blocks.
use Rattle.std.specs.Prelude.{ℕ, ℤ, pos, ◌≡◌, ◌+◌, ◌≤◌, List, [], ◌∷◌, ◌++◌, length, flat_map, Bool, true, false, codes}
use Rattle.std.specs.Int.{w64, cast_signed}
use Rattle.std.specs.Str.{is_utf8}
use Rattle.bson_value.specs.Spelling.{document_text}
use Rattle.bson_value.specs.declared.namespace.NsName.{NsName}
use Rattle.bson_value.specs.declared.value.Value.{Value}
use Rattle.bson_value.specs.declared.value.Value.TheVariants.{Str, Int, Long, Bool as Truth}
use Rattle.archive_format.specs.Crc.{crc_start, crc_on, crc_end}
use Rattle.archive_format.specs.Archive.{magic_bytes, stop_bytes}
use Rattle.archive_format.specs.Shapes.{Header, Metadata, concurrent_name, version_name, server_name, tool_name, db_name, collection_name, metadata_name, eof_name, crc_name, format_version}

-- ---- the prelude

abbrev pub size_name : List ℕ
size_name = codes "size"

abbrev pub type_name : List ℕ
type_name = codes "type"

abbrev pub header_fields : Header → List (List ℕ × Value)
header_fields h = (concurrent_name, Int h.concurrent) ∷ (version_name, Str format_version) ∷ (server_name, Str h.server) ∷ (tool_name, Str h.tool) ∷ []

abbrev pub meta_fields : Metadata → List (List ℕ × Value)
meta_fields m = (db_name, Str m.ns.db) ∷ (collection_name, Str m.ns.coll) ∷ (metadata_name, Str m.text) ∷ (size_name, Int (pos 0)) ∷ (type_name, Str (codes "collection")) ∷ []

unfoldable pub header_text : Header → List ℕ
header_text h = document_text (header_fields h)

unfoldable pub meta_text : Metadata → List ℕ
meta_text m = document_text (meta_fields m)

abbrev pub metas_text : List Metadata → List ℕ
metas_text ms = flat_map meta_text ms

-- the magic number, the header, the metadata documents, and a terminator
abbrev pub prelude_text : Header → List Metadata → List ℕ
prelude_text h ms = magic_bytes ++ header_text h ++ metas_text ms ++ stop_bytes

-- ---- blocks

abbrev pub head_fields : NsName → Bool → ℤ → List (List ℕ × Value)
head_fields ns eof crc = (db_name, Str ns.db) ∷ (collection_name, Str ns.coll) ∷ (eof_name, Truth eof) ∷ (crc_name, Long crc) ∷ []

-- the header of a block, or of a namespace's end with the checksum
unfoldable pub head_text : NsName → Bool → ℤ → List ℕ
head_text ns eof crc = document_text (head_fields ns eof crc)

-- these bytes one after the other
abbrev pub joined : List (List ℕ) → List ℕ
joined ds = flat_map (λ d. d) ds

-- documents of a namespace behind their header, and a terminator; nothing where there are none
abbrev pub block_text : NsName → List (List ℕ) → List ℕ
block_text ns [] = []
block_text ns (d ∷ ds) = head_text ns false (pos 0) ++ joined (d ∷ ds) ++ stop_bytes

-- the end of a namespace whose documents have this sum, before its last inversion
abbrev pub end_text : NsName → ℕ → List ℕ
end_text ns sum = head_text ns true (cast_signed w64 (crc_end sum)) ++ stop_bytes

-- a namespace of which blocks are written, and the sum of the documents so far
pub record Writing : Type 0 where
  pub ns : NsName
  pub sum : ℕ

abbrev pub begun : NsName → Writing
begun ns = record { ns = ns; sum = crc_start }

-- these documents more
abbrev pub with_documents : Writing → List (List ℕ) → Writing
with_documents w ds = record w { sum = crc_on w.sum (joined ds) }

-- ---- what is read again

-- both names are texts
abbrev pub AreTexts : NsName → Type 0
AreTexts ns = (is_utf8 ns.db ≡ true) × (is_utf8 ns.coll ≡ true)

-- the documents have at most 16,793,600 bytes
abbrev pub HeadFits : NsName → Type 0
HeadFits ns = length ns.db + length ns.coll + 50 ≤ 16793600

abbrev pub MetaFits : Metadata → Type 0
MetaFits m = length m.ns.db + length m.ns.coll + length m.text + 77 ≤ 16793600

abbrev pub HeaderFits : Header → Type 0
HeaderFits h = length h.server + length h.tool + 90 ≤ 16793600
