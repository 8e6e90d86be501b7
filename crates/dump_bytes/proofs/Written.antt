-- All that a dump writes is of bytes.
use Rattle.std.proofs.Common.{◌≡◌, ℕ, List, [], ◌∷◌, ◌++◌, Bool, true, false, refl, sym, subst, arith, map as each}
use Rattle.std.specs.Prelude.{ℤ, pos, codes}
use Rattle.std.specs.Int.{w64, cast_signed}
use Rattle.std.specs.Str.{is_utf8}
use Rattle.bson_value.specs.declared.namespace.NsName.{NsName}
use Rattle.bson_value.specs.declared.value.Value.{Value, Str, Int, Long, Bool as Truth}
use Rattle.bson_value.specs.Spelling.{spelling, document_text}
use Rattle.bson_value.specs.WellFormed.{IsWellFormedDocument}
use Rattle.bson_value.proofs.WellFormed.{formed_str, formed_int, formed_bool}
use Rattle.spelled_bytes.specs.Laws.{DocumentsAreBytes}
use Rattle.spelled_bytes.proofs.Runs.{Bytes, by_recursion}
use Rattle.spelled_bytes.proofs.Texts.{text_bytes}
use Rattle.spelled_bytes.proofs.Spelled.{IsTyped, IsSpelledField, spelled, document_bytes, long_typed}
use Rattle.coll_state.specs.Rows.{Row, Rows}
use Rattle.archive_format.specs.Archive.{magic_bytes, stop_bytes}
use Rattle.archive_format.specs.Crc.{crc_end}
use Rattle.archive_format.specs.Shapes.{Metadata, concurrent_name, version_name, server_name, tool_name, db_name, collection_name, metadata_name, eof_name, crc_name, format_version}
use Rattle.archive_format.specs.Written.{size_name, type_name, header_fields, meta_fields, head_fields, header_text, meta_text, head_text, metas_text, prelude_text, joined, AreTexts}
use Rattle.archive_content.specs.Pieces.{Piece, Block, End, AreBytes, AllBytes, AreMetas, sum_of, pieces_text}
use Rattle.entry_documents.proofs.Documents.{a_text}
use Rattle.state_model.specs.States.{State}
use Rattle.entry_model.specs.Spelling.{entry_fields}
use Rattle.history_model.specs.Entries.{OplogEntry, entry_at, entry_bytes}
use Rattle.history_model.specs.Runs.{Step, Documents, Entries, run}
use Rattle.history_model.specs.Histories.{reads, sent_in}
use Rattle.history_model.specs.Laws.{DoneIsHealedBefore}
use Rattle.dump_model.specs.Archives.{header, oplog, block_of, end_of, document_texts, pieces_of, all_pieces, metas_of}
use Rattle.recorded_entries.specs.Kept.{AreKeptRows}
use Rattle.recorded_entries.specs.Laws.{RecordedIsGood}
use Rattle.dump_steps.specs.Steps.{AreStepsOf, AllStand}
use Rattle.dump_steps.specs.Laws.{StepsFollow}
use Rattle.dump_steps.proofs.DumpRuns.{lines_formed}
use Rattle.dump_content.specs.Laws.{AreMetaTexts, start_state}
use Rattle.dump_content.proofs.Metas.{are_metas}
use Rattle.dump_content.proofs.Sound.{EachEntry, IsFine, AreBytePieces, each_join, window_fine}
use Rattle.dump_bytes.specs.Laws.{MetadataFits, WrittenAreBytes}
use Rattle.dump_bytes.proofs.Entries.{entry_formed}

bytes_are : (bs : List ℕ) → Bytes bs → AreBytes bs
bytes_are [] h = tt
bytes_are (b ∷ bs) h = (h.0, bytes_are bs h.1)

bytes_join : (a b : List ℕ) → AreBytes a → AreBytes b → AreBytes (a ++ b)
bytes_join [] b h g = g
bytes_join (x ∷ a) b h g = (h.0, bytes_join a b h.1 g)

-- ---- fields of the documents of an archive

word : (name : List ℕ) → is_utf8 name ≡ true → (v : Value) → IsTyped (spelling v) → IsSpelledField (name, v)
word name u v h = (text_bytes name u, h)

string : (t : List ℕ) → is_utf8 t ≡ true → IsTyped (spelling (Str t))
string t u = spelled (Str t) (formed_str t u)

head_bytes : (n : NsName) (b : Bool) (z : ℤ) → AreTexts n → AreBytes (head_text n b z)
unfolding head_text
head_bytes n b z t =
    bytes_are (document_text (head_fields n b z)) (document_bytes (head_fields n b z) (
      word db_name (a_text db_name refl) (Str n.db) (string n.db t.0),
      (
        word collection_name (a_text collection_name refl) (Str n.coll) (string n.coll t.1),
        (
          word eof_name (a_text eof_name refl) (Truth b) (spelled (Truth b) (formed_bool b)),
          (word crc_name (a_text crc_name refl) (Long z) (long_typed z), tt),
        ),
      ),
    ))

meta_bytes : (m : Metadata) → AreTexts m.ns → is_utf8 m.text ≡ true → AreBytes (meta_text m)
unfolding meta_text
meta_bytes m t u =
    bytes_are (document_text (meta_fields m)) (document_bytes (meta_fields m) (
      word db_name (a_text db_name refl) (Str m.ns.db) (string m.ns.db t.0),
      (
        word collection_name (a_text collection_name refl) (Str m.ns.coll) (string m.ns.coll t.1),
        (
          word metadata_name (a_text metadata_name refl) (Str m.text) (string m.text u),
          (
            word size_name (a_text size_name refl) (Int (pos 0)) (spelled (Int (pos 0)) (formed_int (pos 0) (omega arith))),
            (word type_name (a_text type_name refl) (Str (codes "collection")) (string (codes "collection") (a_text (codes "collection") refl)), tt),
          ),
        ),
      ),
    ))

header_bytes : AreBytes (header_text header)
unfolding header_text
header_bytes =
    bytes_are (document_text (header_fields header)) (document_bytes (header_fields header) (
      word concurrent_name (a_text concurrent_name refl) (Int (pos 1)) (spelled (Int (pos 1)) (formed_int (pos 1) (omega arith))),
      (
        word version_name (a_text version_name refl) (Str format_version) (string format_version (a_text format_version refl)),
        (
          word server_name (a_text server_name refl) (Str (codes "0.0.0")) (string (codes "0.0.0") (a_text (codes "0.0.0") refl)),
          (word tool_name (a_text tool_name refl) (Str (codes "0.0.0")) (string (codes "0.0.0") (a_text (codes "0.0.0") refl)), tt),
        ),
      ),
    ))

metas_bytes : (before : List NsName) (ms : List Metadata) → AreMetas before ms → AreBytes (metas_text ms)
metas_bytes before [] h = tt
metas_bytes before (m ∷ ms) h = let k = h.0 in bytes_join (meta_text m) (metas_text ms) (meta_bytes m k.texts k.text) (metas_bytes (before ++ m.ns ∷ []) ms h.2)

stop : AreBytes stop_bytes
stop = (omega arith, (omega arith, (omega arith, (omega arith, tt))))

magic : AreBytes magic_bytes
magic = (omega arith, (omega arith, (omega arith, (omega arith, tt))))

prelude_bytes : (ms : List Metadata) → AreMetas [] ms → AreBytes (prelude_text header ms)
prelude_bytes ms h =
    bytes_join (magic_bytes ++ header_text header ++ metas_text ms) stop_bytes
    (bytes_join (magic_bytes ++ header_text header) (metas_text ms) (bytes_join magic_bytes (header_text header) magic header_bytes) (metas_bytes [] ms h)) stop

-- ---- pieces

joined_bytes : (ds : List (List ℕ)) → AllBytes ds → AreBytes (joined ds)
joined_bytes [] h = tt
joined_bytes (d ∷ ds) h = bytes_join d (joined ds) h.0 (joined_bytes ds h.1)

pieces_bytes : (before ps : List Piece) → AllStand before ps → AreBytePieces ps → AreBytes (pieces_text before ps)
pieces_bytes before [] a h = tt
pieces_bytes before (Block n [] ∷ ps) a h = absurd a.0
pieces_bytes before (Block n (d ∷ ds) ∷ ps) a h =
    let named = a.0.0 in
    let head = head_text n false (pos 0) in
    let docs = joined (d ∷ ds) in
    bytes_join (head ++ docs ++ stop_bytes) (pieces_text (before ++ Block n (d ∷ ds) ∷ []) ps)
    (bytes_join (head ++ docs) stop_bytes (bytes_join head docs (head_bytes n false (pos 0) named.texts) (joined_bytes (d ∷ ds) h.0)) stop)
    (pieces_bytes (before ++ Block n (d ∷ ds) ∷ []) ps a.1 h.1)
pieces_bytes before (End n ∷ ps) a h =
    let named = a.0.0 in
    let z = cast_signed w64 (crc_end (sum_of n before)) in
    bytes_join (head_text n true z ++ stop_bytes) (pieces_text (before ++ End n ∷ []) ps) (bytes_join (head_text n true z) stop_bytes (head_bytes n true z named.texts) stop) (pieces_bytes (before ++ End n ∷ []) ps a.1 h)

pieces_join : (ps qs : List Piece) → AreBytePieces ps → AreBytePieces qs → AreBytePieces (ps ++ qs)
pieces_join [] qs h g = g
pieces_join (Block n ds ∷ ps) qs h g = (h.0, pieces_join ps qs h.1 g)
pieces_join (End n ∷ ps) qs h g = pieces_join ps qs h g

block_bytes : (n : NsName) (ts : List (List ℕ)) (b : Bool) → AllBytes ts → AreBytePieces (block_of n ts ++ end_of n b)
block_bytes n ts b h = pieces_join (block_of n ts) (end_of n b) (blocks ts h) (ends b)
  where
    blocks : (us : List (List ℕ)) → AllBytes us → AreBytePieces (block_of n us)
    blocks [] g = tt
    blocks (u ∷ us) g = (g, tt)

    ends : (c : Bool) → AreBytePieces (end_of n c)
    ends true = tt
    ends false = tt

-- ---- documents and entries

module _ (documents : DocumentsAreBytes) where
  text_of_document : (d : List (List ℕ × Value)) → IsWellFormedDocument d → AreBytes (document_text d)
  text_of_document d h = bytes_are (document_text d) (by_recursion (document_text d) (documents d h))

  rows_bytes : (rs : List Row) → AreKeptRows rs → AllBytes (document_texts rs)
  rows_bytes [] h = tt
  rows_bytes (w ∷ ws) h = let g = h.0.1 in (text_of_document w.document g.formed, rows_bytes ws h.1)

  entries_bytes : (es : List OplogEntry) → EachEntry IsFine es → AllBytes (each entry_bytes es)
  unfolding entry_bytes
  entries_bytes [] h = tt
  entries_bytes (e ∷ es) h = (text_of_document (entry_fields (entry_at e.ts e.content)) (entry_formed e.ts e.content h.0.1 h.0.0), entries_bytes es h.1)

  steps_bytes : (r : Rows) (ss : List Step) → AreStepsOf r ss → EachEntry IsFine (sent_in ss) → AreBytePieces (all_pieces ss)
  steps_bytes r [] h f = tt
  steps_bytes r (Documents n rs ended ∷ ss) h f = pieces_join (pieces_of (Documents n rs ended)) (all_pieces ss) (block_bytes n (document_texts rs) ended (rows_bytes rs h.1)) (steps_bytes r ss h.3 f)
  steps_bytes r (Entries es last ∷ ss) h f =
      let g = each_join IsFine es (sent_in ss) f in
      pieces_join (pieces_of (Entries es last)) (all_pieces ss) (block_bytes oplog (each entry_bytes es) last (entries_bytes es g.0)) (steps_bytes r ss h g.1)

  pub written_bytes : MetadataFits → StepsFollow → DoneIsHealedBefore → RecordedIsGood → WrittenAreBytes
  written_bytes fits follow healed recorded s w done times =
      let f = follow s w done in
      let h = healed s (lines_formed s.lines w) done in
      let ms = metas_of (start_state s) in
      let ps = all_pieces (reads s) in
      let texts = subst (λ (x : State). AreMetaTexts (metas_of x)) (sym f.at_start) (fits s w done) in
      let metas : AreMetas [] ms = subst (λ (x : State). AreMetas [] (metas_of x)) f.at_start (are_metas f.rows f.kept texts) in
      let fine = subst (EachEntry IsFine) (sym h.sent) (window_fine (run s) h.start h.last (recorded s w) times) in
      bytes_join (prelude_text header ms) (pieces_text [] ps) (prelude_bytes ms metas) (pieces_bytes [] ps f.stand (steps_bytes f.rows (reads s) f.steps fine))
