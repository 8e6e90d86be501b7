-- How many documents the pieces of an archive have, and how long they are.
use Rattle.std.proofs.Common.{◌≡◌, ℕ, ◌+◌, ◌*◌, ◌≤◌, List, [], ◌∷◌, ◌++◌, length, Bool, true, false, refl, arith, map as each}
use Rattle.std.proofs.lemmas.List.{length-append, length-map}
use Rattle.std.specs.Prelude.{⊤, pos}
use Rattle.std.specs.Int.{w64, cast_signed}
use Rattle.bson_value.specs.declared.namespace.NsName.{NsName}
use Rattle.bson_value.specs.Spelling.{document_text}
use Rattle.coll_state.specs.Rows.{Row, Rows}
use Rattle.archive_format.specs.Archive.{stop_bytes}
use Rattle.archive_format.specs.Crc.{crc_end}
use Rattle.archive_format.specs.Shapes.{Metadata}
use Rattle.archive_format.specs.Written.{head_text, meta_text, metas_text, joined}
use Rattle.archive_format.proofs.Spelled.{head_size, meta_size}
use Rattle.archive_content.specs.Pieces.{Piece, Block, End, sum_of, pieces_text}
use Rattle.entry_bytes.proofs.Decoded.{entry_short}
use Rattle.history_model.specs.Entries.{OplogEntry, entry_bytes}
use Rattle.history_model.specs.Runs.{Step, Documents, Entries}
use Rattle.history_model.specs.Histories.{documents_in, sent_in}
use Rattle.dump_model.specs.Archives.{oplog, block_of, end_of, document_texts, pieces_of, all_pieces}
use Rattle.recorded_entries.specs.Kept.{AreKeptRows}
use Rattle.dump_steps.specs.Steps.{AreStepsOf, AllStand}
use Rattle.dump_content.specs.Laws.{AreMetaTexts}
use Rattle.archive_length.proofs.Ends.{ends_in}
use Rattle.dump_content.proofs.Sound.{EachEntry, IsFine, each_join}

-- ---- documents

abbrev pub documents_of : List Piece → ℕ
documents_of [] = 0
documents_of (Block n ds ∷ ps) = length ds + documents_of ps
documents_of (End n ∷ ps) = documents_of ps

documents_join : (ps qs : List Piece) → documents_of (ps ++ qs) ≡ documents_of ps + documents_of qs
documents_join [] qs = omega arith
documents_join (Block n ds ∷ ps) qs = omega (arith, documents_join ps qs)
documents_join (End n ∷ ps) qs = omega (arith, documents_join ps qs)

block_documents : (n : NsName) (ds : List (List ℕ)) (b : Bool) → documents_of (block_of n ds ++ end_of n b) ≡ length ds
block_documents n [] true = refl
block_documents n [] false = refl
block_documents n (d ∷ ds) true = omega arith
block_documents n (d ∷ ds) false = omega arith

pub documents_are : (ss : List Step) → documents_of (all_pieces ss) ≡ documents_in ss + length (sent_in ss)
documents_are [] = refl
documents_are (Documents n rs b ∷ ss) = omega (arith, documents_join (pieces_of (Documents n rs b)) (all_pieces ss), block_documents n (document_texts rs) b, length-map rs (λ (r : Row). document_text r.document), documents_are ss)
documents_are (Entries es b ∷ ss) = omega (arith, documents_join (pieces_of (Entries es b)) (all_pieces ss), block_documents oplog (each entry_bytes es) b, length-map es entry_bytes, documents_are ss, length-append es (sent_in ss))

-- ---- bytes

abbrev AllShort : List (List ℕ) → Type 0
AllShort [] = ⊤
AllShort (d ∷ ds) = (length d ≤ 16793600) × AllShort ds

abbrev AreShortPieces : List Piece → Type 0
AreShortPieces [] = ⊤
AreShortPieces (Block n ds ∷ ps) = AllShort ds × AreShortPieces ps
AreShortPieces (End n ∷ ps) = AreShortPieces ps

joined_length : (ds : List (List ℕ)) → AllShort ds → length (joined ds) ≤ 16793600 * length ds
joined_length [] h = omega arith
joined_length (d ∷ ds) h = omega (arith, length-append d (joined ds), h.0, joined_length ds h.1)

-- a document, and the header before it or of an end with its terminator
pub pieces_length : (before ps : List Piece) → AllStand before ps → AreShortPieces ps → length (pieces_text before ps) ≤ 33587204 * documents_of ps + 16793604 * ends_in ps
pieces_length before [] a h = omega arith
pieces_length before (Block n [] ∷ ps) a h = absurd a.0
pieces_length before (Block n (d ∷ ds) ∷ ps) a h =
    let named = a.0.0 in
    let head = head_text n false (pos 0) in
    let docs = joined (d ∷ ds) in
    let fits = named.fits in
    omega (
      arith,
      length-append (head ++ docs ++ stop_bytes) (pieces_text (before ++ Block n (d ∷ ds) ∷ []) ps),
      length-append (head ++ docs) stop_bytes,
      length-append head docs,
      head_size n false (pos 0),
      fits,
      joined_length (d ∷ ds) h.0,
      pieces_length (before ++ Block n (d ∷ ds) ∷ []) ps a.1 h.1,
    )
pieces_length before (End n ∷ ps) a h =
    let named = a.0.0 in
    let fits = named.fits in
    let z = cast_signed w64 (crc_end (sum_of n before)) in
    omega (arith, length-append (head_text n true z ++ stop_bytes) (pieces_text (before ++ End n ∷ []) ps), length-append (head_text n true z) stop_bytes, head_size n true z, fits, pieces_length (before ++ End n ∷ []) ps a.1 h)

short_join : (ps qs : List Piece) → AreShortPieces ps → AreShortPieces qs → AreShortPieces (ps ++ qs)
short_join [] qs h g = g
short_join (Block n ds ∷ ps) qs h g = (h.0, short_join ps qs h.1 g)
short_join (End n ∷ ps) qs h g = short_join ps qs h g

block_short : (n : NsName) (ts : List (List ℕ)) (b : Bool) → AllShort ts → AreShortPieces (block_of n ts ++ end_of n b)
block_short n [] true h = tt
block_short n [] false h = tt
block_short n (t ∷ ts) true h = (h, tt)
block_short n (t ∷ ts) false h = (h, tt)

rows_short : (rs : List Row) → AreKeptRows rs → AllShort (document_texts rs)
rows_short [] h = tt
rows_short (w ∷ ws) h = (let g = h.0.1 in let s = g.short in (omega (arith, s), rows_short ws h.1))

entries_short : (es : List OplogEntry) → EachEntry IsFine es → AllShort (each entry_bytes es)
unfolding entry_bytes
entries_short [] h = tt
entries_short (e ∷ es) h = (entry_short e.ts e.content h.0.0, entries_short es h.1)

pub steps_short : (r : Rows) (ss : List Step) → AreStepsOf r ss → EachEntry IsFine (sent_in ss) → AreShortPieces (all_pieces ss)
steps_short r [] h f = tt
steps_short r (Documents n rs b ∷ ss) h f = short_join (pieces_of (Documents n rs b)) (all_pieces ss) (block_short n (document_texts rs) b (rows_short rs h.1)) (steps_short r ss h.3 f)
steps_short r (Entries es b ∷ ss) h f =
    let g = each_join IsFine es (sent_in ss) f in
    short_join (pieces_of (Entries es b)) (all_pieces ss) (block_short oplog (each entry_bytes es) b (entries_short es g.0)) (steps_short r ss h g.1)

pub metas_length : (ms : List Metadata) → AreMetaTexts ms → length (metas_text ms) ≤ 16793600 * length ms
metas_length [] h = omega arith
metas_length (m ∷ ms) h = (let t = h.1 in omega (arith, length-append (meta_text m) (metas_text ms), meta_size m, t, metas_length ms h.2))
