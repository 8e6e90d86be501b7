-- The texts in the pieces of a dump are documents, of bytes.
use Rattle.std.proofs.Common.{◌≡◌, ℕ, ◌+◌, ◌≤◌, List, [], ◌∷◌, ◌++◌, length, Bool, true, false, sym, ap, ◌∙◌, arith, None}
use Rattle.std.specs.Prelude.{⊤, ◌&&◌, map as each, filter, pos, Ok, if◌then◌else◌}
use Rattle.std.specs.Result.{result_err}
use Rattle.std.proofs.lemmas.List.{length-append}
use Rattle.bson_value.specs.declared.value.Ts.{Ts}
use Rattle.bson_value.specs.Spelling.{framed, elements_of, document_text}
use Rattle.bson_value.specs.declared.namespace.NsName.{NsName}
use Rattle.coll_state.specs.Rows.{Document, Row, Rows}
use Rattle.archive_format.specs.Archive.{IsItem, document, number, fields_of, fault_in}
use Rattle.archive_format.specs.Written.{joined, head_text, block_text}
use Rattle.archive_format.specs.Archive.{stop_bytes}
use Rattle.archive_content.specs.Pieces.{Piece, Block, End, AreSound, AreBytes, AllBytes, AllMayFollow, piece_text, pieces_text}
use Rattle.entry_model.specs.Spelling.{entry_fields}
use Rattle.entry_documents.specs.Laws.{FitsStamp}
use Rattle.history_model.specs.Entries.{OplogEntry, entry_bytes, entry_at}
use Rattle.history_model.specs.Stages.{Made, entry_of, not_later}
use Rattle.history_model.specs.Runs.{Step, Documents, Entries, Run, entries_from, window}
use Rattle.history_model.specs.Histories.{sent_in}
use Rattle.history_model.specs.Recordings.{EachMade}
use Rattle.dump_model.specs.Archives.{oplog, block_of, end_of, document_texts, pieces_of, all_pieces}
use Rattle.recorded_entries.specs.Good.{IsGood}
use Rattle.recorded_entries.specs.Kept.{AreKeptRows}
use Rattle.entry_bytes.proofs.Decoded.{documents_are_read, entries_are_read, entry_short}
use Rattle.dump_steps.specs.Steps.{AreStepsOf, AllStand}
use Rattle.archive_content.proofs.Contents.{count_is}

-- ---- a document within the limits is an item

framed_item : (body : List ℕ) → length (framed body) ≤ 16793600 → IsItem (document (framed body))
unfolding number
framed_item body l =
    let n : length (framed body) ≡ length body + 5 = omega (arith, length-append body (0 ∷ [])) in
    (omega (arith, n), l, count_is (length body + 5) (omega (arith, n)) ∙ sym n)

read_short : (fs d : Document) → fields_of (document_text fs) ≡ Ok d → length (document_text fs) ≤ 16793600 → IsItem (document (document_text fs)) × (fault_in (document_text fs) ≡ None)
unfolding fault_in
read_short fs d e l = (framed_item (elements_of fs) l, ap result_err e)

-- ---- documents, and entries

pub texts_sound : (rs : List Row) → AreKeptRows rs → AreSound (document_texts rs)
texts_sound [] h = tt
texts_sound (w ∷ ws) h =
    let g = h.0.1 in
    let s = g.short in
    let r = read_short w.document w.document (documents_are_read h.0.0 w.document g) (omega (arith, s)) in
    (r.0, r.1, texts_sound ws h.1)

-- of each entry
abbrev pub EachEntry : (OplogEntry → Type 0) → List OplogEntry → Type 0
EachEntry P [] = ⊤
EachEntry P (e ∷ es) = P e × EachEntry P es

abbrev pub IsFine : OplogEntry → Type 0
IsFine e = IsGood e.content × FitsStamp e.ts

entry_sound : (e : OplogEntry) → IsFine e → IsItem (document (entry_bytes e)) × (fault_in (entry_bytes e) ≡ None)
unfolding entry_bytes
entry_sound e h = read_short (entry_fields (entry_at e.ts e.content)) (entry_fields (entry_at e.ts e.content)) (entries_are_read e.ts e.content h.1 h.0) (entry_short e.ts e.content h.0)

entries_sound : (es : List OplogEntry) → EachEntry IsFine es → AreSound (each entry_bytes es)
entries_sound [] h = tt
entries_sound (e ∷ es) h = let r = entry_sound e h.0 in (r.0, r.1, entries_sound es h.1)

pub each_join : (P : OplogEntry → Type 0) (xs ys : List OplogEntry) → EachEntry P (xs ++ ys) → EachEntry P xs × EachEntry P ys
each_join P [] ys h = (tt, h)
each_join P (x ∷ xs) ys h = let r = each_join P xs ys h.1 in ((h.0, r.0), r.1)

each_filter : (P : OplogEntry → Type 0) (t : OplogEntry → Bool) (es : List OplogEntry) → EachEntry P es → EachEntry P (filter t es)
each_filter P t [] h = tt
each_filter P t (e ∷ es) h = by (t e) (each_filter P t es h.1)
  where
    by : (b : Bool) → EachEntry P (filter t es) → EachEntry P (if b then e ∷ filter t es else filter t es)
    by true r = (h.0, r)
    by false r = r

made_fine : (ms : List Made) → EachMade (λ m. IsGood m.content) ms → EachMade (λ m. FitsStamp m.ts) ms → EachEntry IsFine (each entry_of ms)
made_fine [] g f = tt
made_fine (m ∷ ms) g f = ((g.0, f.0), made_fine ms g.1 f.1)

pub window_fine : (r : Run) (a b : Ts) → EachMade (λ m. IsGood m.content) r.made → EachMade (λ m. FitsStamp m.ts) r.made → EachEntry IsFine (window a b (entries_from r))
window_fine r a b g f =
    each_filter IsFine (λ (e : OplogEntry). not_later a e.ts && not_later e.ts b) (entries_from r)
    ((tt, record { secs = omega arith; inc = omega arith }), made_fine r.made g f)

-- ---- pieces

abbrev pub IsSoundPiece : Piece → Type 0
IsSoundPiece (Block n ds) = AreSound ds
IsSoundPiece (End n) = ⊤

abbrev pub AreSoundPieces : List Piece → Type 0
AreSoundPieces [] = ⊤
AreSoundPieces (p ∷ ps) = IsSoundPiece p × AreSoundPieces ps

sound_join : (ps qs : List Piece) → AreSoundPieces ps → AreSoundPieces qs → AreSoundPieces (ps ++ qs)
sound_join [] qs a b = b
sound_join (p ∷ ps) qs a b = (a.0, sound_join ps qs a.1 b)

block_sound : (n : NsName) (ts : List (List ℕ)) (b : Bool) → AreSound ts → AreSoundPieces (block_of n ts ++ end_of n b)
block_sound n ts b h = sound_join (block_of n ts) (end_of n b) (blocks ts h) (ends b)
  where
    blocks : (us : List (List ℕ)) → AreSound us → AreSoundPieces (block_of n us)
    blocks [] g = tt
    blocks (u ∷ us) g = (g, tt)

    ends : (c : Bool) → AreSoundPieces (end_of n c)
    ends true = (tt, tt)
    ends false = tt

pub steps_sound : (r : Rows) (ss : List Step) → AreStepsOf r ss → EachEntry IsFine (sent_in ss) → AreSoundPieces (all_pieces ss)
steps_sound r [] h f = tt
steps_sound r (Documents n rs ended ∷ ss) h f = sound_join (pieces_of (Documents n rs ended)) (all_pieces ss) (block_sound n (document_texts rs) ended (texts_sound rs h.1)) (steps_sound r ss h.3 f)
steps_sound r (Entries es last ∷ ss) h f =
    let g = each_join IsFine es (sent_in ss) f in
    sound_join (pieces_of (Entries es last)) (all_pieces ss) (block_sound oplog (each entry_bytes es) last (entries_sound es g.0)) (steps_sound r ss h g.1)

-- ---- bytes

pub bytes_join : (xs ys : List ℕ) → AreBytes (xs ++ ys) → AreBytes xs × AreBytes ys
bytes_join [] ys h = (tt, h)
bytes_join (x ∷ xs) ys h = let r = bytes_join xs ys h.1 in ((h.0, r.0), r.1)

all_bytes : (ds : List (List ℕ)) → AreBytes (joined ds) → AllBytes ds
all_bytes [] h = tt
all_bytes (d ∷ ds) h = let r = bytes_join d (joined ds) h in (r.0, all_bytes ds r.1)

abbrev pub AreBytePieces : List Piece → Type 0
AreBytePieces [] = ⊤
AreBytePieces (Block n ds ∷ ps) = AllBytes ds × AreBytePieces ps
AreBytePieces (End n ∷ ps) = AreBytePieces ps

pub byte_pieces : (before ps : List Piece) → AreBytes (pieces_text before ps) → AreBytePieces ps
byte_pieces before [] h = tt
byte_pieces before (Block n [] ∷ ps) h = (tt, byte_pieces (before ++ Block n [] ∷ []) ps h)
byte_pieces before (Block n (d ∷ ds) ∷ ps) h =
    let a = bytes_join (block_text n (d ∷ ds)) (pieces_text (before ++ Block n (d ∷ ds) ∷ []) ps) h in
    let b = bytes_join (head_text n false (pos 0) ++ joined (d ∷ ds)) stop_bytes a.0 in
    let c = bytes_join (head_text n false (pos 0)) (joined (d ∷ ds)) b.0 in
    (all_bytes (d ∷ ds) c.1, byte_pieces (before ++ Block n (d ∷ ds) ∷ []) ps a.1)
byte_pieces before (End n ∷ ps) h = byte_pieces (before ++ End n ∷ []) ps (bytes_join (piece_text before (End n)) (pieces_text (before ++ End n ∷ []) ps) h).1

pub may_follow : (before ps : List Piece) → AllStand before ps → AreSoundPieces ps → AreBytePieces ps → AllMayFollow before ps
may_follow before [] a s b = tt
may_follow before (Block n [] ∷ ps) a s b = absurd a.0
may_follow before (Block n (d ∷ ds) ∷ ps) a s b = ((a.0.0, a.0.1, s.0, b.0), may_follow (before ++ Block n (d ∷ ds) ∷ []) ps a.1 s.1 b.1)
may_follow before (End n ∷ ps) a s b = (a.0, may_follow (before ++ End n ∷ []) ps a.1 s.1 b)
