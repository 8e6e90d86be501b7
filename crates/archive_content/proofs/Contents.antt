-- What is written of an archive is its content.
use Rattle.std.proofs.Common.{◌≡◌, ℕ, ◌+◌, ◌<◌, ◌≤◌, List, [], ◌∷◌, ◌++◌, map, length, Bool, true, false, cond, refl, sym, ap, ◌∙◌, subst, arith, append_assoc, append-nil, length-append, Some, None}
use Rattle.std.specs.Prelude.{⊤, pos, ◌^◌, ◌%◌, ◌/◌, ◌==◌, ◌||◌, flat_map, bit_xor, Result, Ok, Err, if◌then◌else◌}
use Rattle.std.specs.Int.{w32, w64, from_le_bytes, cast_signed}
use Rattle.std.specs.List.{list_any, position_from}
use Rattle.std.specs.Result.{result_err}
use Rattle.std.proofs.lemmas.Nat.{from_le_bytes-to_le_bytes_4, xor_lt}
use Rattle.std.proofs.lemmas.List.Concat.{flat_map-cons, flat_map-append}
use Rattle.bson_value.specs.declared.namespace.NsName.{NsName}
use Rattle.bson_value.specs.declared.value.Value.{Value}
use Rattle.bson_value.specs.Spelling.{framed, count_bytes, elements_of}
use Rattle.bson_check.specs.declared.fault.BsonFault.{BsonFault}
use Rattle.archive_format.specs.declared.place.Place.TheVariants.{Header as AtHeader, Metas}
use Rattle.archive_format.specs.Crc.{polynomial, all_bits, shift, crc_step, crc_start, crc_on, crc_end}
use Rattle.archive_format.specs.Shapes.{Header, Metadata, Shaped}
use Rattle.archive_format.specs.Archive.{Item, magic, document, terminator, text_of, stop_bytes, magic_bytes, Seen, Stage, start, Runs, IsItem, step, step_at, goes, number, fields_of, shaped_in, header_in, metadata_in, head_in, fault_in, header_step, meta_step, same_ns}
use Rattle.archive_format.specs.Written.{metas_text, header_text, meta_text, head_text, header_fields, meta_fields, head_fields, joined}
use Rattle.archive_format.specs.Laws.{HeadsAreRead, MetasAreRead, HeadersAreRead, WrittenSizes}
use Rattle.archive_content.specs.Blocks.{blocks_at}
use Rattle.archive_content.specs.Pieces.{Piece, Block, End, documents_in, sum_on, piece_text, pieces_text, all_takings, IsNamed, AreBytes, AllBytes, MayFollow, AllMayFollow, IsHeader, IsMeta, AreMetas, meta_taking, archive_text}
use Rattle.archive_content.specs.Laws.{WrittenIsContent}
use Rattle.archive_content.proofs.Pieces.{entry, after_piece, items_of, after_pieces, all_items, HeadsRead, MayStand, AllMayStand, pieces_run}
use Rattle.archive_content.proofs.Seats.{Mirrors, mirrors_none, mirrors_more, Listed, listed_none, listed_more, all_closed}
use Rattle.archive_format.proofs.Fold.{runs_append}

-- ---- a document within the limits is an item

pub count_is : (n : ℕ) → n < 2 ^ 32 → from_le_bytes w32 (count_bytes n) ≡ n
count_is n l = from_le_bytes-to_le_bytes_4 (n % (2 ^ 32)) (omega arith) ∙ omega arith

framed_length : (body : List ℕ) → length (framed body) ≡ length body + 5
framed_length body = omega (arith, length-append body (0 ∷ []))

framed_item : (body : List ℕ) → length (framed body) ≤ 16793600 → IsItem (document (framed body))
unfolding number
framed_item body l =
    let n = framed_length body in
    (omega (arith, n), l, count_is (length body + 5) (omega (arith, n)) ∙ sym n)

read_sound : {A : Type 0} (look : List (List ℕ × Value) → Shaped A) (a : A) (r : Result (List (List ℕ × Value)) BsonFault) → shaped_in look r ≡ Some a → result_err r ≡ None
read_sound look a (Ok fs) e = refl
read_sound look a (Err f) e = cc

-- ---- sums are of 64 bits

shift_fits : (r : ℕ) → r < 2 ^ 64 → shift r < 2 ^ 64
unfolding shift
shift_fits r l = by (r % 2 == 1)
  where
    half : r / 2 < 2 ^ 64
    half = omega arith

    by : (b : Bool) → (if b then bit_xor (r / 2) polynomial else r / 2) < 2 ^ 64
    by true = xor_lt 64 (r / 2) polynomial half (omega arith)
    by false = half

step_fits : (r b : ℕ) → r < 2 ^ 64 → b < 256 → crc_step r b < 2 ^ 64
unfolding crc_step
step_fits r b l h =
    shift_fits _ (shift_fits _ (shift_fits _ (shift_fits _ (shift_fits _ (shift_fits _ (shift_fits _ (shift_fits (bit_xor r b) (xor_lt 64 r b l (omega arith)))))))))

on_fits : (r : ℕ) (bs : List ℕ) → r < 2 ^ 64 → AreBytes bs → crc_on r bs < 2 ^ 64
on_fits r [] l h = l
on_fits r (b ∷ bs) l h = on_fits (crc_step r b) bs (step_fits r b l h.0) h.1

end_fits : (r : ℕ) → r < 2 ^ 64 → crc_end r < 2 ^ 64
unfolding crc_end
end_fits r l = xor_lt 64 r all_bits l (omega arith)

bytes_append : (a b : List ℕ) → AreBytes a → AreBytes b → AreBytes (a ++ b)
bytes_append [] b x y = y
bytes_append (n ∷ a) b x y = (x.0, bytes_append a b x.1 y)

joined_bytes : (ds : List (List ℕ)) → AllBytes ds → AreBytes (joined ds)
joined_bytes [] h = tt
joined_bytes (d ∷ ds) h = subst AreBytes (sym (flat_map-cons (λ (x : List ℕ). x) d ds)) (bytes_append d (joined ds) h.0 (joined_bytes ds h.1))

-- of pieces whose documents are bytes
abbrev Spelled : Piece → Type 0
Spelled (Block n ds) = AllBytes ds
Spelled (End n) = ⊤

abbrev AllSpelled : List Piece → Type 0
AllSpelled [] = ⊤
AllSpelled (p ∷ ps) = Spelled p × AllSpelled ps

piece_bytes : (n : NsName) (p : Piece) → Spelled p → AreBytes (joined (documents_in n p))
piece_bytes n (Block m ds) h = by (same_ns m n)
  where
    by : (b : Bool) → AreBytes (joined (if b then ds else []))
    by true = joined_bytes ds h
    by false = tt
piece_bytes n (End m) h = tt

sum_fits : (n : NsName) (r : ℕ) (ps : List Piece) → r < 2 ^ 64 → AllSpelled ps → sum_on n r ps < 2 ^ 64
sum_fits n r [] l h = l
sum_fits n r (p ∷ ps) l h = sum_fits n (crc_on r (joined (documents_in n p))) ps (on_fits r (joined (documents_in n p)) l (piece_bytes n p h.0)) h.1

spelled_more : (ps : List Piece) (p : Piece) → AllSpelled ps → Spelled p → AllSpelled (ps ++ p ∷ [])
spelled_more [] p h s = (s, tt)
spelled_more (q ∷ ps) p h s = (h.0, spelled_more ps p h.1 s)

start_fits : crc_start < 2 ^ 64
start_fits = omega arith

module _ (heads : HeadsAreRead) (headers : HeadersAreRead) (metas : MetasAreRead) (sizes : WrittenSizes) where
  -- ---- blocks and ends

  heads_read : (n : NsName) → IsNamed n → HeadsRead n
  unfolding head_text fault_in head_in
  heads_read n h eof crc fits =
      let read = heads n eof crc h.texts fits h.fits h.named in
      let size : length (framed (elements_of (head_fields n eof crc))) ≡ length n.db + length n.coll + 50 = sizes.0 n eof crc in
      let f = h.fits in
      record {
        item = framed_item (elements_of (head_fields n eof crc)) (omega (arith, size, f));
        sound = read_sound _ _ (fields_of (head_text n eof crc)) read;
        reads = read;
      }

  spelled_piece : (before : List Piece) (p : Piece) → MayFollow before p → Spelled p
  spelled_piece before (Block n []) h = tt
  spelled_piece before (Block n (d ∷ ds)) h = h.3
  spelled_piece before (End n) h = tt

  may_stand : (before : List Piece) (seen : List Seen) (p : Piece) → MayFollow before p → Mirrors before seen → AllSpelled before → MayStand seen p
  may_stand before seen (Block n []) h m s = absurd h
  may_stand before seen (Block n (d ∷ ds)) h m s = (heads_read n h.0, m.ended n ∙ h.1, h.2)
  may_stand before seen (End n) h m s = (heads_read n h.0, m.ended n ∙ h.1, end_fits (entry n seen).sum (subst (λ (r : ℕ). r < 2 ^ 64) (sym (m.sum n)) (sum_fits n crc_start before start_fits s)))

  all_may_stand : (before ps : List Piece) (seen : List Seen) → AllMayFollow before ps → Mirrors before seen → AllSpelled before → AllMayStand seen ps
  all_may_stand before [] seen h m s = tt
  all_may_stand before (p ∷ ps) seen h m s =
      (may_stand before seen p h.0 m s, all_may_stand (before ++ p ∷ []) ps (after_piece seen p) h.1 (mirrors_more before seen p m) (spelled_more before p s (spelled_piece before p h.0)))

  documents_text : (ds : List (List ℕ)) (more : List Item) → flat_map text_of (map document ds ++ more) ≡ joined ds ++ flat_map text_of more
  documents_text [] more = refl
  documents_text (d ∷ ds) more =
      flat_map-cons text_of (document d) (map document ds ++ more)
      ∙ (ap (λ (z : List ℕ). d ++ z) (documents_text ds more)
      ∙ (sym (append_assoc d (joined ds) (flat_map text_of more)) ∙ ap (λ (z : List ℕ). z ++ flat_map text_of more) (sym (flat_map-cons (λ (x : List ℕ). x) d ds))))

  piece_items_text : (before : List Piece) (seen : List Seen) (p : Piece) → MayFollow before p → Mirrors before seen → flat_map text_of (items_of seen p) ≡ piece_text before p
  piece_items_text before seen (Block n []) h m = absurd h
  piece_items_text before seen (Block n (d ∷ ds)) h m =
      let behind : flat_map text_of (map document (d ∷ ds) ++ (terminator ∷ [])) ≡ joined (d ∷ ds) ++ stop_bytes = documents_text (d ∷ ds) (terminator ∷ []) in
      let front : flat_map text_of (items_of seen (Block n (d ∷ ds))) ≡ head_text n false (pos 0) ++ (joined (d ∷ ds) ++ stop_bytes) =
      flat_map-cons text_of (document (head_text n false (pos 0))) (map document (d ∷ ds) ++ (terminator ∷ [])) ∙ ap (λ (z : List ℕ). head_text n false (pos 0) ++ z) behind in
      front ∙ sym (append_assoc (head_text n false (pos 0)) (joined (d ∷ ds)) stop_bytes)
  piece_items_text before seen (End n) h m =
      ap (λ (r : ℕ). flat_map text_of (document (head_text n true (cast_signed w64 (crc_end r))) ∷ (terminator ∷ []))) (m.sum n)

  items_text : (before ps : List Piece) (seen : List Seen) → AllMayFollow before ps → Mirrors before seen → flat_map text_of (all_items seen ps) ≡ pieces_text before ps
  items_text before [] seen h m = refl
  items_text before (p ∷ ps) seen h m =
      flat_map-append text_of (items_of seen p) (all_items (after_piece seen p) ps)
      ∙ (λ i. piece_items_text before seen p h.0 m i ++ items_text (before ++ p ∷ []) ps (after_piece seen p) h.1 (mirrors_more before seen p m) i)

  record Mirrored (ps : List Piece) (seen : List Seen) : Type 0 where
    mirrors : Mirrors ps seen
    listed : Listed ps seen

  after_all : (before ps : List Piece) (seen : List Seen) → Mirrors before seen → Listed before seen → Mirrored (before ++ ps) (after_pieces seen ps)
  after_all before [] seen m l = subst (λ (z : List Piece). Mirrored z seen) (sym (append-nil before)) (record { mirrors = m; listed = l })
  after_all before (p ∷ ps) seen m l =
      subst (λ (z : List Piece). Mirrored z (after_pieces (after_piece seen p) ps)) (append_assoc before (p ∷ []) ps)
      (after_all (before ++ p ∷ []) ps (after_piece seen p) (mirrors_more before seen p m) (listed_more before seen p l))

  -- ---- the prelude

  abbrev at_metas : List NsName → Stage
  at_metas ns = record { place = Metas; metas = ns; seen = [] }

  header_goes : (h : Header) (at : ℕ) → IsHeader h → step (record start { place = AtHeader }) at (document (header_text h)) ≡ goes (at_metas []) []
  unfolding step_at header_step header_in fault_in
  header_goes h at is =
      let read : shaped_in _ (fields_of (header_text h)) ≡ Some h = headers h is.server is.tool is.number is.fits in
      rw (read, read_sound _ _ (fields_of (header_text h)) read) refl

  place_none : (k : ℕ) (n : NsName) (ns : List NsName) → list_any (λ m. same_ns m n) ns ≡ false → position_from (λ m. same_ns m n) k ns ≡ None
  place_none k n [] e = refl
  place_none k n (m ∷ ns) e = by (same_ns m n) e (place_none (k + 1) n ns)
    where
      by : (b : Bool) → (b || list_any (λ m. same_ns m n) ns) ≡ false → (list_any (λ m. same_ns m n) ns ≡ false → position_from (λ m. same_ns m n) (k + 1) ns ≡ None) → cond b (Some k) (position_from (λ m. same_ns m n) (k + 1) ns) ≡ None
      by true f later = cc
      by false f later = later f

  meta_goes : (m : Metadata) (at : ℕ) (before : List NsName) → IsMeta m → list_any (λ k. same_ns k m.ns) before ≡ false → step (at_metas before) at (document (meta_text m)) ≡ goes (at_metas (before ++ m.ns ∷ [])) (meta_taking m ∷ [])
  unfolding step_at meta_step metadata_in fault_in
  meta_goes m at before is apart =
      let read : shaped_in _ (fields_of (meta_text m)) ≡ Some m = metas m is.texts is.text is.fits is.named in
      rw (read, read_sound _ _ (fields_of (meta_text m)) read, is.other, place_none 0 m.ns before apart) refl

  meta_item : (m : Metadata) → IsMeta m → IsItem (document (meta_text m))
  unfolding meta_text
  meta_item m is =
      let s : length (framed (elements_of (meta_fields m))) ≡ length m.ns.db + length m.ns.coll + length m.text + 77 = sizes.1 m in
      let f = is.fits in
      framed_item (elements_of (meta_fields m)) (omega (arith, s, f))

  header_item : (h : Header) → IsHeader h → IsItem (document (header_text h))
  unfolding header_text
  header_item h is =
      let s : length (framed (elements_of (header_fields h))) ≡ length h.server + length h.tool + 90 = sizes.2 h in
      let f = is.fits in
      framed_item (elements_of (header_fields h)) (omega (arith, s, f))

  abbrev names : List NsName → List Metadata → List NsName
  names before [] = before
  names before (m ∷ ms) = names (before ++ m.ns ∷ []) ms

  abbrev meta_items : List Metadata → List Item
  meta_items ms = map (λ (m : Metadata). document (meta_text m)) ms

  metas_run : (ms : List Metadata) (before : List NsName) (at : ℕ) → AreMetas before ms → Runs (at_metas before) at (meta_items ms) (at_metas (names before ms)) (map meta_taking ms)
  metas_run [] before at h = (refl, refl)
  metas_run (m ∷ ms) before at h =
      (at_metas (before ++ m.ns ∷ []), meta_taking m ∷ [], map meta_taking ms, meta_item m h.0, meta_goes m at before h.0 h.1, metas_run ms (before ++ m.ns ∷ []) (at + length (meta_text m)) h.2, refl)

  abbrev front_items : Header → List Item
  front_items h = magic ∷ (document (header_text h) ∷ [])

  front_runs : (h : Header) → IsHeader h → Runs start 0 (front_items h) (at_metas []) []
  unfolding step_at
  front_runs h is = (record start { place = AtHeader }, [], [], tt, refl, (at_metas [], [], [], header_item h is, header_goes h _ is, (refl, refl), refl), refl)

  stop_runs : (ns : List NsName) (at : ℕ) → Runs (at_metas ns) at (terminator ∷ []) (blocks_at (at_metas ns) []) []
  unfolding step_at
  stop_runs ns at = (blocks_at (at_metas ns) [], [], [], tt, refl, (refl, refl), refl)

  -- ---- the whole

  abbrev all : Header → List Metadata → List Piece → List Item
  all h ms ps = front_items h ++ (meta_items ms ++ ((terminator ∷ []) ++ all_items [] ps))

  metas_text_is : (ms : List Metadata) → flat_map text_of (meta_items ms) ≡ metas_text ms
  metas_text_is [] = refl
  metas_text_is (m ∷ ms) = flat_map-cons text_of (document (meta_text m)) (meta_items ms) ∙ (ap (λ (z : List ℕ). meta_text m ++ z) (metas_text_is ms) ∙ sym (flat_map-cons meta_text m ms))

  regrouped : (a b c d e : List ℕ) → (a ++ b) ++ (c ++ (d ++ e)) ≡ (((a ++ b) ++ c) ++ d) ++ e
  regrouped a b c d e = sym (append_assoc ((a ++ b) ++ c) d e ∙ append_assoc (a ++ b) c (d ++ e))

  front_text : (h : Header) → flat_map text_of (front_items h) ≡ magic_bytes ++ header_text h
  front_text h = flat_map-cons text_of magic (document (header_text h) ∷ []) ∙ ap (λ (z : List ℕ). magic_bytes ++ z) (flat_map-cons text_of (document (header_text h)) [] ∙ append-nil (header_text h))

  all_text : (h : Header) (ms : List Metadata) (ps : List Piece) → AllMayFollow [] ps → archive_text h ms ps ≡ flat_map text_of (all h ms ps)
  all_text h ms ps f =
      let pieces = flat_map-append text_of (terminator ∷ []) (all_items [] ps) ∙ ap (λ (z : List ℕ). stop_bytes ++ z) (items_text [] ps [] f mirrors_none) in
      let behind = flat_map-append text_of (meta_items ms) ((terminator ∷ []) ++ all_items [] ps) ∙ (λ i. metas_text_is ms i ++ pieces i) in
      sym (flat_map-append text_of (front_items h) (meta_items ms ++ ((terminator ∷ []) ++ all_items [] ps))
      ∙ ((λ i. front_text h i ++ behind i) ∙ regrouped magic_bytes (header_text h) (metas_text ms) stop_bytes (pieces_text [] ps)))

  pub written_content : WrittenIsContent
  written_content h ms ps is_header are_metas follow ended short =
      let r0 = front_runs h is_header in
      let ns = names [] ms in
      let m = after_all [] ps [] mirrors_none listed_none in
      record {
        items = all h ms ps;
        stage = blocks_at (at_metas ns) (after_pieces [] ps);
        within = short;
        text = all_text h ms ps follow;
        runs =
            runs_append (front_items h) (meta_items ms ++ ((terminator ∷ []) ++ all_items [] ps)) start 0 (at_metas []) [] (blocks_at (at_metas ns) (after_pieces [] ps)) (map meta_taking ms ++ all_takings ps) r0
            (runs_append (meta_items ms) ((terminator ∷ []) ++ all_items [] ps) (at_metas []) _ (at_metas ns) (map meta_taking ms) (blocks_at (at_metas ns) (after_pieces [] ps)) (all_takings ps) (metas_run ms [] _ are_metas)
            (runs_append (terminator ∷ []) (all_items [] ps) (at_metas ns) _ (blocks_at (at_metas ns) []) [] (blocks_at (at_metas ns) (after_pieces [] ps)) (all_takings ps) (stop_runs ns _)
            (pieces_run (at_metas ns) _ [] ps (all_may_stand [] ps [] follow mirrors_none tt))));
        closed = refl;
        ended = all_closed ps (after_pieces [] ps) ended m.mirrors m.listed;
      }
