-- Any list of blocks and ends runs through the grammar, where none stands behind its namespace's end.
use Rattle.std.proofs.Common.{◌≡◌, ℕ, suc, ◌+◌, ◌<◌, List, [], ◌∷◌, ◌++◌, map, length, Bool, true, false, cond, refl, sym, ap, ◌∙◌, subst, arith, Option, Some, None}
use Rattle.std.specs.Prelude.{⊤, ℤ, pos, set, slice_get, flat_map, unwrap_or, ◌&&◌, ◌^◌, FitsSigned, if◌then◌else◌}
use Rattle.std.specs.Int.{w64, cast_signed}
use Rattle.std.specs.List.{position_from}
use Rattle.std.specs.Str.{bytes_eq}
use Rattle.std.proofs.lemmas.List.Concat.{flat_map-cons}
use borrow.Author.Differences.{fits_in, read_fits}
use Rattle.bson_value.specs.declared.namespace.NsName.{NsName}
use Rattle.bson_value.proofs.Child.{same_name}
use Rattle.archive_format.specs.Crc.{crc_start, crc_on, crc_end}
use Rattle.archive_format.specs.Archive.{Item, document, terminator, text_of, Seen, Stage, Runs, same_ns, seat_of}
use Rattle.archive_format.specs.Written.{head_text, joined}
use Rattle.archive_content.specs.Blocks.{Seat, open_at, place_at, opened, seat, IsHead, blocks_at}
use Rattle.archive_content.specs.Pieces.{Piece, Block, End, takings_of, all_takings, AreSound}
use Rattle.archive_content.proofs.Blocks.{block_runs, end_runs}
use Rattle.archive_format.proofs.Fold.{runs_append}

-- ---- what a piece makes of the namespaces that were seen

abbrev pub fresh : NsName → Seen
fresh n = record { ns = n; sum = crc_start; ended = false }

-- what stands at the namespace's seat
abbrev pub entry : NsName → List Seen → Seen
entry n seen = unwrap_or (slice_get (opened n seen) (seat n seen)) (fresh n)

abbrev pub after_piece : List Seen → Piece → List Seen
after_piece seen (Block n ds) = set (opened n seen) (seat n seen) (record (entry n seen) { sum = crc_on (entry n seen).sum (joined ds) })
after_piece seen (End n) = set (opened n seen) (seat n seen) (record (entry n seen) { ended = true })

abbrev pub items_of : List Seen → Piece → List Item
items_of seen (Block n ds) = document (head_text n false (pos 0)) ∷ (map document ds ++ (terminator ∷ []))
items_of seen (End n) = document (head_text n true (cast_signed w64 (crc_end (entry n seen).sum))) ∷ (terminator ∷ [])

abbrev pub after_pieces : List Seen → List Piece → List Seen
after_pieces seen [] = seen
after_pieces seen (p ∷ ps) = after_pieces (after_piece seen p) ps

abbrev pub all_items : List Seen → List Piece → List Item
all_items seen [] = []
all_items seen (p ∷ ps) = items_of seen p ++ all_items (after_piece seen p) ps

-- a header of the namespace is read, whatever it says
abbrev pub HeadsRead : NsName → Type 0
HeadsRead n = (eof : Bool) (crc : ℤ) → FitsSigned w64 crc → IsHead (head_text n eof crc) (record { ns = n; eof = eof; crc = if eof then Some crc else None })

-- the piece may be written: its namespace wasn't ended, and its documents are sound
abbrev pub MayStand : List Seen → Piece → Type 0
MayStand seen (Block n ds) = HeadsRead n × ((entry n seen).ended ≡ false) × AreSound ds
MayStand seen (End n) = HeadsRead n × ((entry n seen).ended ≡ false) × (crc_end (entry n seen).sum < 2 ^ 64)

abbrev pub AllMayStand : List Seen → List Piece → Type 0
AllMayStand seen [] = ⊤
AllMayStand seen (p ∷ ps) = MayStand seen p × AllMayStand (after_piece seen p) ps

abbrev pub PiecesRun : Type 0
PiecesRun = (s : Stage) (at : ℕ) (seen : List Seen) (ps : List Piece) → AllMayStand seen ps →
    Runs (blocks_at s seen) at (all_items seen ps) (blocks_at s (after_pieces seen ps)) (all_takings ps)

-- what a place names
abbrev pub Found : (Seen → Bool) → ℕ → List Seen → ℕ → Type 0
Found p k xs i = (x : Seen) × (j : ℕ) × (i ≡ k + j) × (slice_get xs j ≡ Some x) × (p x ≡ true)

some_is : (a b : ℕ) → Some a ≡ Some b → a ≡ b
some_is a b e = cc

later : (p : Seen → Bool) (k : ℕ) (x : Seen) (xs : List Seen) (i : ℕ) → Found p (k + 1) xs i → Found p k (x ∷ xs) i
later p k x xs i f = (f.0, suc f.1, (let h = f.2 in omega arith), f.3, f.4)

first_test : (p : Seen → Bool) (k : ℕ) (x : Seen) (xs : List Seen) (i : ℕ) (b : Bool) → p x ≡ b → cond b (Some k) (position_from p (k + 1) xs) ≡ Some i → (position_from p (k + 1) xs ≡ Some i → Found p (k + 1) xs i) → Found p k (x ∷ xs) i
first_test p k x xs i true r e ih = (x, 0, (let h = some_is k i e in omega arith), refl, r)
first_test p k x xs i false r e ih = later p k x xs i (ih e)

pub found : (p : Seen → Bool) (k : ℕ) (xs : List Seen) (i : ℕ) → position_from p k xs ≡ Some i → Found p k xs i
found p k [] i e = cc
found p k (x ∷ xs) i e = first_test p k x xs i (p x) refl e (found p (k + 1) xs i)

both_true : (a b : Bool) → a && b ≡ true → (a ≡ true) × (b ≡ true)
both_true true b e = (refl, e)
both_true false b e = cc

pub same_is : (a b : NsName) → same_ns a b ≡ true → a ≡ b
same_is a b e =
    let h = both_true (bytes_eq a.db b.db) (bytes_eq a.coll b.coll) e in
    let d : a.db ≡ b.db = same_name a.db b.db h.0 in
    let c : a.coll ≡ b.coll = same_name a.coll b.coll h.1 in
    λ i. record { db = d i; coll = c i }

get_last : (xs : List Seen) (x : Seen) → slice_get (xs ++ x ∷ []) (length xs) ≡ Some x
get_last [] x = refl
get_last (y ∷ xs) x = get_last xs x

-- the seat of a namespace, after a header of it
abbrev AtSeat : NsName → List Seen → Option ℕ → Type 0
AtSeat n seen o = (e : Seen) × (slice_get (open_at n o seen) (place_at o seen) ≡ Some e) × (e.ns ≡ n)

at_seat : (n : NsName) (seen : List Seen) (o : Option ℕ) → seat_of n seen ≡ o → AtSeat n seen o
at_seat n seen None e = (fresh n, get_last seen (fresh n), refl)
at_seat n seen (Some i) e =
    let f = found (λ e. same_ns e.ns n) 0 seen i e in
    let at : i ≡ f.1 = (let h = f.2 in omega arith) in
    (f.0, ap (slice_get seen) at ∙ f.3, same_is f.0.ns n f.4)

entry_is : (o : Option Seen) (d e : Seen) → o ≡ Some e → unwrap_or o d ≡ e
entry_is o d e h = rw h refl

pub seat_stands : (n : NsName) (seen : List Seen) → (entry n seen).ended ≡ false → Seat n seen (opened n seen) (seat n seen) (entry n seen)
seat_stands n seen open_yet =
    let a = at_seat n seen (seat_of n seen) refl in
    let is : entry n seen ≡ a.0 = entry_is (slice_get (opened n seen) (seat n seen)) (fresh n) a.0 a.1 in
    record { there = a.1 ∙ ap Some (sym is); name = ap (λ (z : Seen). z.ns) is ∙ a.2; open_yet = open_yet }

zero_fits : FitsSigned w64 (pos 0)
zero_fits = grind arith

said_fits : (n : ℕ) → n < 2 ^ 64 → FitsSigned w64 (cast_signed w64 n)
said_fits n l = omega (arith, fits_in, read_fits w64 n)

piece_runs : (s : Stage) (at : ℕ) (seen : List Seen) (p : Piece) → MayStand seen p → Runs (blocks_at s seen) at (items_of seen p) (blocks_at s (after_piece seen p)) (takings_of p)
piece_runs s at seen (Block n ds) h =
    block_runs (blocks_at s seen) at n (head_text n false (pos 0)) ds (entry n seen) refl (h.0 false (pos 0) zero_fits) h.2 (seat_stands n seen h.1)
piece_runs s at seen (End n) h =
    end_runs (blocks_at s seen) at n (head_text n true (cast_signed w64 (crc_end (entry n seen).sum))) (entry n seen) refl h.2 (h.0 true (cast_signed w64 (crc_end (entry n seen).sum)) (said_fits (crc_end (entry n seen).sum) h.2)) (seat_stands n seen h.1)

pub pieces_run : PiecesRun
pieces_run s at seen [] h = (refl, refl)
pieces_run s at seen (p ∷ ps) h =
    subst (λ z. Runs (blocks_at s seen) at (all_items seen (p ∷ ps)) (blocks_at s (after_pieces seen (p ∷ ps))) z) (sym (flat_map-cons takings_of p ps))
    (runs_append (items_of seen p) (all_items (after_piece seen p) ps) (blocks_at s seen) at (blocks_at s (after_piece seen p)) (takings_of p) (blocks_at s (after_pieces seen (p ∷ ps))) (all_takings ps)
    (piece_runs s at seen p h.0) (pieces_run s (at + length (flat_map text_of (items_of seen p))) (after_piece seen p) ps h.1))
