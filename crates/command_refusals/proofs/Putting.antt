-- The documents of a collection, and those after one is put.
use Rattle.std.proofs.Common.{◌≡◌, ℕ, zero, suc, ◌+◌, ◌<◌, ◌≤◌, Bool, true, false, List, [], ◌∷◌, ◌++◌, length, get_or, drop, append_assoc, refl, sym, ap, ◌∙◌, arith, Option, Some, None}
use Rattle.std.specs.Prelude.{nat_lt, not, ◌&&◌, ◌||◌, IsTrue, ◌↔◌, if◌then◌else◌}
use Rattle.std.proofs.lemmas.Bool.{lt-ltb}
use Rattle.std.proofs.lemmas.List.{drop_more, drop_all, append-nil, map-append}
use Rattle.bson_view.specs.declared.held.Held.{Held}
use Rattle.bson_view.specs.Held.{held_document}
use Rattle.state_model.specs.Keys.{Key, same_key}
use Rattle.coll_state.specs.Rows.{Document, Row, Table, key_in, id_of, Rising, scan}
use Rattle.coll_state.specs.Changes.{put_row, rows_after}
use Rattle.coll_state.specs.Kept.{Look}
use Rattle.coll_state.specs.Walks.{looks, item_of}
use Rattle.state_model.proofs.Keys.{key_turn}
use Rattle.index_build.specs.Counting.{held}
use Rattle.history_model.specs.Refusals.{rows_in}
use Rattle.command_refusals.specs.Keyed.{AllKeyed, documents, put_document, looked_at}

-- ---- all rows behind the first number

scan_all : (at low n : ℕ) (rs : List Row) → at ≤ low → Rising low rs → length (scan at n rs) < n → scan at n rs ≡ rs
scan_all at low n [] a b c = refl
scan_all at low zero (r ∷ rs) a b c = absurd (omega arith)
scan_all at low (suc n) (r ∷ rs) a b c = by (nat_lt at r.no) (lt-ltb at r.no (let l = b.0 in omega arith)) (λ s. scan_all at r.no n rs (let l = b.0 in omega arith) b.2 s) c
  where
    by : (x : Bool) → x ≡ true → (length (scan at n rs) < n → scan at n rs ≡ rs) → length (if x then r ∷ scan at n rs else scan at (suc n) rs) < suc n → (if x then r ∷ scan at n rs else scan at (suc n) rs) ≡ r ∷ rs
    by true e rest l = ap (λ (zs : List Row). r ∷ zs) (rest (omega arith))
    by false e rest l = cc

all_rows : (n : ℕ) (o : Option Table) → ((t : Table) → o ≡ Some t → Rising 0 t.rows) → length (rows_after 0 n o) < n → rows_after 0 n o ≡ rows_in o
all_rows n None h l = refl
all_rows n (Some t) h l = scan_all 0 0 n t.rows (omega arith) (h t refl) l

-- what looks show of rows
pub looked_rows : (rs : List Row) → looked_at (looks rs) ≡ documents rs
looked_rows [] = refl
looked_rows (r ∷ rs) = ap (λ (ds : List Document). r.document ∷ ds) (looked_rows rs)

count_documents : (rs : List Row) → length (documents rs) ≡ length rs
count_documents [] = refl
count_documents (r ∷ rs) = ap suc (count_documents rs)

pub all_looked : (n : ℕ) (o : Option Table) (ds : List Document) → ((t : Table) → o ≡ Some t → Rising 0 t.rows) → ds ≡ looked_at (looks (rows_after 0 n o)) → length ds < n → ds ≡ documents (rows_in o)
all_looked n o ds h e l =
    (let f : ds ≡ documents (rows_after 0 n o) = e ∙ looked_rows (rows_after 0 n o) in
    let m : length ds ≡ length (rows_after 0 n o) = ap length f ∙ count_documents (rows_after 0 n o) in
    f ∙ ap documents (all_rows n o h (omega (arith, m, l))))

-- one document more of those that looks show
pub looked_more : (docs new : List Held) (item : ℕ × Held) (left rest : List (ℕ × (Document × Look))) (whole : List Document) → held docs ++ looked_at left ≡ whole → left ≡ item_of item ∷ rest → new ≡ docs ++ item.1 ∷ [] → held new ++ looked_at rest ≡ whole
looked_more docs new item left rest whole w e n =
    ap (λ (z : List Held). held z ++ looked_at rest) n ∙ (ap (λ (z : List Document). z ++ looked_at rest) (map-append held_document docs (item.1 ∷ []))
    ∙ (append_assoc (held docs) (held_document item.1 ∷ []) (looked_at rest) ∙ (ap (λ (z : List (ℕ × (Document × Look))). held docs ++ looked_at z) (sym e) ∙ w)))

pub looked_all : (docs : List Held) (left : List (ℕ × (Document × Look))) (whole : List Document) → held docs ++ looked_at left ≡ whole → left ≡ [] → held docs ≡ whole
looked_all docs left whole w e = sym (append-nil (held docs)) ∙ (ap (λ (z : List (ℕ × (Document × Look))). held docs ++ looked_at z) (sym e) ∙ w)

-- ---- a document that is put

-- what is still to come of the documents, with the one that is put if it wasn't yet
abbrev pub still_to_put : Bool → Key → Document → List Document → List Document
still_to_put true k d es = es
still_to_put false k d es = put_document k d es

held_rest : (hs : List Held) (i : ℕ) (h : Held) → i < length hs → h ≡ get_or hs i h → held (drop i hs) ≡ held_document h ∷ held (drop (i + 1) hs)
held_rest hs i h l e = ap held (drop_more hs i h l) ∙ ap (λ (z : Held). held_document z ∷ held (drop (i + 1) hs)) (sym e)

still_step : (b s : Bool) (k : Key) (d e : Document) (es : List Document) → s ≡ same_key (key_in (id_of e)) k →
    still_to_put b k d (e ∷ es) ≡ (if s && not b then d else e) ∷ still_to_put (b || (s && not b)) k d es
still_step true true k d e es h = refl
still_step true false k d e es h = refl
still_step false true k d e es h = ap (λ (x : Bool). if x then d ∷ es else e ∷ put_document k d es) (sym h)
still_step false false k d e es h = ap (λ (x : Bool). if x then d ∷ es else e ∷ put_document k d es) (sym h)

one_over : (front next rest whole : List Document) (x : Document) → whole ≡ front ++ (x ∷ rest) → next ≡ front ++ (x ∷ []) → whole ≡ next ++ rest
one_over front next rest whole x e f = e ∙ (sym (append_assoc front (x ∷ []) rest) ∙ ap (λ (z : List Document). z ++ rest) (sym f))

-- one document more of those that are there
pub put_step : (hs : List Held) (i : ℕ) (h item : Held) (b s new : Bool) (k : Key) (d : Document) (front next : List Held) (whole : List Document) → whole ≡ held front ++ still_to_put b k d (held (drop i hs)) → i < length hs → h ≡ get_or hs i h →
    s ≡ same_key (key_in (id_of (held_document h))) k → new ≡ (s && not b) → held_document item ≡ (if new then d else held_document h) → next ≡ front ++ (item ∷ []) → whole ≡ held next ++ still_to_put (b || new) k d (held (drop (i + 1) hs))
put_step hs i h item b s new k d front next whole w l e t u f n =
    (let rest = held (drop (i + 1) hs) in
    let put : held_document item ≡ (if s && not b then d else held_document h) = f ∙ ap (λ (x : Bool). if x then d else held_document h) u in
    one_over (held front) (held next) (still_to_put (b || new) k d rest) whole (held_document item)
    (w ∙ ap (λ (z : List Document). held front ++ z)
    (ap (still_to_put b k d) (held_rest hs i h l e) ∙ (still_step b s k d (held_document h) rest t
    ∙ ((λ i. sym put i ∷ still_to_put (b || sym u i) k d rest)))))
    (ap held n ∙ map-append held_document front (item ∷ [])))

pub put_all : (hs : List Held) (i : ℕ) (b : Bool) (k : Key) (d : Document) (front : List Document) (whole : List Document) → whole ≡ front ++ still_to_put b k d (held (drop i hs)) → length hs ≤ i → whole ≡ front ++ still_to_put b k d []
put_all hs i b k d front whole w l = w ∙ ap (λ (z : List Held). front ++ still_to_put b k d (held z)) (drop_all i hs l)

-- where it was put all are there, and else it stands last
pub put_done : (hs : List Held) (i : ℕ) (b : Bool) (k : Key) (d : Document) (front : List Held) (whole : List Document) → whole ≡ held front ++ still_to_put b k d (held (drop i hs)) → length hs ≤ i → b ≡ true → held front ≡ whole
put_done hs i b k d front whole w l t = sym (put_all hs i b k d (held front) whole w l ∙ (ap (λ (x : Bool). held front ++ still_to_put x k d []) t ∙ append-nil (held front)))

pub put_last : (hs : List Held) (i : ℕ) (b : Bool) (k : Key) (d : Document) (front next : List Held) (item : Held) (whole : List Document) → whole ≡ held front ++ still_to_put b k d (held (drop i hs)) → length hs ≤ i → b ≡ false →
    held_document item ≡ d → next ≡ front ++ (item ∷ []) → held next ≡ whole
put_last hs i b k d front next item whole w l t f n =
    ap held n ∙ (map-append held_document front (item ∷ []) ∙ (ap (λ (z : Document). held front ++ (z ∷ [])) f
    ∙ sym (put_all hs i b k d (held front) whole w l ∙ ap (λ (x : Bool). held front ++ still_to_put x k d []) t)))

pub empty_key : (b : Bool) (k : Key) → IsTrue b ↔ (k ≡ []) → b ≡ same_key [] k
empty_key true k h = (let e = h.0 refl in ap (same_key []) (sym e))
empty_key false [] h = (let e = h.1 refl in cc)
empty_key false (x ∷ k) h = refl

pub put_placed : (next : ℕ) (k : Key) (d : Document) (rs : List Row) → AllKeyed rs → put_document k d (documents rs) ≡ documents (put_row next k d rs)
put_placed next k d [] h = refl
put_placed next k d (r ∷ rs) h = by (same_key k r.key) (same_key (key_in (id_of r.document)) k) (sym (key_turn k r.key (same_key k r.key) refl) ∙ ap (λ (j : Key). same_key j k) h.0) (put_placed next k d rs h.1)
  where
    by : (x y : Bool) → x ≡ y → put_document k d (documents rs) ≡ documents (put_row next k d rs) →
        (if y then d ∷ documents rs else r.document ∷ put_document k d (documents rs)) ≡ documents (if x then record { no = r.no; key = r.key; document = d } ∷ rs else r ∷ put_row next k d rs)
    by true true e g = refl
    by false false e g = ap (λ (ds : List Document). r.document ∷ ds) g
    by true false e g = cc
    by false true e g = cc

pub keyed_rows : (o : Option Table) → ((t : Table) → o ≡ Some t → AllKeyed t.rows) → AllKeyed (rows_in o)
keyed_rows None h = tt
keyed_rows (Some t) h = h t refl
