-- What is added of a walk over documents.
use Rattle.std.proofs.Common.{◌≡◌, ℕ, zero, suc, List, [], ◌∷◌, ◌++◌, refl, sym, ap, ◌∙◌, Option, Some, None, Bool, true, false}
use Rattle.std.specs.Prelude.{nat_lt, if◌then◌else◌}
use Rattle.std.specs.FinMap as map
use Rattle.std.proofs.lemmas.List.{append_assoc}
use Rattle.bson_value.specs.declared.namespace.NsName.{NsName}
use Rattle.bson_value.specs.Spelling.{document_text}
use Rattle.coll_state.specs.Rows.{Row, Rows, Table, last_no, scan}
use Rattle.coll_state.specs.Changes.{rows_after}
use Rattle.coll_state.specs.Kept.{look, shown}
use Rattle.coll_state.specs.Walks.{looks}
use Rattle.dump_model.specs.Archives.{document_texts}
use Rattle.store_core.specs.Stores.{AreShort}
use Rattle.store_core.specs.Stores as stores
use Rattle.copy_cursor.specs.Looks.{Item, AllShort, texts_shown, last_shown}

pub texts_of_rows : (rs : List Row) → texts_shown (looks rs) ≡ document_texts rs
texts_of_rows [] = refl
texts_of_rows (r ∷ rs) = ap (λ (ts : List (List ℕ)). document_text r.document ∷ ts) (texts_of_rows rs)

pub last_of_rows : (at : ℕ) (rs : List Row) → last_shown at (looks rs) ≡ last_no at rs
last_of_rows at [] = refl
last_of_rows at (r ∷ rs) = last_of_rows r.no rs

short_rows : (rs : List Row) → stores.AllShort rs → AllShort (looks rs)
short_rows [] h = tt
short_rows (r ∷ rs) h = (h.0, short_rows rs h.1)

short_scan : (at n : ℕ) (rs : List Row) → stores.AllShort rs → stores.AllShort (scan at n rs)
short_scan at n [] h = tt
short_scan at zero (r ∷ rs) h = tt
short_scan at (suc n) (r ∷ rs) h = by (nat_lt at r.no) (short_scan at n rs h.1) (short_scan at (suc n) rs h.1)
  where
    by : (b : Bool) → stores.AllShort (scan at n rs) → stores.AllShort (scan at (suc n) rs) → stores.AllShort (if b then r ∷ scan at n rs else scan at (suc n) rs)
    by true x y = (h.0, x)
    by false x y = y

short_after : (at n : ℕ) (o : Option Table) → ((t : Table) → o ≡ Some t → stores.AllShort t.rows) → stores.AllShort (rows_after at n o)
short_after at n None h = tt
short_after at n (Some t) h = short_scan at n t.rows (h t refl)

pub short_looks : (at n : ℕ) (s : Rows) (k : NsName) → AreShort s → AllShort (looks (rows_after at n (map.get s.tables k)))
short_looks at n s k h = short_rows (rows_after at n (map.get s.tables k)) (short_after at n (map.get s.tables k) (λ t e. h k t e))

-- one text more of those that are left
pub one_text : (out next whole : List (List ℕ)) (left rest : List Item) (x : Item) (text : List ℕ) → out ++ texts_shown left ≡ whole → left ≡ x ∷ rest → text ≡ document_text x.1.0 → next ≡ out ++ (text ∷ []) → next ++ texts_shown rest ≡ whole
one_text out next whole left rest x text w e t n =
    ap (λ (z : List (List ℕ)). z ++ texts_shown rest) n
    ∙ (append_assoc out (text ∷ []) (texts_shown rest)
    ∙ (ap (λ (z : List ℕ). out ++ (z ∷ texts_shown rest)) t
    ∙ (ap (λ (z : List Item). out ++ texts_shown z) (sym e) ∙ w)))

-- a look at a document shows it
pub shown_first : (rs : List Row) (x : Item) (rest : List Item) → looks rs ≡ x ∷ rest → x.1.1 ≡ look x.1.0
shown_first [] x rest e = cc
shown_first (r ∷ rs) x rest e = (let f : (r.no, shown r.document) ≡ x = cc in ap (λ (z : Item). z.1.1) (sym f) ∙ ap (λ (z : Item). look z.1.0) f)
