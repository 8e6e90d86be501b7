-- A document with its `_id` first has the same `_id` and is no larger, and one that may be stored is short.
use Rattle.std.proofs.Common.{◌≡◌, ℕ, ◌+◌, ◌≤◌, List, [], ◌∷◌, ◌++◌, length, length-append, Bool, true, false, refl, sym, ap, arith, Option, Some, None}
use Rattle.std.specs.Prelude.{◌&&◌, nat_le, max, map, is_some, if◌then◌else◌}
use Rattle.std.specs.Str.{bytes_eq}
use Rattle.std.proofs.lemmas.Bool.{le-leb, leb-true, and_parts}
use Rattle.containers.specs.Entries.{lookup, without}
use Rattle.bson_value.specs.declared.value.Value.{Value}
use Rattle.bson_value.specs.Levels.{largest, levels_in, levels_of}
use Rattle.bson_value.specs.Spelling.{spelling, element, elements_of, document_text, count_bytes}
use Rattle.coll_state.specs.Kept.{is_short}
use Rattle.coll_state.specs.Rows.{Document, id_of}
use Rattle.doc_path.specs.Played.{id_name}
use Rattle.history_model.specs.Documents.{id_before, id_first, is_good_id, is_good_document}
use Rattle.bson_value.proofs.Child.{same_name}
use Rattle.stored_documents.specs.Laws.{IdFirstKeepsId, IdFirstIsNoLarger, GoodHasId, GoodIsShort}
use Rattle.coll_state.proofs.Shortness.{join}

pub first_id : IdFirstKeepsId
first_id d = by (id_of d) refl
  where
    by : (o : Option Value) → id_of d ≡ o → id_of (id_before o d) ≡ id_of d
    by None e = refl
    by (Some v) e = sym e

-- ---- bytes

abbrev size_in : Document → ℕ
size_in d = length (elements_of d)

one_size : (f : List ℕ × Value) (d : Document) → size_in (f ∷ d) ≡ length (element (f.0, spelling f.1)) + size_in d
one_size f d = length-append (element (f.0, spelling f.1)) (elements_of d)

without_size : (k : List ℕ) (d : Document) → size_in (without k d) ≤ size_in d
without_size k [] = omega arith
without_size k (f ∷ d) = by (bytes_eq f.0 k) (without_size k d)
  where
    by : (b : Bool) → size_in (without k d) ≤ size_in d → size_in (if b then without k d else f ∷ without k d) ≤ size_in (f ∷ d)
    by true h = (let a = one_size f d in omega (arith, a, h))
    by false h = (let a = one_size f d in let b = one_size f (without k d) in omega (arith, a, b, h))

first_size : (k : List ℕ) (v : Value) (d : Document) → lookup k d ≡ Some v → size_in ((k, v) ∷ without k d) ≤ size_in d
first_size k v [] e = cc
first_size k v (f ∷ d) e = by (bytes_eq f.0 k) refl e (first_size k v d)
  where
    by : (b : Bool) → bytes_eq f.0 k ≡ b → (if b then Some f.1 else lookup k d) ≡ Some v → (lookup k d ≡ Some v → size_in ((k, v) ∷ without k d) ≤ size_in d) → size_in ((k, v) ∷ (if b then without k d else f ∷ without k d)) ≤ size_in (f ∷ d)
    by true q g rest =
        (let n : f.0 ≡ k = same_name f.0 k q in
        let w : f.1 ≡ v = cc in
        let here : length (element (f.0, spelling f.1)) ≡ length (element (k, spelling v)) = (λ i. length (element (n i, spelling (w i)))) in
        let a = one_size f d in
        let b = one_size (k, v) (without k d) in
        let c = without_size k d in
        omega (arith, here, a, b, c))
    by false q g rest =
        (let r = rest g in
        let a = one_size f d in
        let b = one_size (k, v) (f ∷ without k d) in
        let c = one_size f (without k d) in
        let e = one_size (k, v) (without k d) in
        omega (arith, r, a, b, c, e))

text_size : (d : Document) → length (document_text d) ≡ size_in d + 5
text_size d = (let b = length-append (elements_of d) (0 ∷ []) in let a = length-append (count_bytes (size_in d + 5)) (elements_of d ++ 0 ∷ []) in omega (arith, a, b))

-- ---- levels

abbrev levels_below : Document → ℕ
levels_below d = largest (map (λ e. levels_in e.1) d)

max_least : (a b c : ℕ) → a ≤ c → b ≤ c → max a b ≤ c
max_least a b c h g = omega arith

without_levels : (k : List ℕ) (d : Document) → levels_below (without k d) ≤ levels_below d
without_levels k [] = omega arith
without_levels k (f ∷ d) = by (bytes_eq f.0 k) (without_levels k d)
  where
    by : (b : Bool) → levels_below (without k d) ≤ levels_below d → levels_below (if b then without k d else f ∷ without k d) ≤ levels_below (f ∷ d)
    by true h = omega (arith, h)
    by false h = omega (arith, h)

held_levels : (k : List ℕ) (v : Value) (d : Document) → lookup k d ≡ Some v → levels_in v ≤ levels_below d
held_levels k v [] e = cc
held_levels k v (f ∷ d) e = by (bytes_eq f.0 k) e (held_levels k v d)
  where
    by : (b : Bool) → (if b then Some f.1 else lookup k d) ≡ Some v → (lookup k d ≡ Some v → levels_in v ≤ levels_below d) → levels_in v ≤ levels_below (f ∷ d)
    by true g rest = (let w : f.1 ≡ v = cc in let l : levels_in f.1 ≡ levels_in v = ap levels_in w in omega (arith, l))
    by false g rest = (let r = rest g in omega (arith, r))

pub first_no_larger : IdFirstIsNoLarger
first_no_larger d = by (id_of d) refl
  where
    by : (o : Option Value) → id_of d ≡ o → (length (document_text (id_before o d)) ≤ length (document_text d)) × (levels_of (id_before o d) ≤ levels_of d)
    by None e = (omega arith, omega arith)
    by (Some v) e =
        (let first = (id_name, v) ∷ without id_name d in
        let s = first_size id_name v d e in
        let a = text_size first in
        let b = text_size d in
        let h = held_levels id_name v d e in
        let w = without_levels id_name d in
        (omega (arith, s, a, b), omega (arith, h, w)))

-- ---- documents that may be stored

abbrev Fits : Document → Type 0
Fits d = (length (document_text d) ≤ 16777216) × (levels_of d ≤ 100)

short : (d : Document) → Fits d → is_short d ≡ true
short d h = join (nat_le (length (document_text d)) 16777216) (nat_le (levels_of d) 100) (le-leb (length (document_text d)) 16777216 h.0) (le-leb (levels_of d) 100 h.1)

pub good_short : GoodIsShort
unfolding is_good_document
good_short d e =
    (let p = and_parts (is_good_id (id_of d)) (nat_le (length (document_text d)) 16777216 && nat_le (levels_of d) 100) e in
    let q = and_parts (nat_le (length (document_text d)) 16777216) (nat_le (levels_of d) 100) p.1 in
    let n = first_no_larger d in
    let a = leb-true (length (document_text d)) 16777216 q.0 in
    let b = leb-true (levels_of d) 100 q.1 in
    (p.1, short (id_first d) (omega (arith, n.0, a), omega (arith, n.1, b))))

pub good_id : GoodHasId
unfolding is_good_document
good_id d e =
    (let p = and_parts (is_good_id (id_of d)) (nat_le (length (document_text d)) 16777216 && nat_le (levels_of d) 100) e in
    by (id_of d) p.0)
  where
    by : (o : Option Value) → is_good_id o ≡ true → is_some o ≡ true
    by None g = cc
    by (Some v) g = refl
