-- Facts of documents: the value of a field is spelled within the document; without a name, the name is absent.
use Rattle.std.proofs.Common.{◌≡◌, ℕ, ◌+◌, ◌≤◌, Bool, true, false, List, [], ◌∷◌, ◌++◌, length, refl, sym, ap, ◌∙◌, subst, arith, length-append, Some}
use Rattle.std.specs.Prelude.{slice_get, is_some, if◌then◌else◌, IsTrue, ◌↔◌, ◌&&◌, nat_le}
use Rattle.std.proofs.lemmas.Bool.{le-leb, leb-true}
use Rattle.std.specs.Str.{bytes_eq}
use Rattle.std.proofs.lemmas.Slice.Eq.{bytes_eq-Decides}
use Rattle.containers.specs.Entries.{lookup, without, IsAbsent, AreDistinct, names_of}
use Rattle.bson_value.specs.declared.value.Value.{Value}
use Rattle.bson_value.specs.Spelling.{spelling, spelled, element, elements_of, document_text, count_bytes}
use Rattle.bson_value.specs.Levels.{levels_of}
use Rattle.bson_value.specs.Size.{Fits}
use Rattle.coll_state.specs.Rows.{Document, id_of}
use Rattle.containers.proofs.Entries.{without-absent}
use Rattle.doc_path.specs.Played.{id_name}
use Rattle.history_model.specs.Documents.{id_first, is_good_id, is_good_document}

within_elements : (name : List ℕ) (d : Document) (v : Value) → lookup name d ≡ Some v → length (spelled v) ≤ length (elements_of d)
within_elements name [] v h = cc
within_elements name (e ∷ es) v h = by (bytes_eq e.0 name) h (λ g. within_elements name es v g)
  where
    by : (b : Bool) → (if b then Some e.1 else lookup name es) ≡ Some v → (lookup name es ≡ Some v → length (spelled v) ≤ length (elements_of es)) → length (spelled v) ≤ length (elements_of (e ∷ es))
    by true g rest =
        (let k : e.1 ≡ v = cc in
        subst (λ (z : Value). length (spelled z) ≤ length (elements_of (e ∷ es))) k
        (omega (arith, length-append (element (e.0, spelling e.1)) (elements_of es), length-append e.0 (0 ∷ spelled e.1))))
    by false g rest = (let r = rest g in omega (arith, r, length-append (element (e.0, spelling e.1)) (elements_of es)))

pub within_document : (name : List ℕ) (d : Document) (v : Value) → lookup name d ≡ Some v → length (spelled v) ≤ length (document_text d)
within_document name d v h =
    (let w = within_elements name d v h in
    omega (arith, w, length-append (count_bytes (length (elements_of d) + 5)) (elements_of d ++ 0 ∷ []), length-append (elements_of d) (0 ∷ [])))

pub absent_without : (n : List ℕ) (es : Document) → IsAbsent n (names_of (without n es))
absent_without n [] = tt
absent_without n (e ∷ es) = by (bytes_eq e.0 n) refl (absent_without n es)
  where
    by : (b : Bool) → bytes_eq e.0 n ≡ b → IsAbsent n (names_of (without n es)) → IsAbsent n (names_of (if b then without n es else e ∷ without n es))
    by true f h = h
    by false f h = ((λ p. (let g = (bytes_eq-Decides e.0 n).1 (sym p) in cc)), h)

-- one that begins with its `_id`
pub first_alone : (n : List ℕ) (v : Value) (es : Document) → n ≡ id_name → IsAbsent n (names_of es) → id_first ((n, v) ∷ es) ≡ (n, v) ∷ es
first_alone n v es e h =
    (let here : IsAbsent id_name (names_of es) = subst (λ (m : List ℕ). IsAbsent m (names_of es)) e h in
    let first : id_first ((id_name, v) ∷ es) ≡ (id_name, v) ∷ es = ap (λ (l : Document). (id_name, v) ∷ l) (without-absent id_name es here) in
    subst (λ (m : List ℕ). id_first ((m, v) ∷ es) ≡ (m, v) ∷ es) (sym e) first)

pub begins : (d : Document) (e : List ℕ × Value) → AreDistinct (names_of d) → Some e ≡ slice_get d 0 → e.0 ≡ id_name → id_first d ≡ d
begins [] e a g n = absurd cc
begins (f ∷ es) e a g n = (let h : e ≡ f = cc in first_alone f.0 f.1 es (ap (λ (x : List ℕ × Value). x.0) (sym h) ∙ n) a.0)

pub has_first : (d : Document) (e : List ℕ × Value) → Some e ≡ slice_get d 0 → e.0 ≡ id_name → is_some (id_of d) ≡ true
has_first [] e g n = absurd cc
has_first (f ∷ es) e g n = (let h : e ≡ f = cc in ap (λ (m : List ℕ). is_some (id_of ((m, f.1) ∷ es))) (ap (λ (x : List ℕ × Value). x.0) (sym h) ∙ n))

pub begins_otherwise : (d : Document) (e : List ℕ × Value) → Some e ≡ slice_get d 0 → (e.0 ≡ id_name → ⊥) → (v : Value) (es : Document) → d ≡ (id_name, v) ∷ es → ⊥
begins_otherwise d e g n v es h = (let k : Some e ≡ Some (id_name, v) = g ∙ ap (λ (l : Document). slice_get l 0) h in n (let m : e ≡ (id_name, v) = cc in ap (λ (x : List ℕ × Value). x.0) m))

-- ---- a document that may be stored: its size, and its `_id`

and_all : (a : Bool) → a ≡ (a && (true && true))
and_all true = refl
and_all false = refl

and_none : (a b c : Bool) → (b ≡ true → c ≡ true → ⊥) → false ≡ (a && (b && c))
and_none true true true h = absurd (h refl refl)
and_none true true false h = refl
and_none true false c h = refl
and_none false b c h = refl

pub good_fits : (d : Document) (b : Bool) → IsTrue b ↔ Fits d 16777216 100 → b ≡ true → is_good_id (id_of d) ≡ is_good_document d
unfolding is_good_document
good_fits d b h e =
    (let f = h.0 e in
    and_all (is_good_id (id_of d)) ∙ sym (λ i. is_good_id (id_of d) && (le-leb (length (document_text d)) 16777216 f.0 i && le-leb (levels_of d) 100 f.1 i)))

pub good_less : (d : Document) (b : Bool) → IsTrue b ↔ Fits d 16777216 100 → b ≡ false → b ≡ is_good_document d
unfolding is_good_document
good_less d b h e =
    e ∙ and_none (is_good_id (id_of d)) (nat_le (length (document_text d)) 16777216) (nat_le (levels_of d) 100)
    (λ x y. (let t = h.1 (leb-true (length (document_text d)) 16777216 x, leb-true (levels_of d) 100 y) in cc))
