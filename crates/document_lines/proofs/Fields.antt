-- Elements that a sort brought into the order of their names.
use Rattle.std.proofs.Common.{◌≡◌, ℕ, ◌+◌, ◌<◌, List, [], ◌∷◌, ◌++◌, length, map, Bool, refl, sym, ap, subst, ◌∙◌, arith}
use Rattle.std.specs.List.Sorted.{IsPermutation, IsSortedBy}
use Rattle.std.proofs.lemmas.List.{get_or-map, length-map, length-append}
use Rattle.std.proofs.lemmas.List.Elements.{All-nil, All-cons}
use Rattle.std.proofs.lemmas.List.Sorted.{IsPermutation-map}
use Rattle.containers.specs.Entries.{AreDistinct, names_of}
use Rattle.bson_value.specs.Alike.{by_name, ordered_fields}
use Rattle.bson_view.specs.declared.elem.Elem.{Elem}
use Rattle.bson_view.specs.Parts.{Part, part_bytes, bytes_of, fields_of}
use Rattle.bson_view.specs.Views.{elem_part}
use Rattle.bson_value.proofs.Sorted.{lt, sorted_is}
use Rattle.bson_value.proofs.Ordered.{names-ordered_fields}
use Rattle.document_lines.specs.Elems.{ordered_elem, ordered_elems, AreBelow}

-- whether the first name is less
abbrev pub name_lt : Elem → Elem → Bool
name_lt x y = lt (ordered_elem x) (ordered_elem y)

sorted_map : {A B : Type 0} (f : A → B) (l : B → B → Bool) (xs : List A) → IsSortedBy (λ x y. l (f x) (f y)) xs → IsSortedBy l (map f xs)
sorted_map f l [] s = λ k d low high. absurd (omega (arith, high))
sorted_map f l (x ∷ xs) s = λ k d low high.
    let n : length (map f (x ∷ xs)) ≡ length (x ∷ xs) = length-map (x ∷ xs) f in
    let there = get_or-map f (x ∷ xs) (k + 1) x d (omega (arith, high, n)) in
    let here = get_or-map f (x ∷ xs) k x d (omega (arith, high, n)) in
    rw (there, here) (s k x low (omega (arith, high, n)))

pub sorted_elems : (xs ys : List Elem) → IsPermutation xs ys → AreDistinct (names_of (ordered_elems xs)) → IsSortedBy name_lt ys → ordered_elems ys ≡ by_name (ordered_elems xs)
sorted_elems xs ys moved named s =
    sorted_is (ordered_elems xs) (ordered_elems ys) (IsPermutation-map ordered_elem xs ys moved) named (sorted_map ordered_elem lt ys s)

-- the fields of elements
pub elems_are : (es : List Elem) (ps : List Part) → map elem_part es ≡ ps → ordered_elems es ≡ ordered_fields (fields_of ps)
elems_are [] ps e = subst (λ (qs : List Part). [] ≡ ordered_fields (fields_of qs)) e refl
elems_are (x ∷ es) ps e = subst (λ (qs : List Part). ordered_elems (x ∷ es) ≡ ordered_fields (fields_of qs)) e (ap (λ fs. ordered_elem x ∷ fs) (elems_are es (map elem_part es) refl))

pub still_distinct : (es : List Elem) (ps : List Part) → map elem_part es ≡ ps → AreDistinct (names_of (fields_of ps)) → AreDistinct (names_of (ordered_elems es))
still_distinct es ps e h = subst AreDistinct (sym (ap names_of (elems_are es ps e) ∙ names-ordered_fields (fields_of ps))) h

-- an element has more bytes than its value
pub part_size : (p : Part) → length (part_bytes p) ≡ length p.value + length p.name + 2
part_size p = omega (arith, length-append (p.name ++ 0 ∷ []) p.value, length-append p.name (0 ∷ []))

pub bytes_size : (p : Part) (ps : List Part) → length (bytes_of (p ∷ ps)) ≡ length (part_bytes p) + length (bytes_of ps)
bytes_size p ps = length-append (part_bytes p) (bytes_of ps)

below_one : (room : ℕ) (es : List Elem) → length (bytes_of (map elem_part es)) < room → AreBelow room es
below_one room [] h = All-nil _
below_one room (x ∷ es) h =
    let size = bytes_size (elem_part x) (map elem_part es) in
    let one = part_size (elem_part x) in
    All-cons (λ e. length e.value.now < room) x es (omega (arith, h, size, one)) (below_one room es (omega (arith, h, size)))

pub are_below : (room : ℕ) (es : List Elem) (ps : List Part) → map elem_part es ≡ ps → length (bytes_of ps) < room → AreBelow room es
are_below room es ps e h = below_one room es (subst (λ (qs : List Part). length (bytes_of qs) < room) (sym e) h)

-- there are no more elements than bytes
pub fewer_parts : (ps : List Part) → length ps < length (bytes_of ps) + 1
fewer_parts [] = omega arith
fewer_parts (p ∷ ps) = omega (arith, fewer_parts ps, bytes_size p ps, part_size p)
