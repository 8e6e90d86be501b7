-- Spelling elements one after the other, as a loop does.
use Rattle.std.proofs.Common.{◌≡◌, ℕ, suc, ◌+◌, ◌<◌, List, [], ◌∷◌, ◌++◌, length, map, take, get_or, refl, sym, ap, ◌∙◌, append_assoc, add-zero, zero-add, arith}
use Rattle.std.specs.Fmt.{decimal}
use Rattle.std.proofs.lemmas.List.{take_more, map-append, append-nil, length-map, length-take}
use Rattle.bson_value.specs.declared.value.Value.{Value}
use Rattle.bson_value.specs.Spelling.{Typed, element, numbered, spelling, elements_of, items_of}

numbered-push : (i : ℕ) (xs : List Typed) (y : Typed) → numbered i (xs ++ y ∷ []) ≡ numbered i xs ++ element (decimal (i + length xs), y)
numbered-push i [] y = rw (add-zero, append-nil) refl
numbered-push i (x ∷ xs) y =
    let k : (i + 1) + length xs ≡ i + suc (length xs) = omega arith in
    let e = rw k at (numbered-push (i + 1) xs y) in
    rw e (sym (append_assoc (element (decimal i, x)) (numbered (i + 1) xs) (element (decimal (i + suc (length xs)), y))))

-- one more item
pub items_more : (vs : List Value) (i : ℕ) (v : Value) → i < length vs → v ≡ get_or vs i v → items_of (take (i + 1) vs) ≡ items_of (take i vs) ++ element (decimal i, spelling v)
items_more vs i v lt at =
    let e : take (i + 1) vs ≡ take i vs ++ v ∷ [] = take_more vs i v lt ∙ rw (← at) refl in
    let n : length (map spelling (take i vs)) ≡ i = omega (arith, length-map (take i vs) spelling, length-take i vs) in
    rw (e, map-append) (rw (numbered-push 0 (map spelling (take i vs)) (spelling v), zero-add, n) refl)

-- the step of the loop over the items
pub item_put : (old now new name : List ℕ) (vs : List Value) (i : ℕ) (v : Value) → now ≡ old ++ items_of (take i vs) → name ≡ decimal i → i < length vs → v ≡ get_or vs i v
    → new ≡ now ++ element (name, spelling v) → new ≡ old ++ items_of (take (i + 1) vs)
item_put old now new name vs i v so_far named lt at put =
    rw (put, so_far, named, items_more vs i v lt at) (append_assoc old (items_of (take i vs)) (element (decimal i, spelling v)))

elements-push : (fs : List (List ℕ × Value)) (e : List ℕ × Value) → elements_of (fs ++ e ∷ []) ≡ elements_of fs ++ element (e.0, spelling e.1)
elements-push [] e = append-nil (element (e.0, spelling e.1))
elements-push (f ∷ fs) e =
    ap (λ (b : List ℕ). element (f.0, spelling f.1) ++ b) (elements-push fs e) ∙ sym (append_assoc (element (f.0, spelling f.1)) (elements_of fs) (element (e.0, spelling e.1)))

-- one more field
pub fields_more : (fs : List (List ℕ × Value)) (i : ℕ) (e : List ℕ × Value) → i < length fs → e ≡ get_or fs i e → elements_of (take (i + 1) fs) ≡ elements_of (take i fs) ++ element (e.0, spelling e.1)
fields_more fs i e lt at =
    let more : take (i + 1) fs ≡ take i fs ++ e ∷ [] = take_more fs i e lt ∙ rw (← at) refl in
    ap elements_of more ∙ elements-push (take i fs) e

-- the step of the loop over the fields
pub field_put : (old now new : List ℕ) (fs : List (List ℕ × Value)) (i : ℕ) (e : List ℕ × Value) → now ≡ old ++ elements_of (take i fs) → i < length fs → e ≡ get_or fs i e
    → new ≡ now ++ element (e.0, spelling e.1) → new ≡ old ++ elements_of (take (i + 1) fs)
field_put old now new fs i e so_far lt at put =
    let more : take (i + 1) fs ≡ take i fs ++ e ∷ [] = take_more fs i e lt ∙ rw (← at) refl in
    put ∙ ap (λ (b : List ℕ). b ++ element (e.0, spelling e.1)) so_far ∙ append_assoc old (elements_of (take i fs)) (element (e.0, spelling e.1))
    ∙ ap (λ (b : List ℕ). old ++ b) (sym (elements-push (take i fs) e) ∙ ap elements_of (sym more))
