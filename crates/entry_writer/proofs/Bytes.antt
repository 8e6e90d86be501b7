-- The bytes of fields, one after the other.
use Rattle.std.proofs.Common.{◌≡◌, ℕ, ◌+◌, ◌-◌, ◌<◌, ◌≤◌, List, [], ◌∷◌, ◌++◌, length, take, drop, get_or, refl, sym, ap, ◌∙◌, arith, append_assoc, length-append}
use Rattle.std.specs.Prelude.{pos, Option, Some, None, slice_set}
use Rattle.std.specs.Int.{w32, to_le_bytes}
use Rattle.std.proofs.lemmas.List.{take_more, append-nil}
use Rattle.std.proofs.Math.Seq.{set-append_seam}
use Rattle.bson_value.specs.declared.value.Value.{Value, Value-F, fold-roll-Value}
use Rattle.bson_value.specs.declared.value.Value.TheVariants.{Object, Array, Int, rolls-Object, rolls-Array, rolls-Int}
use Rattle.bson_value.specs.Spelling.{Typed, spelling_step, spelling, element, elements_of, items_of, document_text, framed}
use Rattle.entry_model.specs.Edits.{onto, picked, mapped}
use Rattle.entry_model.specs.Written.{Fields, section}
use Rattle.entry_writer.specs.Elements.{document_element, opening, opening_array}

-- the type byte of a key gives way to the zero behind the name
pub keyed : (old one two three name rest : List ℕ) (tag end : ℕ) → one ≡ old ++ tag ∷ [] → two ≡ one ++ name → end ≡ length two → three ≡ two ++ tag ∷ rest → slice_set three end 0 ≡ old ++ (tag ∷ (name ++ (0 ∷ rest)))
keyed old one two three name rest tag end a b e d =
    (λ i. slice_set (d i) (e i) 0)
    ∙ (set-append_seam two tag rest 0
    ∙ (ap (λ (l : List ℕ). l ++ 0 ∷ rest) (b ∙ ap (λ (l : List ℕ). l ++ name) a)
    ∙ (append_assoc (old ++ tag ∷ []) name (0 ∷ rest) ∙ append_assoc old (tag ∷ []) (name ++ (0 ∷ rest)))))

pub elements-append : (xs ys : Fields) → elements_of (xs ++ ys) ≡ elements_of xs ++ elements_of ys
elements-append [] ys = refl
elements-append (f ∷ xs) ys =
    ap (λ (b : List ℕ). element (f.0, spelling f.1) ++ b) (elements-append xs ys) ∙ sym (append_assoc (element (f.0, spelling f.1)) (elements_of xs) (elements_of ys))

pub object_spelling : (fs : Fields) → spelling (Object fs) ≡ (3, document_text fs)
object_spelling fs = ap (λ (v : Value). spelling v) (sym (rolls-Object fs)) ∙ fold-roll-Value Typed spelling_step (Value-F.Object fs)

-- ---- a loop over touches that appends what each gives

module _ {A : Type 0} (h : A → Option (List ℕ × Value)) where
  picked-append : (xs ys : List A) → picked h (xs ++ ys) ≡ picked h xs ++ picked h ys
  picked-append [] ys = refl
  picked-append (x ∷ xs) ys = by (h x) (picked-append xs ys)
    where
      by : (o : Option (List ℕ × Value)) → picked h (xs ++ ys) ≡ picked h xs ++ picked h ys → onto o (picked h (xs ++ ys)) ≡ onto o (picked h xs) ++ picked h ys
      by None e = e
      by (Some f) e = ap (λ (l : Fields). f ∷ l) e

  pub picked_put : (xs : List A) (i : ℕ) (x : A) (old now new : List ℕ) → i < length xs → x ≡ get_or xs i x → now ≡ old ++ elements_of (picked h (take i xs)) → new ≡ now ++ elements_of (onto (h x) []) → new ≡ old ++ elements_of (picked h (take (i + 1) xs))
  picked_put xs i x old now new lt e inv put =
      let more : take (i + 1) xs ≡ take i xs ++ x ∷ [] = take_more xs i x lt ∙ ap (λ (y : A). take i xs ++ y ∷ []) (sym e) in
      put ∙ (ap (λ (b : List ℕ). b ++ elements_of (onto (h x) [])) inv
      ∙ (append_assoc old (elements_of (picked h (take i xs))) (elements_of (onto (h x) []))
      ∙ ap (λ (b : List ℕ). old ++ b) (sym (elements-append (picked h (take i xs)) (onto (h x) [])) ∙ ap elements_of (sym (picked-append (take i xs) (x ∷ [])) ∙ ap (picked h) (sym more)))))

pub picked-mapped : {A B X : Type 0} (g : B → Option X) (f : A → B) (xs : List A) → picked g (mapped f xs) ≡ picked (λ x. g (f x)) xs
picked-mapped g f [] = refl
picked-mapped g f (x ∷ xs) = ap (onto (g (f x))) (picked-mapped g f xs)

-- the same of what the elements are
pub picked_of_put : {A B : Type 0} (g : B → Option (List ℕ × Value)) (f : A → B) (xs : List A) (i : ℕ) (x : A) (old now new : List ℕ) → i < length xs → x ≡ get_or xs i x → now ≡ old ++ elements_of (picked g (mapped f (take i xs))) → new ≡ now ++ elements_of (onto (g (f x)) []) → new ≡ old ++ elements_of (picked g (mapped f (take (i + 1) xs)))
picked_of_put g f xs i x old now new lt e inv put =
    picked_put (λ y. g (f y)) xs i x old now new lt e (inv ∙ ap (λ (fs : Fields). old ++ elements_of fs) (picked-mapped g f (take i xs))) put
    ∙ ap (λ (fs : Fields). old ++ elements_of fs) (sym (picked-mapped g f (take (i + 1) xs)))

-- ---- a document in a field

take_seam : (xs ys : List ℕ) (n : ℕ) → n ≡ length xs → take n (xs ++ ys) ≡ xs
take_seam xs ys n e = ap (λ (m : ℕ). take m (xs ++ ys)) e ∙ by xs
  where
    by : (xs : List ℕ) → take (length xs) (xs ++ ys) ≡ xs
    by [] = refl
    by (x ∷ xs) = ap (λ (l : List ℕ). x ∷ l) (by xs)

drop_seam : (xs ys : List ℕ) (n : ℕ) → n ≡ length xs → drop n (xs ++ ys) ≡ ys
drop_seam xs ys n e = ap (λ (m : ℕ). drop m (xs ++ ys)) e ∙ by xs
  where
    by : (xs : List ℕ) → drop (length xs) (xs ++ ys) ≡ ys
    by [] = refl
    by (x ∷ xs) = by xs

abbrev head : List ℕ → List ℕ
head name = 3 ∷ (name ++ 0 ∷ [])

opened : (name : List ℕ) → opening name ≡ head name ++ (0 ∷ (0 ∷ (0 ∷ (0 ∷ []))))
opened name = ap (λ (l : List ℕ). 3 ∷ l) (sym (append_assoc name (0 ∷ []) (0 ∷ (0 ∷ (0 ∷ (0 ∷ []))))))

head_length : (name : List ℕ) → length (opening name) ≡ length (head name) + 4
head_length name = ap length (opened name) ∙ length-append (head name) (0 ∷ (0 ∷ (0 ∷ (0 ∷ []))))

-- what was opened is closed behind its elements
pub closed : (old name one body two new : List ℕ) (start : ℕ) → one ≡ old ++ opening name → start ≡ length one → two ≡ one ++ body → new ≡ take (start - 4) two ++ framed (drop start two) → new ≡ old ++ document_element name body
closed old name one body two new start o s t n =
    let whole : two ≡ (old ++ head name) ++ ((0 ∷ (0 ∷ (0 ∷ (0 ∷ [])))) ++ body) =
    t ∙ (ap (λ (l : List ℕ). l ++ body) (o ∙ (ap (λ (l : List ℕ). old ++ l) (opened name) ∙ sym (append_assoc old (head name) (0 ∷ (0 ∷ (0 ∷ (0 ∷ [])))))))
    ∙ append_assoc (old ++ head name) (0 ∷ (0 ∷ (0 ∷ (0 ∷ [])))) body) in
    let size : length one ≡ length (old ++ head name) + 4 =
    ap length o ∙ omega (arith, length-append old (opening name), head_length name, length-append old (head name)) in
    let front : take (start - 4) two ≡ old ++ head name = ap (take (start - 4)) whole ∙ take_seam (old ++ head name) ((0 ∷ (0 ∷ (0 ∷ (0 ∷ [])))) ++ body) (start - 4) (omega (arith, s, size)) in
    let rest : drop start two ≡ body = ap (drop start) t ∙ drop_seam one body start s in
    n ∙ ((λ i. front i ++ framed (rest i)) ∙ (append_assoc old (head name) (framed body) ∙ ap (λ (l : List ℕ). old ++ (3 ∷ l)) (append_assoc name (0 ∷ []) (framed body))))

-- the field that a document's elements make
pub field_is : (name : List ℕ) (fs : Fields) → document_element name (elements_of fs) ≡ elements_of ((name, Object fs) ∷ [])
field_is name fs = ap (λ (t : Typed). element (name, t)) (sym (object_spelling fs)) ∙ sym (append-nil (element (name, spelling (Object fs))))

-- ---- a section, where it has fields

pub no_elements : (fs : Fields) → elements_of fs ≡ [] → fs ≡ []
no_elements [] e = refl
no_elements (f ∷ fs) e = cc

pub some_section : (name : List ℕ) (fs : Fields) → (fs ≡ [] → ⊥) → section name fs ≡ (name, Object fs) ∷ []
some_section name [] h = absurd (h refl)
some_section name (f ∷ fs) h = refl

-- ---- single fields

pub int_spelling : (n : ℕ) → spelling (Int (pos n)) ≡ (16, to_le_bytes w32 n)
int_spelling n = ap (λ (v : Value). spelling v) (sym (rolls-Int (pos n))) ∙ fold-roll-Value Typed spelling_step (Value-F.Int (pos n))

pub nothing_put : (old : List ℕ) (o : Option (List ℕ × Value)) → o ≡ None → old ≡ old ++ elements_of (onto o [])
nothing_put old o e = sym (append-nil old) ∙ ap (λ (x : Option (List ℕ × Value)). old ++ elements_of (onto x [])) (sym e)

-- some elements were appended, where the length isn't as before
pub some_more : (one two : List ℕ) (fs : Fields) (m n : ℕ) → two ≡ one ++ elements_of fs → m ≡ length two → n ≡ length one → (m ≡ n → ⊥) → fs ≡ [] → ⊥
some_more one two fs m n t a b h e = h (a ∙ (ap length (t ∙ (ap (λ (l : Fields). one ++ elements_of l) e ∙ append-nil one)) ∙ sym b))

pub one_put : (old new name : List ℕ) (v : Value) (o : Option (List ℕ × Value)) → o ≡ Some (name, v) → new ≡ old ++ element (name, spelling v) → new ≡ old ++ elements_of (onto o [])
one_put old new name v o e h = h ∙ (ap (λ (l : List ℕ). old ++ l) (sym (append-nil (element (name, spelling v)))) ∙ ap (λ (x : Option (List ℕ × Value)). old ++ elements_of (onto x [])) (sym e))

-- fields, and further ones behind them
pub both_put : (old one two : List ℕ) (xs ys : Fields) → one ≡ old ++ elements_of xs → two ≡ one ++ elements_of ys → two ≡ old ++ elements_of (xs ++ ys)
both_put old one two xs ys a b =
    b ∙ (ap (λ (l : List ℕ). l ++ elements_of ys) a ∙ (append_assoc old (elements_of xs) (elements_of ys) ∙ ap (λ (l : List ℕ). old ++ l) (sym (elements-append xs ys))))

-- one field is a list of fields
pub as_fields : (old new name : List ℕ) (v : Value) → new ≡ old ++ element (name, spelling v) → new ≡ old ++ elements_of ((name, v) ∷ [])
as_fields old new name v h = h ∙ ap (λ (l : List ℕ). old ++ l) (sym (append-nil (element (name, spelling v))))

-- there is room for the length
pub room : (old name one : List ℕ) (start : ℕ) → one ≡ old ++ opening name → start ≡ length one → 4 ≤ start
room old name one start o s = omega (arith, s, ap length o, length-append old (opening name), head_length name)

pub within : (one two body : List ℕ) (start m : ℕ) → two ≡ one ++ body → start ≡ length one → m ≡ length two → start ≤ m
within one two body start m t s e = omega (arith, s, e, ap length t, length-append one body)

-- a document in a field, behind other fields
pub put_in : (old mid one two new name : List ℕ) (xs fs : Fields) (start : ℕ) → mid ≡ old ++ elements_of xs → one ≡ mid ++ opening name → start ≡ length one → two ≡ one ++ elements_of fs → new ≡ take (start - 4) two ++ framed (drop start two) → new ≡ old ++ elements_of (xs ++ (name, Object fs) ∷ [])
put_in old mid one two new name xs fs start m o s t n =
    both_put old mid new xs ((name, Object fs) ∷ []) m (closed mid name one (elements_of fs) two new start o s t n ∙ ap (λ (b : List ℕ). mid ++ b) (field_is name fs))

-- ---- arrays

array_spelling : (vs : List Value) → spelling (Array vs) ≡ (4, framed (items_of vs))
array_spelling vs = ap (λ (v : Value). spelling v) (sym (rolls-Array vs)) ∙ fold-roll-Value Typed spelling_step (Value-F.Array vs)

pub closed_array : (old name one two new : List ℕ) (vs : List Value) (start : ℕ) → one ≡ old ++ opening_array name → start ≡ length one → two ≡ one ++ items_of vs → new ≡ take (start - 4) two ++ framed (drop start two) → new ≡ old ++ element (name, spelling (Array vs))
closed_array old name one two new vs start o s t n =
    let zeros : List ℕ = 0 ∷ (0 ∷ (0 ∷ (0 ∷ []))) in
    let head4 : List ℕ = 4 ∷ (name ++ 0 ∷ []) in
    let opens : opening_array name ≡ head4 ++ zeros = ap (λ (l : List ℕ). 4 ∷ l) (sym (append_assoc name (0 ∷ []) zeros)) in
    let whole : two ≡ (old ++ head4) ++ (zeros ++ items_of vs) =
    t ∙ (ap (λ (l : List ℕ). l ++ items_of vs) (o ∙ (ap (λ (l : List ℕ). old ++ l) opens ∙ sym (append_assoc old head4 zeros)))
    ∙ append_assoc (old ++ head4) zeros (items_of vs)) in
    let size : length one ≡ length (old ++ head4) + 4 =
    ap length o ∙ omega (arith, length-append old (opening_array name), ap length opens, length-append head4 zeros, length-append old head4) in
    let front : take (start - 4) two ≡ old ++ head4 = ap (take (start - 4)) whole ∙ take_seam (old ++ head4) (zeros ++ items_of vs) (start - 4) (omega (arith, s, size)) in
    let rest : drop start two ≡ items_of vs = ap (drop start) t ∙ drop_seam one (items_of vs) start s in
    n ∙ ((λ i. front i ++ framed (rest i)) ∙ (append_assoc old head4 (framed (items_of vs)) ∙ (ap (λ (l : List ℕ). old ++ (4 ∷ l)) (append_assoc name (0 ∷ []) (framed (items_of vs))) ∙ ap (λ (x : Typed). old ++ element (name, x)) (sym (array_spelling vs)))))

pub object_put : (old name one two new : List ℕ) (fs : Fields) (start : ℕ) → one ≡ old ++ opening name → start ≡ length one → two ≡ one ++ elements_of fs → new ≡ take (start - 4) two ++ framed (drop start two) → new ≡ old ++ element (name, spelling (Object fs))
object_put old name one two new fs start o s t n = closed old name one (elements_of fs) two new start o s t n ∙ ap (λ (x : Typed). old ++ element (name, x)) (sym (object_spelling fs))
