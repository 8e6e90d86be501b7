-- Parts and places as names.
use Rattle.std.proofs.Common.{◌≡◌, ℕ, suc, List, [], ◌∷◌, ◌++◌, length, Bool, true, false, refl, sym, ap, ◌∙◌, arith, Some}
use Rattle.std.specs.Prelude.{◌↔◌, ◌<◌, ◌≤◌, ◌^◌, IsTrue, nat_eq, not}
use Rattle.std.proofs.lemmas.Grind.{common_steps}
use Rattle.bson_value.specs.Digits.{digits, index_of, read_on}
use Rattle.bson_value.proofs.Digits.{digits-read, index_of-digits, index_of-is}
use Rattle.bson_value.specs.Place.{Place}
use Rattle.doc_path.specs.declared.parts.Part.{Part}
use Rattle.doc_path.specs.Touch.{key_of}
use Rattle.doc_path.specs.Places.{keys, IsAbove}

pub one_index : (m n : ℕ) → digits m ≡ digits n → m ≡ n
one_index m n e = sym (digits-read m) ∙ (ap (read_on 0) e ∙ digits-read n)

pub no_index : (t : List ℕ) (m : ℕ) → m < 2 ^ 64 → ((n : ℕ) → index_of t ≡ Some n → 2 ^ 64 ≤ n) → t ≡ digits m → ⊥
no_index t m l none e = let h = none m (ap index_of e ∙ index_of-digits m) in omega arith

-- ---- places, part by part

-- the heads of equal lists of names
heads : (j k : List ℕ) (p q : Place) → j ∷ p ≡ k ∷ q → (j ≡ k) × (p ≡ q)
heads j k p q e = (cc, cc)

end_of : (p : Place) → p ++ [] ≡ p
end_of [] = refl
end_of (k ∷ p) = λ i. k ∷ end_of p i

-- what is behind an equal front is nothing
same_rest : (p r : Place) → p ≡ p ++ r → r ≡ []
same_rest [] r e = sym e
same_rest (k ∷ p) r e = same_rest p r (heads k k p (p ++ r) e).1

no_keys : (ps : List Part) → keys ps ≡ [] → ps ≡ []
no_keys [] e = refl
no_keys (p ∷ ps) e = cc

pub same_there : (a b : Place) (rest : List Part) → b ≡ a ++ keys rest → (rest ≡ []) ↔ (a ≡ b)
same_there a b rest e =
    ((λ n. sym (end_of a) ∙ (ap (λ (r : List Part). a ++ keys r) (sym n) ∙ sym e)), λ s. no_keys rest (same_rest a (keys rest) (s ∙ e)))

pub same_not : (a b : Place) → ((rest : Place) → b ≡ a ++ rest → ⊥) → a ≡ b → ⊥
same_not a b none e = none [] (sym e ∙ sym (end_of a))

pub above_there : (a b : Place) (p : Part) (rest : List Part) → b ≡ a ++ keys (p ∷ rest) → IsAbove a b
above_there a b p rest e = (key_of p, keys rest, e)

pub above_same : (a b : Place) → b ≡ a ++ keys [] → IsAbove a b → ⊥
above_same a b e (k, rest, h) = let n = same_rest a (k ∷ rest) (sym (end_of a) ∙ (sym e ∙ h)) in cc

-- ---- what the code tests

pub named_test : (t : List ℕ) (n m : ℕ) → index_of t ≡ Some n → IsTrue (nat_eq n m) ↔ (t ≡ digits m)
named_test t n m e =
    let s = index_of-is t n e in
    ((λ h. let g : n ≡ m = grind (arith, common_steps) in s ∙ ap digits g), λ h. let g : n ≡ m = one_index n m (sym s ∙ h) in grind (arith, common_steps))

pub unnamed_test : (t : List ℕ) (m : ℕ) → m < 2 ^ 64 → ((n : ℕ) → index_of t ≡ Some n → 2 ^ 64 ≤ n) → IsTrue false ↔ (t ≡ digits m)
unnamed_test t m l none = ((λ h. cc), λ h. absurd (no_index t m l none h))

pub digits_test : (m n : ℕ) → IsTrue (nat_eq m n) ↔ (digits m ≡ digits n)
digits_test m n =
    ((λ h. let g : m ≡ n = grind (arith, common_steps) in ap digits g), λ h. let g : m ≡ n = one_index m n h in grind (arith, common_steps))

some_length : (n : ℕ) → nat_eq (suc n) 0 ≡ false
some_length n = grind (arith, common_steps)

pub same_test : (a b : Place) (rest : List Part) (e : Bool) → e ≡ nat_eq (length rest) 0 → b ≡ a ++ keys rest → IsTrue e ↔ (a ≡ b)
same_test a b [] e t h = ((λ i. (same_there a b [] h).0 refl), λ i. t)
same_test a b (p ∷ rest) e t h =
    let no : e ≡ false = t ∙ some_length (length rest) in
    ((λ i. let f : true ≡ false = sym i ∙ no in cc), λ i. let n = (same_there a b (p ∷ rest) h).1 i in cc)

pub no_test : (a b : Place) → ((rest : Place) → b ≡ a ++ rest → ⊥) → IsTrue false ↔ (a ≡ b)
no_test a b none = ((λ i. cc), λ i. absurd (same_not a b none i))

pub above_test : (a b : Place) (rest : List Part) (e : Bool) → e ≡ nat_eq (length rest) 0 → b ≡ a ++ keys rest → IsTrue (not e) ↔ IsAbove a b
above_test a b [] e t h = ((λ i. let f : not e ≡ false = rw t refl in let g : true ≡ false = sym i ∙ f in cc), λ i. absurd (above_same a b h i))
above_test a b (p ∷ rest) e t h =
    let no : e ≡ false = t ∙ some_length (length rest) in
    ((λ i. above_there a b p rest h), λ i. rw no refl)
