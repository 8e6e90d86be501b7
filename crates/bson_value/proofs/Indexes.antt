-- Reading the name of an index.
use Rattle.std.proofs.Common.{◌≡◌, ◌≢◌, ℕ, suc, ◌<◌, ◌≤◌, ◌^◌, ◌+◌, ◌-◌, ◌*◌, ◌/◌, ◌%◌, ◌↔◌, List, [], ◌∷◌, ◌++◌, length, drop, get_or, refl, sym, ap, ◌∙◌, arith, Some, inl, inr, drop-cons, true}
use Rattle.std.specs.Prelude.{nat_lt}
use Rattle.std.specs.Str.{bytes_eq}
use Rattle.std.proofs.lemmas.Slice.Eq.{bytes_eq-Decides}
use Rattle.std.proofs.lemmas.Bool.{cases_Bool}
use Rattle.std.proofs.lemmas.Grind.{common_steps}
use Rattle.bson_value.specs.Digits.{digits, read_on, index_of}
use Rattle.bson_value.proofs.Digits.{digits-step, digits-one, digits-read, index_of-is}

read_ge : (n : ℕ) (cs : List ℕ) → n ≤ read_on n cs
read_ge n [] = omega arith
read_ge n (c ∷ cs) = omega (arith, read_ge (n * 10 + (c - 48)) cs)

step : (bytes : List ℕ) (i n : ℕ) → i < length bytes → read_on 0 bytes ≡ read_on n (drop i bytes) → read_on 0 bytes ≡ read_on (n * 10 + (get_or bytes i 0 - 48)) (drop (suc i) bytes)
step bytes i n l e = e ∙ ap (read_on n) (drop-cons bytes i 0 l)

pub over_mul : (bytes : List ℕ) (i n : ℕ) → i < length bytes → read_on 0 bytes ≡ read_on n (drop i bytes) → 2 ^ 64 ≤ n * 10 → 2 ^ 64 ≤ read_on 0 bytes
over_mul bytes i n l e h = let g = read_ge (n * 10 + (get_or bytes i 0 - 48)) (drop (suc i) bytes) in omega (arith, step bytes i n l e, g)

pub over_add : (bytes : List ℕ) (i n m d : ℕ) → i < length bytes → read_on 0 bytes ≡ read_on n (drop i bytes) → m ≡ n * 10 → d ≡ get_or bytes i 0 - 48 → 2 ^ 64 ≤ m + d → 2 ^ 64 ≤ read_on 0 bytes
over_add bytes i n m d l e a b h = let g = read_ge (n * 10 + (get_or bytes i 0 - 48)) (drop (suc i) bytes) in omega (arith, step bytes i n l e, g)

-- ---- digits from behind

not_nil : (a : List ℕ) (x : ℕ) → [] ≢ a ++ (x ∷ [])
not_nil [] x e = cc
not_nil (b ∷ bs) x e = cc

same_ends : (a b : List ℕ) (x y : ℕ) → a ++ (x ∷ []) ≡ b ++ (y ∷ []) → (a ≡ b) × (x ≡ y)
same_ends [] [] x y e = (refl, cc)
same_ends [] (b ∷ bs) x y e = let t : [] ≡ bs ++ (y ∷ []) = cc in absurd (not_nil bs y t)
same_ends (a ∷ bt) [] x y e = let t : [] ≡ bt ++ (x ∷ []) = cc in absurd (not_nil bt x t)
same_ends (a ∷ bt) (b ∷ bs) x y e =
    let h : a ≡ b = cc in
    let t : bt ++ (x ∷ []) ≡ bs ++ (y ∷ []) = cc in
    let r = same_ends bt bs x y t in
    ((λ i. h i ∷ r.0 i), r.1)

digits_end : (n : ℕ) → (a : List ℕ) × (digits n ≡ a ++ ((48 + n % 10) ∷ []))
digits_end n = elim (cases_Bool (nat_lt n 10)) [
  | inl e ↦ let l : n < 10 = grind (arith, common_steps) in ([], digits-one n l ∙ ap (λ (d : ℕ). d ∷ []) (omega arith))
  | inr e ↦ let l : 10 ≤ n = grind (arith, common_steps) in (digits (n / 10), digits-step n l)
]

pub no_digits : (n : ℕ) → [] ≢ digits n
no_digits n e = let d = digits_end n in not_nil d.0 _ (e ∙ d.1)

pub other_digit : (n last : ℕ) (front : List ℕ) → last ≢ 48 + n % 10 → front ++ (last ∷ []) ≢ digits n
other_digit n last front h e = let d = digits_end n in h (same_ends front d.0 last _ (e ∙ d.1)).1

pub one_digit : (n last : ℕ) (front : List ℕ) → n < 10 → last ≡ 48 + n % 10 → (front ≡ []) ↔ (front ++ (last ∷ []) ≡ digits n)
one_digit n last front l h =
    let e : last ≡ 48 + n = omega arith in
    ((λ z. rw (z, digits-one n l, e) refl), λ z. (same_ends front [] last _ (z ∙ digits-one n l)).0)

pub more_digits : (n last : ℕ) (front : List ℕ) → 10 ≤ n → last ≡ 48 + n % 10 → (front ≡ digits (n / 10)) ↔ (front ++ (last ∷ []) ≡ digits n)
more_digits n last front l h =
    ((λ z. rw (z, digits-step n l, h) refl), λ z. (same_ends front (digits (n / 10)) last _ (z ∙ digits-step n l)).0)

-- ---- the index

pub index_is : (t : List ℕ) (n : ℕ) → read_on 0 t ≡ n → t ≡ digits n → index_of t ≡ Some n
unfolding index_of
index_is t n e d =
    let h : bytes_eq (digits n) t ≡ true = (bytes_eq-Decides (digits n) t).1 (sym d) in
    rw (e, h) refl

pub no_index : (t : List ℕ) (n m : ℕ) → read_on 0 t ≡ n → t ≢ digits n → index_of t ≡ Some m → ⊥
no_index t n m e d i =
    let s = index_of-is t m i in
    let r : m ≡ n = sym (digits-read m) ∙ (ap (read_on 0) (sym s) ∙ e) in
    d (s ∙ ap digits r)

pub far_index : (t : List ℕ) (m : ℕ) → 2 ^ 64 ≤ read_on 0 t → index_of t ≡ Some m → 2 ^ 64 ≤ m
far_index t m l i =
    let s = index_of-is t m i in
    let r : read_on 0 t ≡ m = ap (read_on 0) s ∙ digits-read m in
    omega arith
