-- Pieces that are written one after the other, or some front of them.
use Rattle.std.proofs.Common.{◌≡◌, ℕ, zero, suc, ◌+◌, ◌<◌, List, [], ◌∷◌, ◌++◌, length, take, drop, get_or, inl, inr, refl, sym, ap, subst, ◌∙◌, append_assoc, arith}
use Rattle.std.specs.Prelude.{Option, None, Some, Result, Ok, Err, OnOk, OnErr, flat_map}
use Rattle.std.specs.Io.KnownBytes.{Appends}
use Rattle.std.proofs.Math.Seq.{take-length, take-append-add}
use Rattle.std.proofs.lemmas.List.{append-nil, take-append-le, take_all, take_more, flat_map_more}
use Rattle.std.proofs.lemmas.Bool.{cases_lt}
use Rattle.tool_io.specs.Causes.{AppendsFront}

-- what is said of an answer, where another thing follows from it
pub on_ok : {A E : Type 0} {P Q : Type 0} (r : Result A E) → (P → Q) → OnOk r P → OnOk r Q
on_ok (Ok a) f p = f p
on_ok (Err e) f p = tt

pub on_err : {A E : Type 0} {P Q : Type 0} (r : Result A E) → (P → Q) → OnErr r P → OnErr r Q
on_err (Ok a) f p = tt
on_err (Err e) f p = f p

pub whatever_err : {A E : Type 0} {P : Type 0} (r : Result A E) → P → OnErr r P
whatever_err (Ok a) p = tt
whatever_err (Err e) p = p

pub appends_none : (a : Option (List ℕ)) → Appends a a []
appends_none None = tt
appends_none (Some xs) = sym (append-nil xs)

pub appends_two : (a b c : Option (List ℕ)) (xs ys : List ℕ) → Appends a b xs → Appends b c ys → Appends a c (xs ++ ys)
appends_two None b c xs ys p q = tt
appends_two (Some ks) None c xs ys p q = absurd p
appends_two (Some ks) (Some bs) None xs ys p q = absurd q
appends_two (Some ks) (Some bs) (Some cs) xs ys p q = q ∙ ap (λ z. z ++ ys) p ∙ append_assoc ks xs ys

pub front_none : (a : Option (List ℕ)) (xs : List ℕ) → AppendsFront a a xs
front_none a xs = (0, appends_none a)

pub front_whole : (a b : Option (List ℕ)) (xs : List ℕ) → Appends a b xs → AppendsFront a b xs
front_whole a b xs p = (length xs, subst (λ (z : List ℕ). Appends a b z) (sym (take-length xs)) p)

-- a front of the first piece, or of the second behind the first
pub front_first : (a b : Option (List ℕ)) (xs ys : List ℕ) → AppendsFront a b xs → AppendsFront a b (xs ++ ys)
front_first a b xs ys f = elim (cases_lt (length xs) f.0) [
  | inl lt ↦ (length xs, subst (λ (z : List ℕ). Appends a b z) (take_all f.0 xs (omega arith) ∙ sym (take-length xs) ∙ sym (take-append-le (length xs) xs ys (omega arith))) f.1)
  | inr le ↦ (f.0, subst (λ (z : List ℕ). Appends a b z) (sym (take-append-le f.0 xs ys le)) f.1)
]

pub front_next : (a b c : Option (List ℕ)) (xs ys : List ℕ) → Appends a b xs → AppendsFront b c ys → AppendsFront a c (xs ++ ys)
front_next a b c xs ys p f = (length xs + f.0, subst (λ (z : List ℕ). Appends a c z) (sym (take-append-add xs ys f.0)) (appends_two a b c xs (take f.0 ys) p f.1))

-- ---- a piece for each element of a list

module _ {X : Type 0} (f : X → List ℕ) where
  pub flat_more : (xs : List X) (i : ℕ) (x : X) → i < length xs → x ≡ get_or xs i x → flat_map f (take (i + 1) xs) ≡ flat_map f (take i xs) ++ f x
  flat_more xs i x lt is =
      let more : take (i + 1) xs ≡ take i xs ++ x ∷ [] = take_more xs i x lt ∙ ap (λ (y : X). take i xs ++ y ∷ []) (sym is) in
      ap (flat_map f) more ∙ sym (flat_map_more f [] (take i xs) x)

  flat_parts : (xs : List X) (i : ℕ) → flat_map f xs ≡ flat_map f (take i xs) ++ flat_map f (drop i xs)
  flat_parts xs zero = refl
  flat_parts [] (suc i) = refl
  flat_parts (y ∷ ys) (suc i) = ap (λ z. f y ++ z) (flat_parts ys i) ∙ sym (append_assoc (f y) (flat_map f (take i ys)) (flat_map f (drop i ys)))

  module _ (a b c : Option (List ℕ)) (xs : List X) (i : ℕ) (x : X) (lt : i < length xs) (is : x ≡ get_or xs i x) (so_far : Appends a b (flat_map f (take i xs))) where
    pub pieces_more : Appends b c (f x) → Appends a c (flat_map f (take (i + 1) xs))
    pieces_more p = subst (λ (z : List ℕ). Appends a c z) (sym (flat_more xs i x lt is)) (appends_two a b c (flat_map f (take i xs)) (f x) so_far p)

    pub pieces_front : AppendsFront b c (f x) → AppendsFront a c (flat_map f xs)
    pieces_front p =
        let k = front_first a c (flat_map f (take i xs) ++ f x) (flat_map f (drop (i + 1) xs)) (front_next a b c (flat_map f (take i xs)) (f x) so_far p) in
        subst (λ (z : List ℕ). AppendsFront a c z) (sym (flat_parts xs (i + 1) ∙ ap (λ z. z ++ flat_map f (drop (i + 1) xs)) (flat_more xs i x lt is))) k
