-- Lists that a loop makes, element by element.
use Rattle.std.proofs.Common.{◌≡◌, ℕ, ◌+◌, ◌<◌, ◌≤◌, List, [], ◌∷◌, ◌++◌, length, take, get_or, refl, sym, ap, ◌∙◌, append_assoc}
use Rattle.std.proofs.lemmas.List.{take_more, take_all}
use Rattle.entry_model.specs.Edits.{mapped}

module _ {A B : Type 0} (g : A → B) where
  pub mapped_append : (xs ys : List A) → mapped g (xs ++ ys) ≡ mapped g xs ++ mapped g ys
  mapped_append [] ys = refl
  mapped_append (x ∷ xs) ys = ap (λ (l : List B). g x ∷ l) (mapped_append xs ys)

  mapped_more : (xs : List A) (i : ℕ) (x : A) → i < length xs → x ≡ get_or xs i x → mapped g (take (i + 1) xs) ≡ mapped g (take i xs) ++ g x ∷ []
  mapped_more xs i x lt e =
      ap (mapped g) (take_more xs i x lt) ∙ (mapped_append (take i xs) (get_or xs i x ∷ []) ∙ ap (λ (y : A). mapped g (take i xs) ++ g y ∷ []) (sym e))

  -- one more
  pub pushed : (xs : List A) (i : ℕ) (x : A) (old now new : List B) → i < length xs → x ≡ get_or xs i x → now ≡ old ++ mapped g (take i xs) → new ≡ now ++ g x ∷ [] → new ≡ old ++ mapped g (take (i + 1) xs)
  pushed xs i x old now new lt e inv is =
      is ∙ (ap (λ (l : List B). l ++ g x ∷ []) inv ∙ (append_assoc old (mapped g (take i xs)) (g x ∷ []) ∙ ap (λ (l : List B). old ++ l) (sym (mapped_more xs i x lt e))))

  -- all
  pub all_pushed : (xs : List A) (i : ℕ) (old now : List B) → length xs ≤ i → now ≡ old ++ mapped g (take i xs) → now ≡ old ++ mapped g xs
  all_pushed xs i old now le inv = inv ∙ ap (λ (l : List A). old ++ mapped g l) (take_all i xs le)

pub mapped_twice : {A B C : Type 0} (f : B → C) (g : A → B) (xs : List A) → mapped f (mapped g xs) ≡ mapped (λ x. f (g x)) xs
mapped_twice f g [] = refl
mapped_twice {A} {B} {C} f g (x ∷ xs) = ap (λ (l : List C). f (g x) ∷ l) (mapped_twice f g xs)

pub append_nil : {A : Type 0} (xs : List A) → xs ++ [] ≡ xs
append_nil [] = refl
append_nil {A} (x ∷ xs) = ap (λ (l : List A). x ∷ l) (append_nil xs)

-- a first element and others
pub first_and_others : {A : Type 0} (others init now : List A) (first copied : A) (i : ℕ) → init ≡ copied ∷ [] → copied ≡ first → now ≡ init ++ take i others → length others ≤ i → now ≡ first ∷ others
first_and_others {A} others init now first copied i a b inv le = inv ∙ ((λ k. a k ++ take_all i others le k) ∙ ap (λ (x : A). x ∷ others) b)
