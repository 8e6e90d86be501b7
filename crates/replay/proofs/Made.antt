-- Steps that were made, one behind the other.
use Rattle.std.proofs.Common.{◌≡◌, ℕ, zero, suc, ◌+◌, ◌<◌, ◌≤◌, List, [], ◌∷◌, ◌++◌, length, map, take, drop, get_or, refl, sym, ap, ◌∙◌, subst, arith, length-append, append_assoc}
use Rattle.std.proofs.lemmas.List.{take_more, drop_more, append-nil}
use Rattle.std.specs.Prelude.{Result, Ok, Err, OnErr}
use Rattle.state_model.specs.Replay.{replay_all}
use Rattle.state_model.specs.Windows.{joined}
use Rattle.state_model.proofs.Windows.{replay_append}
use Rattle.entry_model.specs.Edits.{gathered}
use Rattle.coll_state.specs.Rows.{Rows, state_of}
use Rattle.replay.specs.Moves.{Step, total}
use Rattle.replay.specs.Steps.{Made, Stopped, MadeIsReplayed}

pub made_one : (ms : Step) (old new : Rows) → state_of new ≡ replay_all ms (state_of old) → Made (ms ∷ []) old new
made_one ms old new e = (new, e, refl)

pub made_append : (xs ys : List Step) (old mid new : Rows) → Made xs old mid → Made ys mid new → Made (xs ++ ys) old new
made_append [] ys old mid new e m = subst (λ (s : Rows). Made ys s new) e m
made_append (x ∷ xs) ys old mid new m n = (m.0, m.1, made_append xs ys m.0 mid new m.2 n)

pub stopped_one : (ms : Step) (old new : Rows) → new ≡ old → Stopped (ms ∷ []) old new
stopped_one ms old new e = (0, omega arith, e)

module _ {A : Type 0} where
  front : (vs zs : List A) (n : ℕ) → n < length vs → take n (vs ++ zs) ≡ take n vs
  front [] zs n h = absurd (omega (arith, h))
  front (v ∷ vs) zs zero h = refl
  front (v ∷ vs) zs (suc n) h = ap (λ (l : List A). v ∷ l) (front vs zs n (omega (arith, h)))

  taken : (xs ys zs : List A) (m : ℕ) → m < length ys → take (length xs + m) (xs ++ (ys ++ zs)) ≡ xs ++ take m ys
  taken [] ys zs m l = let z : 0 + m ≡ m = omega arith in ap (λ (n : ℕ). take n (ys ++ zs)) z ∙ front ys zs m l
  taken (x ∷ xs) ys zs m l =
      let z : suc (length xs) + m ≡ suc (length xs + m) = omega arith in
      ap (λ (n : ℕ). take n (x ∷ (xs ++ (ys ++ zs)))) z ∙ ap (λ (l : List A). x ∷ l) (taken xs ys zs m l)

  whole : (i : ℕ) (xs : List A) → take i xs ++ drop i xs ≡ xs
  whole zero xs = refl
  whole (suc i) [] = refl
  whole (suc i) (x ∷ xs) = ap (λ (l : List A). x ∷ l) (whole i xs)

  -- one item more, and the items around one
  more : (xs : List A) (i : ℕ) (x : A) → i < length xs → x ≡ get_or xs i x → take (i + 1) xs ≡ take i xs ++ x ∷ []
  more xs i x l e = take_more xs i x l ∙ ap (λ (y : A). take i xs ++ y ∷ []) (sym e)

  around : (xs : List A) (i : ℕ) (x : A) → i < length xs → x ≡ get_or xs i x → xs ≡ take i xs ++ (x ∷ drop (i + 1) xs)
  around xs i x l e = sym (whole i xs) ∙ ap (λ (l : List A). take i xs ++ l) (drop_more xs i x l ∙ ap (λ (y : A). y ∷ drop (i + 1) xs) (sym e))

-- those behind the ones that were made, and others behind them
pub stopped_in : (xs ys zs : List Step) (old mid new : Rows) → Made xs old mid → Stopped ys mid new → Stopped (xs ++ (ys ++ zs)) old new
stopped_in xs ys zs old mid new m s = (
  length xs + s.0,
  (let l = s.1 in omega (arith, l, length-append xs (ys ++ zs), length-append ys zs)),
  subst (λ (l : List Step). Made l old new) (sym (taken xs ys zs s.0 s.1)) (made_append xs (take s.0 ys) old mid new m s.2),
)

pub made_is_replayed : MadeIsReplayed
made_is_replayed [] old new e = ap state_of e
made_is_replayed (ms ∷ steps) old new m =
    made_is_replayed steps m.0 new m.2 ∙ (ap (replay_all (joined steps)) m.1 ∙ sym (replay_append ms (joined steps) (state_of old)))

-- ---- lists, item by item

module _ {A B : Type 0} (f : A → List B) where
  gathered_append : (xs ys : List A) → gathered f (xs ++ ys) ≡ gathered f xs ++ gathered f ys
  gathered_append [] ys = refl
  gathered_append (x ∷ xs) ys = ap (λ (l : List B). f x ++ l) (gathered_append xs ys) ∙ sym (append_assoc (f x) (gathered f xs) (gathered f ys))

  pub gathered_more : (xs : List A) (i : ℕ) (x : A) → i < length xs → x ≡ get_or xs i x → gathered f (take (i + 1) xs) ≡ gathered f (take i xs) ++ f x
  gathered_more xs i x l e = ap (gathered f) (more xs i x l e) ∙ (gathered_append (take i xs) (x ∷ []) ∙ ap (λ (l : List B). gathered f (take i xs) ++ l) (append-nil (f x)))

  pub gathered_at : (xs : List A) (i : ℕ) (x : A) → i < length xs → x ≡ get_or xs i x → gathered f xs ≡ gathered f (take i xs) ++ (f x ++ gathered f (drop (i + 1) xs))
  gathered_at xs i x l e = ap (gathered f) (around xs i x l e) ∙ gathered_append (take i xs) (x ∷ drop (i + 1) xs)

module _ {A B : Type 0} (g : A → B) where
  abbrev one : A → List B
  one x = g x ∷ []

  each_gathered : (xs : List A) → gathered one xs ≡ map g xs
  each_gathered [] = refl
  each_gathered (x ∷ xs) = ap (λ (l : List B). g x ∷ l) (each_gathered xs)

  pub each_more : (xs : List A) (i : ℕ) (x : A) → i < length xs → x ≡ get_or xs i x → map g (take (i + 1) xs) ≡ map g (take i xs) ++ g x ∷ []
  each_more xs i x l e = sym (each_gathered (take (i + 1) xs)) ∙ (gathered_more one xs i x l e ∙ ap (λ (l : List B). l ++ g x ∷ []) (each_gathered (take i xs)))

  pub each_at : (xs : List A) (i : ℕ) (x : A) → i < length xs → x ≡ get_or xs i x → map g xs ≡ map g (take i xs) ++ ((g x ∷ []) ++ map g (drop (i + 1) xs))
  each_at xs i x l e =
      sym (each_gathered xs) ∙ (gathered_at one xs i x l e ∙ (λ i'. each_gathered (take i xs) i' ++ ((g x ∷ []) ++ each_gathered (drop (i + 1) xs) i')))

module _ {A : Type 0} (g : A → ℕ) where
  total_append : (xs ys : List A) → total (map g (xs ++ ys)) ≡ total (map g xs) + total (map g ys)
  total_append [] ys = omega arith
  total_append (x ∷ xs) ys = let h = total_append xs ys in omega (arith, h)

  pub total_more : (xs : List A) (i : ℕ) (x : A) → i < length xs → x ≡ get_or xs i x → total (map g (take (i + 1) xs)) ≡ total (map g (take i xs)) + g x
  total_more xs i x l e =
      let h = ap (λ (ys : List A). total (map g ys)) (more xs i x l e) in
      let k = total_append (take i xs) (x ∷ []) in
      omega (arith, h, k)

  pub total_at : (xs : List A) (i : ℕ) (x : A) → i < length xs → x ≡ get_or xs i x → total (map g (take i xs)) + g x ≤ total (map g xs)
  total_at xs i x l e =
      let h = ap (λ (ys : List A). total (map g ys)) (around xs i x l e) in
      let k = total_append (take i xs) (x ∷ drop (i + 1) xs) in
      omega (arith, h, k)

-- ---- answers

pub err_of : {B : Type 0} {T E : Type 0} (r : Result T E) → B → OnErr r B
err_of (Ok x) b = tt
err_of (Err e) b = b
