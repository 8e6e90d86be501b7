-- Rows none of which share a key, and lists in which nothing is repeated.
use Rattle.std.proofs.Common.{◌≡◌, ℕ, List, [], ◌∷◌, ◌++◌, map as each, Bool, true, false, cond, refl, sym, ap, ◌∙◌, subst, Option, Some, None, inl, inr}
use Rattle.std.specs.Prelude.{⊤, ◌⊎◌, ◌&&◌, ◌||◌, if◌then◌else◌, is_some}
use Rattle.std.specs.List.{list_any}
use Rattle.std.specs.Str.{bytes_eq}
use Rattle.std.proofs.lemmas.Bool.{cases_Bool}
use Rattle.std.proofs.lemmas.Slice.Eq.{bytes_eq-Decides}
use Rattle.state_model.specs.Keys.{Key, same_key}
use Rattle.state_model.proofs.Keys.{key_is, key_from, key_turn}
use Rattle.coll_state.specs.Rows.{Document, Row, row_of}
use Rattle.index_keys.specs.declared.plan.Plan.{Plan}
use Rattle.index_build.specs.Repeats.{first_where, or_later, repeat_behind, repeat}
use Rattle.history_model.specs.Refusals.{meet, texts_in, clashes}

-- ---- tests that no element meets

pub or_left : (a b : Bool) → (a || b) ≡ false → a ≡ false
or_left false b e = refl
or_left true b e = e

pub or_right : (a b : Bool) → (a || b) ≡ false → b ≡ false
or_right false b e = e
or_right true b e = cc

or_none : (a b : Bool) → a ≡ false → b ≡ false → (a || b) ≡ false
or_none a b e f = (λ i. e i || f i)

module _ {A : Type 0} where
  abbrev None_of : (A → Bool) → List A → Type 0
  None_of p [] = ⊤
  None_of p (x ∷ xs) = (p x ≡ false) × None_of p xs

  none_out : (p : A → Bool) (xs : List A) → list_any p xs ≡ false → None_of p xs
  none_out p [] e = tt
  none_out p (x ∷ xs) e = (or_left (p x) (list_any p xs) e, none_out p xs (or_right (p x) (list_any p xs) e))

  none_in : (p : A → Bool) (xs : List A) → None_of p xs → list_any p xs ≡ false
  none_in p [] h = refl
  none_in p (x ∷ xs) h = or_none (p x) (list_any p xs) h.0 (none_in p xs h.1)

-- ---- texts in common

same_text : (a b : List ℕ) (c : Bool) → bytes_eq a b ≡ c → bytes_eq b a ≡ c
same_text a b true e = (bytes_eq-Decides b a).1 (sym ((bytes_eq-Decides a b).0 e))
same_text a b false e = by (cases_Bool (bytes_eq b a))
  where
    by : (bytes_eq b a ≡ true) ⊎ (bytes_eq b a ≡ false) → bytes_eq b a ≡ false
    by (inl x) = (let y : bytes_eq a b ≡ true = (bytes_eq-Decides a b).1 (sym ((bytes_eq-Decides b a).0 x)) in cc)
    by (inr x) = x

turned_head : (t : List ℕ) (us : List (List ℕ)) → None_of (bytes_eq t) us → None_of (λ u. bytes_eq u t) us
turned_head t [] h = tt
turned_head t (u ∷ us) h = (same_text t u false h.0, turned_head t us h.1)

more : (t : List ℕ) (ts us : List (List ℕ)) → None_of (λ u. bytes_eq u t) us → None_of (λ u. list_any (bytes_eq u) ts) us → None_of (λ u. list_any (bytes_eq u) (t ∷ ts)) us
more t ts [] h g = tt
more t ts (u ∷ us) h g = (or_none (bytes_eq u t) (list_any (bytes_eq u) ts) h.0 g.0, more t ts us h.1 g.1)

none_at_all : (us : List (List ℕ)) → None_of (λ u. list_any (bytes_eq u) []) us
none_at_all [] = tt
none_at_all (u ∷ us) = (refl, none_at_all us)

turned_all : (ts us : List (List ℕ)) → None_of (λ t. list_any (bytes_eq t) us) ts → None_of (λ u. list_any (bytes_eq u) ts) us
turned_all [] us h = none_at_all us
turned_all (t ∷ ts) us h = more t ts us (turned_head t us (none_out (bytes_eq t) us h.0)) (turned_all ts us h.1)

pub meet_turn : (ts us : List (List ℕ)) → meet ts us ≡ false → meet us ts ≡ false
meet_turn ts us e = none_in (λ u. list_any (bytes_eq u) ts) us (turned_all ts us (none_out (λ t. list_any (bytes_eq t) us) ts e))

-- ---- rows

no_row : (r : Row) → None ≡ Some r → ⊥
no_row r e = cc

some_row : (a b : Row) → Some a ≡ Some b → a ≡ b
some_row a b e = cc

pub row_any : (p : Row → Bool) (rs : List Row) (k : Key) (r : Row) → row_of rs k ≡ Some r → list_any p rs ≡ false → p r ≡ false
row_any p [] k r e h = absurd (no_row r e)
row_any p (x ∷ xs) k r e h = by (same_key k x.key) e (row_any p xs k r)
  where
    by : (b : Bool) → (if b then Some x else row_of xs k) ≡ Some r → (row_of xs k ≡ Some r → list_any p xs ≡ false → p r ≡ false) → p r ≡ false
    by true f rest = subst (λ (z : Row). p z ≡ false) (some_row x r f) (or_left (p x) (list_any p xs) h)
    by false f rest = rest f (or_right (p x) (list_any p xs) h)

pub rows_apart : (plan : Plan) (rs : List Row) (k q : Key) (r s : Row) → row_of rs k ≡ Some r → row_of rs q ≡ Some s → same_key q k ≡ false → clashes plan rs ≡ false → meet (texts_in plan s) (texts_in plan r) ≡ false
rows_apart plan [] k q r s e f d h = absurd (no_row r e)
rows_apart plan (x ∷ xs) k q r s e f d h = by (same_key k x.key) (same_key q x.key) refl refl e f (rows_apart plan xs k q r s)
  where
    of_head : list_any (λ z. meet (texts_in plan x) (texts_in plan z)) xs ≡ false
    of_head = or_left (list_any (λ z. meet (texts_in plan x) (texts_in plan z)) xs) (clashes plan xs) h

    both : same_key k x.key ≡ true → same_key q x.key ≡ true → same_key q k ≡ true
    both a b = key_from q k (key_is q x.key b ∙ sym (key_is k x.key a))

    by : (a b : Bool) → same_key k x.key ≡ a → same_key q x.key ≡ b → (if a then Some x else row_of xs k) ≡ Some r → (if b then Some x else row_of xs q) ≡ Some s →
        (row_of xs k ≡ Some r → row_of xs q ≡ Some s → same_key q k ≡ false → clashes plan xs ≡ false → meet (texts_in plan s) (texts_in plan r) ≡ false) → meet (texts_in plan s) (texts_in plan r) ≡ false
    by true true a b g i rest = (let c = both a b in cc)
    by true false a b g i rest =
        subst (λ (z : Row). meet (texts_in plan s) (texts_in plan z) ≡ false) (some_row x r g)
        (meet_turn (texts_in plan x) (texts_in plan s) (row_any (λ z. meet (texts_in plan x) (texts_in plan z)) xs q s i of_head))
    by false true a b g i rest =
        subst (λ (z : Row). meet (texts_in plan z) (texts_in plan r) ≡ false) (some_row x s i)
        (row_any (λ z. meet (texts_in plan x) (texts_in plan z)) xs k r g of_head)
    by false false a b g i rest = rest g i d (or_right (list_any (λ z. meet (texts_in plan x) (texts_in plan z)) xs) (clashes plan xs) h)

-- ---- repeats

module _ {A : Type 0} (shares : A → A → Bool) where
  -- none of the later ones shares with one of these
  abbrev pub AllNew : List A → List A → Type 0
  AllNew before [] = ⊤
  AllNew before (x ∷ xs) = (first_where (shares x) before ≡ None) × AllNew before xs

  -- nor with an earlier one
  abbrev pub Apart : List A → Type 0
  Apart [] = ⊤
  Apart (x ∷ xs) = AllNew (x ∷ []) xs × Apart xs

  where_more : (p : A → Bool) (xs ys : List A) → first_where p xs ≡ None → first_where p ys ≡ None → first_where p (xs ++ ys) ≡ None
  where_more p [] ys e f = f
  where_more p (x ∷ xs) ys e f = by (p x) e (where_more p xs ys)
    where
      by : (b : Bool) → (if b then Some x else first_where p xs) ≡ None → (first_where p xs ≡ None → first_where p ys ≡ None → first_where p (xs ++ ys) ≡ None) → (if b then Some x else first_where p (xs ++ ys)) ≡ None
      by true g rest = g
      by false g rest = rest g f

  new_more : (before : List A) (x : A) (xs : List A) → AllNew before xs → AllNew (x ∷ []) xs → AllNew (before ++ x ∷ []) xs
  new_more before x [] h g = tt
  new_more before x (y ∷ ys) h g = (where_more (shares y) before (x ∷ []) h.0 g.0, new_more before x ys h.1 g.1)

  none_behind : (before xs : List A) → AllNew before xs → Apart xs → repeat_behind shares before xs ≡ None
  none_behind before [] h g = refl
  none_behind before (x ∷ xs) h g =
      ap (λ (o : Option A). or_later x o (repeat_behind shares (before ++ x ∷ []) xs)) h.0
      ∙ none_behind (before ++ x ∷ []) xs (new_more before x xs h.1 g.0) g.1

  none_before : (xs : List A) → AllNew [] xs
  none_before [] = tt
  none_before (x ∷ xs) = (refl, none_before xs)

  pub no_repeat : (xs : List A) → Apart xs → repeat shares xs ≡ None
  no_repeat xs g = none_behind [] xs (none_before xs) g
