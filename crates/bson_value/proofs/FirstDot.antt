-- The first dot of a text, and what stands before and behind it.
use Rattle.std.proofs.Common.{◌≡◌, ℕ, zero, suc, ◌+◌, ◌<◌, Bool, true, false, List, [], ◌∷◌, ◌++◌, length, get_or, take, drop, eqb, refl, sym, ap, ◌∙◌, subst, arith, length-append}
use Rattle.std.specs.Prelude.{◌⊎◌, ◌==◌}
use Rattle.std.specs.List.{position_or_len, before_first, after_first}
use Rattle.std.proofs.lemmas.List.{take_at, drop_at, get_or_at}
use Rattle.std.proofs.lemmas.List.Sums.{fails_before_first, passes_at_first, split_at_first, position_or_len_is}
use Rattle.std.proofs.lemmas.Bool.{ne_eqb}
use Rattle.std.proofs.Common.{inl, inr, eq-eqb, eqb-true}
use Rattle.bson_value.specs.Namespace.{IsSplit}

abbrev is_dot : ℕ → Bool
is_dot b = eqb b 46

-- the place of the first dot of a text that is parted there
place_of_dot : (text db coll : List ℕ) → IsSplit text db coll → position_or_len is_dot text ≡ length db
place_of_dot text db coll s =
    position_or_len_is is_dot text (length db) 46 (omega (arith, ap length s.joined, length-append db (46 ∷ coll)))
    (λ k lt. ne_eqb (get_or text k 46) 46 (λ e. s.first_dot (k, lt, before k lt ∙ e)))
    (λ lt. eq-eqb _ _ (ap (λ (l : List ℕ). get_or l (length db) 46) s.joined ∙ get_or_at db 46 coll 46 (length db) refl))
  where
    front : (xs ys : List ℕ) (k : ℕ) → k < length xs → get_or xs k 46 ≡ get_or (xs ++ ys) k 46
    front [] ys k lt = absurd (omega arith)
    front (x ∷ xs) ys zero lt = refl
    front (x ∷ xs) ys (suc k) lt = front xs ys k (omega arith)

    before : (k : ℕ) → k < length db → get_or db k 46 ≡ get_or text k 46
    before k lt = front db (46 ∷ coll) k lt ∙ ap (λ (l : List ℕ). get_or l k 46) (sym s.joined)

-- a text without a dot isn't parted
pub without_dot : (text : List ℕ) → position_or_len is_dot text ≡ length text → (db coll : List ℕ) → IsSplit text db coll → ⊥
without_dot text e db coll s = omega (arith, place_of_dot text db coll s, e, ap length s.joined, length-append db (46 ∷ coll))

-- what stands on both sides of the first dot
pub sides : (text db coll : List ℕ) → IsSplit text db coll → (db ≡ before_first is_dot text) × (coll ≡ after_first is_dot text)
sides text db coll s =
    let k = place_of_dot text db coll s in
    let whole : text ≡ (db ++ 46 ∷ []) ++ coll = s.joined ∙ joined db coll in (
      sym (ap (λ (n : ℕ). take n text) k ∙ (ap (λ (l : List ℕ). take (length db) l) s.joined ∙ take_at db (46 ∷ coll) (length db) refl)),
      sym (ap (λ (n : ℕ). drop (n + 1) text) k ∙ (ap (λ (l : List ℕ). drop (length db + 1) l) whole ∙ drop_at (db ++ 46 ∷ []) coll (length db + 1) (length-append db (46 ∷ [])))),
    )
  where
    joined : (xs ys : List ℕ) → xs ++ 46 ∷ ys ≡ (xs ++ 46 ∷ []) ++ ys
    joined [] ys = refl
    joined (x ∷ xs) ys = ap (λ (l : List ℕ). x ∷ l) (joined xs ys)

-- nothing stands on one side of the first dot
pub empty_side : (text db coll : List ℕ) (x y : List ℕ) → x ≡ before_first is_dot text → y ≡ after_first is_dot text → (x ≡ []) ⊎ (y ≡ []) → IsSplit text db coll → ⊥
empty_side text db coll x y p q (inl e) s = s.some_db ((sides text db coll s).0 ∙ (sym p ∙ e))
empty_side text db coll x y p q (inr e) s = s.some_coll ((sides text db coll s).1 ∙ (sym q ∙ e))

-- the first dot of a text that has one
pub at_first_dot : (text x y : List ℕ) → position_or_len is_dot text < length text → x ≡ before_first is_dot text → y ≡ after_first is_dot text → (x ≡ [] → ⊥) → (y ≡ [] → ⊥) → IsSplit text x y
at_first_dot text x y lt p q some_x some_y =
    let there : get_or text (position_or_len is_dot text) 46 ≡ 46 = eqb-true _ _ (passes_at_first is_dot text 46 lt) in
    record {
      joined = split_at_first is_dot text 46 lt ∙ (ap (λ (n : ℕ). before_first is_dot text ++ n ∷ after_first is_dot text) there ∙ (ap (λ (l : List ℕ). l ++ 46 ∷ after_first is_dot text) (sym p) ∙ ap (λ (l : List ℕ). x ++ 46 ∷ l) (sym q)));
      first_dot = λ c. no_dot c.0 (subst (λ (l : List ℕ). c.0 < length l) p c.1) (sym (ap (λ (l : List ℕ). get_or l c.0 46) p) ∙ c.2);
      some_db = some_x;
      some_coll = some_y;
    }
  where
    taken : (xs : List ℕ) (n k : ℕ) → k < length (take n xs) → (k < n) × (get_or (take n xs) k 46 ≡ get_or xs k 46)
    taken [] zero k lt = absurd (omega arith)
    taken [] (suc n) k lt = absurd (omega arith)
    taken (x ∷ xs) zero k lt = absurd (omega arith)
    taken (x ∷ xs) (suc n) zero lt = (omega arith, refl)
    taken (x ∷ xs) (suc n) (suc k) lt = let r = taken xs n k (omega arith) in (omega (arith, r.0), r.1)

    no_dot : (k : ℕ) → k < length (before_first is_dot text) → get_or (before_first is_dot text) k 46 ≡ 46 → ⊥
    no_dot k lt e =
        let t = taken text (position_or_len is_dot text) k lt in
        let f = fails_before_first is_dot text k 46 t.0 in
        let g : is_dot (get_or text k 46) ≡ true = eq-eqb _ _ (sym t.1 ∙ e) in
        let h : false ≡ true = sym f ∙ g in cc

pub is_empty_list : (xs : List ℕ) (b : Bool) → b ≡ (length xs == 0) → b ≡ true → xs ≡ []
is_empty_list [] b e t = refl
is_empty_list (x ∷ xs) b e t = let n : length (x ∷ xs) ≡ 0 = eqb-true _ _ (sym e ∙ t) in absurd (omega (arith, n))

pub is_no_empty_list : (xs : List ℕ) (b : Bool) → b ≡ (length xs == 0) → b ≡ false → xs ≡ [] → ⊥
is_no_empty_list xs b e f n = let t : (length xs == 0) ≡ true = ap (λ (l : List ℕ). length l == 0) n in let u : false ≡ true = sym f ∙ (e ∙ t) in cc
