-- The first list that has a text of an earlier one, found by the owners of texts.
use Rattle.std.proofs.Common.{◌≡◌, ℕ, suc, ◌+◌, ◌<◌, List, [], ◌∷◌, ◌++◌, length, map, get_or, take, Bool, true, false, cond, refl, sym, ap, ◌∙◌, subst, arith, append_assoc, length-append, Option, Some, None, inl, inr}
use Rattle.std.specs.Prelude.{◌||◌, ◌⊎◌, option_map, is_some, if◌then◌else◌}
use Rattle.std.specs.Str.{bytes_eq}
use Rattle.std.specs.Ordering.{nat_cmp}
use Rattle.std.specs.Cmp.{eq_by_cmp_equiv}
use Rattle.std.specs.Cmp.Lexicographic.{slice_cmp, texts_ties, nat_list_cmp_total}
use Rattle.std.specs.BTreeMap.{BTreeMap, get, is_at}
use Rattle.std.proofs.lemmas.Bool.{cases_Bool}
use Rattle.std.proofs.lemmas.List.{take_more, length-map, map-append}
use Rattle.std.proofs.Math.ListN.{get_or-append}
use Rattle.std.proofs.Math.Seq.{get_or-append_seam}
use Rattle.std.proofs.lemmas.List.Folds.{list_any-append}
use Rattle.state_model.proofs.Keys.{key_is}
use Rattle.index_build.specs.declared.owners.Repeats.{Repeats}
use Rattle.index_build.specs.Repeats.{first_where, or_later, repeat_behind, repeat}
use Rattle.index_build.specs.Faults.{meet, or_else}
use Rattle.index_build.specs.Owners.{Texts, has, place_where, lesser, AreOwners, later_place, repeat_place_behind, repeat_place}
use Rattle.index_build.specs.Repeated.{Follows}
use Rattle.index_build.proofs.Places.{no_place, place_either, same_places, place_more, place_below, first_at_place, place_map}

-- ---- the first owner of some texts

or_false : (a : Bool) → (a || false) ≡ a
or_false true = refl
or_false false = refl

meet_none : (ks : Texts) (us : Texts) → meet (take 0 ks) us ≡ false
meet_none [] us = refl
meet_none (k ∷ ks) us = refl

meet_more : (ts : Texts) (t : List ℕ) (us : Texts) → meet (ts ++ t ∷ []) us ≡ (meet ts us || has t us)
meet_more ts t us = list_any-append (λ u. has u us) ts (t ∷ []) ∙ ap (λ b. meet ts us || b) (or_false (has t us))

pub no_owner : (ks : Texts) (lists : List Texts) → None ≡ place_where (meet (take 0 ks)) lists
no_owner ks lists = sym (same_places (meet (take 0 ks)) (λ us. false) lists (meet_none ks) ∙ no_place lists)

pub next_owner : (ks : Texts) (i : ℕ) (k : List ℕ) (first mine : Option ℕ) (lists : List Texts) → i < length ks → k ≡ get_or ks i k → first ≡ place_where (meet (take i ks)) lists → mine ≡ place_where (has k) lists →
    lesser first mine ≡ place_where (meet (take (i + 1) ks)) lists
next_owner ks i k first mine lists lt at e f =
    let more : take (i + 1) ks ≡ take i ks ++ k ∷ [] = take_more ks i k lt ∙ ap (λ z. take i ks ++ z ∷ []) (sym at) in
    (λ j. lesser (e j) (f j)) ∙ (place_either (meet (take i ks)) (has k) lists
    ∙ (sym (same_places (meet (take i ks ++ k ∷ [])) (λ us. meet (take i ks) us || has k us) lists (meet_more (take i ks) k))
    ∙ ap (λ z. place_where (meet z) lists) (sym more)))

-- ---- owners after some texts got one

same_test : (k t : List ℕ) → is_at (slice_cmp nat_cmp k) t ≡ bytes_eq t k
same_test k t = (eq_by_cmp_equiv nat_list_cmp_total).symm k t ∙ sym (texts_ties t k)

owned_by : (a b c : Bool) (place : ℕ) (new old : Option ℕ) → new ≡ cond c (Some place) old → c ≡ b → (if a then Some place else new) ≡ (if b || a then Some place else old)
owned_by true true c place new old e f = refl
owned_by true false c place new old e f = refl
owned_by false true c place new old e f = e ∙ ap (λ z. cond z (Some place) old) f
owned_by false false c place new old e f = e ∙ ap (λ z. cond z (Some place) old) f

-- one text got an owner, and the others are still to come
pub one_owned : (k : List ℕ) (rest : Texts) (place : ℕ) (t : List ℕ) (new old : Option ℕ) → new ≡ cond (is_at (slice_cmp nat_cmp k) t) (Some place) old →
    (if has t rest then Some place else new) ≡ (if has t (k ∷ rest) then Some place else old)
one_owned k rest place t new old e = owned_by (has t rest) (bytes_eq t k) (is_at (slice_cmp nat_cmp k) t) place new old e (same_test k t)

or_true : (b : Bool) → (b || true) ≡ true
or_true true = refl
or_true false = refl

-- a text that both have
pub both_have : (t : List ℕ) (ts us : Texts) → has t ts ≡ true → has t us ≡ true → meet ts us ≡ true
both_have t [] us h g = cc
both_have t (k ∷ ts) us h g = by (cases_Bool (bytes_eq t k)) (λ f. both_have t ts us f g)
  where
    by : (bytes_eq t k ≡ true) ⊎ (bytes_eq t k ≡ false) → (has t ts ≡ true → meet ts us ≡ true) → meet (k ∷ ts) us ≡ true
    by (inl e) later = ap (λ b. b || meet ts us) (subst (λ z. has z us ≡ true) (key_is t k (sym (texts_ties t k) ∙ e)) g)
    by (inr e) later = ap (λ b. has k us || b) (later (sym (ap (λ b. b || has t ts) e) ∙ h)) ∙ or_true (has k us)

no_some : {A : Type 0} (x : A) → Some x ≡ None → ⊥
no_some x e = cc

-- what no list shares with these texts is in none of the lists
none_has : (t : List ℕ) (ts : Texts) (lists : List Texts) → has t ts ≡ true → place_where (meet ts) lists ≡ None → place_where (has t) lists ≡ None
none_has t ts [] h e = refl
none_has t ts (us ∷ lists) h e = by (cases_Bool (has t us)) (cases_Bool (meet ts us)) (none_has t ts lists h)
  where
    rest : (o : Option ℕ) → option_map suc o ≡ None → o ≡ None
    rest None f = refl
    rest (Some a) f = cc

    clash : (b : Bool) → b ≡ true → b ≡ false → ⊥
    clash b x y = cc

    by : (has t us ≡ true) ⊎ (has t us ≡ false) → (meet ts us ≡ true) ⊎ (meet ts us ≡ false) → (place_where (meet ts) lists ≡ None → place_where (has t) lists ≡ None) → place_where (has t) (us ∷ lists) ≡ None
    by a (inl m) later = absurd (no_some 0 (sym (ap (λ b. if b then Some 0 else option_map suc (place_where (meet ts) lists)) m) ∙ e))
    by (inl a) (inr m) later = absurd (clash (meet ts us) (both_have t ts us h a) m)
    by (inr a) (inr m) later = rw a (ap (option_map suc) (later (rest (place_where (meet ts) lists) (sym (ap (λ b. if b then Some 0 else option_map suc (place_where (meet ts) lists)) m) ∙ e))))

-- the owners with the texts of one list more
pub owners_more : (m n : BTreeMap (List ℕ) ℕ) (ts : Texts) (lists : List Texts) (place : ℕ) → place ≡ length lists → AreOwners m lists → place_where (meet ts) lists ≡ None →
    ((t : List ℕ) → get (slice_cmp nat_cmp) n t ≡ (if has t ts then Some place else get (slice_cmp nat_cmp) m t)) → AreOwners n (lists ++ ts ∷ [])
owners_more m n ts lists place is own none new t = new t ∙ (by (cases_Bool (has t ts)) ∙ sym (place_more (has t) lists ts))
  where
    or_none : (o : Option ℕ) → o ≡ or_else o None
    or_none None = refl
    or_none (Some a) = refl

    by : (has t ts ≡ true) ⊎ (has t ts ≡ false) → (if has t ts then Some place else get (slice_cmp nat_cmp) m t) ≡ or_else (place_where (has t) lists) (if has t ts then Some (length lists) else None)
    by (inl e) = rw e (ap Some is ∙ ap (λ o. or_else o (Some (length lists))) (sym (none_has t ts lists e none)))
    by (inr e) = rw e (own t ∙ or_none (place_where (has t) lists))

-- ---- the first list that repeats

later_more : (n : ℕ) (o : Option ℕ) (u v : Option (ℕ × ℕ)) → later_place n o (or_else u v) ≡ or_else (later_place n o u) v
later_more n (Some a) u v = refl
later_more n None u v = refl

behind_more : (before lists : List Texts) (ts : Texts) → repeat_place_behind before (lists ++ ts ∷ []) ≡ or_else (repeat_place_behind before lists) (later_place (length (before ++ lists)) (place_where (meet ts) (before ++ lists)) None)
behind_more before [] ts = ap (λ (z : List Texts). later_place (length z) (place_where (meet ts) z) None) (sym (nothing before))
  where
    nothing : (xs : List Texts) → xs ++ [] ≡ xs
    nothing [] = refl
    nothing (x ∷ xs) = ap (λ z. x ∷ z) (nothing xs)
behind_more before (us ∷ lists) ts =
    let all : (before ++ us ∷ []) ++ lists ≡ before ++ us ∷ lists = append_assoc before (us ∷ []) lists in
    ap (later_place (length before) (place_where (meet us) before)) (behind_more (before ++ us ∷ []) lists ts
    ∙ ap (λ (z : List Texts). or_else (repeat_place_behind (before ++ us ∷ []) lists) (later_place (length z) (place_where (meet ts) z) None)) all)
    ∙ later_more (length before) (place_where (meet us) before) (repeat_place_behind (before ++ us ∷ []) lists) (later_place (length (before ++ us ∷ lists)) (place_where (meet ts) (before ++ us ∷ lists)) None)

pub repeat_more : (lists : List Texts) (ts : Texts) → repeat_place (lists ++ ts ∷ []) ≡ or_else (repeat_place lists) (later_place (length lists) (place_where (meet ts) lists) None)
repeat_more lists ts = behind_more [] lists ts

-- it was found before
pub follows_found : (r : Repeats) (lists : List Texts) (ts : Texts) → is_some r.first ≡ true → Follows r lists → Follows r (lists ++ ts ∷ [])
follows_found r lists ts some f = record {
  first_is = by r.first some f.first_is ∙ sym (repeat_more lists ts);
  owners_are = λ e. absurd (there r.first some e);
}
  where
    there : (o : Option (ℕ × ℕ)) → is_some o ≡ true → o ≡ None → ⊥
    there None s e = cc
    there (Some p) s e = cc

    by : (o : Option (ℕ × ℕ)) → is_some o ≡ true → o ≡ repeat_place lists → o ≡ or_else (repeat_place lists) (later_place (length lists) (place_where (meet ts) lists) None)
    by None s e = cc
    by (Some p) s e = ap (λ (z : Option (ℕ × ℕ)). or_else z (later_place (length lists) (place_where (meet ts) lists) None)) e

-- it is this one
pub follows_here : (r s : Repeats) (lists : List Texts) (ts : Texts) (owner place : ℕ) → r.first ≡ None → Follows r lists → place ≡ length lists → Some owner ≡ place_where (meet ts) lists → s.first ≡ Some (owner, place) → Follows s (lists ++ ts ∷ [])
follows_here r s lists ts owner place none f at is e = record {
  first_is = e ∙ ((λ i. later_place (at i) (is i) None) ∙ (ap (λ (o : Option (ℕ × ℕ)). or_else o (later_place (length lists) (place_where (meet ts) lists) None)) (sym none ∙ f.first_is) ∙ sym (repeat_more lists ts)));
  owners_are = λ n. absurd (no_some (owner, place) (sym e ∙ n));
}

-- there is none yet
pub follows_none : (r s : Repeats) (lists : List Texts) (ts : Texts) (place : ℕ) → r.first ≡ None → Follows r lists → place ≡ length lists → None ≡ place_where (meet ts) lists → s.first ≡ r.first →
    ((t : List ℕ) → get (slice_cmp nat_cmp) s.owners t ≡ (if has t ts then Some place else get (slice_cmp nat_cmp) r.owners t)) → Follows s (lists ++ ts ∷ [])
follows_none r s lists ts place none f at is e own = record {
  first_is = e ∙ (none ∙ ((λ i. later_place (length lists) (is i) None) ∙ (ap (λ (o : Option (ℕ × ℕ)). or_else o (later_place (length lists) (place_where (meet ts) lists) None)) (sym none ∙ f.first_is) ∙ sym (repeat_more lists ts))));
  owners_are = λ n. owners_more r.owners s.owners ts lists place at (f.owners_are none) (sym is) own;
}

-- ---- places are documents

module _ {A : Type 0} (f : A → Texts) (d : A) where
  abbrev two_at : List A → ℕ × ℕ → A × A
  two_at xs p = (get_or xs p.0 d, get_or xs p.1 d)

  abbrev share : A → A → Bool
  share x y = meet (f x) (f y)

  -- both places are in the list
  abbrev Within : ℕ → Option (ℕ × ℕ) → Type 0
  Within n None = Unit {0}
  Within n (Some p) = (p.0 < n) × (p.1 < n)

  -- the places of two are those two, and they stand in the list
  pub Linked : List A → Option (A × A) → Option (ℕ × ℕ) → Type 0
  Linked all r p = (r ≡ option_map (two_at all) p) × Within (length all) p

  linked_by : (before xs : List A) (x : A) (r : Option (A × A)) (p : Option (ℕ × ℕ)) (o : Option ℕ) → place_where (share x) before ≡ o → Linked (before ++ x ∷ xs) r p →
      Linked (before ++ x ∷ xs) (or_later x (first_where (share x) before) r) (later_place (length (map f before)) o p)
  unfolding Linked
  linked_by before xs x r p None e h = (ap (λ (o : Option A). or_later x o r) (first_at_place (share x) before d ∙ ap (option_map (λ a. get_or before a d)) e) ∙ h.0, h.1)
  linked_by before xs x r p (Some a) e h =
      let lt : a < length before = place_below (share x) before a e in
      let n : length (map f before) ≡ length before = length-map before f in
      let whole : length (before ++ x ∷ xs) ≡ length before + length (x ∷ xs) = length-append before (x ∷ xs) in
      let one : get_or (before ++ x ∷ xs) a d ≡ get_or before a d = get_or-append before (x ∷ xs) d a lt in
      let two : get_or (before ++ x ∷ xs) (length (map f before)) d ≡ x = ap (λ k. get_or (before ++ x ∷ xs) k d) n ∙ get_or-append_seam before x xs d in (
        ap (λ (o : Option A). or_later x o r) (first_at_place (share x) before d ∙ ap (option_map (λ a. get_or before a d)) e)
            ∙ (λ i. Some (sym one i, sym two i)),
        (omega arith, omega arith),
      )

  pub repeat_linked : (before xs : List A) → Linked (before ++ xs) (repeat_behind share before xs) (repeat_place_behind (map f before) (map f xs))
  unfolding Linked
  repeat_linked before [] = (refl, tt)
  repeat_linked before (x ∷ xs) =
      let all : (before ++ x ∷ []) ++ xs ≡ before ++ x ∷ xs = append_assoc before (x ∷ []) xs in
      let later = subst (λ (z : List Texts). Linked (before ++ x ∷ xs) (repeat_behind share (before ++ x ∷ []) xs) (repeat_place_behind z (map f xs))) (map-append f before (x ∷ []))
      (subst (λ (z : List A). Linked z (repeat_behind share (before ++ x ∷ []) xs) (repeat_place_behind (map f (before ++ x ∷ [])) (map f xs))) all (repeat_linked (before ++ x ∷ []) xs)) in
      subst (λ (o : Option ℕ). Linked (before ++ x ∷ xs) (or_later x (first_where (share x) before) (repeat_behind share (before ++ x ∷ []) xs)) (later_place (length (map f before)) o (repeat_place_behind (map f before ++ f x ∷ []) (map f xs))))
      (sym (place_map f (meet (f x)) before))
      (linked_by before xs x _ _ (place_where (share x) before) refl later)

  pub repeat_is : (xs : List A) → (repeat share xs ≡ option_map (two_at xs) (repeat_place (map f xs))) × Within (length xs) (repeat_place (map f xs))
  unfolding Linked
  repeat_is xs = repeat_linked [] xs

pub none_of : {A : Type 0} (o : Option A) → is_some o ≡ false → o ≡ None
none_of None e = refl
none_of (Some x) e = cc
