-- Comparing elements one after the other, as a loop does.
use Rattle.std.proofs.Common.{◌≡◌, ℕ, zero, suc, ◌+◌, ◌<◌, ◌≤◌, ◌^◌, List, [], ◌∷◌, ◌++◌, ◌⊎◌, inl, inr, length, map, drop, get_or, refl, sym, ap, subst, ◌∙◌, append_assoc, arith}
use Rattle.std.specs.Prelude.{true, false}
use Rattle.std.specs.Cmp.Lexicographic.{slice_cmp}
use Rattle.std.specs.Ordering.{nat_cmp, is_ne}
use Rattle.std.specs.Fmt.{decimal}
use Rattle.std.proofs.lemmas.Bool.{cases_lt}
use Rattle.std.specs.Cmp.{nat_cmp_is}
use Rattle.std.proofs.lemmas.List.{length-append}
use Rattle.std.specs.declared.cmp.Ordering.{Ordering}
use Rattle.std.specs.declared.cmp.Ordering.TheVariants.{Less, Equal, Greater}
use Rattle.bson_value.specs.declared.value.Value.{Value, Value-F, out-Value}
use Rattle.bson_value.specs.Spelling.{element, numbered, spelling, spelled, tag_of, elements_of, items_of}
use Rattle.bson_check.specs.Spells.{type_byte}
use Rattle.bson_encode.specs.Leading.{Leads, LeadsIfShort}
use Rattle.bson_encode.proofs.Grammar.{tag_is}
use Rattle.bson_encode.specs.Key.{key_of}
use Rattle.bson_encode.proofs.Leading.{leads_on, leads_behind, leads_differ, leads_by_first, leads_same, leads_all, same_lists, is_equal}

positive_at : (x : Value-F Value) → 0 < type_byte x
positive_at (Value-F.Double d) = omega arith
positive_at (Value-F.Str t) = omega arith
positive_at (Value-F.Object fs) = omega arith
positive_at (Value-F.Array vs) = omega arith
positive_at (Value-F.Binary s d) = omega arith
positive_at Value-F.Undefined = omega arith
positive_at (Value-F.Oid d) = omega arith
positive_at (Value-F.Bool b) = omega arith
positive_at (Value-F.Date z) = omega arith
positive_at Value-F.Null = omega arith
positive_at (Value-F.Regex p o) = omega arith
positive_at (Value-F.DbPointer t d) = omega arith
positive_at (Value-F.Code t) = omega arith
positive_at (Value-F.Symbol t) = omega arith
positive_at (Value-F.ScopedCode t fs) = omega arith
positive_at (Value-F.Int z) = omega arith
positive_at (Value-F.Stamp s) = omega arith
positive_at (Value-F.Long z) = omega arith
positive_at (Value-F.Decimal d) = omega arith
positive_at Value-F.MinKey = omega arith
positive_at Value-F.MaxKey = omega arith

positive : (v : Value) → 0 < tag_of v
positive v = omega (arith, positive_at (out-Value v), tag_is v)

-- the elements end before another one
ends_first : (t : ℕ) (xs : List ℕ) → 0 < t → Leads (0 ∷ []) (t ∷ xs) Less
ends_first t xs lt = let e = nat_cmp_is 0 t Less lt in subst (Leads (0 ∷ []) (t ∷ xs)) (sym e) (leads_by_first 0 t [] xs (ap is_ne (sym e)))

ends_last : (t : ℕ) (xs : List ℕ) → 0 < t → Leads (t ∷ xs) (0 ∷ []) Greater
ends_last t xs lt = let e = nat_cmp_is t 0 Greater lt in subst (Leads (t ∷ xs) (0 ∷ [])) (sym e) (leads_by_first t 0 xs [] (ap is_ne (sym e)))

-- with the zero behind them
abbrev pub closed : List ℕ → List ℕ
closed xs = xs ++ 0 ∷ []

-- the texts from each element on, where what is behind the first so many decides
pub record LeadFrom (ta tb : ℕ → List ℕ) (i : ℕ) : Type 0 where
  pub short : length (ta i) ≤ length (ta 0)
  pub short_other : length (tb i) ≤ length (tb 0)
  pub leads : length (closed (ta 0)) < 2 ^ 31 → length (closed (tb 0)) < 2 ^ 31 → (o : Ordering) → Leads (closed (ta i)) (closed (tb i)) o → Leads (closed (ta 0)) (closed (tb 0)) o

pub lead_start : (ta tb : ℕ → List ℕ) → LeadFrom ta tb 0
lead_start ta tb = record { short = omega arith; short_other = omega arith; leads = λ p q o h. h }

module _ (ta tb : ℕ → List ℕ) (i : ℕ) (k : LeadFrom ta tb i) where
  -- an element stands where the other has none
  lead_greater : (t : ℕ) (xs : List ℕ) → 0 < t → ta i ≡ t ∷ xs → tb i ≡ [] → LeadsIfShort (closed (ta 0)) (closed (tb 0)) Greater
  lead_greater t xs lt at_a at_b p q =
      k.leads p q Greater (subst (λ (l : List ℕ). Leads (closed l) (closed (tb i)) Greater) (sym at_a) (subst (λ (l : List ℕ). Leads (closed (t ∷ xs)) (closed l) Greater) (sym at_b) (ends_last t (closed xs) lt)))

  lead_less : (t : ℕ) (xs : List ℕ) → 0 < t → ta i ≡ [] → tb i ≡ t ∷ xs → LeadsIfShort (closed (ta 0)) (closed (tb 0)) Less
  lead_less t xs lt at_a at_b p q =
      k.leads p q Less (subst (λ (l : List ℕ). Leads (closed l) (closed (tb i)) Less) (sym at_a) (subst (λ (l : List ℕ). Leads (closed []) (closed l) Less) (sym at_b) (ends_first t (closed xs) lt)))

  lead_equal : ta i ≡ [] → tb i ≡ [] → LeadsIfShort (closed (ta 0)) (closed (tb 0)) Equal
  lead_equal at_a at_b p q =
      k.leads p q Equal (subst (λ (l : List ℕ). Leads (closed l) (closed (tb i)) Equal) (sym at_a) (subst (λ (l : List ℕ). Leads (closed []) (closed l) Equal) (sym at_b) (leads_same (0 ∷ []))))

  module _ (first second : List ℕ) (at_a : ta i ≡ first ++ ta (i + 1)) (at_b : tb i ≡ second ++ tb (i + 1)) where
    len_a : length (ta i) ≡ length first + length (ta (i + 1))
    len_a = ap length at_a ∙ length-append first (ta (i + 1))

    len_b : length (tb i) ≡ length second + length (tb (i + 1))
    len_b = ap length at_b ∙ length-append second (tb (i + 1))

    both : (o : Ordering) → Leads (first ++ closed (ta (i + 1))) (second ++ closed (tb (i + 1))) o → Leads (closed (ta i)) (closed (tb i)) o
    both o h =
        subst (λ (l : List ℕ). Leads l (closed (tb i)) o) (sym (append_assoc first (ta (i + 1)) (0 ∷ [])) ∙ ap closed (sym at_a))
        (subst (λ (l : List ℕ). Leads (first ++ closed (ta (i + 1))) l o) (sym (append_assoc second (tb (i + 1)) (0 ∷ [])) ∙ ap closed (sym at_b)) h)

    both_short : (o : Ordering) → LeadsIfShort first second o → length (closed (ta 0)) < 2 ^ 31 → length (closed (tb 0)) < 2 ^ 31 → Leads first second o
    both_short o h p q = h (omega (arith, p, len_a, k.short, length-append (ta 0) (0 ∷ []))) (omega (arith, q, len_b, k.short_other, length-append (tb 0) (0 ∷ [])))

    -- they differ
    pub lead_differs : (o : Ordering) → is_ne o ≡ true → LeadsIfShort first second o → LeadsIfShort (closed (ta 0)) (closed (tb 0)) o
    lead_differs o n h p q = k.leads p q o (both o (leads_differ first second (closed (ta (i + 1))) (closed (tb (i + 1))) o n (both_short o h p q)))

    -- they are equal
    pub lead_on : (o : Ordering) → o ≡ Equal → LeadsIfShort first second o → LeadFrom ta tb (i + 1)
    lead_on o e h = record {
      short = omega (arith, len_a, k.short);
      short_other = omega (arith, len_b, k.short_other);
      leads = λ p q r more. k.leads p q r (both r (leads_on first second (closed (ta (i + 1))) (closed (tb (i + 1))) r (subst (Leads first second) e (both_short o h p q)) more));
    }

-- ---- fields, and elements of arrays

drop_next : {A : Type 0} (xs : List A) (i : ℕ) (x : A) → i < length xs → x ≡ get_or xs i x → drop i xs ≡ x ∷ drop (suc i) xs
drop_next [] i x lt at = absurd (omega (arith, lt))
drop_next (y ∷ ys) zero x lt at = ap (λ z. z ∷ ys) (sym at)
drop_next (y ∷ ys) (suc i) x lt at = drop_next ys i x (omega (arith, lt)) at

one_more : (i : ℕ) → suc i ≡ i + 1
one_more i = omega arith

drop_at : {A : Type 0} (xs : List A) (i : ℕ) (x : A) → i < length xs → x ≡ get_or xs i x → drop i xs ≡ x ∷ drop (i + 1) xs
drop_at xs i x lt at = drop_next xs i x lt at ∙ ap (λ n. x ∷ drop n xs) (one_more i)

drop_all : {A : Type 0} (xs : List A) (i : ℕ) → length xs ≤ i → drop i xs ≡ []
drop_all [] zero le = refl
drop_all [] (suc i) le = refl
drop_all (x ∷ xs) zero le = absurd (omega (arith, le))
drop_all (x ∷ xs) (suc i) le = drop_all xs i (omega (arith, le))

drop_one : {A : Type 0} (xs : List A) (i : ℕ) → i < length xs → (x : A) × (rest : List A) × (drop i xs ≡ x ∷ rest)
drop_one [] i lt = absurd (omega (arith, lt))
drop_one (y ∷ ys) zero lt = (y, ys, refl)
drop_one (y ∷ ys) (suc i) lt = drop_one ys i (omega (arith, lt))

abbrev pub fields_from : List (List ℕ × Value) → ℕ → List ℕ
fields_from fs i = elements_of (drop i fs)

abbrev pub items_from : List Value → ℕ → List ℕ
items_from vs i = numbered i (map spelling (drop i vs))

pub field_from : (fs : List (List ℕ × Value)) (i : ℕ) (e : List ℕ × Value) → i < length fs → e ≡ get_or fs i e → fields_from fs i ≡ element (e.0, spelling e.1) ++ fields_from fs (i + 1)
field_from fs i e lt at = ap elements_of (drop_at fs i e lt at)

pub item_from : (vs : List Value) (i : ℕ) (v : Value) → i < length vs → v ≡ get_or vs i v → items_from vs i ≡ element (decimal i, spelling v) ++ items_from vs (i + 1)
item_from vs i v lt at = ap (λ (ws : List Value). numbered i (map spelling ws)) (drop_at vs i v lt at)

module _ (a b : List (List ℕ × Value)) (i : ℕ) (k : LeadFrom (fields_from a) (fields_from b) i) where
  pub fields_greater : i < length a → length b ≤ i → LeadsIfShort (closed (elements_of a)) (closed (elements_of b)) Greater
  fields_greater lt ge =
      let x = drop_one a i lt in
      lead_greater (fields_from a) (fields_from b) i k (tag_of x.0.1) _ (positive x.0.1) (ap elements_of x.2) (ap elements_of (drop_all b i ge))

  pub fields_ended : length a ≤ i → i ≤ length b → (o : Ordering) → o ≡ nat_cmp i (length b) → LeadsIfShort (closed (elements_of a)) (closed (elements_of b)) o
  fields_ended ge le o e = go (cases_lt i (length b)) where
    go : (i < length b) ⊎ (length b ≤ i) → LeadsIfShort (closed (elements_of a)) (closed (elements_of b)) o
    go (inl lt) =
        let y = drop_one b i lt in
        subst (LeadsIfShort (closed (elements_of a)) (closed (elements_of b))) (nat_cmp_is i (length b) Less lt ∙ sym e)
        (lead_less (fields_from a) (fields_from b) i k (tag_of y.0.1) _ (positive y.0.1) (ap elements_of (drop_all a i ge)) (ap elements_of y.2))
    go (inr more) =
        subst (LeadsIfShort (closed (elements_of a)) (closed (elements_of b))) (nat_cmp_is i (length b) Equal (omega (arith, le, more)) ∙ sym e)
        (lead_equal (fields_from a) (fields_from b) i k (ap elements_of (drop_all a i ge)) (ap elements_of (drop_all b i more)))

module _ (a b : List Value) (i : ℕ) (k : LeadFrom (items_from a) (items_from b) i) where
  abbrev spelled_from : List Value → List ℕ
  spelled_from ws = numbered i (map spelling ws)

  pub items_greater : i < length a → length b ≤ i → LeadsIfShort (closed (items_of a)) (closed (items_of b)) Greater
  items_greater lt ge =
      let x = drop_one a i lt in
      lead_greater (items_from a) (items_from b) i k (tag_of x.0) _ (positive x.0) (ap spelled_from x.2) (ap spelled_from (drop_all b i ge))

  pub items_ended : length a ≤ i → i ≤ length b → (o : Ordering) → o ≡ nat_cmp i (length b) → LeadsIfShort (closed (items_of a)) (closed (items_of b)) o
  items_ended ge le o e = go (cases_lt i (length b)) where
    go : (i < length b) ⊎ (length b ≤ i) → LeadsIfShort (closed (items_of a)) (closed (items_of b)) o
    go (inl lt) =
        let y = drop_one b i lt in
        subst (LeadsIfShort (closed (items_of a)) (closed (items_of b))) (nat_cmp_is i (length b) Less lt ∙ sym e)
        (lead_less (items_from a) (items_from b) i k (tag_of y.0) _ (positive y.0) (ap spelled_from (drop_all a i ge)) (ap spelled_from y.2))
    go (inr more) =
        subst (LeadsIfShort (closed (items_of a)) (closed (items_of b))) (nat_cmp_is i (length b) Equal (omega (arith, le, more)) ∙ sym e)
        (lead_equal (items_from a) (items_from b) i k (ap spelled_from (drop_all a i ge)) (ap spelled_from (drop_all b i more)))

-- ---- one element

tags_lead : (t u : ℕ) (v w : Value) (o : Ordering) → t ≡ tag_of v → u ≡ tag_of w → Leads (t ∷ []) (u ∷ []) o → Leads (tag_of v ∷ []) (tag_of w ∷ []) o
tags_lead t u v w o e f h = subst (λ (x : ℕ). Leads (x ∷ []) (tag_of w ∷ []) o) e (subst (λ (x : ℕ). Leads (t ∷ []) (x ∷ []) o) f h)

tags_same : (t u : ℕ) (o : Ordering) → Leads (t ∷ []) (u ∷ []) o → is_ne o ≡ false → t ≡ u
tags_same t u o h n = ap (λ (l : List ℕ). get_or l 0 0) (same_lists (t ∷ []) (u ∷ []) o (leads_all (t ∷ []) (u ∷ []) o h) (is_equal o n))

by_parts : (t u : ℕ) (n m sp sq : List ℕ) (o : Ordering) → Leads ((t ∷ []) ++ ((n ++ 0 ∷ []) ++ sp)) ((u ∷ []) ++ ((m ++ 0 ∷ []) ++ sq)) o → Leads (t ∷ (n ++ (0 ∷ sp))) (u ∷ (m ++ (0 ∷ sq))) o
by_parts t u n m sp sq o h =
    subst (λ (l : List ℕ). Leads (t ∷ l) (u ∷ (m ++ (0 ∷ sq))) o) (append_assoc n (0 ∷ []) sp)
    (subst (λ (l : List ℕ). Leads (t ∷ ((n ++ 0 ∷ []) ++ sp)) (u ∷ l) o) (append_assoc m (0 ∷ []) sq) h)

module _ (v w : Value) (t u : ℕ) (o : Ordering) (e : t ≡ tag_of v) (f : u ≡ tag_of w) (h : Leads (t ∷ []) (u ∷ []) o) (same : is_ne o ≡ false) where
  same_tags : tag_of v ≡ tag_of w
  same_tags = tags_same (tag_of v) (tag_of w) o (tags_lead t u v w o e f h) same

  -- the types are equal, and the names differ
  pub element_by_name : (n m : List ℕ) (p : Ordering) → is_ne p ≡ true → Leads (n ++ 0 ∷ []) (m ++ 0 ∷ []) p → LeadsIfShort (element (n, spelling v)) (element (m, spelling w)) p
  element_by_name n m p ne names k l =
      by_parts (tag_of v) (tag_of w) n m (spelled v) (spelled w) p
      (leads_behind (tag_of v ∷ []) (tag_of w ∷ []) ((n ++ 0 ∷ []) ++ spelled v) ((m ++ 0 ∷ []) ++ spelled w) o p same (tags_lead t u v w o e f h) (leads_differ (n ++ 0 ∷ []) (m ++ 0 ∷ []) (spelled v) (spelled w) p ne names))

  -- the types and the names are equal
  pub element_by_value : (n m : List ℕ) (p r : Ordering) → is_ne p ≡ false → Leads (n ++ 0 ∷ []) (m ++ 0 ∷ []) p → (tag_of v ≡ tag_of w → LeadsIfShort (spelled v) (spelled w) r) → LeadsIfShort (element (n, spelling v)) (element (m, spelling w)) r
  element_by_value n m p r eq names values k l =
      by_parts (tag_of v) (tag_of w) n m (spelled v) (spelled w) r
      (leads_behind (tag_of v ∷ []) (tag_of w ∷ []) ((n ++ 0 ∷ []) ++ spelled v) ((m ++ 0 ∷ []) ++ spelled w) o r same (tags_lead t u v w o e f h) (leads_behind (n ++ 0 ∷ []) (m ++ 0 ∷ []) (spelled v) (spelled w) p r eq names
      (values same_tags (omega (arith, k, length-append n (0 ∷ spelled v))) (omega (arith, l, length-append m (0 ∷ spelled w))))))

  pub key_by_value : (r : Ordering) → (tag_of v ≡ tag_of w → LeadsIfShort (spelled v) (spelled w) r) → length (spelled v) < 2 ^ 31 → length (spelled w) < 2 ^ 31 → r ≡ slice_cmp nat_cmp (key_of v) (key_of w)
  key_by_value r values k l =
      leads_all (key_of v) (key_of w) r (leads_behind (tag_of v ∷ []) (tag_of w ∷ []) (spelled v) (spelled w) o r same (tags_lead t u v w o e f h) (values same_tags k l))

pub key_by_tag : (v w : Value) (t u : ℕ) (o : Ordering) → t ≡ tag_of v → u ≡ tag_of w → Leads (t ∷ []) (u ∷ []) o → is_ne o ≡ true → o ≡ slice_cmp nat_cmp (key_of v) (key_of w)
key_by_tag v w t u o e f h n = leads_all (key_of v) (key_of w) o (leads_differ (tag_of v ∷ []) (tag_of w ∷ []) (spelled v) (spelled w) o n (tags_lead t u v w o e f h))
