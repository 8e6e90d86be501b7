-- The entries of a ring after a push and after a trim.
use Rattle.std.proofs.Common.{◌≡◌, ℕ, zero, suc, ◌+◌, ◌-◌, ◌*◌, ◌^◌, ◌<◌, ◌≤◌, List, [], ◌∷◌, ◌++◌, length, drop, refl, sym, ap, ◌∙◌, subst, inl, inr, arith, length-append, ltb-true, ltb-false}
use Rattle.std.specs.Prelude.{Option, Some, None, slice_get, nat_lt, if◌then◌else◌}
use Rattle.std.proofs.lemmas.Bool.{cases_lt, cases_Bool}
use Rattle.bson_value.specs.Timestamp.{stamp_number}
use Rattle.capped_oplog.specs.Ring.{Entry, total_of, stamp_at, bytes_at, AreRising, IsSound, IsLater}

-- ---- timestamps by place

at_front : (es fs : List Entry) (i : ℕ) → i < length es → stamp_at (es ++ fs) i ≡ stamp_at es i
at_front [] fs i l = absurd (omega arith)
at_front (e ∷ es) fs zero l = refl
at_front (e ∷ es) fs (suc i) l = at_front es fs i (omega arith)

at_end : (es : List Entry) (e : Entry) (i : ℕ) → i ≡ length es → stamp_at (es ++ e ∷ []) i ≡ stamp_number e.0
at_end [] e zero p = refl
at_end [] e (suc i) p = absurd (omega (arith, p))
at_end (x ∷ es) e zero p = absurd (omega (arith, p))
at_end (x ∷ es) e (suc i) p = at_end es e i (omega (arith, p))

at_next : (es : List Entry) (i : ℕ) → stamp_at (drop 1 es) i ≡ stamp_at es (suc i)
at_next [] zero = refl
at_next [] (suc i) = refl
at_next (e ∷ es) i = refl

less_one : (es : List Entry) → length (drop 1 es) ≡ length es - 1
less_one [] = omega arith
less_one (e ∷ es) = omega arith

rising_push : (es : List Entry) (e : Entry) → AreRising es → IsLater es e.0 → AreRising (es ++ e ∷ [])
rising_push es e r l i j i_j within =
    elim (cases_lt j (length es)) [
      | inl lt ↦ rw (at_front es (e ∷ []) i (omega arith), at_front es (e ∷ []) j lt) (r i j i_j lt)
      | inr le ↦
          let p : j ≡ length es = omega (arith, length-append es (e ∷ [])) in
          rw (at_front es (e ∷ []) i (omega arith), at_end es e j p) (l i (omega arith))
    ]

rising_next : (es : List Entry) → AreRising es → AreRising (drop 1 es)
rising_next es r i j i_j within = rw (at_next es i, at_next es j) (r (suc i) (suc j) (omega arith) (omega (arith, less_one es)))

-- ---- bytes

pub total_push : (es : List Entry) (e : Entry) → total_of (es ++ e ∷ []) ≡ total_of es + length e.1
total_push [] e = omega arith
total_push (x ∷ es) e = omega (arith, total_push es e)

total_first : (es : List Entry) (e : Entry) → slice_get es 0 ≡ Some e → total_of (drop 1 es) + length e.1 ≡ total_of es
total_first [] e p = absurd cc
total_first (x ∷ es) e p = let q : x ≡ e = cc in rw q (omega arith)

abbrev AreShort : List Entry → Type 0
AreShort es = (i : ℕ) → i < length es → bytes_at es i < 2 ^ 64

total_le : (es : List Entry) → AreShort es → total_of es ≤ length es * 2 ^ 64
total_le [] s = omega arith
total_le (e ∷ es) s = omega (arith, s zero (omega arith), total_le es (λ i l. s (suc i) (omega arith)))

short_push : (es : List Entry) (e : Entry) → AreShort es → length e.1 < 2 ^ 64 → AreShort (es ++ e ∷ [])
short_push [] e s l zero w = l
short_push [] e s l (suc i) w = absurd (omega arith)
short_push (x ∷ es) e s l zero w = s zero (omega arith)
short_push (x ∷ es) e s l (suc i) w = short_push es e (λ j k. s (suc j) (omega arith)) l i (omega arith)

short_next : (es : List Entry) → AreShort es → AreShort (drop 1 es)
short_next [] s i l = absurd (omega (arith, less_one []))
short_next (e ∷ es) s i l = s (suc i) (omega (arith, less_one (e ∷ es)))

-- the sum of the bytes fits its number
pub total_fits : (es : List Entry) (cap total n : ℕ) → IsSound es cap total → n < 2 ^ 64 → total + n < 2 ^ 128
total_fits es cap total n s l = omega (arith, s.counted, total_le es s.short, s.held, s.most)

-- ---- a push

drop_none : (n : ℕ) (es : List Entry) → n ≡ 0 → drop n es ≡ es
drop_none zero es p = refl
drop_none (suc n) es p = absurd (omega (arith, p))

-- there was room
pub push_room : (es : List Entry) (e : Entry) (cap : ℕ) → length es < cap → drop (length (es ++ e ∷ []) - cap) (es ++ e ∷ []) ≡ es ++ e ∷ []
push_room es e cap l = drop_none _ _ (omega (arith, length-append es (e ∷ [])))

-- there was none
pub push_full : (es : List Entry) (e : Entry) (cap : ℕ) → cap ≤ length es → length es ≤ cap → drop (length (es ++ e ∷ []) - cap) (es ++ e ∷ []) ≡ drop 1 (es ++ e ∷ [])
push_full es e cap a b = let n : length (es ++ e ∷ []) - cap ≡ 1 = omega (arith, length-append es (e ∷ [])) in ap (λ (k : ℕ). drop k (es ++ e ∷ [])) n

pub first_stays : (es : List Entry) (e : Entry) → 0 < length es → slice_get (es ++ e ∷ []) 0 ≡ slice_get es 0
first_stays [] e l = absurd (omega arith)
first_stays (x ∷ es) e l = refl

-- what is handed back
abbrev Handed : List Entry → Entry → ℕ → Option Entry → Type 0
Handed es e cap r = r ≡ (if nat_lt (length es) cap then None else slice_get (es ++ e ∷ []) 0)

pub handed : (es : List Entry) (e : Entry) (cap total : ℕ) (r : Option Entry) → IsSound es cap total → Handed es e cap r → r ≡ (if nat_lt (length es) cap then None else slice_get es 0)
handed es e cap total r s h =
    elim (cases_Bool (nat_lt (length es) cap)) [
      | inl t ↦ rw t (rw t at h)
      | inr f ↦ rw f (rw (f, first_stays es e (omega (arith, ltb-false _ _ f, s.some_room))) at h)
    ]

module _ (es : List Entry) (e : Entry) (cap total : ℕ) (new : List Entry) (s : IsSound es cap total) (later : IsLater es e.0) (small : length e.1 < 2 ^ 64) (is : new ≡ drop (length (es ++ e ∷ []) - cap) (es ++ e ∷ [])) where
  all_sound : new ≡ es ++ e ∷ [] → length es < cap → IsSound new cap (total + length e.1)
  all_sound p l = record {
    rising = subst AreRising (sym p) (rising_push es e s.rising later);
    counted = omega (arith, ap total_of p, total_push es e, s.counted);
    short = subst AreShort (sym p) (short_push es e s.short small);
    held = omega (arith, ap length p, length-append es (e ∷ []));
    some_room = s.some_room;
    most = s.most;
  }

  next_sound : (x : Entry) → new ≡ drop 1 (es ++ e ∷ []) → slice_get (es ++ e ∷ []) 0 ≡ Some x → IsSound new cap (total + length e.1 - length x.1)
  next_sound x p first = record {
    rising = subst AreRising (sym p) (rising_next _ (rising_push es e s.rising later));
    counted = omega (arith, ap total_of p, total_first _ x first, total_push es e, s.counted);
    short = subst AreShort (sym p) (short_next _ (short_push es e s.short small));
    held = omega (arith, ap length p, less_one (es ++ e ∷ []), length-append es (e ∷ []), s.held);
    some_room = s.some_room;
    most = s.most;
  }

  pub push_none : (r : Option Entry) → Handed es e cap r → r ≡ None → IsSound new cap (total + length e.1)
  push_none r h n =
      elim (cases_Bool (nat_lt (length es) cap)) [
        | inl t ↦ let l : length es < cap = ltb-true _ _ t in all_sound (is ∙ push_room es e cap l) l
        | inr f ↦ let g = sym (rw (f, first_stays es e (omega (arith, ltb-false _ _ f, s.some_room))) at h) ∙ n in absurd (no_first es g (omega (arith, ltb-false _ _ f, s.some_room)))
      ]
    where
      no_first : (xs : List Entry) → slice_get xs 0 ≡ None → 0 < length xs → ⊥
      no_first [] g l = omega arith
      no_first (x ∷ xs) g l = cc

  pub push_some : (r : Option Entry) (x : Entry) → Handed es e cap r → r ≡ Some x → IsSound new cap (total + length e.1 - length x.1)
  push_some r x h n =
      elim (cases_Bool (nat_lt (length es) cap)) [
        | inl t ↦ let g : None ≡ Some x = sym (rw t at h) ∙ n in absurd cc
        | inr f ↦ next_sound x (is ∙ push_full es e cap (ltb-false _ _ f) s.held) (sym (rw f at h) ∙ n)
      ]

  pub handed_fits : (r : Option Entry) (x : Entry) → Handed es e cap r → r ≡ Some x → length x.1 ≤ total + length e.1
  handed_fits r x h n =
      elim (cases_Bool (nat_lt (length es) cap)) [
        | inl t ↦ let g : None ≡ Some x = sym (rw t at h) ∙ n in absurd cc
        | inr f ↦ omega (arith, total_first _ x (sym (rw f at h) ∙ n), total_push es e, s.counted)
      ]

-- ---- a trim

pub trim_sound : (es : List Entry) (cap total : ℕ) (new : List Entry) (x : Entry) → IsSound es cap total → new ≡ drop 1 es → slice_get es 0 ≡ Some x → IsSound new cap (total - length x.1)
trim_sound es cap total new x s p first = record {
  rising = subst AreRising (sym p) (rising_next es s.rising);
  counted = omega (arith, ap total_of p, total_first es x first, s.counted);
  short = subst AreShort (sym p) (short_next es s.short);
  held = omega (arith, ap length p, less_one es, s.held);
  some_room = s.some_room;
  most = s.most;
}

pub trim_fits : (es : List Entry) (cap total : ℕ) (x : Entry) → IsSound es cap total → slice_get es 0 ≡ Some x → length x.1 ≤ total
trim_fits es cap total x s first = omega (arith, total_first es x first, s.counted)

pub same_cap : (es : List Entry) (cap other total : ℕ) → other ≡ cap → IsSound es cap total → IsSound es other total
same_cap es cap other total p s = subst (λ (k : ℕ). IsSound es k total) (sym p) s
