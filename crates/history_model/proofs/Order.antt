-- The order of timestamps.
use Rattle.std.proofs.Common.{◌≡◌, suc, ◌<◌, ◌≤◌, Bool, true, false, refl, ◌∙◌, arith, inl, inr}
use Rattle.std.specs.Prelude.{◌⊎◌, ◌&&◌, ◌==◌, nat_lt}
use Rattle.std.proofs.lemmas.Bool.{cases_Bool, or_cases, or_left, or_right, and_from, lt-ltb, ltb-true, ltb-false, eq-eqb, eqb-true, true_from_ne_false, false_from_ne_true}
use Rattle.bson_value.specs.declared.value.Ts.{Ts}
use Rattle.history_model.specs.Stages.{earlier, Stage, next_ts}

abbrev pub Before : Ts → Ts → Type 0
Before a b = (a.secs < b.secs) ⊎ ((a.secs ≡ b.secs) × (a.inc < b.inc))

pub before_from : (a b : Ts) → Before a b → earlier a b ≡ true
before_from a b (inl h) = or_left _ _ (lt-ltb a.secs b.secs h)
before_from a b (inr h) = or_right _ _ (and_from _ _ (eq-eqb a.secs b.secs h.0) (lt-ltb a.inc b.inc h.1))

pub before_to : (a b : Ts) → earlier a b ≡ true → Before a b
before_to a b h = by (or_cases (nat_lt a.secs b.secs) ((a.secs == b.secs) && nat_lt a.inc b.inc) h)
  where
    by : (nat_lt a.secs b.secs ≡ true) ⊎ (((a.secs == b.secs) && nat_lt a.inc b.inc) ≡ true) → Before a b
    by (inl g) = inl (ltb-true a.secs b.secs g)
    by (inr g) = inr (eqb-true a.secs b.secs (both (a.secs == b.secs) (nat_lt a.inc b.inc) g).0, ltb-true a.inc b.inc (both (a.secs == b.secs) (nat_lt a.inc b.inc) g).1)
      where
        both : (x y : Bool) → (x && y) ≡ true → (x ≡ true) × (y ≡ true)
        both true y e = (refl, e)
        both false y e = cc

pub before_trans : (a b c : Ts) → Before a b → Before b c → Before a c
before_trans a b c (inl g) (inl h) = inl (omega arith)
before_trans a b c (inl g) (inr h) = (let e = h.0 in inl (omega arith))
before_trans a b c (inr g) (inl h) = (let e = g.0 in inl (omega arith))
before_trans a b c (inr g) (inr h) = (let e = g.0 in let f = h.0 in let x = g.1 in let y = h.1 in inr (e ∙ f, omega arith))

pub before_not : (a : Ts) → Before a a → ⊥
before_not a (inl g) = omega arith
before_not a (inr g) = (let x = g.1 in omega arith)

pub earlier_trans : (a b c : Ts) → earlier a b ≡ true → earlier b c ≡ true → earlier a c ≡ true
earlier_trans a b c g h = before_from a c (before_trans a b c (before_to a b g) (before_to b c h))

pub earlier_turn : (a b : Ts) → earlier a b ≡ true → earlier b a ≡ false
earlier_turn a b g = false_from_ne_true (earlier b a) (λ h. before_not a (before_trans a b a (before_to a b g) (before_to b a h)))

-- the next timestamp is later
pub next_later : (st : Stage) → earlier st.newest (next_ts st) ≡ true
next_later st =
    elim (cases_Bool (nat_lt st.newest.secs st.clock)) [
      | inl s ↦ rw s (before_from st.newest (record { secs = st.clock; inc = 1 }) (inl (ltb-true st.newest.secs st.clock s)))
      | inr s ↦ rw s (before_from st.newest (record { secs = st.newest.secs; inc = suc st.newest.inc }) (inr (refl, omega arith)))
    ]

-- what isn't later than a moment is before what that is before
pub earlier_below : (t m s : Ts) → earlier t m ≡ false → earlier t s ≡ true → earlier m s ≡ true
earlier_below t m s g h = true_from_ne_false (earlier m s) (λ k. no (before_to t s h) (parts g) (parts k))
  where
    parts : {a b : Ts} → earlier a b ≡ false → (b.secs < a.secs) ⊎ ((a.secs ≡ b.secs) × (b.inc ≤ a.inc))
    parts {a} {b} e = by (cases_Bool (nat_lt b.secs a.secs)) (cases_Bool (nat_lt a.secs b.secs)) (cases_Bool (nat_lt a.inc b.inc))
      where
        by : (nat_lt b.secs a.secs ≡ true) ⊎ (nat_lt b.secs a.secs ≡ false) → (nat_lt a.secs b.secs ≡ true) ⊎ (nat_lt a.secs b.secs ≡ false) → (nat_lt a.inc b.inc ≡ true) ⊎ (nat_lt a.inc b.inc ≡ false) →
            (b.secs < a.secs) ⊎ ((a.secs ≡ b.secs) × (b.inc ≤ a.inc))
        by (inl x) y z = inl (ltb-true b.secs a.secs x)
        by (inr x) (inl y) z = (let f = before_from a b (inl (ltb-true a.secs b.secs y)) in cc)
        by (inr x) (inr y) (inl z) = (let u = ltb-false b.secs a.secs x in let v = ltb-false a.secs b.secs y in let w : a.secs ≡ b.secs = omega arith in let f = before_from a b (inr (w, ltb-true a.inc b.inc z)) in cc)
        by (inr x) (inr y) (inr z) = (let u = ltb-false b.secs a.secs x in let v = ltb-false a.secs b.secs y in inr (omega arith, ltb-false a.inc b.inc z))

    no : Before t s → (m.secs < t.secs) ⊎ ((t.secs ≡ m.secs) × (m.inc ≤ t.inc)) → (s.secs < m.secs) ⊎ ((m.secs ≡ s.secs) × (s.inc ≤ m.inc)) → ⊥
    no (inl x) (inl y) (inl z) = omega arith
    no (inl x) (inl y) (inr z) = (let a = z.0 in omega arith)
    no (inl x) (inr y) (inl z) = (let a = y.0 in omega arith)
    no (inl x) (inr y) (inr z) = (let a = y.0 in let b = z.0 in omega arith)
    no (inr x) (inl y) (inl z) = (let a = x.0 in omega arith)
    no (inr x) (inl y) (inr z) = (let a = x.0 in let b = z.0 in omega arith)
    no (inr x) (inr y) (inl z) = (let a = x.0 in let b = y.0 in omega arith)
    no (inr x) (inr y) (inr z) = (let a = x.1 in let b = y.1 in let c = z.1 in omega arith)

pub earlier_not : (a : Ts) → earlier a a ≡ false
earlier_not a = false_from_ne_true (earlier a a) (λ h. before_not a (before_to a a h))
