-- The next timestamp is later than all that stand.
use Rattle.std.proofs.Common.{◌≡◌, ℕ, ◌+◌, ◌^◌, ◌<◌, true, false, List, [], ◌∷◌, ◌++◌, length, refl, sym, subst, arith, length-append, inl, inr}
use Rattle.std.specs.Prelude.{◌⊎◌, nat_lt}
use Rattle.std.proofs.lemmas.Bool.{cases_Bool, ltb-true, ltb-false}
use Rattle.bson_value.specs.declared.value.Ts.{Ts}
use Rattle.bson_value.specs.Timestamp.{stamp_number}
use Rattle.capped_oplog.specs.Ring.{Entry, stamp_at, AreRising, IsLater}
use Rattle.store_log.specs.Logged.{next_ts, IsLast}

stamp_last : (front : List Entry) (e : Entry) → stamp_at (front ++ e ∷ []) (length front) ≡ stamp_number e.0
stamp_last [] e = refl
stamp_last (f ∷ front) e = stamp_last front e

later_last : (front : List Entry) (e : Entry) (ts : Ts) → AreRising (front ++ e ∷ []) → stamp_number e.0 < stamp_number ts → IsLater (front ++ e ∷ []) ts
later_last front e ts rising l i within = by (cases_Bool (nat_lt i (length front))) (stamp_last front e) (length-append front (e ∷ []))
  where
    by : (nat_lt i (length front) ≡ true) ⊎ (nat_lt i (length front) ≡ false) → stamp_at (front ++ e ∷ []) (length front) ≡ stamp_number e.0 → length (front ++ e ∷ []) ≡ length front + 1 → stamp_at (front ++ e ∷ []) i < stamp_number ts
    by (inl t) last count =
        (let below = ltb-true i (length front) t in
        let r : stamp_at (front ++ e ∷ []) i < stamp_at (front ++ e ∷ []) (length front) = rising i (length front) below (omega arith) in
        omega (arith, r, last, l))
    by (inr f) last count =
        (let above = ltb-false i (length front) f in
        let same : i ≡ length front = omega arith in
        subst (λ (j : ℕ). stamp_at (front ++ e ∷ []) j < stamp_number ts) (sym same) (subst (λ (n : ℕ). n < stamp_number ts) (sym last) l))

-- later than the newest entry is later than all
pub all_earlier : (es : List Entry) (newest ts : Ts) → IsLast newest es → AreRising es → stamp_number newest < stamp_number ts → IsLater es ts
all_earlier es newest ts h rising l =
    (let whole = h.1.1 in
    subst (λ (zs : List Entry). IsLater zs ts) (sym whole) (later_last h.0 (newest, h.1.0) ts (subst AreRising whole rising) l))

pub next_is_later : (clock : ℕ) (newest : Ts) → newest.inc < 2 ^ 32 → stamp_number newest < stamp_number (next_ts clock newest)
next_is_later clock newest small = by (cases_Bool (nat_lt newest.secs clock))
  where
    by : (nat_lt newest.secs clock ≡ true) ⊎ (nat_lt newest.secs clock ≡ false) → stamp_number newest < stamp_number (next_ts clock newest)
    by (inl t) = rw t (let l = ltb-true newest.secs clock t in omega arith)
    by (inr f) = rw f (omega arith)
