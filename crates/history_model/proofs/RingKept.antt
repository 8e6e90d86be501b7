-- To keep what is kept is to keep all.
use Rattle.std.proofs.Common.{◌≡◌, ℕ, zero, suc, ◌≤◌, ◌+◌, ◌-◌, [], ◌∷◌, true, false, refl, ap, arith, Option, Some, None, inl, inr}
use Rattle.std.specs.Prelude.{◌⊎◌, nat_le}
use Rattle.std.proofs.lemmas.Bool.{cases_Bool, leb-true, leb-false}
use Rattle.history_model.specs.Entries.{OplogEntry, size_of}
use Rattle.history_model.specs.Stages.{Caps, Oplog, within, kept_behind, kept}

-- what has room with more bytes has room with fewer
within_less : (b : Option ℕ) (m n : ℕ) → m ≤ n → within b n ≡ true → within b m ≡ true
within_less None m n h e = refl
within_less (Some b) m n h e = (let f = leb-true n b e in by (cases_Bool (nat_le m b)) f)
  where
    by : (nat_le m b ≡ true) ⊎ (nat_le m b ≡ false) → n ≤ b → nat_le m b ≡ true
    by (inl g) f = g
    by (inr g) f = (let k = leb-false m b g in absurd (omega arith))

again : (b : Option ℕ) (n m s t : ℕ) → n ≤ m → t ≤ s → (es : Oplog) → kept_behind n b s (kept_behind m b t es) ≡ kept_behind n b s es
again b zero m s t h g es = refl
again b (suc n) zero s t h g es = absurd (omega arith)
again b (suc n) (suc m) s t h g [] = refl
again b (suc n) (suc m) s t h g (e ∷ es) = by (cases_Bool (within b (s + size_of e))) (cases_Bool (within b (t + size_of e))) (again b n m (s + size_of e) (t + size_of e) (omega arith) (omega arith) es)
  where
    by : (within b (s + size_of e) ≡ true) ⊎ (within b (s + size_of e) ≡ false) → (within b (t + size_of e) ≡ true) ⊎ (within b (t + size_of e) ≡ false) →
        kept_behind n b (s + size_of e) (kept_behind m b (t + size_of e) es) ≡ kept_behind n b (s + size_of e) es →
        kept_behind (suc n) b s (kept_behind (suc m) b t (e ∷ es)) ≡ kept_behind (suc n) b s (e ∷ es)
    by (inl x) (inl y) i = rw y (rw x (ap (λ (z : Oplog). e ∷ z) i))
    by (inl x) (inr y) i = (let z = within_less b (t + size_of e) (s + size_of e) (omega arith) x in cc)
    by (inr x) (inl y) i = rw y (rw x refl)
    by (inr x) (inr y) i = rw y (rw x refl)

behind_again : (c : Caps) (k : OplogEntry) (es : Oplog) → kept_behind (c.entries - 1) c.bytes (size_of k) (kept c es) ≡ kept_behind (c.entries - 1) c.bytes (size_of k) es
behind_again c k [] = refl
behind_again c k (e ∷ es) = by (c.entries - 1) refl
  where
    by : (n : ℕ) → c.entries - 1 ≡ n → kept_behind n c.bytes (size_of k) (e ∷ kept_behind n c.bytes (size_of e) es) ≡ kept_behind n c.bytes (size_of k) (e ∷ es)
    by zero f = refl
    by (suc n) f = one (cases_Bool (within c.bytes (size_of k + size_of e)))
      where
        one : (within c.bytes (size_of k + size_of e) ≡ true) ⊎ (within c.bytes (size_of k + size_of e) ≡ false) →
            kept_behind (suc n) c.bytes (size_of k) (e ∷ kept_behind (suc n) c.bytes (size_of e) es) ≡ kept_behind (suc n) c.bytes (size_of k) (e ∷ es)
        one (inl x) = rw x (ap (λ (z : Oplog). e ∷ z) (again c.bytes n (suc n) (size_of k + size_of e) (size_of e) (omega arith) (omega arith) es))
        one (inr x) = rw x refl

pub kept_again : (c : Caps) (k : OplogEntry) (es : Oplog) → kept c (k ∷ kept c es) ≡ kept c (k ∷ es)
kept_again c k es = ap (λ (z : Oplog). k ∷ z) (behind_again c k es)
