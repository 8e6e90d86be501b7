-- No character but zero is written with a zero byte.
use Rattle.std.proofs.Common.{◌≡◌, ◌≢◌, ℕ, zero, suc, ◌+◌, ◌/◌, ◌%◌, ◌<◌, Bool, true, false, cond, List, [], ◌∷◌, ◌++◌, length, get_or, ltb, arith}
use Rattle.std.specs.Char.{encode_utf8}
use Rattle.std.specs.Prelude.{Contains}

abbrev NoZero : List ℕ → Type 0
NoZero [] = Unit {0}
NoZero (x ∷ xs) = (0 < x) × NoZero xs

no_zero : (xs : List ℕ) → NoZero xs → (k : ℕ) → k < length xs → get_or xs k 0 ≡ 0 → ⊥
no_zero [] n k lt e = omega arith
no_zero (x ∷ xs) n zero lt e = omega (arith, n.0, e)
no_zero (x ∷ xs) n (suc k) lt e = no_zero xs n.1 k (omega arith) e

joined : (xs ys : List ℕ) → NoZero ys → ((k : ℕ) → k < length xs → get_or xs k 0 ≡ 0 → ⊥) → (k : ℕ) → k < length (xs ++ ys) → get_or (xs ++ ys) k 0 ≡ 0 → ⊥
joined [] ys n h k lt e = no_zero ys n k lt e
joined (x ∷ xs) ys n h zero lt e = h zero (omega arith) e
joined (x ∷ xs) ys n h (suc k) lt e = joined xs ys n (λ j l f. h (suc j) (omega arith) f) k (omega arith) e

abbrev next : ℕ → ℕ
next bits = 128 + bits % 64

written : (c : ℕ) → 0 < c → (a b d : Bool) → NoZero (cond a (c ∷ []) (cond b ((192 + c / 64) ∷ next c ∷ []) (cond d ((224 + c / 4096) ∷ next (c / 64) ∷ next c ∷ []) ((240 + c / 262144) ∷ next (c / 4096) ∷ next (c / 64) ∷ next c ∷ []))))
written c p true b d = (p, tt)
written c p false true d = (omega arith, (omega arith, tt))
written c p false false true = (omega arith, (omega arith, (omega arith, tt)))
written c p false false false = (omega arith, (omega arith, (omega arith, (omega arith, tt))))

encoded : (c : ℕ) → c ≢ 0 → NoZero (encode_utf8 c)
unfolding encode_utf8
encoded c ne = written c (omega (arith, ne)) (ltb c 128) (ltb c 2048) (ltb c 65536)

-- a text without a zero byte, and one more character
pub pushed : (xs : List ℕ) (c : ℕ) → c ≢ 0 → (Contains xs 0 → ⊥) → Contains (xs ++ encode_utf8 c) 0 → ⊥
pushed xs c ne h z = joined xs (encode_utf8 c) (encoded c ne) (λ k lt e. h (k, lt, e)) z.0 z.1 z.2
