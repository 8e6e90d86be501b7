-- Byte strings are ordered as the numbers that they write.
use Rattle.std.proofs.Common.{◌≡◌, ◌≢◌, ℕ, zero, suc, ◌+◌, ◌*◌, ◌<◌, ◌≤◌, min, List, [], ◌∷◌, ◌++◌, length, take, drop, get_or, refl, sym, ap, ap₂, ◌∙◌, arith, Fits, w8, length-drop, length-take-le, drop-cons, take-add, take-take}
use Rattle.std.proofs.Common.{nat_cmp, Ordering, Less, Equal, Greater}
use Rattle.std.specs.Ordering.{ordering_then, MatchOrdering}
use Rattle.std.specs.Cmp.{ranks, nat_cmp_is}
use Rattle.std.specs.Cmp.Lexicographic.{slice_cmp}
use Rattle.std.specs.Slice.Scan.{big_endian}
use Rattle.std.proofs.lemmas.Map.Lookups.{exact_bytes}
use Rattle.byte_order.specs.Words.{word_at}

abbrev AreBytes : List ℕ → Type 0
AreBytes [] = Unit {0}
AreBytes (x ∷ xs) = (x < 256) × AreBytes xs

are_bytes : (xs : List ℕ) → ((i : ℕ) → Fits w8 (get_or xs i 0)) → AreBytes xs
are_bytes [] h = tt
are_bytes (x ∷ xs) h = ((h zero).fits, are_bytes xs (λ i. h (suc i)))

front_bytes : (n : ℕ) (xs : List ℕ) → AreBytes xs → AreBytes (take n xs)
front_bytes zero xs a = tt
front_bytes (suc n) [] a = tt
front_bytes (suc n) (x ∷ xs) a = (a.0, front_bytes n xs a.1)

back_bytes : (n : ℕ) (xs : List ℕ) → AreBytes xs → AreBytes (drop n xs)
back_bytes zero xs a = a
back_bytes (suc n) [] a = tt
back_bytes (suc n) (x ∷ xs) a = back_bytes n xs a.1

abbrev beside : List ℕ → List ℕ → Ordering
beside xs ys = slice_cmp nat_cmp xs ys

-- ---- orders

then_equal : (r : Ordering) → ordering_then r Equal ≡ r
then_equal Less = refl
then_equal Equal = refl
then_equal Greater = refl

then_then : (r s t : Ordering) → ordering_then r (ordering_then s t) ≡ ordering_then (ordering_then r s) t
then_then Less s t = refl
then_then Equal s t = refl
then_then Greater s t = refl

level : (n : ℕ) → nat_cmp n n ≡ Equal
level n = sym (nat_cmp_is n n Equal refl)

-- a number decides unless it is the same
decided : (x y : ℕ) (s : Ordering) → x ≢ y → ordering_then (nat_cmp x y) s ≡ nat_cmp x y
decided x y s n = by (nat_cmp x y) (ranks x y)
  where
    by : (r : Ordering) → MatchOrdering r (x < y) (x ≡ y) (y < x) → ordering_then r s ≡ r
    by Less h = refl
    by Equal h = absurd (n h)
    by Greater h = refl

-- ---- numbers

-- a number of one byte more is ordered by what was before, and then by the byte
one_more : (a b u v : ℕ) → u < 256 → v < 256 → ordering_then (nat_cmp a b) (nat_cmp u v) ≡ nat_cmp (a * 256 + u) (b * 256 + v)
one_more a b u v k l = nat_cmp_is (a * 256 + u) (b * 256 + v) _ (by (nat_cmp a b) (nat_cmp u v) (ranks a b) (ranks u v))
  where
    by : (r s : Ordering) → MatchOrdering r (a < b) (a ≡ b) (b < a) → MatchOrdering s (u < v) (u ≡ v) (v < u)
        → MatchOrdering (ordering_then r s) (a * 256 + u < b * 256 + v) (a * 256 + u ≡ b * 256 + v) (b * 256 + v < a * 256 + u)
    by Less s h g = let m : a < b = h in omega arith
    by Greater s h g = let m : b < a = h in omega arith
    by Equal Less h g = let m : a ≡ b = h in let n : u < v = g in omega arith
    by Equal Equal h g = let m : a ≡ b = h in let n : u ≡ v = g in omega arith
    by Equal Greater h g = let m : a ≡ b = h in let n : v < u = g in omega arith

numbers : (a b : ℕ) (xs ys : List ℕ) → length xs ≡ length ys → AreBytes xs → AreBytes ys → ordering_then (nat_cmp a b) (beside xs ys) ≡ nat_cmp (big_endian a xs) (big_endian b ys)
numbers a b [] [] e p q = then_equal (nat_cmp a b)
numbers a b [] (y ∷ ys) e p q = absurd (omega (arith, e))
numbers a b (x ∷ xs) [] e p q = absurd (omega (arith, e))
numbers a b (x ∷ xs) (y ∷ ys) e p q =
    then_then (nat_cmp a b) (nat_cmp x y) (beside xs ys)
    ∙ (ap (λ (r : Ordering). ordering_then r (beside xs ys)) (one_more a b x y p.0 q.0)
    ∙ numbers (a * 256 + x) (b * 256 + y) xs ys (omega (arith, e)) p.1 q.1)

-- ---- fronts

fronts : (n : ℕ) (xs ys : List ℕ) → n ≤ length xs → n ≤ length ys → beside xs ys ≡ ordering_then (beside (take n xs) (take n ys)) (beside (drop n xs) (drop n ys))
fronts zero xs ys k l = refl
fronts (suc n) [] ys k l = absurd (omega arith)
fronts (suc n) (x ∷ xs) [] k l = absurd (omega arith)
fronts (suc n) (x ∷ xs) (y ∷ ys) k l =
    ap (ordering_then (nat_cmp x y)) (fronts n xs ys (omega arith) (omega arith))
    ∙ then_then (nat_cmp x y) (beside (take n xs) (take n ys)) (beside (drop n xs) (drop n ys))

alike_beside : (xs : List ℕ) → beside xs xs ≡ Equal
alike_beside [] = refl
alike_beside (x ∷ xs) = ap (λ (r : Ordering). ordering_then r (beside xs xs)) (level x) ∙ alike_beside xs

-- behind what is the same in both
behind : (n : ℕ) (xs ys : List ℕ) → n ≤ length xs → n ≤ length ys → take n xs ≡ take n ys → beside xs ys ≡ beside (drop n xs) (drop n ys)
behind n xs ys k l e =
    fronts n xs ys k l
    ∙ ap (λ (r : Ordering). ordering_then r (beside (drop n xs) (drop n ys))) (ap (λ (zs : List ℕ). beside zs (take n ys)) e ∙ alike_beside (take n ys))

-- behind all bytes of the shorter
ended : (n : ℕ) (xs ys : List ℕ) → n ≡ min (length xs) (length ys) → beside (drop n xs) (drop n ys) ≡ nat_cmp (length xs) (length ys)
ended zero [] [] e = refl
ended zero [] (y ∷ ys) e = nat_cmp_is 0 (length (y ∷ ys)) Less (omega arith)
ended zero (x ∷ xs) [] e = nat_cmp_is (length (x ∷ xs)) 0 Greater (omega arith)
ended zero (x ∷ xs) (y ∷ ys) e = absurd (omega (arith, e))
ended (suc n) [] ys e = absurd (omega (arith, e))
ended (suc n) (x ∷ xs) [] e = absurd (omega (arith, e))
ended (suc n) (x ∷ xs) (y ∷ ys) e = ended n xs ys (omega (arith, e)) ∙ nat_cmp_is (suc (length xs)) (suc (length ys)) _ (more (nat_cmp (length xs) (length ys)) (ranks (length xs) (length ys)))
  where
    more : (r : Ordering) → MatchOrdering r (length xs < length ys) (length xs ≡ length ys) (length ys < length xs) → MatchOrdering r (suc (length xs) < suc (length ys)) (suc (length xs) ≡ suc (length ys)) (suc (length ys) < suc (length xs))
    more Less h = let m : length xs < length ys = h in omega arith
    more Equal h = let m : length xs ≡ length ys = h in omega arith
    more Greater h = let m : length ys < length xs = h in omega arith

-- ---- words

module _ (xs ys : List ℕ) (p : (j : ℕ) → Fits w8 (get_or xs j 0)) (q : (j : ℕ) → Fits w8 (get_or ys j 0)) (n i : ℕ) (k : i + n ≤ length xs) (l : i + n ≤ length ys) where
  bytes_at : (zs : List ℕ) → ((j : ℕ) → Fits w8 (get_or zs j 0)) → AreBytes (take n (drop i zs))
  bytes_at zs r = front_bytes n (drop i zs) (back_bytes i zs (are_bytes zs r))

  parts : beside (take n (drop i xs)) (take n (drop i ys)) ≡ nat_cmp (word_at n i xs) (word_at n i ys)
  parts =
      let a = length-take-le n (drop i xs) (omega (arith, length-drop i xs, k)) in
      let b = length-take-le n (drop i ys) (omega (arith, length-drop i ys, l)) in
      ap (λ (r : Ordering). ordering_then r (beside (take n (drop i xs)) (take n (drop i ys)))) (sym (level 0))
      ∙ numbers 0 0 (take n (drop i xs)) (take n (drop i ys)) (a ∙ sym b) (bytes_at xs p) (bytes_at ys q)

  word_then : take i xs ≡ take i ys → beside xs ys ≡ ordering_then (nat_cmp (word_at n i xs) (word_at n i ys)) (beside (drop n (drop i xs)) (drop n (drop i ys)))
  word_then e =
      behind i xs ys (omega (arith, k)) (omega (arith, l)) e
      ∙ (fronts n (drop i xs) (drop i ys) (omega (arith, length-drop i xs, k)) (omega (arith, length-drop i ys, l))
      ∙ ap (λ (r : Ordering). ordering_then r (beside (drop n (drop i xs)) (drop n (drop i ys)))) parts)

  module _ (x y : ℕ) (read_x : x ≡ word_at n i xs) (read_y : y ≡ word_at n i ys) (e : take i xs ≡ take i ys) where
    -- words that differ decide
    pub apart : x ≢ y → nat_cmp x y ≡ beside xs ys
    apart f =
        ap₂ nat_cmp read_x read_y
        ∙ sym (word_then e ∙ decided (word_at n i xs) (word_at n i ys) _ (λ g. f (read_x ∙ (g ∙ sym read_y))))

    -- words that are the same are so byte by byte
    pub alike : x ≡ y → take (i + n) xs ≡ take (i + n) ys
    alike f =
        let g = sym read_x ∙ (f ∙ read_y) in
        let same = exact_bytes (take n (drop i xs)) (take n (drop i ys)) (parts ∙ (ap (λ (w : ℕ). nat_cmp w (word_at n i ys)) g ∙ level (word_at n i ys))) in
        take-add i n xs ∙ (ap₂ (λ (us vs : List ℕ). us ++ vs) e same ∙ sym (take-add i n ys))

    -- and where they are the last, the lengths decide
    pub alike_to_end : x ≡ y → i + n ≡ min (length xs) (length ys) → nat_cmp (length xs) (length ys) ≡ beside xs ys
    alike_to_end f z = sym (behind (i + n) xs ys k l (alike f) ∙ ended (i + n) xs ys z)

-- what is the same in both is so with fewer bytes
pub fewer : (m n : ℕ) (xs ys : List ℕ) → m ≤ n → take n xs ≡ take n ys → take m xs ≡ take m ys
fewer m n xs ys l e = sym (take-take m n xs l) ∙ (ap (take m) e ∙ take-take m n ys l)

-- ---- reading

-- n bytes from i + k on, one by one
abbrev bytes_from : List ℕ → ℕ → ℕ → ℕ → List ℕ
bytes_from xs i k zero = []
bytes_from xs i k (suc n) = get_or xs (i + k) 0 ∷ bytes_from xs i (suc k) n

one_by_one : (n : ℕ) (xs : List ℕ) (i k : ℕ) → i + k + n ≤ length xs → take n (drop (i + k) xs) ≡ bytes_from xs i k n
one_by_one zero xs i k l = refl
one_by_one (suc n) xs i k l =
    let next : suc (i + k) ≡ i + suc k = omega arith in
    ap (take (suc n)) (drop-cons xs (i + k) 0 (omega (arith, l)))
    ∙ ap (λ (ys : List ℕ). get_or xs (i + k) 0 ∷ ys) (ap (λ (m : ℕ). take n (drop m xs)) next ∙ one_by_one n xs i (suc k) (omega (arith, l)))

module _ (xs : List ℕ) (i : ℕ) where
  spelt : (n : ℕ) → i + n ≤ length xs → word_at n i xs ≡ big_endian 0 (bytes_from xs i 0 n)
  spelt n l = let e : i ≡ i + 0 = omega arith in ap (big_endian 0) (ap (λ (m : ℕ). take n (drop m xs)) e ∙ one_by_one n xs i 0 (omega (arith, l)))

  here : get_or xs (i + 0) 0 ≡ get_or xs i 0
  here = ap (λ (k : ℕ). get_or xs k 0) (omega arith)

  pub four_are : i + 4 ≤ length xs → get_or xs i 0 * 16777216 + get_or xs (i + 1) 0 * 65536 + get_or xs (i + 2) 0 * 256 + get_or xs (i + 3) 0 ≡ word_at 4 i xs
  four_are l = omega (arith, here) ∙ sym (spelt 4 l)

  pub eight_are : i + 8 ≤ length xs
      → get_or xs i 0 * 72057594037927936 + get_or xs (i + 1) 0 * 281474976710656 + get_or xs (i + 2) 0 * 1099511627776 + get_or xs (i + 3) 0 * 4294967296
      + get_or xs (i + 4) 0 * 16777216 + get_or xs (i + 5) 0 * 65536 + get_or xs (i + 6) 0 * 256 + get_or xs (i + 7) 0 ≡ word_at 8 i xs
  eight_are l = omega (arith, here) ∙ sym (spelt 8 l)
