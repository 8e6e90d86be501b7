-- The sum of bytes is linear: what stands in several parts may be shifted part by part.
use Rattle.std.proofs.Common.{◌≡◌, ℕ, zero, suc, ◌+◌, ◌-◌, ◌*◌, ◌/◌, ◌%◌, ◌^◌, ◌<◌, ◌≤◌, Bool, true, false, cond, List, [], ◌∷◌, ◌++◌, length, refl, sym, ap, ◌∙◌, arith, inl, inr, ne_eqb}
use Rattle.std.proofs.Common.{take, drop, get_or, slice_index, Fits, w8, w64}
use Rattle.std.specs.Int.{from_le_bytes}
use Rattle.std.specs.Prelude.{bit_xor, ◌==◌, not, ◌⊎◌}
use Rattle.std.specs.Int.Bits.{xor_zero_r, xor_self, xor_assoc}
use Rattle.std.specs.Int.{bit_at}
use Rattle.std.proofs.lemmas.Nat.{xor_comm, xor_shr, mod-pow-add, pow_pos}
use Rattle.std.proofs.Math.Nat.{mod-lt}
use Rattle.std.proofs.lemmas.Nat.Bits.{bit_at_xor, bit_at_lowest, bit_at_cat_low, bit_at_cat_high, bit_at_above, bit_at-zero, same_from_bits, bit_at-lt}
use Rattle.std.proofs.lemmas.Bool.{cases_lt}
use Rattle.std.proofs.lemmas.List.{length-take-le, length-drop, take-append-drop}
use Rattle.std.proofs.Math.Nat.{pow-suc, mul_assoc}
use Rattle.archive_format.specs.Crc.{polynomial, shift, crc_step, crc_on}
use Rattle.archive_blocks.specs.Shifts.{shifts}

-- ---- sums of two

abbrev differ : Bool → Bool → Bool
differ true b = not b
differ false b = b

swap_last : (a b c : ℕ) → bit_xor (bit_xor a b) c ≡ bit_xor (bit_xor a c) b
swap_last a b c = xor_assoc a b c ∙ (ap (λ (x : ℕ). bit_xor a x) (xor_comm b c) ∙ sym (xor_assoc a c b))

twice : (a b c : ℕ) → bit_xor (bit_xor a c) (bit_xor b c) ≡ bit_xor a b
twice a b c =
    sym (xor_assoc (bit_xor a c) b c) ∙ (ap (λ (x : ℕ). bit_xor x c) (swap_last a c b) ∙ (xor_assoc (bit_xor a b) c c ∙ (ap (λ (x : ℕ). bit_xor (bit_xor a b) x) (xor_self c) ∙ xor_zero_r (bit_xor a b))))

both : (x y q : ℕ) (a b : Bool) → bit_xor (cond a (bit_xor x q) x) (cond b (bit_xor y q) y) ≡ cond (differ a b) (bit_xor (bit_xor x y) q) (bit_xor x y)
both x y q true true = twice x y q
both x y q true false = swap_last x q y
both x y q false true = sym (xor_assoc x y q)
both x y q false false = refl

low_bit : (a b : ℕ) → bit_xor a b % 2 ≡ (a % 2 + b % 2) % 2
low_bit a b = sym (bit_at_lowest (bit_xor a b)) ∙ (bit_at_xor a b 0 ∙ (ap (λ (x : ℕ). (x + bit_at b 0) % 2) (bit_at_lowest a) ∙ ap (λ (x : ℕ). (a % 2 + x) % 2) (bit_at_lowest b)))

test_of : (m n k : ℕ) → m < 2 → n < 2 → k ≡ (m + n) % 2 → (k == 1) ≡ differ (m == 1) (n == 1)
test_of zero zero k p q e = let z : k ≡ 0 = omega arith in rw z refl
test_of zero (suc zero) k p q e = let z : k ≡ 1 = omega arith in rw z refl
test_of (suc zero) zero k p q e = let z : k ≡ 1 = omega arith in rw z refl
test_of (suc zero) (suc zero) k p q e = let z : k ≡ 0 = omega arith in rw z refl
test_of zero (suc (suc n)) k p q e = absurd (omega arith)
test_of (suc zero) (suc (suc n)) k p q e = absurd (omega arith)
test_of (suc (suc m)) n k p q e = absurd (omega arith)

half : (a b : ℕ) → bit_xor a b / 2 ≡ bit_xor (a / 2) (b / 2)
half a b = xor_shr a b 1

pub shift_xor : (a b : ℕ) → shift (bit_xor a b) ≡ bit_xor (shift a) (shift b)
unfolding shift
shift_xor a b =
    rw (half a b, test_of (a % 2) (b % 2) (bit_xor a b % 2) (omega arith) (omega arith) (low_bit a b)) (sym (both (a / 2) (b / 2) polynomial (a % 2 == 1) (b % 2 == 1)))

pub shifts_xor : (k a b : ℕ) → shifts k (bit_xor a b) ≡ bit_xor (shifts k a) (shifts k b)
unfolding shifts
shifts_xor zero a b = refl
shifts_xor (suc k) a b = ap (shifts k) (shift_xor a b) ∙ shifts_xor k (shift a) (shift b)

pub shifts_more : (j k n : ℕ) → shifts (j + k) n ≡ shifts k (shifts j n)
unfolding shifts
shifts_more zero k n = let z : 0 + k ≡ k = omega arith in ap (λ (m : ℕ). shifts m n) z
shifts_more (suc j) k n = let z : suc j + k ≡ suc (j + k) = omega arith in ap (λ (m : ℕ). shifts m n) z ∙ shifts_more j k (shift n)

-- zeros leave as they are
even : (n : ℕ) → shift (n * 2) ≡ n
unfolding shift
even n = let t : ((n * 2) % 2 == 1) ≡ false = ne_eqb _ _ (λ e. omega (arith, e)) in rw t (omega arith)

pub shifts_out : (k n : ℕ) → shifts k (n * 2 ^ k) ≡ n
unfolding shifts
shifts_out zero n = omega arith
shifts_out (suc k) n = let z : n * 2 ^ suc k ≡ (n * 2 ^ k) * 2 = ap (λ (m : ℕ). n * m) (pow-suc 2 k) ∙ sym (mul_assoc n (2 ^ k) 2) in ap (λ (m : ℕ). shifts k (shift m)) z ∙ (ap (shifts k) (even (n * 2 ^ k)) ∙ shifts_out k n)

pub shifts_zero : (k : ℕ) → shifts k 0 ≡ 0
unfolding shifts shift
shifts_zero zero = refl
shifts_zero (suc k) = shifts_zero k

-- ---- bytes one after the other

pub eight_shifts : (r b : ℕ) → crc_step r b ≡ shifts 8 (bit_xor r b)
unfolding crc_step shifts
eight_shifts r b = refl

-- a number and one in its lowest zeros
pub cat_xor : (p k b : ℕ) → b < 2 ^ k → bit_xor b (p * 2 ^ k) ≡ p * 2 ^ k + b
cat_xor p k b l = same_from_bits _ _ (λ i. go i (cases_lt i k)) where
  zeros : (i : ℕ) → i < k → bit_at (p * 2 ^ k) i ≡ 0
  zeros i h = ap (λ (m : ℕ). bit_at m i) (let z : p * 2 ^ k ≡ p * 2 ^ k + 0 = omega arith in z) ∙ (bit_at_cat_low p k 0 i h ∙ bit_at-zero i)

  front : (i : ℕ) → k ≤ i → bit_at (p * 2 ^ k) i ≡ bit_at p (i - k)
  front i h = ap (λ (m : ℕ). bit_at m i) (let z : p * 2 ^ k ≡ p * 2 ^ k + 0 = omega arith in z) ∙ bit_at_cat_high p k 0 i (omega arith) h

  go : (i : ℕ) → (i < k) ⊎ (k ≤ i) → bit_at (bit_xor b (p * 2 ^ k)) i ≡ bit_at (p * 2 ^ k + b) i
  go i (inl h) = bit_at_xor b (p * 2 ^ k) i ∙ (omega (arith, zeros i h, bit_at-lt b i) ∙ sym (bit_at_cat_low p k b i h))
  go i (inr h) = bit_at_xor b (p * 2 ^ k) i ∙ (omega (arith, front i h, bit_at_above b k i l h, bit_at-lt p (i - k)) ∙ sym (bit_at_cat_high p k b i l h))

-- the number that bytes write, the lowest first
abbrev pub packed : List ℕ → ℕ
packed [] = 0
packed (b ∷ bs) = packed bs * 2 ^ 8 + b

abbrev pub AreBytes : List ℕ → Type 0
AreBytes [] = Unit {0}
AreBytes (b ∷ bs) = (b < 2 ^ 8) × AreBytes bs

pub all_at_once : (bs : List ℕ) (s : ℕ) → AreBytes bs → crc_on s bs ≡ shifts (8 * length bs) (bit_xor s (packed bs))
unfolding shifts
all_at_once [] s a = sym (xor_zero_r s)
all_at_once (b ∷ bs) s a =
    let n = 8 * length bs in
    let p = packed bs in
    let z : 8 + n ≡ 8 * suc (length bs) = omega arith in
    let one : bit_xor (shifts 8 (bit_xor s b)) p ≡ shifts 8 (bit_xor s (p * 2 ^ 8 + b)) =
    ap (λ (x : ℕ). bit_xor (shifts 8 (bit_xor s b)) x) (sym (shifts_out 8 p)) ∙ (sym (shifts_xor 8 (bit_xor s b) (p * 2 ^ 8)) ∙ ap (shifts 8) (xor_assoc s b (p * 2 ^ 8) ∙ ap (λ (x : ℕ). bit_xor s x) (cat_xor p 8 b a.0))) in
    ap (λ (r : ℕ). crc_on r bs) (eight_shifts s b) ∙ (all_at_once bs (shifts 8 (bit_xor s b)) a.1 ∙ (ap (shifts n) one ∙ (sym (shifts_more 8 n _) ∙ ap (λ (k : ℕ). shifts k (bit_xor s (p * 2 ^ 8 + b))) z)))

-- ---- half bytes of a number

pub half_more : (y j : ℕ) → y % 2 ^ (4 * (j + 1)) ≡ (y / 2 ^ (4 * j) % 16) * 2 ^ (4 * j) + y % 2 ^ (4 * j)
half_more y j = let k : 4 * (j + 1) ≡ 4 + 4 * j = omega arith in ap (λ (m : ℕ). y % 2 ^ m) k ∙ mod-pow-add y 4 (4 * j)

pub halves_step : (y j table sum : ℕ) → j < 16 → table ≡ shifts (4 * (15 - j + 1)) (y / 2 ^ (4 * j) % 16) → sum ≡ shifts 64 (y % 2 ^ (4 * j)) → bit_xor sum table ≡ shifts 64 (y % 2 ^ (4 * (j + 1)))
halves_step y j table sum l is before =
    let n = y / 2 ^ (4 * j) % 16 in
    let k : 4 * j + 4 * (15 - j + 1) ≡ 64 = omega arith in
    let moved : shifts 64 (n * 2 ^ (4 * j)) ≡ shifts (4 * (15 - j + 1)) n =
    ap (λ (m : ℕ). shifts m (n * 2 ^ (4 * j))) (sym k) ∙ (shifts_more (4 * j) (4 * (15 - j + 1)) (n * 2 ^ (4 * j)) ∙ ap (shifts (4 * (15 - j + 1))) (shifts_out (4 * j) n)) in
    ap (λ (x : ℕ). bit_xor x table) before ∙ (ap (λ (x : ℕ). bit_xor (shifts 64 (y % 2 ^ (4 * j))) x) (is ∙ sym moved)
    ∙ (sym (shifts_xor 64 (y % 2 ^ (4 * j)) (n * 2 ^ (4 * j))) ∙ ap (shifts 64) (cat_xor n (4 * j) (y % 2 ^ (4 * j)) (mod-lt y (pow_pos (4 * j))) ∙ sym (half_more y j))))

pub half_leaves : (n : ℕ) → bit_xor (n / 16) (shifts 4 (n % 16)) ≡ shifts 4 n
half_leaves n =
    let whole : bit_xor (n % 16) (n / 16 * 2 ^ 4) ≡ n = cat_xor (n / 16) 4 (n % 16) (omega arith) ∙ omega arith in
    xor_comm (n / 16) (shifts 4 (n % 16)) ∙ (ap (λ (x : ℕ). bit_xor (shifts 4 (n % 16)) x) (sym (shifts_out 4 (n / 16))) ∙ (sym (shifts_xor 4 (n % 16) (n / 16 * 2 ^ 4)) ∙ ap (shifts 4) whole))

pub no_bits : (n : ℕ) → 0 ≡ shifts 64 (n % 1)
no_bits n = sym (ap (shifts 64) (let z : n % 1 ≡ 0 = omega arith in z) ∙ shifts_zero 64)

-- ---- eight bytes as one number

unroll_at : (k : ℕ) (xs : List ℕ) → packed (drop k xs) ≡ packed (drop (suc k) xs) * 2 ^ 8 + slice_index xs k
unroll_at zero [] = omega arith
unroll_at zero (x ∷ xs) = refl
unroll_at (suc k) [] = omega arith
unroll_at (suc k) (x ∷ xs) = unroll_at k xs

none_left : (xs : List ℕ) (k : ℕ) → length xs ≤ k → packed (drop k xs) ≡ 0
none_left [] zero l = refl
none_left [] (suc k) l = refl
none_left (x ∷ xs) zero l = absurd (omega arith)
none_left (x ∷ xs) (suc k) l = none_left xs k (omega arith)

pub eight_packed : (xs : List ℕ) → length xs ≡ 8 → packed xs ≡ from_le_bytes w64 xs
eight_packed xs l = omega (arith, unroll_at 0 xs, unroll_at 1 xs, unroll_at 2 xs, unroll_at 3 xs, unroll_at 4 xs, unroll_at 5 xs, unroll_at 6 xs, unroll_at 7 xs, none_left xs 8 (omega (arith, l)))

pub are_bytes : (xs : List ℕ) → ((i : ℕ) → Fits w8 (get_or xs i 0)) → AreBytes xs
are_bytes [] h = tt
are_bytes (x ∷ xs) h = ((h zero).fits, are_bytes xs (λ i. h (suc i)))

pub eight_at_once : (xs : List ℕ) (s : ℕ) → AreBytes xs → length xs ≡ 8 → shifts 64 (bit_xor s (from_le_bytes w64 xs)) ≡ crc_on s xs
eight_at_once xs s a l = sym (all_at_once xs s a ∙ (ap (λ (n : ℕ). shifts (8 * n) (bit_xor s (packed xs))) l ∙ ap (λ (n : ℕ). shifts 64 (bit_xor s n)) (eight_packed xs l)))

-- bytes in two parts
pub after_both : (xs ys : List ℕ) (s : ℕ) → crc_on s (xs ++ ys) ≡ crc_on (crc_on s xs) ys
after_both [] ys s = refl
after_both (x ∷ xs) ys s = after_both xs ys (crc_step s x)

-- ---- whole bytes of a number

byte_more : (y j : ℕ) → y % 2 ^ (8 * (j + 1)) ≡ (y / 2 ^ (8 * j) % 256) * 2 ^ (8 * j) + y % 2 ^ (8 * j)
byte_more y j = let k : 8 * (j + 1) ≡ 8 + 8 * j = omega arith in ap (λ (m : ℕ). y % 2 ^ m) k ∙ mod-pow-add y 8 (8 * j)

-- with k bits behind the number and the bytes of it that stand behind this one
pub byte_step : (k m y j table sum : ℕ) → 8 * j + m ≡ k → table ≡ shifts m (y / 2 ^ (8 * j) % 256) → sum ≡ shifts k (y % 2 ^ (8 * j)) → bit_xor sum table ≡ shifts k (y % 2 ^ (8 * (j + 1)))
byte_step k m y j table sum e is before =
    let n = y / 2 ^ (8 * j) % 256 in
    let moved : shifts k (n * 2 ^ (8 * j)) ≡ shifts m n =
    ap (λ (i : ℕ). shifts i (n * 2 ^ (8 * j))) (sym e) ∙ (shifts_more (8 * j) m (n * 2 ^ (8 * j)) ∙ ap (shifts m) (shifts_out (8 * j) n)) in
    ap (λ (x : ℕ). bit_xor x table) before ∙ (ap (λ (x : ℕ). bit_xor (shifts k (y % 2 ^ (8 * j))) x) (is ∙ sym moved)
    ∙ (sym (shifts_xor k (y % 2 ^ (8 * j)) (n * 2 ^ (8 * j))) ∙ ap (shifts k) (cat_xor n (8 * j) (y % 2 ^ (8 * j)) (mod-lt y (pow_pos (8 * j))) ∙ sym (byte_more y j))))

-- what the eight bytes of a number add, the lowest first, with so many bytes behind the number
pub eight_bytes : (behind y a b c d e f g h : ℕ) → y < 2 ^ 64
    → a ≡ shifts (8 * (behind + 7 + 1)) (y % 256)
    → b ≡ shifts (8 * (behind + 6 + 1)) (y / 2 ^ 8 % 256)
    → c ≡ shifts (8 * (behind + 5 + 1)) (y / 2 ^ 16 % 256)
    → d ≡ shifts (8 * (behind + 4 + 1)) (y / 2 ^ 24 % 256)
    → e ≡ shifts (8 * (behind + 3 + 1)) (y / 2 ^ 32 % 256)
    → f ≡ shifts (8 * (behind + 2 + 1)) (y / 2 ^ 40 % 256)
    → g ≡ shifts (8 * (behind + 1 + 1)) (y / 2 ^ 48 % 256)
    → h ≡ shifts (8 * (behind + 1)) (y / 2 ^ 56 % 256)
    → bit_xor (bit_xor (bit_xor (bit_xor (bit_xor (bit_xor (bit_xor a b) c) d) e) f) g) h ≡ shifts (8 * (behind + 8)) y
eight_bytes behind y a b c d e f g h l first second third fourth fifth sixth seventh eighth =
    let k = 8 * (behind + 8) in
    let one : a ≡ shifts k (y % 2 ^ (8 * 1)) = first ∙ ap (λ (i : ℕ). shifts i (y % 256)) (let z : 8 * (behind + 7 + 1) ≡ 8 * (behind + 8) = omega arith in z) in
    let two = byte_step k (8 * (behind + 6 + 1)) y 1 b a (omega arith) second one in
    let three = byte_step k (8 * (behind + 5 + 1)) y 2 c _ (omega arith) third two in
    let four = byte_step k (8 * (behind + 4 + 1)) y 3 d _ (omega arith) fourth three in
    let five = byte_step k (8 * (behind + 3 + 1)) y 4 e _ (omega arith) fifth four in
    let six = byte_step k (8 * (behind + 2 + 1)) y 5 f _ (omega arith) sixth five in
    let seven = byte_step k (8 * (behind + 1 + 1)) y 6 g _ (omega arith) seventh six in
    byte_step k (8 * (behind + 1)) y 7 h _ (omega arith) eighth seven ∙ ap (shifts k) (let z : y % 2 ^ 64 ≡ y = omega (arith, l) in z)

-- a byte by its halves: the upper one has four bits fewer behind it
pub byte_by_halves : (k b low high : ℕ) → low ≡ shifts (4 * (2 * k + 1 + 1)) (b % 16) → high ≡ shifts (4 * (2 * k + 1)) (b / 16) → bit_xor low high ≡ shifts (8 * (k + 1)) b
byte_by_halves k b low high l h =
    let n = 4 * (2 * k + 1) in
    let size : 4 * (2 * k + 1 + 1) ≡ 8 * (k + 1) = omega arith in
    let more : 4 + n ≡ 8 * (k + 1) = omega arith in
    let whole : bit_xor (b % 16) (b / 16 * 2 ^ 4) ≡ b = cat_xor (b / 16) 4 (b % 16) (omega arith) ∙ omega arith in
    let moved : shifts (8 * (k + 1)) (b / 16 * 2 ^ 4) ≡ shifts n (b / 16) = ap (λ (m : ℕ). shifts m (b / 16 * 2 ^ 4)) (sym more) ∙ (shifts_more 4 n (b / 16 * 2 ^ 4) ∙ ap (shifts n) (shifts_out 4 (b / 16))) in
    ap (λ (x : ℕ). bit_xor x high) (l ∙ ap (λ (m : ℕ). shifts m (b % 16)) size) ∙ ap (λ (x : ℕ). bit_xor (shifts (8 * (k + 1)) (b % 16)) x) (h ∙ sym moved)
    ∙ sym (shifts_xor (8 * (k + 1)) (b % 16) (b / 16 * 2 ^ 4)) ∙ ap (shifts (8 * (k + 1))) whole

-- one byte leaves
pub byte_leaves : (n : ℕ) → bit_xor (n / 256) (shifts 8 (n % 256)) ≡ shifts 8 n
byte_leaves n =
    let whole : bit_xor (n % 256) (n / 256 * 2 ^ 8) ≡ n = cat_xor (n / 256) 8 (n % 256) (omega arith) ∙ omega arith in
    xor_comm (n / 256) (shifts 8 (n % 256)) ∙ (ap (λ (x : ℕ). bit_xor (shifts 8 (n % 256)) x) (sym (shifts_out 8 (n / 256))) ∙ (sym (shifts_xor 8 (n % 256) (n / 256 * 2 ^ 8)) ∙ ap (shifts 8) whole))

-- what leaves of a byte with eight more behind those that stood there
pub eight_more : (k b : ℕ) → 8 ≤ k → shifts 64 (shifts (8 * (k - 8 + 1)) b) ≡ shifts (8 * (k + 1)) b
eight_more k b l = sym (shifts_more (8 * (k - 8 + 1)) 64 b) ∙ ap (λ (i : ℕ). shifts i b) (let z : 8 * (k - 8 + 1) + 64 ≡ 8 * (k + 1) = omega (arith, l) in z)

-- ---- sixteen bytes as two numbers

two_at_once : (xs ys : List ℕ) (s : ℕ) → AreBytes xs → AreBytes ys → length xs ≡ 8 → length ys ≡ 8
    → bit_xor (shifts 128 (bit_xor s (from_le_bytes w64 xs))) (shifts 64 (from_le_bytes w64 ys)) ≡ crc_on s (xs ++ ys)
two_at_once xs ys s a b l m =
    let n = bit_xor s (from_le_bytes w64 xs) in
    let y = from_le_bytes w64 ys in
    ap (λ (x : ℕ). bit_xor x (shifts 64 y)) (shifts_more 64 64 n) ∙ (sym (shifts_xor 64 (shifts 64 n) y)
    ∙ (ap (λ (r : ℕ). shifts 64 (bit_xor r y)) (eight_at_once xs s a l) ∙ (eight_at_once ys (crc_on s xs) b m ∙ sym (after_both xs ys s))))

front_bytes : (k : ℕ) (xs : List ℕ) → AreBytes xs → AreBytes (take k xs)
front_bytes zero xs a = tt
front_bytes (suc k) [] a = tt
front_bytes (suc k) (x ∷ xs) a = (a.0, front_bytes k xs a.1)

back_bytes : (k : ℕ) (xs : List ℕ) → AreBytes xs → AreBytes (drop k xs)
back_bytes zero xs a = a
back_bytes (suc k) [] a = tt
back_bytes (suc k) (x ∷ xs) a = back_bytes k xs a.1

pub sixteen_at_once : (xs : List ℕ) (s : ℕ) → AreBytes xs → length xs ≡ 16
    → bit_xor (shifts 64 (from_le_bytes w64 (drop 8 xs))) (shifts 128 (bit_xor s (from_le_bytes w64 (take 8 xs)))) ≡ crc_on s xs
sixteen_at_once xs s a l =
    xor_comm (shifts 64 (from_le_bytes w64 (drop 8 xs))) (shifts 128 (bit_xor s (from_le_bytes w64 (take 8 xs))))
    ∙ two_at_once (take 8 xs) (drop 8 xs) s (front_bytes 8 xs a) (back_bytes 8 xs a) (length-take-le 8 xs (omega (arith, l))) (omega (arith, length-drop 8 xs, l))
    ∙ ap (crc_on s) (take-append-drop 8 xs)
