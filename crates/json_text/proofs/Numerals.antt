-- White space and numbers of the grammar are read.
use Rattle.std.proofs.Common.{◌≡◌, ◌≢◌, ◌⊎◌, ℕ, ◌-◌, ◌<◌, ◌≤◌, true, false, ltb, List, [], ◌∷◌, ◌++◌, length, take, Ok, refl, ap, ◌∙◌, inl, inr, append_assoc, arith}
use Rattle.std.specs.List.{list_all}
use Rattle.std.specs.Str.{is_utf8, IsAscii}
use Rattle.std.proofs.lemmas.Bool.{and_parts, eq-eqb, ne_eqb, ltb-true}
use Rattle.std.proofs.lemmas.List.{length-append, take-append-le, take_all}
use Rattle.std.proofs.lemmas.Str.{is_utf8-from_IsUtf8, IsUtf8-from_ascii, IsAscii-append}
use Rattle.std.proofs.lemmas.Str.Ascii.{IsAscii-cons, IsAscii-nil}
use Rattle.json_tree.specs.Numbers.{AreDigits, IsWhole, IsFraction, IsSign, IsExponent, IsMinus, IsNumber, is_digit}
use Rattle.json_text.specs.Reading.{is_space, after_space, after_digits, digits_at, whole_at, after_minus, after_sign, fraction_at, exponent_at, after_number, number_at}
use Rattle.json_text.specs.Grammar.{IsSpace}

-- ---- white space

-- what doesn't begin with white space
abbrev pub NoSpace : List ℕ → Type 0
NoSpace [] = Unit {0}
NoSpace (b ∷ bs) = is_space b ≡ false

unspaced : (bs : List ℕ) → NoSpace bs → after_space bs ≡ bs
unfolding after_space
unspaced [] h = refl
unspaced (b ∷ bs) h = rw h refl

pub spaced : (w bs : List ℕ) → IsSpace w → NoSpace bs → after_space (w ++ bs) ≡ bs
unfolding after_space
spaced [] bs h n = unspaced bs n
spaced (b ∷ w) bs h n = let p = and_parts (is_space b) (list_all is_space w) h in rw p.0 (spaced w bs p.1 n)

-- ---- numbers

abbrev NoDigit : List ℕ → Type 0
NoDigit [] = Unit {0}
NoDigit (b ∷ bs) = is_digit b ≡ false

undigited : (bs : List ℕ) → NoDigit bs → after_digits bs ≡ bs
unfolding after_digits
undigited [] h = refl
undigited (b ∷ bs) h = rw h refl

digited : (ds bs : List ℕ) → list_all is_digit ds ≡ true → NoDigit bs → after_digits (ds ++ bs) ≡ bs
unfolding after_digits
digited [] bs h n = undigited bs n
digited (d ∷ ds) bs h n = let p = and_parts (is_digit d) (list_all is_digit ds) h in rw p.0 (digited ds bs p.1 n)

digits_read : (start end : ℕ) (ds bs : List ℕ) → AreDigits ds → NoDigit bs → digits_at start end (ds ++ bs) ≡ Ok bs
unfolding digits_at
digits_read start end [] bs h n = absurd (omega (arith, h.some))
digits_read start end (d ∷ ds) bs h n = let p = and_parts (is_digit d) (list_all is_digit ds) h.digits in rw p.0 (ap (λ (l : List ℕ). Ok l) (digited ds bs p.1 n))

digit_low : (d : ℕ) → is_digit d ≡ true → (48 ≤ d) × (d ≤ 57)
digit_low d h = let p = and_parts (ltb 47 d) (ltb d 58) h in (omega (arith, ltb-true 47 d p.0), omega (arith, ltb-true d 58 p.1))

-- the first of a whole number is a digit
whole_first : (w : List ℕ) → IsWhole w → (d : ℕ) × (ds : List ℕ) × (w ≡ d ∷ ds) × (48 ≤ d) × (d ≤ 57)
whole_first [] h = absurd h
whole_first (d ∷ ds) (inl h) = (d, ds, refl, omega (arith, h.0), omega (arith, h.0))
whole_first (d ∷ ds) (inr h) = let p = digit_low d (and_parts (is_digit d) (list_all is_digit ds) h.1.digits).0 in (d, ds, refl, p.0, p.1)

whole_read : (start end : ℕ) (w bs : List ℕ) → IsWhole w → NoDigit bs → whole_at start end (w ++ bs) ≡ Ok bs
unfolding whole_at
whole_read start end [] bs h n = absurd h
whole_read start end (d ∷ ds) bs (inl h) n = rw (eq-eqb d 48 h.0, h.1) refl
whole_read start end (d ∷ ds) bs (inr h) n = rw (ne_eqb d 48 h.0) (digits_read start end (d ∷ ds) bs h.1 n)

-- what may stand behind a number
abbrev pub Stops : List ℕ → Type 0
Stops [] = Unit {0}
Stops (b ∷ bs) = (is_digit b ≡ false) × (b ≢ 46) × (b ≢ 101) × (b ≢ 69)

stop_digits : (bs : List ℕ) → Stops bs → NoDigit bs
stop_digits [] h = tt
stop_digits (b ∷ bs) h = h.0

no_mark : (start end : ℕ) (bs : List ℕ) → Stops bs → exponent_at start end bs ≡ Ok bs
unfolding exponent_at
no_mark start end [] h = refl
no_mark start end (b ∷ bs) h = rw (ne_eqb b 101 h.2, ne_eqb b 69 h.3) refl

unsigned : (ds bs : List ℕ) → AreDigits ds → after_sign (ds ++ bs) ≡ ds ++ bs
unfolding after_sign
unsigned [] bs h = absurd (omega (arith, h.some))
unsigned (d ∷ ds) bs h =
    let p = digit_low d (and_parts (is_digit d) (list_all is_digit ds) h.digits).0 in
    rw (ne_eqb d 43 (λ e. omega (arith, p.0, e)), ne_eqb d 45 (λ e. omega (arith, p.0, e))) refl

sign_read : (sign ds bs : List ℕ) → IsSign sign → AreDigits ds → after_sign ((sign ++ ds) ++ bs) ≡ ds ++ bs
unfolding after_sign
sign_read sign ds bs (inl s) h = rw s (unsigned ds bs h)
sign_read sign ds bs (inr (inl s)) h = rw s refl
sign_read sign ds bs (inr (inr s)) h = rw s refl

mark_digits : (start end mark : ℕ) (bs : List ℕ) → (mark ≡ 101) ⊎ (mark ≡ 69) → exponent_at start end (mark ∷ bs) ≡ digits_at start end (after_sign bs)
unfolding exponent_at
mark_digits start end mark bs (inl e) = rw e refl
mark_digits start end mark bs (inr e) = rw e refl

exponent_read : (start end : ℕ) (x bs : List ℕ) → IsExponent x → Stops bs → exponent_at start end (x ++ bs) ≡ Ok bs
exponent_read start end x bs (inl e) s = rw e (no_mark start end bs s)
exponent_read start end x bs (inr (mark, sign, ds, is, sg, h, e)) s =
    rw e (mark_digits start end mark ((sign ++ ds) ++ bs) is ∙ ap (digits_at start end) (sign_read sign ds bs sg h) ∙ digits_read start end ds bs h (stop_digits bs s))

-- what may stand behind the whole part, and behind the fraction
mark_no_digit : (mark : ℕ) → (mark ≡ 101) ⊎ (mark ≡ 69) → is_digit mark ≡ false
mark_no_digit mark (inl e) = rw e refl
mark_no_digit mark (inr e) = rw e refl

exponent_first : (x bs : List ℕ) → IsExponent x → Stops bs → NoDigit (x ++ bs)
exponent_first x bs (inl e) s = rw e (stop_digits bs s)
exponent_first x bs (inr (mark, sign, ds, is, sg, h, e)) s = rw e (mark_no_digit mark is)

abbrev NoPoint : List ℕ → Type 0
NoPoint [] = Unit {0}
NoPoint (b ∷ bs) = b ≢ 46

stop_point : (bs : List ℕ) → Stops bs → NoPoint bs
stop_point [] h = tt
stop_point (b ∷ bs) h = h.1

mark_no_point : (mark : ℕ) → (mark ≡ 101) ⊎ (mark ≡ 69) → mark ≢ 46
mark_no_point mark (inl e) p = omega (arith, e, p)
mark_no_point mark (inr e) p = omega (arith, e, p)

exponent_point : (x bs : List ℕ) → IsExponent x → Stops bs → NoPoint (x ++ bs)
exponent_point x bs (inl e) s = rw e (stop_point bs s)
exponent_point x bs (inr (mark, sign, ds, is, sg, h, e)) s = rw e (mark_no_point mark is)

no_fraction : (start end : ℕ) (bs : List ℕ) → NoPoint bs → fraction_at start end bs ≡ Ok bs
unfolding fraction_at
no_fraction start end [] h = refl
no_fraction start end (b ∷ bs) h = rw (ne_eqb b 46 h) refl

point_digits : (start end : ℕ) (bs : List ℕ) → fraction_at start end (46 ∷ bs) ≡ digits_at start end bs
unfolding fraction_at
point_digits start end bs = refl

fraction_read : (start end : ℕ) (f bs : List ℕ) → IsFraction f → NoDigit bs → NoPoint bs → fraction_at start end (f ++ bs) ≡ Ok bs
fraction_read start end f bs (inl e) n p = rw e (no_fraction start end bs p)
fraction_read start end f bs (inr (ds, h, e)) n p = rw e (point_digits start end (ds ++ bs) ∙ digits_read start end ds bs h n)

fraction_first : (f bs : List ℕ) → IsFraction f → NoDigit bs → NoDigit (f ++ bs)
fraction_first f bs (inl e) n = rw e n
fraction_first f bs (inr (ds, h, e)) n = rw e refl

minus_read : (m w bs : List ℕ) → IsMinus m → IsWhole w → after_minus (m ++ (w ++ bs)) ≡ w ++ bs
unfolding after_minus
minus_read m w bs (inl e) h = let p = whole_first w h in rw (e, p.2, ne_eqb p.0 45 (λ q. omega (arith, p.3, q))) refl
minus_read m w bs (inr e) h = rw e refl

-- ---- the text of a number is ASCII

digits_ascii : (ds : List ℕ) → list_all is_digit ds ≡ true → IsAscii ds
digits_ascii [] h = IsAscii-nil
digits_ascii (d ∷ ds) h = let p = and_parts (is_digit d) (list_all is_digit ds) h in IsAscii-cons d ds (omega (arith, (digit_low d p.0).1)) (digits_ascii ds p.1)

whole_ascii : (w : List ℕ) → IsWhole w → IsAscii w
whole_ascii [] h = absurd h
whole_ascii (d ∷ ds) (inl h) = rw (h.0, h.1) (IsAscii-cons 48 [] (omega arith) IsAscii-nil)
whole_ascii (d ∷ ds) (inr h) = digits_ascii (d ∷ ds) h.1.digits

fraction_ascii : (f : List ℕ) → IsFraction f → IsAscii f
fraction_ascii f (inl e) = rw e IsAscii-nil
fraction_ascii f (inr (ds, h, e)) = rw e (IsAscii-cons 46 ds (omega arith) (digits_ascii ds h.digits))

sign_ascii : (s : List ℕ) → IsSign s → IsAscii s
sign_ascii s (inl e) = rw e IsAscii-nil
sign_ascii s (inr (inl e)) = rw e (IsAscii-cons 43 [] (omega arith) IsAscii-nil)
sign_ascii s (inr (inr e)) = rw e (IsAscii-cons 45 [] (omega arith) IsAscii-nil)

mark_ascii : (mark : ℕ) → (mark ≡ 101) ⊎ (mark ≡ 69) → mark < 128
mark_ascii mark (inl e) = omega (arith, e)
mark_ascii mark (inr e) = omega (arith, e)

exponent_ascii : (x : List ℕ) → IsExponent x → IsAscii x
exponent_ascii x (inl e) = rw e IsAscii-nil
exponent_ascii x (inr (mark, sign, ds, is, sg, h, e)) = rw e (IsAscii-cons mark (sign ++ ds) (mark_ascii mark is) (IsAscii-append sign ds (sign_ascii sign sg) (digits_ascii ds h.digits)))

minus_ascii : (m : List ℕ) → IsMinus m → IsAscii m
minus_ascii m (inl e) = rw e IsAscii-nil
minus_ascii m (inr e) = rw e (IsAscii-cons 45 [] (omega arith) IsAscii-nil)

number_text : (t : List ℕ) → IsNumber t → is_utf8 t ≡ true
number_text t (m, w, f, x, hm, hw, hf, hx, e) =
    is_utf8-from_IsUtf8 t (IsUtf8-from_ascii t (rw e (IsAscii-append m (w ++ (f ++ x)) (minus_ascii m hm) (IsAscii-append w (f ++ x) (whole_ascii w hw) (IsAscii-append f x (fraction_ascii f hf) (exponent_ascii x hx))))))

pub taken : (t bs : List ℕ) → take (length (t ++ bs) - length bs) (t ++ bs) ≡ t
taken t bs =
    let n : length (t ++ bs) - length bs ≡ length t = omega (arith, length-append t bs) in
    rw n (take-append-le (length t) t bs (omega arith) ∙ take_all (length t) t (omega arith))

parts_assoc : (m w f x bs : List ℕ) → (m ++ (w ++ (f ++ x))) ++ bs ≡ m ++ (w ++ (f ++ (x ++ bs)))
parts_assoc m w f x bs = simp append_assoc

past_number : (start end : ℕ) (t bs : List ℕ) → IsNumber t → Stops bs → after_number start end (t ++ bs) ≡ Ok bs
unfolding after_number
past_number start end t bs (m, w, f, x, hm, hw, hf, hx, e) s =
    let shape : t ++ bs ≡ m ++ (w ++ (f ++ (x ++ bs))) = ap (λ (l : List ℕ). l ++ bs) e ∙ parts_assoc m w f x bs in
    rw (
      shape,
      minus_read m w (f ++ (x ++ bs)) hm hw,
      whole_read start end w (f ++ (x ++ bs)) hw (fraction_first f (x ++ bs) hf (exponent_first x bs hx s)),
      fraction_read start end f (x ++ bs) hf (exponent_first x bs hx s) (exponent_point x bs hx s),
    ) (exponent_read start end x bs hx s)

pub number_read : (start end : ℕ) (t bs : List ℕ) → IsNumber t → Stops bs → number_at start end (t ++ bs) ≡ Ok (t, bs)
unfolding number_at
number_read start end t bs h s = rw (past_number start end t bs h s, taken t bs, number_text t h) refl

-- the first byte of a number
pub number_first : (t : List ℕ) → IsNumber t → (b : ℕ) × (bs : List ℕ) × (t ≡ b ∷ bs) × (45 ≤ b) × (b ≤ 57)
number_first t (m, w, f, x, inl e, hw, hf, hx, is) =
    let p = whole_first w hw in
    (p.0, p.1 ++ (f ++ x), is ∙ ap (λ (l : List ℕ). l ++ (w ++ (f ++ x))) e ∙ ap (λ (l : List ℕ). l ++ (f ++ x)) p.2, omega (arith, p.3), p.4)
number_first t (m, w, f, x, inr e, hw, hf, hx, is) = (45, w ++ (f ++ x), is ∙ ap (λ (l : List ℕ). l ++ (w ++ (f ++ x))) e, omega arith, omega arith)
