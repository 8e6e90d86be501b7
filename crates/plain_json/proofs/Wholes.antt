-- Whole numbers are read.
use Rattle.std.proofs.Common.{◌≡◌, ℕ, zero, suc, ◌<◌, ◌≤◌, true, false, eqb, ◌||◌, List, [], ◌∷◌, ◌++◌, Ok, refl, sym, ap, ◌∙◌, subst, inl, inr, arith}
use Rattle.std.specs.Prelude.{ℤ, pos, neg_ℤ, ◌-ℤ◌}
use Rattle.std.specs.List.{list_all}
use Rattle.std.specs.Str.Parse.{digits_value}
use Rattle.std.proofs.lemmas.Bool.{and_parts, or_parts, ne_eqb, lt-ltb}
use Rattle.std.proofs.lemmas.List.{append-nil}
use Rattle.bson_value.specs.declared.value.Value.TheVariants as values
use Rattle.json_tree.specs.declared.tree.Tree.TheVariants as trees
use Rattle.json_tree.specs.Numbers.{is_digit, IsWhole, IsNumber}
use Rattle.json_text.specs.Reading.{◌>>=◌, place, number_at, value_with, value_at}
use Rattle.json_text.proofs.FoundStrings.{differs}
use Rattle.json_text.proofs.Numerals.{Stops, number_read, number_first}
use Rattle.extjson.specs.Numbers.{is_natural, is_whole, whole_number, is_within}
use Rattle.extjson.specs.Values.{plain_value, whole_value, value_of}
use Rattle.extjson.proofs.TreeParts.{value_number}
use Rattle.extjson.proofs.Wholes.{range_some, within_fits}
use Rattle.std.specs.Int.{w32}
use Rattle.std.proofs.lemmas.Int.{to_z-of_z, to_z_pos}
use Rattle.std.proofs.Math.IntN.{+ℤ_idl}
use mir.Val.{to_z, of_z}
use Rattle.plain_json.specs.Numbers.{goes_on, starts_with_digit, IsNaturalRead, IsIntRead}
use Rattle.plain_json.specs.Reading.{IsValueRead}
use Rattle.plain_json.proofs.Digits.{digit_bounds, ascii_digits}

-- ---- the texts

whole_first : (d : ℕ) (ds : List ℕ) → IsWhole (d ∷ ds) → (48 ≤ d) × (d ≤ 57)
whole_first d ds (inl h) = (omega (arith, h.0), omega (arith, h.0))
whole_first d ds (inr h) = digit_bounds d (and_parts (is_digit d) (list_all is_digit ds) h.1.digits).0

whole_natural : (ds : List ℕ) → IsWhole ds → is_natural ds ≡ true
unfolding is_natural
whole_natural [] h = absurd h
whole_natural (d ∷ ds) (inl h) = rw (h.0, h.1) refl
whole_natural (d ∷ ds) (inr h) = rw (ne_eqb d 48 h.0) (ascii_digits (d ∷ ds) h.1.digits)

whole_is : (ds : List ℕ) → IsWhole ds → is_whole ds ≡ true
unfolding is_whole
whole_is [] h = absurd h
whole_is (d ∷ ds) h = let p = whole_first d ds h in rw (ne_eqb d 45 (λ e. omega (arith, p.0, e))) (whole_natural (d ∷ ds) h)

minus_is : (ds : List ℕ) → IsWhole ds → is_whole (45 ∷ ds) ≡ true
unfolding is_whole
minus_is ds h = whole_natural ds h

whole_written : (ds : List ℕ) → IsWhole ds → whole_number ds ≡ pos (digits_value 10 ds)
unfolding whole_number
whole_written [] h = absurd h
whole_written (d ∷ ds) h = let p = whole_first d ds h in rw (ne_eqb d 45 (λ e. omega (arith, p.0, e)), ne_eqb d 43 (λ e. omega (arith, p.0, e))) refl

minus_written : (ds : List ℕ) → whole_number (45 ∷ ds) ≡ neg_ℤ (pos (digits_value 10 ds))
unfolding whole_number
minus_written ds = refl

-- ---- the values

abbrev Small : ℤ → Type 0
Small z = is_within 2147483648 z ≡ true

small_pos : (n : ℕ) → n < 1000000000 → Small (pos n)
small_pos n lt = lt-ltb n 2147483648 (omega arith)

small_neg : (n : ℕ) → n < 1000000000 → Small (neg_ℤ (pos n))
small_neg zero lt = refl
small_neg (suc n) lt = lt-ltb n 2147483648 (omega arith)

int_value : (t : List ℕ) (z : ℤ) → is_whole t ≡ true → whole_number t ≡ z → Small z → value_of (trees.Number t) ≡ Ok (values.Int z)
unfolding plain_value whole_value
int_value t z w e s = value_number t ∙ rw (w, e, range_some 2147483648 z s) refl

-- ---- reading

stops_if : (rest : List ℕ) → starts_with_digit rest ≡ false → goes_on rest ≡ false → Stops rest
stops_if [] d g = tt
stops_if (b ∷ bs) d g =
    let p = or_parts (eqb b 46 || eqb b 101) (eqb b 69) g in
    let q = or_parts (eqb b 46) (eqb b 101) p.0 in
    (d, differs b 46 q.0, differs b 101 q.1, differs b 69 p.1)

first_value : (levels end b : ℕ) (bs : List ℕ) → 45 ≤ b → b ≤ 57 → value_at levels end (b ∷ bs) ≡ (number_at (place end (b ∷ bs)) end (b ∷ bs) >>= λ x. Ok (trees.Number x.0, x.1))
unfolding value_with
first_value levels end b bs low high = rw (
  ne_eqb b 91 (λ e. omega (arith, e)),
  ne_eqb b 123 (λ e. omega (arith, e)),
  ne_eqb b 34 (λ e. omega (arith, low, high, e)),
  ne_eqb b 110 (λ e. omega (arith, e)),
  ne_eqb b 116 (λ e. omega (arith, e)),
  ne_eqb b 102 (λ e. omega (arith, e)),
) refl

tree_read : (levels end : ℕ) (t rest : List ℕ) → IsNumber t → Stops rest → value_at levels end (t ++ rest) ≡ Ok (trees.Number t, rest)
tree_read levels end t rest h s =
    let p = number_first t h in
    let first : t ++ rest ≡ p.0 ∷ (p.1 ++ rest) = ap (λ (l : List ℕ). l ++ rest) p.2 in
    let read : number_at (place end (p.0 ∷ (p.1 ++ rest))) end (p.0 ∷ (p.1 ++ rest)) ≡ Ok (t, rest) = subst (λ (l : List ℕ). number_at (place end l) end l ≡ Ok (t, rest)) first (number_read (place end (t ++ rest)) end t rest h s) in
    ap (value_at levels end) first ∙ first_value levels end p.0 (p.1 ++ rest) p.3 p.4 ∙ rw read refl

number_is : (ds : List ℕ) → IsWhole ds → IsNumber ds
number_is ds h = ([], ds, [], [], inl refl, h, inl refl, inl refl, sym (append-nil ds))

minus_number : (ds : List ℕ) → IsWhole ds → IsNumber (45 ∷ ds)
minus_number ds h = (45 ∷ [], ds, [], [], inr refl, h, inl refl, inl refl, ap (λ (l : List ℕ). 45 ∷ l) (sym (append-nil ds)))

-- a number by itself is a value
pub int_read : (levels : ℕ) (bytes : List ℕ) (z : ℤ) (rest : List ℕ) → IsIntRead bytes z rest → IsValueRead levels bytes (values.Int z) rest
unfolding IsIntRead IsNaturalRead IsValueRead
int_read levels bytes z rest (n, lt, inl ((ds, is, h, v, d, g), e)) =
    let s = stops_if rest d g in (
      trees.Number ds,
      (λ end. ap (value_at levels end) is ∙ tree_read levels end ds rest (number_is ds h) s),
      int_value ds z (whole_is ds h) (whole_written ds h ∙ ap pos v ∙ sym e) (subst Small (sym e) (small_pos n lt)),
    )
int_read levels bytes z rest (n, lt, inr (tail, minus, (ds, is, h, v, d, g), e)) =
    let s = stops_if rest d g in
    let whole : bytes ≡ (45 ∷ ds) ++ rest = minus ∙ ap (λ (l : List ℕ). 45 ∷ l) is in (
      trees.Number (45 ∷ ds),
      (λ end. ap (value_at levels end) whole ∙ tree_read levels end (45 ∷ ds) rest (minus_number ds h) s),
      int_value (45 ∷ ds) z (minus_is ds h) (minus_written ds ∙ ap (λ (m : ℕ). neg_ℤ (pos m)) v ∙ sym e) (subst Small (sym e) (small_neg n lt)),
    )

-- the number keeps its value as bits
pub int_bits : (bytes : List ℕ) (z : ℤ) (rest : List ℕ) → IsIntRead bytes z rest → to_z w32 (of_z w32 z) ≡ z
unfolding IsIntRead
int_bits bytes z rest (n, lt, inl (h, e)) = to_z-of_z w32 z (within_fits w32 z (subst Small (sym e) (small_pos n lt)))
int_bits bytes z rest (n, lt, inr (tail, minus, h, e)) = to_z-of_z w32 z (within_fits w32 z (subst Small (sym e) (small_neg n lt)))

pub bits_read : (levels : ℕ) (bytes : List ℕ) (z : ℤ) (rest : List ℕ) → IsIntRead bytes z rest → IsValueRead levels bytes (values.Int (to_z w32 (of_z w32 z))) rest
bits_read levels bytes z rest h = rw (int_bits bytes z rest h) (int_read levels bytes z rest h)

pub plus_bits : (n : ℕ) → n < 1000000000 → to_z w32 n ≡ pos n
plus_bits n lt = to_z_pos w32 n (omega arith)

below : (n : ℕ) → pos 0 -ℤ pos n ≡ neg_ℤ (pos n)
below n = +ℤ_idl (neg_ℤ (pos n))

pub minus_bits : (n : ℕ) → n < 1000000000 → to_z w32 (of_z w32 (pos 0 -ℤ to_z w32 n)) ≡ neg_ℤ (pos n)
minus_bits n lt =
    let e : pos 0 -ℤ to_z w32 n ≡ neg_ℤ (pos n) = ap (λ (z : ℤ). pos 0 -ℤ z) (plus_bits n lt) ∙ below n in
    ap (λ (z : ℤ). to_z w32 (of_z w32 z)) e ∙ to_z-of_z w32 (neg_ℤ (pos n)) (within_fits w32 (neg_ℤ (pos n)) (small_neg n lt))

pub plus_read : (bytes : List ℕ) (n : ℕ) (rest : List ℕ) → n < 1000000000 → IsNaturalRead bytes n rest → IsIntRead bytes (pos n) rest
unfolding IsIntRead
plus_read bytes n rest lt h = (n, lt, inl (h, refl))

pub minus_read : (bytes tail : List ℕ) (n : ℕ) (rest : List ℕ) → n < 1000000000 → bytes ≡ 45 ∷ tail → IsNaturalRead tail n rest → IsIntRead bytes (neg_ℤ (pos n)) rest
unfolding IsIntRead
minus_read bytes tail n rest lt e h = (n, lt, inr (tail, e, h, refl))
