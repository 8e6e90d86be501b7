-- Setting bits.
use Rattle.std.proofs.Common.{◌≡◌, ℕ, ◌^◌, ◌<◌, ◌≤◌, ◌⊎◌, inl, inr, List, length, length-set, slice_index, slice_set, bit_and, bit_or, max, sym, ap, subst, ◌∙◌, arith}
use Rattle.std.specs.Int.{bit_at}
use Rattle.std.proofs.lemmas.Nat.Bits.{bit_at_or, bit_at_and, bit_at-lt, bit_at-pow_same, bit_at-pow_other, same_from_bits}
use Rattle.std.proofs.lemmas.List.{get_or-set_same, get_or-set_other}
use Rattle.std.proofs.lemmas.Bool.{cases_eq}
use Rattle.bson_check.specs.Slots.{word_of, mask_of, first_bit, second_bit, third_bit, HasBitsAt, HasBits}

-- a mask has its three bits, and no others
in_mask : (slot i : ℕ) → bit_at (mask_of slot) i ≡ max (max (bit_at (2 ^ first_bit slot) i) (bit_at (2 ^ second_bit slot) i)) (bit_at (2 ^ third_bit slot) i)
in_mask slot i = bit_at_or (bit_or (2 ^ first_bit slot) (2 ^ second_bit slot)) (2 ^ third_bit slot) i ∙ ap (λ (x : ℕ). max x (bit_at (2 ^ third_bit slot) i)) (bit_at_or (2 ^ first_bit slot) (2 ^ second_bit slot) i)

one_within : (w k i : ℕ) → bit_at w k ≡ 1 → bit_at (2 ^ k) i ≤ bit_at w i
one_within w k i h = go (cases_eq i k) where
  go : (i ≡ k) ⊎ (i ≡ k → ⊥) → bit_at (2 ^ k) i ≤ bit_at w i
  go (inl e) = omega (arith, ap (λ (x : ℕ). bit_at w x) e ∙ h, bit_at-lt (2 ^ k) i)
  go (inr n) = omega (arith, bit_at-pow_other k i n)

mask_within : (w slot : ℕ) → bit_at w (first_bit slot) ≡ 1 → bit_at w (second_bit slot) ≡ 1 → bit_at w (third_bit slot) ≡ 1 → bit_and w (mask_of slot) ≡ mask_of slot
mask_within w slot a b c = same_from_bits _ _ (λ i. omega (arith, bit_at_and w (mask_of slot) i, in_mask slot i, one_within w (first_bit slot) i a, one_within w (second_bit slot) i b, one_within w (third_bit slot) i c))

or_keeps : (a b m : ℕ) → bit_at a m ≡ 1 → bit_at (bit_or a b) m ≡ 1
or_keeps a b m h = bit_at_or a b m ∙ omega (arith, h, bit_at-lt b m)

or_brings : (a b m : ℕ) → bit_at b m ≡ 1 → bit_at (bit_or a b) m ≡ 1
or_brings a b m h = bit_at_or a b m ∙ omega (arith, h, bit_at-lt a m)

module _ (words : List ℕ) (i slot mask : ℕ) (within : i < length words) (is : mask ≡ mask_of slot) where
  -- with the mask in the word i
  abbrev pub with_mask : List ℕ
  with_mask = slice_set words i (bit_or (slice_index words i) mask)

  as_long : length words ≡ length with_mask
  as_long = omega (arith, length-set {A = ℕ})

  is_set : (m : ℕ) → bit_at (mask_of slot) m ≡ 1 → bit_at (slice_index with_mask i) m ≡ 1
  is_set m h = ap (λ (w : ℕ). bit_at w m) (get_or-set_same words i _ 0 within) ∙ or_brings (slice_index words i) mask m (ap (λ (w : ℕ). bit_at w m) is ∙ h)

  has_all : HasBitsAt i with_mask slot
  has_all = (
    is_set (first_bit slot) (omega (arith, in_mask slot (first_bit slot), bit_at-pow_same (first_bit slot), bit_at-lt (mask_of slot) (first_bit slot))),
    is_set (second_bit slot) (omega (arith, in_mask slot (second_bit slot), bit_at-pow_same (second_bit slot), bit_at-lt (mask_of slot) (second_bit slot))),
    is_set (third_bit slot) (omega (arith, in_mask slot (third_bit slot), bit_at-pow_same (third_bit slot), bit_at-lt (mask_of slot) (third_bit slot))),
  )

  one_still : (j m : ℕ) → bit_at (slice_index words j) m ≡ 1 → bit_at (slice_index with_mask j) m ≡ 1
  one_still j m h = go (cases_eq j i) where
    go : (j ≡ i) ⊎ (j ≡ i → ⊥) → bit_at (slice_index with_mask j) m ≡ 1
    go (inl e) = ap (λ (x : ℕ). bit_at (slice_index with_mask x) m) e ∙ ap (λ (w : ℕ). bit_at w m) (get_or-set_same words i _ 0 within) ∙ or_keeps (slice_index words i) mask m (sym (ap (λ (x : ℕ). bit_at (slice_index words x) m) e) ∙ h)
    go (inr n) = ap (λ (w : ℕ). bit_at w m) (get_or-set_other words i j _ 0 n) ∙ h

  pub itself_set : i ≡ word_of (length words) slot → HasBits with_mask slot
  itself_set at = subst (λ (k : ℕ). HasBitsAt k with_mask slot) (at ∙ ap (λ (n : ℕ). word_of n slot) as_long) has_all

  pub others_still : (s : ℕ) → HasBits words s → HasBits with_mask s
  others_still s h = subst (λ (n : ℕ). HasBitsAt (word_of n s) with_mask s) as_long (one_still (word_of (length words) s) (first_bit s) h.0, one_still (word_of (length words) s) (second_bit s) h.1, one_still (word_of (length words) s) (third_bit s) h.2)

-- a word with the three bits has the whole mask
pub mask_is_set : (words : List ℕ) (i slot mask : ℕ) → i ≡ word_of (length words) slot → mask ≡ mask_of slot → HasBits words slot → bit_and (slice_index words i) mask ≡ mask
mask_is_set words i slot mask at is h =
    let bits : HasBitsAt i words slot = subst (λ (k : ℕ). HasBitsAt k words slot) (sym at) h in
    subst (λ (m : ℕ). bit_and (slice_index words i) m ≡ m) (sym is) (mask_within (slice_index words i) slot bits.0 bits.1 bits.2)
