-- What is decoded from digits and from symbols is of bytes.
use Rattle.std.proofs.Common.{◌≡◌, ℕ, zero, suc, ◌+◌, ◌-◌, ◌*◌, ◌/◌, ◌%◌, ◌<◌, Bool, true, false, ◌⊎◌, List, [], ◌∷◌, length, take, drop, reverse, get_or, slice_index, refl, ◌∙◌, inl, inr, arith, Option, Some, None, Result, Ok, Err, eqb, ltb}
use Rattle.std.specs.Prelude.{IfOk, slice_set, if◌then◌else◌}
use Rattle.std.proofs.lemmas.Bool.{cases_Bool, cases_eq, cases_lt, eqb-true, eqb-false}
use Rattle.std.proofs.lemmas.List.{get_or_past, get_or-reverse, get_or-set_same, get_or-set_other, set_past, length-reverse}
use Rattle.bson_value.specs.WellFormed.{AreBytes, IsRun}
use Rattle.spelled_bytes.proofs.Runs.{Bytes, by_index, join}
use Rattle.hex.specs.Hex.{decode_pairs, decode_sized}
use Rattle.hex.specs.declared.error.FromHexError.{FromHexError}
use Rattle.hex.specs.declared.error.FromHexError.TheVariants.{OddLength, InvalidStringLength}
use Rattle.hex.proofs.HexLemmas.{decode_pairs-ok}
use Rattle.base64.specs.Decode.{decode_group, or_else, symbol_error, group_error, group_bytes, groups_error, groups_bytes, groups_before_last, lone_error, push_leftover, scan_steps, no_leftover, scan_bytes, scan_last, suffix_bytes, decode_error, decoded_bytes, decode_outcome}
use Rattle.base64.specs.Engines.{standard}
use Rattle.base64.specs.GeneralPurpose.{decode_of}
use Rattle.base64.specs.declared.decode.DecodeError.{DecodeError}
use Rattle.base64.specs.declared.decode.DecodeError.TheVariants.{InvalidByte}
use Rattle.base64.specs.declared.engine.DecodePaddingMode.{DecodePaddingMode}
use Rattle.base64.proofs.Tables.{IsDecodeTable_from, are_tables_inverse}

-- ---- runs of bytes

front : (n : ℕ) (a : List ℕ) → Bytes a → Bytes (take n a)
front zero a h = tt
front (suc n) [] h = tt
front (suc n) (x ∷ a) h = (h.0, front n a h.1)

pub reversed : (n : ℕ) (b : List ℕ) → IsRun n b → IsRun n (reverse b)
reversed n b h = record { count_is = length-reverse b ∙ h.count_is; are_bytes = at }
  where
    at : (i : ℕ) → get_or (reverse b) i 0 < 256
    at i =
        elim (cases_lt i (length b)) [
          | inl lt ↦ let all = h.are_bytes in rw (get_or-reverse b i 0 lt) (all (length b - 1 - i))
          | inr ge ↦ rw (get_or_past (reverse b) i 0 (omega (arith, length-reverse b))) (omega arith)
        ]

-- ---- digits

sized_by : (t : List ℕ) (n : ℕ) (p q : Bool) → eqb (length t / 2) n ≡ q → IfOk (if p then Err OddLength else (if q then decode_pairs 0 t else Err InvalidStringLength)) (IsRun n)
sized_by t n true q e = tt
sized_by t n false false e = tt
sized_by t n false true e = by (decode_pairs 0 t) refl
  where
    by : (r : Result (List ℕ) FromHexError) → decode_pairs 0 t ≡ r → IfOk r (IsRun n)
    by (Ok bytes) f = (let k = decode_pairs-ok 0 t bytes f in record { count_is = omega (arith, k.1, eqb-true (length t / 2) n e); are_bytes = k.2 })
    by (Err x) f = tt

pub sized_run : (t : List ℕ) (n : ℕ) → IfOk (decode_sized t n) (IsRun n)
sized_run t n = sized_by t n (eqb (length t % 2) 1) (eqb (length t / 2) n) refl

-- ---- symbols

or_none : (a b : Option DecodeError) → or_else a b ≡ None → (a ≡ None) × (b ≡ None)
or_none None b h = (refl, h)
or_none (Some e) b h = absurd cc

abbrev type_of : {A : Type 0} → A → Type 0
type_of {A} a = A

-- what the scan of the last symbols keeps
abbrev Leftover : Type 0
Leftover = type_of no_leftover

-- a table in which each byte is no symbol, or has the value of one
module _ (dec : List ℕ) (table : (x : ℕ) → (slice_index dec x ≡ 255) ⊎ (slice_index dec x < 64)) where
  symbol_value : (x : ℕ) → eqb (slice_index dec x) 255 ≡ false → slice_index dec x < 64
  symbol_value x h = elim (table x) [ inl e ↦ absurd (eqb-false (slice_index dec x) 255 h e) | inr l ↦ l ]

  symbol_small : (s : List ℕ) (i : ℕ) → symbol_error dec s i ≡ None → slice_index dec (slice_index s i) < 64
  symbol_small s i h = by (eqb (slice_index dec (slice_index s i)) 255) refl h
    where
      by : (b : Bool) → eqb (slice_index dec (slice_index s i)) 255 ≡ b → (if b then Some (InvalidByte i (slice_index s i)) else None) ≡ None → slice_index dec (slice_index s i) < 64
      by true e g = absurd cc
      by false e g = symbol_value (slice_index s i) e

  values_bytes : (a b c d : ℕ) → a < 64 → b < 64 → c < 64 → d < 64 → Bytes (decode_group a b c d)
  values_bytes a b c d h g k l = (omega arith, (omega arith, (omega arith, tt)))

  group_small : (s : List ℕ) (i : ℕ) → group_error dec s i ≡ None → Bytes (group_bytes dec s i)
  group_small s i h =
      let p = or_none (symbol_error dec s i) _ h in
      let q = or_none (symbol_error dec s (i + 1)) _ p.1 in
      let r = or_none (symbol_error dec s (i + 2)) (symbol_error dec s (i + 3)) q.1 in
      values_bytes _ _ _ _ (symbol_small s i p.0) (symbol_small s (i + 1) q.0) (symbol_small s (i + 2) r.0) (symbol_small s (i + 3) r.1)

  groups_small : (s : List ℕ) (q : ℕ) → groups_error dec s q ≡ None → Bytes (groups_bytes dec s q)
  unfolding groups_error groups_bytes
  groups_small s zero h = tt
  groups_small s (suc q) h = let p = or_none (groups_error dec s q) (group_error dec s (4 * q)) h in join (groups_bytes dec s q) (group_bytes dec s (4 * q)) (groups_small s q p.0) (group_small s (4 * q) p.1)

  -- the values of the last symbols
  abbrev AreSmall : Leftover → Type 0
  AreSmall st = (k : ℕ) → slice_index st.morsels k < 64

  set_small : (ms : List ℕ) (i v k : ℕ) → ((j : ℕ) → slice_index ms j < 64) → v < 64 → slice_index (slice_set ms i v) k < 64
  set_small ms i v k all small = elim (cases_eq k i) [
    | inl same ↦ elim (cases_lt i (length ms)) [
      | inl fits ↦ rw (same, get_or-set_same ms i v 0 fits) small
      | inr past ↦ rw (set_past ms i v past) (all k)
    ]
    | inr other ↦ rw (get_or-set_other ms i k v 0 other) (all k)
  ]

  push_small : (pad at i b : ℕ) (st : Leftover) → AreSmall st → IfOk (push_leftover dec pad at st i b) AreSmall
  push_small pad at i b st h = elim (cases_Bool (eqb b pad)) [
    | inl p ↦ elim (cases_Bool (ltb i 2)) [ inl l ↦ rw (p, l) tt | inr l ↦ rw (p, l) h ]
    | inr p ↦ elim (cases_Bool (ltb 0 st.padding_count)) [
      | inl a ↦ rw (p, a) tt
      | inr a ↦ elim (cases_Bool (eqb (slice_index dec b) 255)) [
        | inl v ↦ rw (p, a, v) tt
        | inr v ↦ rw (p, a, v) (λ k. set_small st.morsels st.morsels_count (slice_index dec b) k h (symbol_value b v))
      ]
    ]
  ]

  scan_small : (pad at i : ℕ) (bs : List ℕ) (r : Result Leftover DecodeError) → IfOk r AreSmall → IfOk (scan_steps dec pad at r i bs) AreSmall
  unfolding scan_steps
  scan_small pad at i bs (Err e) h = tt
  scan_small pad at i [] (Ok st) h = h
  scan_small pad at i (b ∷ bs) (Ok st) h = scan_small pad at (i + 1) bs (push_leftover dec pad at st i b) (push_small pad at i b st h)

  none_small : AreSmall no_leftover
  none_small zero = omega arith
  none_small (suc zero) = omega arith
  none_small (suc (suc zero)) = omega arith
  none_small (suc (suc (suc zero))) = omega arith
  none_small (suc (suc (suc (suc k)))) = omega arith

  scanned_bytes : (r : Result Leftover DecodeError) → IfOk r AreSmall → Bytes (scan_bytes r)
  scanned_bytes (Err e) h = tt
  scanned_bytes (Ok st) h = front (st.morsels_count * 6 / 8) _ (values_bytes (slice_index st.morsels 0) (slice_index st.morsels 1) (slice_index st.morsels 2) (slice_index st.morsels 3) (h 0) (h 1) (h 2) (h 3))

  all_bytes : (pad : ℕ) (s : List ℕ) → groups_error dec s (groups_before_last (length s)) ≡ None → Bytes (decoded_bytes dec pad s)
  all_bytes pad s h =
      let q = groups_before_last (length s) in
      join (groups_bytes dec s q) (suffix_bytes dec pad (4 * q) s) (groups_small s q h)
      (scanned_bytes (scan_last dec pad (4 * q) s) (scan_small pad (4 * q) 0 (drop (4 * q) s) (Ok no_leftover) none_small))

  outcome_bytes : (pad : ℕ) (allow : Bool) (mode : DecodePaddingMode) (s : List ℕ) → IfOk (decode_outcome (decode_error dec pad allow mode s) (decoded_bytes dec pad s)) AreBytes
  outcome_bytes pad allow mode s = by (decode_error dec pad allow mode s) refl
    where
      by : (o : Option DecodeError) → decode_error dec pad allow mode s ≡ o → IfOk (decode_outcome o (decoded_bytes dec pad s)) AreBytes
      by None e = by_index (decoded_bytes dec pad s) (all_bytes pad s (or_none (groups_error dec s (groups_before_last (length s))) _ (or_none (lone_error dec pad s) _ e).1).0)
      by (Some x) e = tt

standard_table : (x : ℕ) → (slice_index standard.decode_table x ≡ 255) ⊎ (slice_index standard.decode_table x < 64)
standard_table x =
    let count : length standard.decode_table ≡ 256 = refl in
    elim (cases_lt x 256) [
      | inl l ↦ IsDecodeTable_from standard.encode_table standard.decode_table (are_tables_inverse standard.encode_table standard.decode_table standard.padding.value standard.tables) x l
      | inr g ↦ inr (rw (get_or_past standard.decode_table x 0 (omega (arith, count))) (omega arith))
    ]

pub symbols_bytes : (s : List ℕ) → IfOk (decode_of standard s) AreBytes
symbols_bytes s = outcome_bytes standard.decode_table standard_table standard.padding.value standard.config.decode_allow_trailing_bits standard.config.decode_padding_mode s
