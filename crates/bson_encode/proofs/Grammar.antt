-- The spelling of a document is in the grammar.
use Rattle.std.proofs.Common.{◌≡◌, ℕ, zero, suc, ◌+◌, ◌<◌, ◌≤◌, ◌^◌, ◌%◌, true, List, [], ◌∷◌, ◌++◌, length, map, refl, sym, ap, subst, ◌∙◌, append_assoc, arith}
use Rattle.std.specs.Prelude.{ℤ, FitsSigned, Contains, Result, Ok, Err, IfOk, OnOk}
use Rattle.std.specs.Int.{w32, w64, to_le_bytes, cast_unsigned, cast_signed}
use Rattle.std.specs.List.{AllByRecursion}
use Rattle.std.specs.Str.{is_utf8}
use Rattle.std.specs.Fmt.{decimal}
use Rattle.std.specs.Str.Parse.{AllDigits}
use Rattle.std.proofs.lemmas.Fmt.{decimal_is_IsNumeral}
use Rattle.std.proofs.lemmas.List.{length-append, length-map}
use Rattle.std.proofs.lemmas.Nat.{from_le_bytes-to_le_bytes_4, from_le_bytes-to_le_bytes_8}
use Rattle.std.proofs.Math.Facts.{to_z-of_z, Fits-of_z}
use Rattle.bson_value.specs.Levels.{largest, levels_in, levels_of}
use Rattle.bson_value.specs.Spelling.{Typed, count_bytes, framed, numbered, counted, text_bytes, spelling_step, spelling, elements_of, items_of, document_text, tag_of, spelled}
use Rattle.bson_value.specs.declared.value.Value.{Value, Value-F, out-Value, roll-out-Value, fold-Value, fold-roll-Value, map-Value}
use Rattle.bson_check.specs.Spells.{IsCount, IsSigned, IsName, IsString, IsFrame, type_byte, AreBytesOf, AreFields, AreItems, IsDocument, IsArray, Spells}
use Rattle.bson_check.proofs.Height.{levels_at, levels_out, object_levels, code_levels, array_levels}
use Rattle.bson_value.specs.WellFormed.{IsWellFormedLevel, IsWellFormed, AreWellFormedItems, AreWellFormedFields, IsWellFormedDocument}
use Rattle.bson_encode.specs.Laws.{SpellingSpells}
use Rattle.bson_value.proofs.WellFormed.{IsHeldWellFormed, held_formed, here_formed}

-- ---- parts

count_is : (n : ℕ) → n < 2 ^ 32 → IsCount (count_bytes n) n
count_is n lt = record { four = refl; value = from_le_bytes-to_le_bytes_4 (n % (2 ^ 32)) (omega arith) ∙ omega arith }

word_is : (n : ℕ) → n < 2 ^ 32 → IsCount (to_le_bytes w32 n) n
word_is n lt = record { four = refl; value = from_le_bytes-to_le_bytes_4 n lt }

int_is : (z : ℤ) → FitsSigned w32 z → IsSigned w32 (to_le_bytes w32 (cast_unsigned w32 z)) z
int_is z fits = record {
  count = refl;
  value = ap (λ (n : ℕ). cast_signed w32 n) (from_le_bytes-to_le_bytes_4 (cast_unsigned w32 z) (omega (arith, Fits-of_z {w = w32} fits))) ∙ to_z-of_z {w = w32} fits;
}

long_is : (z : ℤ) → FitsSigned w64 z → IsSigned w64 (to_le_bytes w64 (cast_unsigned w64 z)) z
long_is z fits = record {
  count = refl;
  value = ap (λ (n : ℕ). cast_signed w64 n) (from_le_bytes-to_le_bytes_8 (cast_unsigned w64 z) (omega (arith, Fits-of_z {w = w64} fits))) ∙ to_z-of_z {w = w64} fits;
}

pub framed_len : (body : List ℕ) → length (framed body) ≡ length body + 5
framed_len body = omega (arith, length-append body (0 ∷ []))

text_len : (t : List ℕ) → length (text_bytes t) ≡ length t + 5
text_len t = omega (arith, length-append t (0 ∷ []))

pub frame_is : (body : List ℕ) → length (framed body) < 2 ^ 31 → IsFrame (framed body) body
frame_is body small =
    let len = framed_len body in
    (count_bytes (length body + 5), subst (λ (n : ℕ). IsCount (count_bytes (length body + 5)) n) (sym len) (count_is (length body + 5) (omega (arith, len))), refl)

string_is : (t : List ℕ) → is_utf8 t ≡ true → length (text_bytes t) < 2 ^ 31 → IsString (text_bytes t) t
string_is t utf8 small = (count_bytes (length t + 1), count_is (length t + 1) (omega (arith, text_len t)), utf8, refl)

-- ---- names of indexes

pub no_zero : (ds : List ℕ) → AllDigits 10 ds → Contains ds 0 → ⊥
no_zero [] h (k, lt, is) = omega (arith, lt)
no_zero (zero ∷ ds) h (k, lt, is) = omega (arith, h.0)
no_zero (suc c ∷ ds) h (zero, lt, is) = omega (arith, is)
no_zero (suc c ∷ ds) h (suc k, lt, is) = no_zero ds h.1 (k, omega (arith, lt), is)

pub index_no_zero : (k : ℕ) → k < 2 ^ 64 → Contains (decimal k) 0 → ⊥
index_no_zero k lt = no_zero (decimal k) (decimal_is_IsNumeral k lt).0.1

-- ---- one level of a value

pub spelling_out : (v : Value) → spelling v ≡ spelling_step (map-Value Value Typed spelling (out-Value v))
spelling_out v = ap (fold-Value Typed spelling_step) (sym (roll-out-Value v)) ∙ fold-roll-Value Typed spelling_step (out-Value v)

tag_at : (x : Value-F Value) → type_byte x ≡ (spelling_step (map-Value Value Typed spelling x)).0
tag_at (Value-F.Object fs) = refl
tag_at _ = refl

pub tag_is : (v : Value) → type_byte (out-Value v) ≡ tag_of v
tag_is v = tag_at (out-Value v) ∙ sym (ap (λ (t : Typed). t.0) (spelling_out v))

module _ (D : List ℕ → List (List ℕ × Value) → Type 0) (A : List ℕ → List Value → Type 0) (n : ℕ)
    (documents : (fs : List (List ℕ × Value)) → IsWellFormedDocument fs → levels_of fs ≤ n → length (document_text fs) < 2 ^ 31 → D (document_text fs) fs)
    (arrays : (vs : List Value) → AreWellFormedItems vs → array_levels vs ≤ n → length (framed (items_of vs)) < 2 ^ 31 → A (framed (items_of vs)) vs) where
  one_spelled : (x : Value-F Value) → IsWellFormedLevel x → IsHeldWellFormed x → levels_at x ≤ n → length (spelling_step (map-Value Value Typed spelling x)).1 < 2 ^ 31 → AreBytesOf D A (spelling_step (map-Value Value Typed spelling x)).1 x
  one_spelled (Value-F.Double d) k h le small = (k.count_is, refl)
  one_spelled (Value-F.Str t) k h le small = string_is t k small
  one_spelled (Value-F.Object fs) k h le small = documents fs (k, h) (omega (arith, le, object_levels fs)) small
  one_spelled (Value-F.Array vs) k h le small = arrays vs h le small
  one_spelled (Value-F.Binary s d) k h le small = (count_bytes (length d), count_is (length d) (omega (arith, small)), refl)
  one_spelled Value-F.Undefined k h le small = refl
  one_spelled (Value-F.Oid d) k h le small = (k.count_is, refl)
  one_spelled (Value-F.Bool b) k h le small = refl
  one_spelled (Value-F.Date z) k h le small = long_is z k
  one_spelled Value-F.Null k h le small = refl
  one_spelled (Value-F.Regex p o) k h le small = (k.0, k.1, append_assoc (p ++ 0 ∷ []) o (0 ∷ []))
  one_spelled (Value-F.DbPointer t d) k h le small = (text_bytes t, string_is t k.0 (omega (arith, small, length-append (text_bytes t) d)), k.1.count_is, refl)
  one_spelled (Value-F.Code t) k h le small = string_is t k small
  one_spelled (Value-F.Symbol t) k h le small = string_is t k small
  one_spelled (Value-F.ScopedCode t fs) k h le small =
      let both = text_bytes t ++ document_text fs in
      let inner : length both ≡ length (text_bytes t) + length (document_text fs) = length-append (text_bytes t) (document_text fs) in
      let len : length (counted both) ≡ length both + 4 = omega (arith, length-append (count_bytes (length both + 4)) both) in (
        count_bytes (length both + 4),
        text_bytes t,
        document_text fs,
        subst (λ (m : ℕ). IsCount (count_bytes (length both + 4)) m) (sym len) (count_is (length both + 4) (omega (arith, len, small))),
        string_is t k.0 (omega (arith, small, len, inner)),
        documents fs (k.1, h) (omega (arith, le, code_levels t fs)) (omega (arith, small, len, inner)),
        refl,
      )
  one_spelled (Value-F.Int z) k h le small = int_is z k
  one_spelled (Value-F.Stamp s) k h le small = (to_le_bytes w32 s.inc, to_le_bytes w32 s.secs, word_is s.inc k.1, word_is s.secs k.0, refl)
  one_spelled (Value-F.Long z) k h le small = long_is z k
  one_spelled (Value-F.Decimal d) k h le small = (k.count_is, refl)
  one_spelled Value-F.MinKey k h le small = refl
  one_spelled Value-F.MaxKey k h le small = refl

  pub value_spelled : (v : Value) → IsWellFormed v → levels_in v ≤ n → length (spelled v) < 2 ^ 31 → AreBytesOf D A (spelled v) (out-Value v)
  value_spelled v k le small =
      let e = ap (λ (t : Typed). t.1) (spelling_out v) in
      subst (λ (b : List ℕ). AreBytesOf D A b (out-Value v)) (sym e)
      (one_spelled (out-Value v) (here_formed v k) (held_formed v k) (omega (arith, le, levels_out v)) (subst (λ (b : List ℕ). length b < 2 ^ 31) e small))

  -- ---- elements

  pub element_is : (m b others : List ℕ) → (m ++ (0 ∷ b)) ++ others ≡ (m ++ 0 ∷ []) ++ (b ++ others)
  element_is m b others = append_assoc m (0 ∷ b) others ∙ sym (append_assoc m (0 ∷ []) (b ++ others))

  pub fields_spelled : (fs : List (List ℕ × Value)) → AllByRecursion (λ e. IsName e.0) fs → AreWellFormedFields fs → largest (map (λ e. levels_in e.1) fs) ≤ n → length (elements_of fs) < 2 ^ 31 → AreFields (λ c v. AreBytesOf D A c (out-Value v)) (elements_of fs) fs
  fields_spelled [] names k le small = refl
  fields_spelled (e ∷ fs) names k le small =
      let b = spelled e.1 in
      let others = elements_of fs in
      let parts = element_is e.0 b others in
      let len : length (elements_of (e ∷ fs)) ≡ suc (length (e.0 ++ 0 ∷ []) + (length b + length others)) = omega (arith, ap length parts, length-append (e.0 ++ 0 ∷ []) (b ++ others), length-append b others) in (
        b,
        others,
        names.0,
        value_spelled e.1 k.0 (omega (arith, le)) (omega (arith, small, len)),
        fields_spelled fs names.1 k.1 (omega (arith, le)) (omega (arith, small, len)),
        ap (λ (t : ℕ). t ∷ ((e.0 ++ (0 ∷ b)) ++ others)) (sym (tag_is e.1)) ∙ ap (λ (r : List ℕ). type_byte (out-Value e.1) ∷ r) parts,
      )

  items_spelled : (i : ℕ) (vs : List Value) → i + length vs < 2 ^ 64 → AreWellFormedItems vs → largest (map levels_in vs) ≤ n → length (numbered i (map spelling vs)) < 2 ^ 31 → AreItems (λ c v. AreBytesOf D A c (out-Value v)) (numbered i (map spelling vs)) vs
  items_spelled i [] lt k le small = refl
  items_spelled i (v ∷ vs) lt k le small =
      let b = spelled v in
      let others = numbered (i + 1) (map spelling vs) in
      let parts = element_is (decimal i) b others in
      let len : length (numbered i (map spelling (v ∷ vs))) ≡ suc (length (decimal i ++ 0 ∷ []) + (length b + length others)) = omega (arith, ap length parts, length-append (decimal i ++ 0 ∷ []) (b ++ others), length-append b others) in (
        decimal i,
        b,
        others,
        index_no_zero i (omega (arith, lt)),
        value_spelled v k.0 (omega (arith, le)) (omega (arith, small, len)),
        items_spelled (i + 1) vs (omega (arith, lt)) k.1 (omega (arith, le)) (omega (arith, small, len)),
        ap (λ (t : ℕ). t ∷ ((decimal i ++ (0 ∷ b)) ++ others)) (sym (tag_is v)) ∙ ap (λ (r : List ℕ). type_byte (out-Value v) ∷ r) parts,
      )

-- ---- documents and arrays

count_le : (i : ℕ) (vs : List Typed) → length vs ≤ length (numbered i vs)
count_le i [] = omega arith
count_le i (v ∷ vs) = omega (arith, count_le (i + 1) vs, length-append (decimal i ++ (0 ∷ v.1)) (numbered (i + 1) vs))

mutual
  unfolding IsDocument

  pub document_spelled : (n : ℕ) (fs : List (List ℕ × Value)) → IsWellFormedDocument fs → levels_of fs ≤ n → length (document_text fs) < 2 ^ 31 → IsDocument n (document_text fs) fs
  document_spelled zero fs k le small = absurd (omega (arith, le))
  document_spelled (suc n) fs k le small = (
    elements_of fs,
    frame_is (elements_of fs) small,
    k.0.0,
    fields_spelled (IsDocument n) (IsArray n) n (document_spelled n) (array_spelled n) fs k.0.1 k.1 (omega (arith, le)) (omega (arith, small, framed_len (elements_of fs))),
  )

  pub array_spelled : (n : ℕ) (vs : List Value) → AreWellFormedItems vs → array_levels vs ≤ n → length (framed (items_of vs)) < 2 ^ 31 → IsArray n (framed (items_of vs)) vs
  array_spelled zero vs k le small = absurd (omega (arith, le))
  array_spelled (suc n) vs k le small =
      let len = framed_len (items_of vs) in (
        items_of vs,
        frame_is (items_of vs) small,
        items_spelled (IsDocument n) (IsArray n) n (document_spelled n) (array_spelled n) 0 vs (omega (arith, small, len, count_le 0 (map spelling vs), length-map vs spelling)) k (omega (arith, le)) (omega (arith, small, len)),
      )

pub spelling_spells : SpellingSpells
unfolding Spells
spelling_spells fs k small = (small, levels_of fs, document_spelled (levels_of fs) fs k (omega arith) small)

pub written_spells : {E : Type 0} (fs : List (List ℕ × Value)) (r : Result (List ℕ) E) → IfOk r (λ b. b ≡ document_text fs) → OnOk r (IsWellFormedDocument fs) → IfOk r (λ b. length b < 2 ^ 31 → Spells b fs)
written_spells fs (Ok b) is k = λ small. subst (λ (c : List ℕ). Spells c fs) (sym is) (spelling_spells fs k (subst (λ (c : List ℕ). length c < 2 ^ 31) is small))
written_spells fs (Err e) is k = tt
