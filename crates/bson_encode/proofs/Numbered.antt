-- Bytes that spell a document with the names "0", "1" and so on are its spelling.
use Rattle.std.proofs.Common.{◌≡◌, ℕ, zero, suc, ◌+◌, ◌%◌, ◌<◌, ◌≤◌, ◌^◌, List, [], ◌∷◌, ◌++◌, length, map, refl, sym, ap, subst, ◌∙◌, append_assoc, arith}
use Rattle.std.specs.Prelude.{ℤ}
use Rattle.std.specs.Int.{w32, w64, from_le_bytes, to_le_bytes, cast_unsigned}
use Rattle.std.specs.Fmt.{decimal}
use Rattle.std.proofs.lemmas.Int.{of_z-to_z}
use Rattle.std.proofs.lemmas.Nat.{le_bytes_4, le_bytes_8}
use Rattle.std.proofs.lemmas.List.{length-append}
use Rattle.bson_value.specs.Spelling.{Typed, count_bytes, document_text, element, elements_of, framed, items_of, numbered, spelled, spelling, spelling_step, tag_of, text_bytes}
use Rattle.bson_value.specs.declared.value.Value.{Value, out-Value, map-Value}
use Rattle.bson_value.specs.declared.value.Value.TheOpen.{Value-F}
use Rattle.bson_check.specs.Spells.{IsCount, IsSigned, IsString, IsFrame, type_byte, AreBytesOf, AreFields}
use Rattle.bson_encode.specs.Numbered.{AreNumberedItems, IsNumberedDocument, IsNumberedArray, OneNumberedSpelling, NumberedSpelling}
use Rattle.bson_value.specs.Levels.{largest, levels_in, levels_of}
use Rattle.bson_check.proofs.Formed.{word_small}
use Rattle.bson_value.proofs.Runs.{back_bytes, front_bytes}
use Rattle.bson_value.specs.WellFormed.{AreBytes, AreWellFormedItems, IsWellFormedDocument}
use Rattle.bson_check.proofs.Height.{array_levels}
use Rattle.bson_encode.proofs.Grammar.{spelling_out, tag_is, frame_is, framed_len, element_is, fields_spelled, value_spelled}

pub word_back : (c : List ℕ) (n : ℕ) → AreBytes c → IsCount c n → c ≡ to_le_bytes w32 n
word_back c n h k = sym (le_bytes_4 c n k.four h (sym k.value))

pub count_back : (c : List ℕ) (n : ℕ) → AreBytes c → IsCount c n → c ≡ count_bytes n
count_back c n h k =
    let small : n % (2 ^ 32) ≡ n = omega (arith, word_small c n h k) in
    word_back c n h k ∙ ap (to_le_bytes w32) (sym small)

pub string_back : (b t : List ℕ) → AreBytes b → IsString b t → b ≡ text_bytes t
string_back b t h s =
    let whole : b ≡ s.0 ++ (t ++ 0 ∷ []) = s.3 ∙ append_assoc s.0 t (0 ∷ []) in
    let count : AreBytes s.0 = front_bytes s.0 (t ++ 0 ∷ []) (subst AreBytes whole h) in
    s.3 ∙ ap (λ (c : List ℕ). c ++ t ++ 0 ∷ []) (count_back s.0 (length t + 1) count s.1)

pub int_back : (b : List ℕ) (z : ℤ) → AreBytes b → IsSigned w32 b z → b ≡ to_le_bytes w32 (cast_unsigned w32 z)
int_back b z h s =
    let small : from_le_bytes w32 b < 2 ^ 32 = omega (arith, h 0, h 1, h 2, h 3) in
    sym (le_bytes_4 b (from_le_bytes w32 b) s.count h refl) ∙ ap (to_le_bytes w32) (sym (of_z-to_z w32 (from_le_bytes w32 b) small) ∙ ap (cast_unsigned w32) s.value)

pub long_back : (b : List ℕ) (z : ℤ) → AreBytes b → IsSigned w64 b z → b ≡ to_le_bytes w64 (cast_unsigned w64 z)
long_back b z h s =
    let small : from_le_bytes w64 b < 2 ^ 64 = omega (arith, h 0, h 1, h 2, h 3, h 4, h 5, h 6, h 7) in
    sym (le_bytes_8 b (from_le_bytes w64 b) s.count h refl) ∙ ap (to_le_bytes w64) (sym (of_z-to_z w64 (from_le_bytes w64 b) small) ∙ ap (cast_unsigned w64) s.value)

tail_bytes : (tag : ℕ) (name b : List ℕ) → AreBytes (tag ∷ ((name ++ 0 ∷ []) ++ b)) → AreBytes b
tail_bytes tag name b h = back_bytes (name ++ 0 ∷ []) b (λ i. h (suc i))

-- an element, by its parts
element_back : (name b others text : List ℕ) (v : Value) → b ≡ spelled v → others ≡ text → type_byte (out-Value v) ∷ ((name ++ 0 ∷ []) ++ (b ++ others)) ≡ element (name, spelling v) ++ text
element_back name b others text v p q =
    ap (λ (t : ℕ). t ∷ ((name ++ 0 ∷ []) ++ (b ++ others))) (tag_is v)
    ∙ (ap (λ (c : List ℕ). tag_of v ∷ ((name ++ 0 ∷ []) ++ (c ++ others))) p
    ∙ (ap (λ (c : List ℕ). tag_of v ∷ ((name ++ 0 ∷ []) ++ (spelled v ++ c))) q
    ∙ ap (λ (c : List ℕ). tag_of v ∷ c) (append_assoc name (0 ∷ []) (spelled v ++ text) ∙ sym (append_assoc name (0 ∷ spelled v) text))))

-- the spelling of one level
abbrev bytes_at : Value-F Value → List ℕ
bytes_at x = (spelling_step (map-Value Value Typed spelling x)).1

module _ (D : List ℕ → List (List ℕ × Value) → Type 0) (A : List ℕ → List Value → Type 0)
    (documents : (b : List ℕ) (fs : List (List ℕ × Value)) → AreBytes b → D b fs → b ≡ document_text fs)
    (arrays : (b : List ℕ) (vs : List Value) → AreBytes b → A b vs → b ≡ framed (items_of vs)) where
  one_back : (b : List ℕ) (x : Value-F Value) → AreBytes b → AreBytesOf D A b x → b ≡ bytes_at x
  one_back b (Value-F.Double d) h s = s.1
  one_back b (Value-F.Str t) h s = string_back b t h s
  one_back b (Value-F.Object fs) h s = documents b fs h s
  one_back b (Value-F.Array vs) h s = arrays b vs h s
  one_back b (Value-F.Binary k d) h s =
      s.2 ∙ ap (λ (c : List ℕ). c ++ k ∷ d) (count_back s.0 (length d) (front_bytes s.0 (k ∷ d) (subst AreBytes s.2 h)) s.1)
  one_back b Value-F.Undefined h s = s
  one_back b (Value-F.Oid d) h s = s.1
  one_back b (Value-F.Bool v) h s = s
  one_back b (Value-F.Date z) h s = long_back b z h s
  one_back b Value-F.Null h s = s
  one_back b (Value-F.Regex p o) h s = s.2 ∙ sym (append_assoc (p ++ 0 ∷ []) o (0 ∷ []))
  one_back b (Value-F.DbPointer t d) h s = s.3 ∙ ap (λ (c : List ℕ). c ++ d) (string_back s.0 t (front_bytes s.0 d (subst AreBytes s.3 h)) s.1)
  one_back b (Value-F.Code t) h s = string_back b t h s
  one_back b (Value-F.Symbol t) h s = string_back b t h s
  one_back b (Value-F.ScopedCode t fs) h s =
      let parts : AreBytes (s.0 ++ (s.1 ++ s.2)) = subst AreBytes s.6 h in
      let inner : AreBytes (s.1 ++ s.2) = back_bytes s.0 (s.1 ++ s.2) parts in
      let text : s.1 ≡ text_bytes t = string_back s.1 t (front_bytes s.1 s.2 inner) s.4 in
      let scope : s.2 ≡ document_text fs = documents s.2 fs (back_bytes s.1 s.2 inner) s.5 in
      let both : s.1 ++ s.2 ≡ text_bytes t ++ document_text fs = ap (λ (c : List ℕ). c ++ s.2) text ∙ ap (λ (c : List ℕ). text_bytes t ++ c) scope in
      let total = count_back s.0 (length b) (front_bytes s.0 (s.1 ++ s.2) parts) s.3 in
      let long : length b ≡ length (text_bytes t ++ document_text fs) + 4 = omega (arith, ap length s.6, length-append s.0 (s.1 ++ s.2), s.3.four, ap length both) in
      s.6 ∙ ap (λ (c : List ℕ). c ++ (s.1 ++ s.2)) (total ∙ ap count_bytes long) ∙ ap (λ (c : List ℕ). count_bytes (length (text_bytes t ++ document_text fs) + 4) ++ c) both
  one_back b (Value-F.Int z) h s = int_back b z h s
  one_back b (Value-F.Stamp t) h s =
      let parts : AreBytes (s.0 ++ s.1) = subst AreBytes s.4 h in
      s.4 ∙ ap (λ (c : List ℕ). c ++ s.1) (word_back s.0 t.inc (front_bytes s.0 s.1 parts) s.2) ∙ ap (λ (c : List ℕ). to_le_bytes w32 t.inc ++ c) (word_back s.1 t.secs (back_bytes s.0 s.1 parts) s.3)
  one_back b (Value-F.Long z) h s = long_back b z h s
  one_back b (Value-F.Decimal d) h s = s.1
  one_back b Value-F.MinKey h s = s
  one_back b Value-F.MaxKey h s = s

  value_back : (b : List ℕ) (v : Value) → AreBytes b → AreBytesOf D A b (out-Value v) → b ≡ spelled v
  value_back b v h s = one_back b (out-Value v) h s ∙ ap (λ (t : Typed). t.1) (sym (spelling_out v))

  fields_back : (b : List ℕ) (fs : List (List ℕ × Value)) → AreBytes b → AreFields (λ c v. AreBytesOf D A c (out-Value v)) b fs → b ≡ elements_of fs
  fields_back b [] h s = s
  fields_back b (e ∷ fs) h s =
      let rest : AreBytes (s.0 ++ s.1) = tail_bytes (type_byte (out-Value e.1)) e.0 (s.0 ++ s.1) (subst AreBytes s.5 h) in
      let value : s.0 ≡ spelled e.1 = value_back s.0 e.1 (front_bytes s.0 s.1 rest) s.3 in
      let others : s.1 ≡ elements_of fs = fields_back s.1 fs (back_bytes s.0 s.1 rest) s.4 in
      s.5 ∙ element_back e.0 s.0 s.1 (elements_of fs) e.1 value others

  items_back : (i : ℕ) (b : List ℕ) (vs : List Value) → AreBytes b → AreNumberedItems (λ c v. AreBytesOf D A c (out-Value v)) i b vs → b ≡ numbered i (map spelling vs)
  items_back i b [] h s = s
  items_back i b (v ∷ vs) h s =
      let rest : AreBytes (s.0 ++ s.1) = tail_bytes (type_byte (out-Value v)) (decimal i) (s.0 ++ s.1) (subst AreBytes s.4 h) in
      let value : s.0 ≡ spelled v = value_back s.0 v (front_bytes s.0 s.1 rest) s.2 in
      let others : s.1 ≡ numbered (i + 1) (map spelling vs) = items_back (i + 1) s.1 vs (back_bytes s.0 s.1 rest) s.3 in
      s.4 ∙ element_back (decimal i) s.0 s.1 (numbered (i + 1) (map spelling vs)) v value others

frame_back : (b elements text : List ℕ) → AreBytes b → IsFrame b elements → (AreBytes elements → elements ≡ text) → b ≡ framed text
frame_back b elements text h s same =
    let whole : b ≡ s.0 ++ (elements ++ 0 ∷ []) = s.2 ∙ append_assoc s.0 elements (0 ∷ []) in
    let parts = subst AreBytes whole h in
    let is = same (front_bytes elements (0 ∷ []) (back_bytes s.0 (elements ++ 0 ∷ []) parts)) in
    let long : length b ≡ length text + 5 = omega (arith, ap length whole, length-append s.0 (elements ++ 0 ∷ []), length-append elements (0 ∷ []), s.1.four, ap length is) in
    let total : s.0 ≡ count_bytes (length text + 5) = count_back s.0 (length b) (front_bytes s.0 (elements ++ 0 ∷ []) parts) s.1 ∙ ap count_bytes long in
    s.2 ∙ ap (λ (c : List ℕ). c ++ elements ++ 0 ∷ []) total ∙ ap (λ (e : List ℕ). count_bytes (length text + 5) ++ e ++ 0 ∷ []) is

mutual
  unfolding IsNumberedDocument

  pub document_back : (n : ℕ) (b : List ℕ) (fs : List (List ℕ × Value)) → AreBytes b → IsNumberedDocument n b fs → b ≡ document_text fs
  document_back zero b fs h s = absurd s
  document_back (suc n) b fs h s =
      frame_back b s.0 (elements_of fs) h s.1 (λ k. fields_back (IsNumberedDocument n) (IsNumberedArray n) (document_back n) (array_back n) s.0 fs k s.2)

  pub array_back : (n : ℕ) (b : List ℕ) (vs : List Value) → AreBytes b → IsNumberedArray n b vs → b ≡ framed (items_of vs)
  array_back zero b vs h s = absurd s
  array_back (suc n) b vs h s =
      frame_back b s.0 (items_of vs) h s.1 (λ k. items_back (IsNumberedDocument n) (IsNumberedArray n) (document_back n) (array_back n) 0 s.0 vs k s.2)

pub one_numbered : OneNumberedSpelling
one_numbered bytes fs h s = document_back s.0 bytes fs h s.1

-- ---- the spelling is one of these

module _ (D : List ℕ → List (List ℕ × Value) → Type 0) (A : List ℕ → List Value → Type 0) (n : ℕ)
    (documents : (fs : List (List ℕ × Value)) → IsWellFormedDocument fs → levels_of fs ≤ n → length (document_text fs) < 2 ^ 31 → D (document_text fs) fs)
    (arrays : (vs : List Value) → AreWellFormedItems vs → array_levels vs ≤ n → length (framed (items_of vs)) < 2 ^ 31 → A (framed (items_of vs)) vs) where
  items_numbered : (i : ℕ) (vs : List Value) → AreWellFormedItems vs → largest (map levels_in vs) ≤ n → length (numbered i (map spelling vs)) < 2 ^ 31 → AreNumberedItems (λ c v. AreBytesOf D A c (out-Value v)) i (numbered i (map spelling vs)) vs
  items_numbered i [] k le small = refl
  items_numbered i (v ∷ vs) k le small =
      let b = spelled v in
      let others = numbered (i + 1) (map spelling vs) in
      let parts = element_is D A n documents arrays (decimal i) b others in
      let len : length (numbered i (map spelling (v ∷ vs))) ≡ suc (length (decimal i ++ 0 ∷ []) + (length b + length others)) = omega (arith, ap length parts, length-append (decimal i ++ 0 ∷ []) (b ++ others), length-append b others) in (
        b,
        others,
        value_spelled D A n documents arrays v k.0 (omega (arith, le)) (omega (arith, small, len)),
        items_numbered (i + 1) vs k.1 (omega (arith, le)) (omega (arith, small, len)),
        ap (λ (t : ℕ). t ∷ ((decimal i ++ (0 ∷ b)) ++ others)) (sym (tag_is v)) ∙ ap (λ (r : List ℕ). type_byte (out-Value v) ∷ r) parts,
      )

mutual
  unfolding IsNumberedDocument

  document_numbered : (n : ℕ) (fs : List (List ℕ × Value)) → IsWellFormedDocument fs → levels_of fs ≤ n → length (document_text fs) < 2 ^ 31 → IsNumberedDocument n (document_text fs) fs
  document_numbered zero fs k le small = absurd (omega (arith, le))
  document_numbered (suc n) fs k le small = (
    elements_of fs,
    frame_is (elements_of fs) small,
    fields_spelled (IsNumberedDocument n) (IsNumberedArray n) n (document_numbered n) (array_numbered n) fs k.0.1 k.1 (omega (arith, le)) (omega (arith, small, framed_len (elements_of fs))),
  )

  array_numbered : (n : ℕ) (vs : List Value) → AreWellFormedItems vs → array_levels vs ≤ n → length (framed (items_of vs)) < 2 ^ 31 → IsNumberedArray n (framed (items_of vs)) vs
  array_numbered zero vs k le small = absurd (omega (arith, le))
  array_numbered (suc n) vs k le small = (
    items_of vs,
    frame_is (items_of vs) small,
    items_numbered (IsNumberedDocument n) (IsNumberedArray n) n (document_numbered n) (array_numbered n) 0 vs k (omega (arith, le)) (omega (arith, small, framed_len (items_of vs))),
  )

pub is_numbered : NumberedSpelling
is_numbered fs k small = (levels_of fs, document_numbered (levels_of fs) fs k (omega arith) small)
