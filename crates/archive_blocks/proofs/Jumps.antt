-- The bytes of a value are passed over by its type.
use Rattle.std.proofs.Common.{◌≡◌, ℕ, zero, suc, ◌+◌, false, ltb, List, [], ◌∷◌, ◌++◌, length, drop, refl, sym, ap, ◌∙◌, append_assoc, arith}
use Rattle.std.specs.Prelude.{Contains}
use Rattle.std.proofs.lemmas.List.{drop_at, length-append}
use Rattle.std.proofs.lemmas.Bool.{le-ltb}
use Rattle.bson_value.specs.declared.value.Value.{Value}
use Rattle.bson_value.specs.declared.value.Value.TheOpen.{Value-F}
use Rattle.bson_check.specs.Reading.{number}
use Rattle.bson_check.specs.Passing.{count_of, past_zero, jump}
use Rattle.bson_check.specs.Spells.{IsCount, IsString, IsFrame, type_byte, AreBytesOf, IsDocument, IsArray}
use Rattle.bson_check.proofs.Again.{number_front, zero_at, behind_of}

past_name : (n rest : List ℕ) → (Contains n 0 → ⊥) → past_zero ((n ++ 0 ∷ []) ++ rest) ≡ rest
unfolding past_zero
past_name n rest h = rw (zero_at n rest h, behind_of n rest) refl

count_ahead : (count tail b rest : List ℕ) (m : ℕ) → IsCount count m → b ≡ count ++ tail → count_of (b ++ rest) ≡ m
unfolding count_of
count_ahead count tail b rest m c is =
    let whole : b ++ rest ≡ count ++ (tail ++ rest) = ap (λ z. z ++ rest) is ∙ append_assoc count tail rest in
    let long : ltb (length (b ++ rest)) 4 ≡ false = le-ltb _ _ (omega (arith, ap length whole, length-append count (tail ++ rest), c.four)) in
    rw long (ap number whole ∙ number_front count (tail ++ rest) m c)

string_size : (b t : List ℕ) → IsString b t → length b ≡ length t + 1 + 4
string_size b t s = omega (arith, ap length s.3, length-append (s.0 ++ t) (0 ∷ []), length-append s.0 t, s.1.four)

string_count : (b t rest : List ℕ) → IsString b t → count_of (b ++ rest) ≡ length t + 1
string_count b t rest s = count_ahead s.0 (t ++ 0 ∷ []) b rest (length t + 1) s.1 (s.3 ∙ append_assoc s.0 t (0 ∷ []))

past_string : (b t rest : List ℕ) → IsString b t → drop (count_of (b ++ rest) + 4) (b ++ rest) ≡ rest
past_string b t rest s = drop_at b rest (count_of (b ++ rest) + 4) (omega (arith, string_size b t s, string_count b t rest s))

past_frame : (b e rest : List ℕ) → IsFrame b e → drop (count_of (b ++ rest)) (b ++ rest) ≡ rest
past_frame b e rest f = drop_at b rest (count_of (b ++ rest)) (sym (count_ahead f.0 (e ++ 0 ∷ []) b rest (length b) f.1 (f.2 ∙ append_assoc f.0 e (0 ∷ []))))

past_document : (n : ℕ) (b : List ℕ) (fs : List (List ℕ × Value)) (rest : List ℕ) → IsDocument n b fs → drop (count_of (b ++ rest)) (b ++ rest) ≡ rest
unfolding IsDocument
past_document zero b fs rest d = absurd d
past_document (suc n) b fs rest d = past_frame b d.0 rest d.1

past_array : (n : ℕ) (b : List ℕ) (vs : List Value) (rest : List ℕ) → IsArray n b vs → drop (count_of (b ++ rest)) (b ++ rest) ≡ rest
unfolding IsArray
past_array zero b vs rest d = absurd d
past_array (suc n) b vs rest d = past_frame b d.0 rest d.1

pub jump_over : (n : ℕ) (b : List ℕ) (f : Value-F Value) (rest : List ℕ) → AreBytesOf (IsDocument n) (IsArray n) b f → jump (type_byte f) (b ++ rest) ≡ rest
unfolding jump
jump_over n b (Value-F.Double d) rest s = drop_at b rest 8 (ap length s.1 ∙ s.0)
jump_over n b (Value-F.Str t) rest s = past_string b t rest s
jump_over n b (Value-F.Object fs) rest s = past_document n b fs rest s
jump_over n b (Value-F.Array vs) rest s = past_array n b vs rest s
jump_over n b (Value-F.Binary k d) rest s =
    let count : count_of (b ++ rest) ≡ length d = count_ahead s.0 (k ∷ d) b rest (length d) s.1 s.2 in
    drop_at b rest (count_of (b ++ rest) + 5) (omega (arith, ap length s.2, length-append s.0 (k ∷ d), s.1.four, count))
jump_over n b Value-F.Undefined rest s = ap (λ z. z ++ rest) s
jump_over n b (Value-F.Oid d) rest s = drop_at b rest 12 (ap length s.1 ∙ s.0)
jump_over n b (Value-F.Bool v) rest s = drop_at b rest 1 (ap length s)
jump_over n b (Value-F.Date z) rest s = drop_at b rest 8 s.count
jump_over n b Value-F.Null rest s = ap (λ z. z ++ rest) s
jump_over n b (Value-F.Regex p o) rest s =
    let whole : b ++ rest ≡ (p ++ 0 ∷ []) ++ ((o ++ 0 ∷ []) ++ rest) = ap (λ z. z ++ rest) s.2 ∙ append_assoc (p ++ 0 ∷ []) (o ++ 0 ∷ []) rest in
    ap (λ z. past_zero (past_zero z)) whole ∙ ap past_zero (past_name p ((o ++ 0 ∷ []) ++ rest) s.0.no_zero) ∙ past_name o rest s.1.no_zero
jump_over n b (Value-F.DbPointer t d) rest s =
    let whole : b ++ rest ≡ s.0 ++ (d ++ rest) = ap (λ z. z ++ rest) s.3 ∙ append_assoc s.0 d rest in
    ap (λ z. drop 12 (drop (count_of z + 4) z)) whole ∙ ap (drop 12) (past_string s.0 t (d ++ rest) s.1) ∙ drop_at d rest 12 s.2
jump_over n b (Value-F.Code t) rest s = past_string b t rest s
jump_over n b (Value-F.Symbol t) rest s = past_string b t rest s
jump_over n b (Value-F.ScopedCode t fs) rest s =
    drop_at b rest (count_of (b ++ rest)) (sym (count_ahead s.0 (s.1 ++ s.2) b rest (length b) s.3 s.6))
jump_over n b (Value-F.Int z) rest s = drop_at b rest 4 s.count
jump_over n b (Value-F.Stamp t) rest s = drop_at b rest 8 (omega (arith, ap length s.4, length-append s.0 s.1, s.2.four, s.3.four))
jump_over n b (Value-F.Long z) rest s = drop_at b rest 8 s.count
jump_over n b (Value-F.Decimal d) rest s = drop_at b rest 16 (ap length s.1 ∙ s.0)
jump_over n b Value-F.MinKey rest s = ap (λ z. z ++ rest) s
jump_over n b Value-F.MaxKey rest s = ap (λ z. z ++ rest) s
