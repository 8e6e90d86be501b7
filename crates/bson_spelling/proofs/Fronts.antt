-- Bytes of a value that stand before others, against a spelling that stands before others.
use Rattle.std.proofs.Common.{◌≡◌, ℕ, zero, suc, ◌+◌, ◌%◌, ◌<◌, ◌^◌, List, [], ◌∷◌, ◌++◌, length, take, refl, sym, ap, ◌∙◌, append_assoc, arith}
use Rattle.std.specs.Prelude.{Contains}
use Rattle.std.specs.Int.{w32, from_le_bytes}
use Rattle.std.proofs.lemmas.List.{take_at, length-append}
use Rattle.std.proofs.lemmas.Nat.{from_le_bytes-to_le_bytes_4}
use Rattle.bson_value.specs.Spelling.{Typed, count_bytes, framed, counted, text_bytes, document_text, elements_of, items_of, spelled, spelling, spelling_step}
use Rattle.bson_value.specs.declared.value.Value.{Value, out-Value, map-Value}
use Rattle.bson_value.specs.declared.value.Value.TheOpen.{Value-F}
use Rattle.bson_value.specs.WellFormed.{AreBytes}
use Rattle.bson_check.specs.Spells.{IsCount, IsFrame, AreBytesOf, IsDocument, IsArray}
use Rattle.bson_encode.proofs.Grammar.{spelling_out, framed_len}
use Rattle.bson_view.specs.Meaning.{AreValue, IsLeaf}
use Rattle.bson_view.proofs.Leaves.{leaf_spelled_once}

-- bytes that begin with their own length
record Counts (b : List ℕ) : Type 0 where
  total : List ℕ
  rest : List ℕ
  count : IsCount total (length b)
  is : b ≡ total ++ rest

-- the same of a spelling
record Writes (x : List ℕ) : Type 0 where
  behind : List ℕ
  whole : x ≡ count_bytes (length x) ++ behind

module _ (b x r s : List ℕ) (c : Counts b) (w : Writes x) (small : length (b ++ r) < 2 ^ 31) (e : b ++ r ≡ x ++ s) where
  below : length x < 2 ^ 32
  below = omega (arith, small, ap length e, length-append x s)

  totals : c.total ≡ count_bytes (length x)
  totals =
      sym (take_at c.total (c.rest ++ r) 4 c.count.four)
      ∙ ap (take 4) (sym (append_assoc c.total c.rest r) ∙ ap (λ z. z ++ r) (sym c.is) ∙ e ∙ ap (λ z. z ++ s) w.whole ∙ append_assoc (count_bytes (length x)) w.behind s)
      ∙ take_at (count_bytes (length x)) (w.behind ++ s) 4 refl

  lengths : length b ≡ length x
  lengths =
      let lt = below in
      let m : length x % (2 ^ 32) ≡ length x = omega (arith, lt) in
      let small_too : length x % (2 ^ 32) < 2 ^ 32 = omega arith in
      sym c.count.value ∙ ap (from_le_bytes w32) totals ∙ from_le_bytes-to_le_bytes_4 (length x % (2 ^ 32)) small_too ∙ m

  counted_front : b ≡ x
  counted_front = sym (take_at b r (length b) refl) ∙ ap (take (length b)) e ∙ take_at x s (length b) (sym lengths)

frame_counts : (b elements : List ℕ) → IsFrame b elements → Counts b
frame_counts b elements f = record { total = f.0; rest = elements ++ 0 ∷ []; count = f.1; is = f.2 ∙ append_assoc f.0 elements (0 ∷ []) }

framed_writes : (body : List ℕ) → Writes (framed body)
framed_writes body = record {
  behind = body ++ 0 ∷ [];
  whole = append_assoc (count_bytes (length body + 5)) body (0 ∷ []) ∙ ap (λ n. count_bytes n ++ (body ++ 0 ∷ [])) (sym (framed_len body));
}

counted_writes : (bytes : List ℕ) → Writes (counted bytes)
counted_writes bytes = record {
  behind = bytes;
  whole = let n : length bytes + 4 ≡ length (counted bytes) = omega (arith, length-append (count_bytes (length bytes + 4)) bytes) in ap (λ m. count_bytes m ++ bytes) n;
}

document_counts : (n : ℕ) (b : List ℕ) (fs : List (List ℕ × Value)) → IsDocument n b fs → Counts b
unfolding IsDocument
document_counts zero b fs d = absurd d
document_counts (suc n) b fs d = frame_counts b d.0 d.1

array_counts : (n : ℕ) (b : List ℕ) (vs : List Value) → IsArray n b vs → Counts b
unfolding IsArray
array_counts zero b vs d = absurd d
array_counts (suc n) b vs d = frame_counts b d.0 d.1

-- the spelling of one level
abbrev bytes_at : Value-F Value → List ℕ
bytes_at x = (spelling_step (map-Value Value Typed spelling x)).1

front_at : (n : ℕ) (b r s : List ℕ) (x : Value-F Value) → AreBytesOf (IsDocument n) (IsArray n) b x → (IsLeaf x → b ≡ bytes_at x) → length (b ++ r) < 2 ^ 31 → b ++ r ≡ bytes_at x ++ s → b ≡ bytes_at x
front_at n b r s (Value-F.Object fs) k leaf small e = counted_front b (document_text fs) r s (document_counts n b fs k) (framed_writes (elements_of fs)) small e
front_at n b r s (Value-F.Array vs) k leaf small e = counted_front b (framed (items_of vs)) r s (array_counts n b vs k) (framed_writes (items_of vs)) small e
front_at n b r s (Value-F.ScopedCode t fs) k leaf small e =
    counted_front b (counted (text_bytes t ++ document_text fs)) r s (record { total = k.0; rest = k.1 ++ k.2; count = k.3; is = k.6 }) (counted_writes (text_bytes t ++ document_text fs)) small e
front_at n b r s _ k leaf small e = leaf tt

-- no value's bytes are a front of another spelling
pub value_front : (tag : ℕ) (b r s : List ℕ) (v : Value) → AreValue tag b v → AreBytes b → length (b ++ r) < 2 ^ 31 → b ++ r ≡ spelled v ++ s → b ≡ spelled v
value_front tag b r s v k h small e =
    let out = ap (λ (t : Typed). t.1) (spelling_out v) in
    front_at k.levels b r s (out-Value v) k.spells (λ l. leaf_spelled_once tag b v h k l ∙ out) small (e ∙ ap (λ z. z ++ s) out) ∙ sym out

-- ---- names

pub record Names (n m r s : List ℕ) : Type 0 where
  pub name : n ≡ m
  pub rest : r ≡ s

more : (x : ℕ) (n : List ℕ) → (Contains (x ∷ n) 0 → ⊥) → Contains n 0 → ⊥
more x n h (k, lt, is) = h (suc k, omega (arith, lt), is)

head_of : List ℕ → ℕ
head_of [] = 0
head_of (x ∷ xs) = x

tail_of : List ℕ → List ℕ
tail_of [] = []
tail_of (x ∷ xs) = xs

-- names end with the first zero
pub names_end : (n m r s : List ℕ) → (Contains n 0 → ⊥) → (Contains m 0 → ⊥) → n ++ 0 ∷ r ≡ m ++ 0 ∷ s → Names n m r s
unfolding head_of tail_of
names_end [] [] r s h k e = record { name = refl; rest = ap tail_of e }
names_end [] (y ∷ m) r s h k e = absurd (k (0, omega arith, sym (ap head_of e)))
names_end (x ∷ n) [] r s h k e = absurd (h (0, omega arith, ap head_of e))
names_end (x ∷ n) (y ∷ m) r s h k e =
    let on = names_end n m r s (more x n h) (more y m k) (ap tail_of e) in
    record { name = ap (λ z. z ∷ n) (ap head_of e) ∙ ap (λ z. y ∷ z) on.name; rest = on.rest }
