-- What is spelled has no more levels than bytes.
use Rattle.std.proofs.Common.{◌≡◌, ℕ, zero, suc, ◌+◌, ◌≤◌, List, [], ◌∷◌, ◌++◌, length, map, ap, arith}
use Rattle.std.proofs.lemmas.List.{length-append}
use Rattle.bson_value.specs.Levels.{largest, levels_in, levels_of}
use Rattle.bson_value.specs.declared.value.Value.{Value, out-Value}
use Rattle.bson_value.specs.declared.value.Value.TheOpen.{Value-F}
use Rattle.bson_check.specs.Spells.{IsFrame, AreBytesOf, AreFields, AreItems, IsDocument, IsArray}
use Rattle.bson_check.proofs.Height.{levels_at, levels_out, object_levels, code_levels, array_levels}

pub frame_size : (b elements : List ℕ) → IsFrame b elements → length b ≡ length elements + 5
frame_size b elements f = omega (arith, ap length f.2, length-append (f.0 ++ elements) (0 ∷ []), length-append f.0 elements, f.1.four)

module _ (D : List ℕ → List (List ℕ × Value) → Type 0) (A : List ℕ → List Value → Type 0)
    (documents : (b : List ℕ) (fs : List (List ℕ × Value)) → D b fs → levels_of fs ≤ length b) (arrays : (b : List ℕ) (vs : List Value) → A b vs → array_levels vs ≤ length b) where
  one_size : (b : List ℕ) (x : Value-F Value) → AreBytesOf D A b x → levels_at x ≤ length b
  one_size b (Value-F.Object fs) s = omega (arith, documents b fs s, object_levels fs)
  one_size b (Value-F.Array vs) s = arrays b vs s
  one_size b (Value-F.ScopedCode t fs) s =
      omega (arith, documents s.2 fs s.5, code_levels t fs, ap length s.6, length-append s.0 (s.1 ++ s.2), length-append s.1 s.2)
  one_size b _ s = omega arith

  pub value_size : (b : List ℕ) (v : Value) → AreBytesOf D A b (out-Value v) → levels_in v ≤ length b
  value_size b v s = omega (arith, one_size b (out-Value v) s, levels_out v)

  fields_size : (b : List ℕ) (fs : List (List ℕ × Value)) → AreFields (λ c v. AreBytesOf D A c (out-Value v)) b fs → largest (map (λ e. levels_in e.1) fs) ≤ length b
  fields_size b [] s = omega arith
  fields_size b (e ∷ fs) s =
      omega (arith, value_size s.0 e.1 s.3, fields_size s.1 fs s.4, ap length s.5, length-append (e.0 ++ 0 ∷ []) (s.0 ++ s.1), length-append s.0 s.1)

  items_size : (b : List ℕ) (vs : List Value) → AreItems (λ c v. AreBytesOf D A c (out-Value v)) b vs → largest (map levels_in vs) ≤ length b
  items_size b [] s = omega arith
  items_size b (v ∷ vs) s =
      omega (arith, value_size s.1 v s.4, items_size s.2 vs s.5, ap length s.6, length-append (s.0 ++ 0 ∷ []) (s.1 ++ s.2), length-append s.1 s.2)

mutual
  unfolding IsDocument

  pub document_size : (n : ℕ) (b : List ℕ) (fs : List (List ℕ × Value)) → IsDocument n b fs → levels_of fs ≤ length b
  document_size zero b fs h = absurd h
  document_size (suc n) b fs h = omega (arith, fields_size (IsDocument n) (IsArray n) (document_size n) (array_size n) h.0 fs h.3, frame_size b h.0 h.1)

  pub array_size : (n : ℕ) (b : List ℕ) (vs : List Value) → IsArray n b vs → array_levels vs ≤ length b
  array_size zero b vs h = absurd h
  array_size (suc n) b vs h = omega (arith, items_size (IsDocument n) (IsArray n) (document_size n) (array_size n) h.0 vs h.2, frame_size b h.0 h.1)
