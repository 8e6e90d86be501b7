-- A value that holds no document and no array has one spelling.
use Rattle.std.proofs.Common.{◌≡◌, ℕ, ◌+◌, List, [], ◌∷◌, ◌++◌, length, sym, ap, subst, ◌∙◌, append_assoc}
use Rattle.std.specs.Int.{w32, to_le_bytes}
use Rattle.bson_value.specs.Spelling.{Typed, spelling, spelling_step}
use Rattle.bson_value.specs.declared.value.Value.{Value, out-Value, map-Value}
use Rattle.bson_value.specs.declared.value.Value.TheOpen.{Value-F}
use Rattle.bson_check.specs.Spells.{AreBytesOf, IsDocument, IsArray}
use Rattle.bson_encode.proofs.Grammar.{spelling_out}
use Rattle.bson_value.proofs.Runs.{back_bytes, front_bytes}
use Rattle.bson_value.specs.WellFormed.{AreBytes}
use Rattle.bson_view.specs.Meaning.{IsLeaf, LeafSpelledOnce}
use Rattle.bson_encode.proofs.Numbered.{word_back, count_back, string_back, int_back, long_back}

-- the spelling of one level
abbrev bytes_at : Value-F Value → List ℕ
bytes_at x = (spelling_step (map-Value Value Typed spelling x)).1

module _ (D : List ℕ → List (List ℕ × Value) → Type 0) (A : List ℕ → List Value → Type 0) where
  leaf_back : (b : List ℕ) (x : Value-F Value) → AreBytes b → AreBytesOf D A b x → IsLeaf x → b ≡ bytes_at x
  leaf_back b (Value-F.Double d) h s l = s.1
  leaf_back b (Value-F.Str t) h s l = string_back b t h s
  leaf_back b (Value-F.Object fs) h s l = absurd l
  leaf_back b (Value-F.Array vs) h s l = absurd l
  leaf_back b (Value-F.Binary k d) h s l =
      s.2 ∙ ap (λ (c : List ℕ). c ++ k ∷ d) (count_back s.0 (length d) (front_bytes s.0 (k ∷ d) (subst AreBytes s.2 h)) s.1)
  leaf_back b Value-F.Undefined h s l = s
  leaf_back b (Value-F.Oid d) h s l = s.1
  leaf_back b (Value-F.Bool v) h s l = s
  leaf_back b (Value-F.Date z) h s l = long_back b z h s
  leaf_back b Value-F.Null h s l = s
  leaf_back b (Value-F.Regex p o) h s l = s.2 ∙ sym (append_assoc (p ++ 0 ∷ []) o (0 ∷ []))
  leaf_back b (Value-F.DbPointer t d) h s l = s.3 ∙ ap (λ (c : List ℕ). c ++ d) (string_back s.0 t (front_bytes s.0 d (subst AreBytes s.3 h)) s.1)
  leaf_back b (Value-F.Code t) h s l = string_back b t h s
  leaf_back b (Value-F.Symbol t) h s l = string_back b t h s
  leaf_back b (Value-F.ScopedCode t fs) h s l = absurd l
  leaf_back b (Value-F.Int z) h s l = int_back b z h s
  leaf_back b (Value-F.Stamp t) h s l =
      let parts : AreBytes (s.0 ++ s.1) = subst AreBytes s.4 h in
      s.4 ∙ ap (λ (c : List ℕ). c ++ s.1) (word_back s.0 t.inc (front_bytes s.0 s.1 parts) s.2) ∙ ap (λ (c : List ℕ). to_le_bytes w32 t.inc ++ c) (word_back s.1 t.secs (back_bytes s.0 s.1 parts) s.3)
  leaf_back b (Value-F.Long z) h s l = long_back b z h s
  leaf_back b (Value-F.Decimal d) h s l = s.1
  leaf_back b Value-F.MinKey h s l = s
  leaf_back b Value-F.MaxKey h s l = s

pub leaf_spelled_once : LeafSpelledOnce
leaf_spelled_once tag b v h s l =
    leaf_back (IsDocument s.levels) (IsArray s.levels) b (out-Value v) h s.spells l ∙ ap (λ (t : Typed). t.1) (sym (spelling_out v))
