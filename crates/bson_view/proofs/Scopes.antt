-- The parts of a code with a scope.
use Rattle.std.proofs.Common.{◌≡◌, ℕ, ◌+◌, ◌-◌, ◌≤◌, List, ◌++◌, length, take, drop, sym, ap, subst, ◌∙◌, arith}
use Rattle.std.specs.Prelude.{IsTrue}
use Rattle.std.proofs.lemmas.List.{take_at, take_all, drop_at, length-append, length-take, length-drop}
use Rattle.bson_value.specs.declared.value.Value.{Value, out-Value}
use Rattle.bson_value.specs.declared.value.Value.TheOpen.{Value-F}
use Rattle.bson_check.specs.Passing.{jump}
use Rattle.bson_check.specs.Spells.{IsString, AreBytesOf, IsDocument, IsArray, type_byte}
use Rattle.bson_value.specs.WellFormed.{AreBytes}
use Rattle.bson_view.specs.Meaning.{is_value, value_in}
use Rattle.bson_view.specs.Parts.{bytes_of, elements_in, AreScopedParts, HasElements}
use Rattle.bson_view.proofs.Jumps.{jump_over}
use Rattle.bson_view.proofs.Meanings.{checked_value}
use Rattle.bson_view.proofs.Sizes.{frame_size}
use Rattle.bson_view.proofs.Bodies.{body_by, of_fields, fields_there}
use Rattle.bson_encode.proofs.Numbered.{string_back}

-- what stands behind the total, and what behind the text
abbrev pub behind_total : List ℕ → List ℕ
behind_total b = take (length b - 4) (drop 4 b)

pub record Scoped (b : List ℕ) (t : List ℕ) (fs : List (List ℕ × Value)) : Type 0 where
  pub levels : ℕ
  pub string : List ℕ
  pub scope : List ℕ
  pub long : 4 ≤ length b
  pub behind : behind_total b ≡ string ++ scope
  pub is_string : IsString string t
  pub document : IsDocument levels scope fs

module _ (n : ℕ) (b t : List ℕ) (fs : List (List ℕ × Value)) (s : AreBytesOf (IsDocument n) (IsArray n) b (Value-F.ScopedCode t fs)) where
  size : length b ≡ 4 + length (s.1 ++ s.2)
  size = omega (arith, ap length s.6, length-append s.0 (s.1 ++ s.2), s.3.four)

  pub scoped : Scoped b t fs
  scoped = record {
    levels = n;
    string = s.1;
    scope = s.2;
    long = omega (arith, size);
    behind = ap (λ z. take (length b - 4) (drop 4 z)) s.6 ∙ ap (take (length b - 4)) (drop_at s.0 (s.1 ++ s.2) 4 s.3.four) ∙ take_all (length b - 4) (s.1 ++ s.2) (omega (arith, size));
    is_string = s.4;
    document = s.5;
  }

module _ (b t : List ℕ) (fs : List (List ℕ × Value)) (k : Scoped b t fs) where
  passes : jump 2 (behind_total b) ≡ k.scope
  passes = ap (jump 2) k.behind ∙ jump_over k.levels k.string (Value-F.Str t) k.scope k.is_string

  has : HasElements k.scope
  has = of_fields k.scope fs (body_by k.levels k.scope fs k.document)

  text_there : (m : ℕ) → m ≡ length (behind_total b) - length k.scope → take m (behind_total b) ≡ k.string
  text_there m e =
      let size : m ≡ length k.string = omega (arith, e, ap length k.behind, length-append k.string k.scope) in
      ap (take m) k.behind ∙ take_at k.string k.scope m (sym size)

  there : (text : List ℕ) → text ≡ k.string → AreBytes text → AreScopedParts (Value-F.ScopedCode t fs) b text (elements_in k.scope)
  there text e bytes =
      let f = fields_there k.scope fs (body_by k.levels k.scope fs k.document) in (
        e ∙ string_back k.string t (subst AreBytes e bytes) k.is_string,
        f.1,
        omega (arith, frame_size k.scope (bytes_of (elements_in k.scope)) f.0, ap length k.behind, length-append k.string k.scope, k.long, length-take (length b - 4) (drop 4 b), length-drop 4 b),
      )

-- what is needed of the value
pub record ScopeIn (b : List ℕ) (f : Value-F Value) : Type 0 where
  pub long : 4 ≤ length b
  pub has : HasElements (jump 2 (behind_total b))
  pub parts : (text : List ℕ) → text ≡ take (length (behind_total b) - length (jump 2 (behind_total b))) (behind_total b) → AreBytes text → AreScopedParts f b text (elements_in (jump 2 (behind_total b)))

scope_in : (n : ℕ) (b : List ℕ) (f : Value-F Value) → AreBytesOf (IsDocument n) (IsArray n) b f → type_byte f ≡ 15 → ScopeIn b f
scope_in n b (Value-F.ScopedCode t fs) s e =
    let k = scoped n b t fs s in
    let j = passes b t fs k in
    record {
      long = k.long;
      has = subst HasElements (sym j) (has b t fs k);
      parts = λ text is bytes. subst (λ z. AreScopedParts (Value-F.ScopedCode t fs) b text (elements_in z)) (sym j)
          (there b t fs k text (is ∙ text_there b t fs k _ (ap (λ z. length (behind_total b) - length z) j)) bytes);
    }
scope_in n b _ s e = absurd (omega (arith, e))

pub scope_of : (tag : ℕ) (b : List ℕ) → IsTrue (is_value tag b) → tag ≡ 15 → ScopeIn b (out-Value (value_in tag b))
scope_of tag b h e =
    let s = checked_value tag b h in
    scope_in s.levels b (out-Value (value_in tag b)) s.spells (sym s.kind ∙ e)
