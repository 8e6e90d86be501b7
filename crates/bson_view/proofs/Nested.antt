-- A document in another one.
use Rattle.std.proofs.Common.{◌≡◌, ℕ, ◌-◌, ◌<◌, ◌≤◌, ◌^◌, List, length, drop, Ok, Err, refl, sym, ap, subst, ◌∙◌, arith}
use Rattle.std.specs.Prelude.{Some, IsTrue}
use Rattle.std.proofs.lemmas.List.{length-append, length-take, length-drop}
use Rattle.bson_value.specs.declared.value.Value.{Value, out-Value, roll-Value, roll-out-Value}
use Rattle.bson_value.specs.declared.value.Value.TheOpen.{Value-F}
use Rattle.bson_value.specs.declared.value.Value.TheVariants as values
use Rattle.bson_check.specs.declared.fault.BsonFault.{BsonFault}
use Rattle.bson_check.specs.Reading.{text_at}
use Rattle.bson_check.specs.Spells.{Spells, AreBytesOf, IsDocument, IsArray, type_byte}
use Rattle.bson_check.proofs.Again.{text_again}
use Rattle.bson_view.specs.Meaning.{is_document, document_in, is_value, value_in}
use Rattle.bson_view.specs.HeldWalk.{fields_in}
use Rattle.bson_view.proofs.Meanings.{checked_spells, checked_value, document_checked, document_is}
use Rattle.bson_view.proofs.Scopes.{behind_total, Scoped, scoped}

pub document_short : (b : List ℕ) → IsTrue (is_document b) → length b < 2 ^ 31
unfolding Spells
document_short b e = (checked_spells b e).0

-- the value is the document that these bytes spell
record Nested (b : List ℕ) (x : Value-F Value) : Type 0 where
  fields : List (List ℕ × Value)
  spells : Spells b fields
  are : x ≡ Value-F.Object fields

nested : (n : ℕ) (b : List ℕ) (x : Value-F Value) → AreBytesOf (IsDocument n) (IsArray n) b x → type_byte x ≡ 3 → length b < 2 ^ 31 → Nested b x
unfolding Spells
nested n b (Value-F.Object fs) s e lt = record { fields = fs; spells = (lt, n, s); are = refl }
nested n b _ s e lt = absurd (omega (arith, e))

module _ (tag : ℕ) (b : List ℕ) (valid : IsTrue (is_value tag b)) (is : tag ≡ 3) (short : length b < 2 ^ 31) where
  found : Nested b (out-Value (value_in tag b))
  found = let v = checked_value tag b valid in nested v.levels b (out-Value (value_in tag b)) v.spells (sym v.kind ∙ is) short

  pub is_nested : IsTrue (is_document b)
  is_nested = document_checked b found.fields found.spells

  pub nested_fields : Some (document_in b) ≡ fields_in (out-Value (value_in tag b))
  nested_fields = ap (λ (fs : List (List ℕ × Value)). Some fs) (document_is b found.fields found.spells) ∙ sym (ap fields_in found.are)

  pub nested_value : values.Object (document_in b) ≡ value_in tag b
  nested_value = ap values.Object (document_is b found.fields found.spells) ∙ sym (values.rolls-Object found.fields) ∙ sym (ap roll-Value found.are) ∙ roll-out-Value (value_in tag b)

-- the text of a code, and its scope, which these bytes spell
record Code (b : List ℕ) (x : Value-F Value) : Type 0 where
  text : List ℕ
  fields : List (List ℕ × Value)
  scope : List ℕ
  long : 4 ≤ length b
  read : text_at (length (behind_total b)) (behind_total b) ≡ Ok (text, scope)
  spells : Spells scope fields
  are : x ≡ Value-F.ScopedCode text fields

code_of : (b t : List ℕ) (fs : List (List ℕ × Value)) (k : Scoped b t fs) (x : Value-F Value) → x ≡ Value-F.ScopedCode t fs → length b < 2 ^ 31 → Code b x
unfolding Spells
code_of b t fs k x e lt = record {
  text = t;
  fields = fs;
  scope = k.scope;
  long = k.long;
  read = ap (text_at (length (behind_total b))) k.behind ∙ text_again (length (behind_total b)) k.string t k.scope k.is_string;
  spells = (omega (arith, lt, ap length k.behind, length-append k.string k.scope, length-take (length b - 4) (drop 4 b), length-drop 4 b), k.levels, k.document);
  are = e;
}

code : (n : ℕ) (b : List ℕ) (x : Value-F Value) → AreBytesOf (IsDocument n) (IsArray n) b x → type_byte x ≡ 15 → length b < 2 ^ 31 → Code b x
code n b (Value-F.ScopedCode t fs) s e lt = code_of b t fs (scoped n b t fs s) (Value-F.ScopedCode t fs) refl lt
code n b _ s e lt = absurd (omega (arith, e))

module _ (tag : ℕ) (b : List ℕ) (valid : IsTrue (is_value tag b)) (is : tag ≡ 15) (short : length b < 2 ^ 31) where
  coded : Code b (out-Value (value_in tag b))
  coded = let v = checked_value tag b valid in code v.levels b (out-Value (value_in tag b)) v.spells (sym v.kind ∙ is) short

  pub code_long : 4 ≤ length b
  code_long = coded.long

  pub code_there : (f : BsonFault) → text_at (length (behind_total b)) (behind_total b) ≡ Err f → ⊥
  code_there f h = let e = sym coded.read ∙ h in absurd cc

  module _ (text scope : List ℕ) (read : text_at (length (behind_total b)) (behind_total b) ≡ Ok (text, scope)) where
    same : ◌≡◌ {A = List ℕ × List ℕ} (coded.text, coded.scope) (text, scope)
    same = let e = sym coded.read ∙ read in cc

    same_text : coded.text ≡ text
    same_text = ap (λ (p : List ℕ × List ℕ). p.0) same

    same_scope : coded.scope ≡ scope
    same_scope = ap (λ (p : List ℕ × List ℕ). p.1) same

    pub is_scope : IsTrue (is_document scope)
    is_scope = subst (λ (z : List ℕ). IsTrue (is_document z)) same_scope (document_checked coded.scope coded.fields coded.spells)

    pub code_value : values.ScopedCode text (document_in scope) ≡ value_in tag b
    code_value =
        ap (λ (t : List ℕ). values.ScopedCode t (document_in scope)) (sym same_text) ∙ ap (λ (z : List ℕ). values.ScopedCode coded.text (document_in z)) (sym same_scope)
        ∙ ap (values.ScopedCode coded.text) (document_is coded.scope coded.fields coded.spells) ∙ sym (values.rolls-ScopedCode coded.text coded.fields) ∙ sym (ap roll-Value coded.are) ∙ roll-out-Value (value_in tag b)
