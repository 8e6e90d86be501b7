-- The names of a document's elements are texts.
use Rattle.std.proofs.Common.{◌≡◌, ℕ, zero, suc, Bool, true, false, List, [], ◌∷◌, refl, sym, ap, subst, ◌∙◌}
use Rattle.std.specs.Prelude.{IsTrue, ◌&&◌}
use Rattle.std.specs.Str.{is_utf8}
use Rattle.std.specs.List.{AllByRecursion}
use Rattle.bson_value.specs.declared.value.Value.{Value, out-Value}
use Rattle.bson_check.specs.Spells.{Spells, IsName, AreFields, AreBytesOf, IsDocument, IsArray}
use Rattle.bson_view.specs.Meaning.{is_document, document_in}
use Rattle.bson_view.specs.Parts.{Part, fields_of, elements_in, have_text_names}
use Rattle.bson_view.proofs.Bodies.{document_elements}
use Rattle.bson_view.proofs.Meanings.{checked_spells}

abbrev AreNamed : List (List ℕ × Value) → Type 0
AreNamed fs = AllByRecursion (λ e. IsName e.0) fs

of_fields : (V : List ℕ → Value → Type 0) (b : List ℕ) (fs : List (List ℕ × Value)) → AreFields V b fs → AreNamed fs
of_fields V b [] a = tt
of_fields V b (e ∷ es) a = (a.2, of_fields V a.1 es a.4)

of_document : (n : ℕ) (b : List ℕ) (fs : List (List ℕ × Value)) → IsDocument n b fs → AreNamed fs
unfolding IsDocument
of_document zero b fs d = absurd d
of_document (suc n) b fs d = of_fields (λ c v. AreBytesOf (IsDocument n) (IsArray n) c (out-Value v)) d.0 fs d.3

of_bytes : (b : List ℕ) (fs : List (List ℕ × Value)) → Spells b fs → AreNamed fs
unfolding Spells
of_bytes b fs s = of_document s.1 b fs s.2

of_parts : (ps : List Part) → AreNamed (fields_of ps) → have_text_names ps ≡ true
of_parts [] a = refl
of_parts (p ∷ ps) a = rw (a.0.utf8, of_parts ps a.1) refl

pub text_names : (b : List ℕ) → IsTrue (is_document b) → IsTrue (have_text_names (elements_in b))
text_names b e = of_parts (elements_in b) (subst AreNamed (sym (document_elements b e).1) (of_bytes b (document_in b) (checked_spells b e)))

both : (a b : Bool) → a && b ≡ true → (a ≡ true) × (b ≡ true)
both true b e = (refl, e)
both false b e = absurd cc

-- the first name, and the others
pub first_text : (ps qs : List Part) (p : Part) → ps ≡ p ∷ qs → IsTrue (have_text_names ps) → (is_utf8 p.name ≡ true) × (have_text_names qs ≡ true)
first_text ps qs p e t = both (is_utf8 p.name) (have_text_names qs) (sym (ap have_text_names e) ∙ t)
