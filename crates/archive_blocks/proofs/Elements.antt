-- The elements of a document, one after the other.
use Rattle.std.proofs.Common.{◌≡◌, ℕ, ◌+◌, true, false, List, [], ◌∷◌, ◌++◌, length, take, drop, refl, sym, ap, subst, ◌∙◌}
use Rattle.std.specs.Prelude.{◌==◌, Some, None}
use Rattle.std.specs.List.{position_from}
use Rattle.std.specs.Str.{bytes_eq}
use Rattle.containers.specs.Entries.{lookup}
use Rattle.bson_value.specs.declared.value.Value.{Value, out-Value}
use Rattle.bson_check.specs.Passing.{jump}
use Rattle.bson_check.specs.Spells.{IsName, type_byte, AreBytesOf, IsDocument, IsArray}
use Rattle.archive_blocks.specs.Found.{SpellFields, BeginsValue, Passes}
use Rattle.archive_blocks.proofs.Jumps.{jump_over}
use Rattle.bson_check.proofs.Again.{zero_at, front_of, behind_of}

-- the first element, and the others
record First (n tag : ℕ) (bytes : List ℕ) (fs : List (List ℕ × Value)) : Type 0 where
  field : List ℕ × Value
  more : List (List ℕ × Value)
  spelling : List ℕ
  others : List ℕ
  is : fs ≡ field ∷ more
  name : IsName field.0
  spells : AreBytesOf (IsDocument n) (IsArray n) spelling (out-Value field.1)
  kind : tag ≡ type_byte (out-Value field.1)
  parts : bytes ≡ (field.0 ++ 0 ∷ []) ++ (spelling ++ others)
  left : SpellFields n others more

first_of : (n tag : ℕ) (bytes : List ℕ) (fs : List (List ℕ × Value)) → SpellFields n (tag ∷ bytes) fs → First n tag bytes fs
first_of n tag bytes [] s = absurd cc
first_of n tag bytes (e ∷ es) s = record { field = e; more = es; spelling = s.0; others = s.1; is = refl; name = s.2; spells = s.3; kind = cc; parts = cc; left = s.4 }

pub no_element : (n : ℕ) (name : List ℕ) (fs : List (List ℕ × Value)) → SpellFields n [] fs → lookup name fs ≡ None
no_element n name [] s = refl
no_element n name (e ∷ es) s = absurd cc

module _ (n tag : ℕ) (bytes name : List ℕ) (fs : List (List ℕ × Value)) (s : SpellFields n (tag ∷ bytes) fs) where
  at_zero : position_from (λ b. b == 0) 0 bytes ≡ Some (length (first_of n tag bytes fs s).field.0)
  at_zero = let f = first_of n tag bytes fs s in ap (position_from (λ b. b == 0) 0) f.parts ∙ zero_at f.field.0 (f.spelling ++ f.others) f.name.no_zero

  pub some_zero : position_from (λ b. b == 0) 0 bytes ≡ None → ⊥
  some_zero h = let k = sym h ∙ at_zero in cc

  module _ (i : ℕ) (h : position_from (λ b. b == 0) 0 bytes ≡ Some i) where
    place_is : i ≡ length (first_of n tag bytes fs s).field.0
    place_is = let k = sym h ∙ at_zero in cc

    front_is : take i bytes ≡ (first_of n tag bytes fs s).field.0
    front_is = let f = first_of n tag bytes fs s in ap (λ j. take j bytes) place_is ∙ ap (take (length f.field.0)) f.parts ∙ front_of f.field.0 (f.spelling ++ f.others)

    back_is : drop (i + 1) bytes ≡ (first_of n tag bytes fs s).spelling ++ (first_of n tag bytes fs s).others
    back_is = let f = first_of n tag bytes fs s in ap (λ j. drop (j + 1) bytes) place_is ∙ ap (drop (length f.field.0 + 1)) f.parts ∙ behind_of f.field.0 (f.spelling ++ f.others)

    pub found_here : bytes_eq (take i bytes) name ≡ true → (v : Value) × (lookup name fs ≡ Some v) × BeginsValue n tag (drop (i + 1) bytes) v
    found_here e =
        let f = first_of n tag bytes fs s in
        let same : bytes_eq f.field.0 name ≡ true = ap (λ z. bytes_eq z name) (sym front_is) ∙ e in
        (f.field.1, ap (lookup name) f.is ∙ rw same refl, record { spelling = f.spelling; rest = f.others; spells = f.spells; kind = f.kind; parts = back_is })

    pub passed_on : bytes_eq (take i bytes) name ≡ false → Passes n name (jump tag (drop (i + 1) bytes)) fs
    passed_on e =
        let f = first_of n tag bytes fs s in
        let other : bytes_eq f.field.0 name ≡ false = ap (λ z. bytes_eq z name) (sym front_is) ∙ e in
        let over : jump tag (drop (i + 1) bytes) ≡ f.others = ap (λ t. jump t (drop (i + 1) bytes)) f.kind ∙ ap (jump (type_byte (out-Value f.field.1))) back_is ∙ jump_over n f.spelling (out-Value f.field.1) f.others f.spells in
        record { left = f.more; spells = subst (λ (z : List ℕ). SpellFields n z f.more) (sym over) f.left; same = ap (lookup name) f.is ∙ rw other refl }
