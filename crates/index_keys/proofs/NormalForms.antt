-- A normal form is its own normal form.
use Rattle.std.proofs.Common.{◌≡◌, ℕ, List, [], ◌∷◌, Bool, true, false, cond, Option, Some, None, refl, sym, ap, ◌∙◌, subst}
use Rattle.std.specs.Prelude.{codes}
use Rattle.containers.specs.Entries.{lookup}
use Rattle.json_tree.specs.declared.tree.Tree.{Tree}
use Rattle.json_tree.specs.declared.tree.Tree.TheVariants as trees
use Rattle.extjson.specs.Plain.{has_plain_parts, wrapped_numbers, wrapped_fields}
use Rattle.extjson.proofs.Wrapping.{wrapped_str, told_object, other_object}
use Rattle.extjson.proofs.Once.{wrapped_once}
use Rattle.index_keys.specs.Definition.{Members, members, members_at, text, text_at, is_one_of, others, version, placed, arranged, normal_of, normal_in, normal, NormalOnce}

formed_once : (names : List (List ℕ)) (e : List ℕ × Tree) (rest : Members) (b : Bool) → is_one_of names e.0 ≡ b →
    others names (wrapped_fields rest) ≡ wrapped_fields rest →
    others names (wrapped_fields (cond b rest (e ∷ rest))) ≡ wrapped_fields (cond b rest (e ∷ rest))
formed_once names e rest true h again = again
formed_once names e rest false h again =
    ap (λ (b : Bool). cond b (others names (wrapped_fields rest)) ((e.0, wrapped_numbers e.1) ∷ others names (wrapped_fields rest))) h
    ∙ ap (λ (l : Members). (e.0, wrapped_numbers e.1) ∷ l) again

others_wrapped : (names : List (List ℕ)) (es : Members) → others names (wrapped_fields (others names es)) ≡ wrapped_fields (others names es)
others_wrapped names [] = refl
others_wrapped names (e ∷ es) = formed_once names e (others names es) (is_one_of names e.0) refl (others_wrapped names es)

fields_twice : (es : Members) → wrapped_fields (wrapped_fields es) ≡ wrapped_fields es
fields_twice [] = refl
fields_twice (e ∷ es) = λ i. (e.0, wrapped_once e.1 i) ∷ fields_twice es i

members_of_object : (es : Members) → members (trees.Object es) ≡ Some es
unfolding members
members_of_object es = ap members_at (trees.outs-Object es)

text_of_str : (t : List ℕ) → text (trees.Str t) ≡ Some t
unfolding text
text_of_str t = ap text_at (trees.outs-Str t)

-- the fields of an object after its numbers became wrappers
abbrev inside : Members → Members
inside key = cond (has_plain_parts key) key (wrapped_fields key)

wrapped_object : (key : Members) (b : Bool) → has_plain_parts key ≡ b → wrapped_numbers (trees.Object key) ≡ trees.Object (cond b key (wrapped_fields key))
wrapped_object key true h = told_object key h
wrapped_object key false h = other_object key h

-- what is read of a normal form's fields
abbrev normal_fields : Members → List ℕ → Members → Members
normal_fields key name es = wrapped_fields (arranged key name es)

key_again : (key : Members) → members (wrapped_numbers (trees.Object key)) ≡ Some (inside key)
key_again key = ap members (wrapped_object key (has_plain_parts key) refl) ∙ members_of_object (inside key)

name_again : (name : List ℕ) → text (wrapped_numbers (trees.Str name)) ≡ Some name
name_again name = ap text (wrapped_str name) ∙ text_of_str name

-- the fields in their places again, from the parts that were read
arranged_again : (key : Members) (name : List ℕ) (es : Members) → arranged (inside key) name (normal_fields key name es) ≡ normal_fields key name es
arranged_again key name es =
    λ i. (codes "v", wrapped_numbers (version (lookup (codes "v") es)))
    ∷ (codes "key", sym (wrapped_object key (has_plain_parts key) refl) i)
    ∷ (codes "name", sym (wrapped_str name) i)
    ∷ others_wrapped placed es i

again : (key : Members) (name : List ℕ) (es : Members) → normal (trees.Object (normal_fields key name es)) ≡ Some (trees.Object (normal_fields key name es))
unfolding normal
again key name es =
    ap normal_in (members_of_object (normal_fields key name es))
    ∙ ((λ i. normal_of (key_again key i) (name_again name i) (normal_fields key name es))
    ∙ ap (λ (l : Members). Some (trees.Object l)) (ap wrapped_fields (arranged_again key name es) ∙ fields_twice (arranged key name es)))

of_parts : (k : Option Members) (m : Option (List ℕ)) (es : Members) (n : Tree) → normal_of k m es ≡ Some n → normal n ≡ Some n
of_parts (Some key) (Some name) es n e =
    let is : trees.Object (normal_fields key name es) ≡ n = cc in
    subst (λ (t : Tree). normal t ≡ Some t) is (again key name es)
of_parts None m es n e = cc
of_parts (Some key) None es n e = cc

of_members : (o : Option Members) (n : Tree) → normal_in o ≡ Some n → normal n ≡ Some n
of_members None n e = cc
of_members (Some es) n e = of_parts _ _ es n e

pub normal_once : NormalOnce
unfolding normal
normal_once t n e = of_members (members t) n e
