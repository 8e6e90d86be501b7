-- A definition that is accepted is good in its normal form: the tree of a document.
use Rattle.std.proofs.Common.{◌≡◌, ℕ, ◌≤◌, List, [], ◌∷◌, length, map, Bool, true, false, not, refl, sym, ap, ◌∙◌, subst, arith, Option, Some, None}
use Rattle.std.specs.Prelude.{codes, pos, nat_le, ◌&&◌, ◌||◌, is_some, option_map, if◌then◌else◌}
use Rattle.std.specs.Str.{bytes_eq}
use Rattle.std.specs.List.{list_any, AllByRecursion}
use Rattle.std.specs.Fmt.{decimal}
use Rattle.bson_value.proofs.Digits.{digits-is_decimal, digits-one}
use Rattle.std.proofs.lemmas.Bool.{and_parts, or_parts}
use Rattle.std.proofs.lemmas.Grind.{common_steps}
use Rattle.containers.specs.Entries.{lookup, IsAbsent, AreDistinct, names_of}
use Rattle.bson_value.specs.declared.value.Value.{Value, Value-F, Object, Str, Int, out-Value, roll-Value, roll-out-Value, fold-roll-Value, every-Value, every_made-Value}
use Rattle.bson_value.specs.declared.value.Value.TheVariants as values
use Rattle.bson_value.specs.Levels.{largest, levels_in, levels_of, levels_step}
use Rattle.bson_value.specs.WellFormed.{IsName, IsWellFormed, AreWellFormedFields, IsWellFormedDocument}
use Rattle.bson_value.proofs.WellFormed.{formed_int}
use Rattle.bson_value.proofs.Sizes.{levels-str}
use Rattle.json_tree.specs.declared.tree.Tree.{Tree, out-Tree}
use Rattle.json_tree.specs.declared.tree.Tree.TheVariants as trees
use Rattle.json_text.specs.Print.{text_of}
use Rattle.extjson.specs.Trees.{tree_step, tree_of, fields_of, int_tree, wrapped}
use Rattle.extjson.specs.Values.{has_wrapper}
use Rattle.extjson.specs.Wrappers.{outermost_names, wrapper_of}
use Rattle.extjson.specs.Plain.{wrapped_fields}
use Rattle.extjson.specs.RoundTrip.{IsPlain}
use Rattle.extjson.proofs.RoundTrips.{here, held}
use Rattle.extjson.proofs.Unwrapped.{trees_wrapped}
use Rattle.index_keys.specs.Definition.{Members, members, members_at, text, text_at, is_one_of, others, version, placed, arranged, normal_of as normal_by, members_in, text_in as tree_text, normal_in, normal}
use Rattle.index_keys.proofs.NormalForms.{normal_once}
use Rattle.update_model.specs.Arguments.{text_in}
use Rattle.update_model.specs.Updating.{fields_in}
use Rattle.update_records.proofs.Changed.{field_formed}
use Rattle.entry_documents.proofs.Documents.{a_name, differ}
use Rattle.written_levels.proofs.Standing.{field_levels}
use Rattle.coll_state.specs.Rows.{Document as Fields}
use Rattle.coll_state.specs.Definitions.{name_in, definition_name, text_in as label_in}
use Rattle.history_model.specs.Documents.{options_of, has_field, normal_of, is_key_in, is_key, text_of_value, name_of, is_a_name, is_short_form, is_good_definition}
use Rattle.recorded_entries.specs.Given.{IsPlainDocument}
use Rattle.recorded_entries.specs.Good.{IsGoodDefinition}
use Rattle.entry_model.proofs.Deep.{field_level}

-- ---- the document of a normal form

version_value : Option Value → Value
version_value None = Int (pos 2)
version_value (Some v) = v

other_fields : Fields → Fields
other_fields [] = []
other_fields (f ∷ fs) = if is_one_of placed f.0 then other_fields fs else f ∷ other_fields fs

normal_fields : Fields → List ℕ → Fields → Fields
normal_fields k nm d = (codes "v", version_value (lookup (codes "v") d)) ∷ (codes "key", Object k) ∷ (codes "name", Str nm) ∷ other_fields d

pub tree_object : (fs : Fields) → tree_of (Object fs) ≡ trees.Object (fields_of fs)
tree_object fs = ap tree_of (sym (values.rolls-Object fs)) ∙ fold-roll-Value Tree tree_step (Value-F.Object fs)

pub tree_str : (t : List ℕ) → tree_of (Str t) ≡ trees.Str t
tree_str t = ap tree_of (sym (values.rolls-Str t)) ∙ fold-roll-Value Tree tree_step (Value-F.Str t)

two_is : decimal 2 ≡ codes "2"
two_is = sym (digits-is_decimal 2 (omega arith)) ∙ digits-one 2 (omega arith)

tree_two : wrapped (codes "$numberInt") (trees.Str (codes "2")) ≡ tree_of (Int (pos 2))
unfolding int_tree
tree_two =
    ap (λ (t : List ℕ). wrapped (codes "$numberInt") (trees.Str t)) (sym two_is)
    ∙ sym (ap tree_of (sym (values.rolls-Int (pos 2))) ∙ fold-roll-Value Tree tree_step (Value-F.Int (pos 2)))

pub lookup_trees : (k : List ℕ) (fs : Fields) → lookup k (fields_of fs) ≡ option_map tree_of (lookup k fs)
lookup_trees k [] = refl
lookup_trees k (f ∷ fs) = by (bytes_eq f.0 k) (lookup_trees k fs)
  where
    by : (b : Bool) → lookup k (fields_of fs) ≡ option_map tree_of (lookup k fs) → (if b then Some (tree_of f.1) else lookup k (fields_of fs)) ≡ option_map tree_of (if b then Some f.1 else lookup k fs)
    by true h = refl
    by false h = h

others_are : (fs : Fields) → others placed (fields_of fs) ≡ fields_of (other_fields fs)
unfolding other_fields
others_are [] = refl
others_are (f ∷ fs) = by (is_one_of placed f.0) (others_are fs)
  where
    by : (b : Bool) → others placed (fields_of fs) ≡ fields_of (other_fields fs) →
        (if b then others placed (fields_of fs) else (f.0, tree_of f.1) ∷ others placed (fields_of fs)) ≡ fields_of (if b then other_fields fs else f ∷ other_fields fs)
    by true h = h
    by false h = ap (λ (z : Members). (f.0, tree_of f.1) ∷ z) h

version_is : (o : Option Value) → version (option_map tree_of o) ≡ tree_of (version_value o)
unfolding version_value
version_is None = tree_two
version_is (Some v) = refl

arranged_is : (k : Fields) (nm : List ℕ) (d : Fields) → arranged (fields_of k) nm (fields_of d) ≡ fields_of (normal_fields k nm d)
unfolding normal_fields
arranged_is k nm d =
    let v : version (lookup (codes "v") (fields_of d)) ≡ tree_of (version_value (lookup (codes "v") d)) = ap version (lookup_trees (codes "v") d) ∙ version_is (lookup (codes "v") d) in
    let o = others_are d in
    let key : trees.Object (fields_of k) ≡ tree_of (Object k) = sym (tree_object k) in
    let name : trees.Str nm ≡ tree_of (Str nm) = sym (tree_str nm) in
    λ i. (codes "v", v i) ∷ (codes "key", key i) ∷ (codes "name", name i) ∷ o i

wrapped_is : (fs : Fields) → AreWellFormedFields fs → wrapped_fields (fields_of fs) ≡ fields_of fs
wrapped_is [] h = refl
wrapped_is (f ∷ fs) h = let a = trees_wrapped f.1 h.0 in let b = wrapped_is fs h.1 in λ i. (f.0, a i) ∷ b i

-- ---- what of it is well-formed

other_formed : (fs : Fields) → AreWellFormedFields fs → AreWellFormedFields (other_fields fs)
unfolding other_fields
other_formed [] h = tt
other_formed (f ∷ fs) h = by (is_one_of placed f.0) (other_formed fs h.1)
  where
    by : (b : Bool) → AreWellFormedFields (other_fields fs) → AreWellFormedFields (if b then other_fields fs else f ∷ other_fields fs)
    by true r = r
    by false r = (h.0, r)

other_names : (fs : Fields) → AllByRecursion (λ e. IsName e.0) fs → AllByRecursion (λ e. IsName e.0) (other_fields fs)
unfolding other_fields
other_names [] h = tt
other_names (f ∷ fs) h = by (is_one_of placed f.0) (other_names fs h.1)
  where
    by : (b : Bool) → AllByRecursion (λ e. IsName e.0) (other_fields fs) → AllByRecursion (λ e. IsName e.0) (if b then other_fields fs else f ∷ other_fields fs)
    by true r = r
    by false r = (h.0, r)

other_absent : (n : List ℕ) (fs : Fields) → IsAbsent n (names_of fs) → IsAbsent n (names_of (other_fields fs))
unfolding other_fields
other_absent n [] h = tt
other_absent n (f ∷ fs) h = by (is_one_of placed f.0) (other_absent n fs h.1)
  where
    by : (b : Bool) → IsAbsent n (names_of (other_fields fs)) → IsAbsent n (names_of (if b then other_fields fs else f ∷ other_fields fs))
    by true r = r
    by false r = (h.0, r)

other_distinct : (fs : Fields) → AreDistinct (names_of fs) → AreDistinct (names_of (other_fields fs))
unfolding other_fields
other_distinct [] h = tt
other_distinct (f ∷ fs) h = by (is_one_of placed f.0) (other_distinct fs h.1)
  where
    by : (b : Bool) → AreDistinct (names_of (other_fields fs)) → AreDistinct (names_of (if b then other_fields fs else f ∷ other_fields fs))
    by true r = r
    by false r = (other_absent f.0 fs h.0, r)

placed_absent : (n : List ℕ) (fs : Fields) → is_one_of placed n ≡ true → IsAbsent n (names_of (other_fields fs))
unfolding other_fields
placed_absent n [] p = tt
placed_absent n (f ∷ fs) p = by (is_one_of placed f.0) refl (placed_absent n fs p)
  where
    by : (b : Bool) → is_one_of placed f.0 ≡ b → IsAbsent n (names_of (other_fields fs)) → IsAbsent n (names_of (if b then other_fields fs else f ∷ other_fields fs))
    by true q r = r
    by false q r = ((λ e. (let g : is_one_of placed n ≡ is_one_of placed f.0 = ap (is_one_of placed) e in cc)), r)

other_levels : (fs : Fields) → largest (field_levels (other_fields fs)) ≤ largest (field_levels fs)
unfolding other_fields
other_levels [] = omega arith
other_levels (f ∷ fs) = by (is_one_of placed f.0) (other_levels fs)
  where
    by : (b : Bool) → largest (field_levels (other_fields fs)) ≤ largest (field_levels fs) → largest (field_levels (if b then other_fields fs else f ∷ other_fields fs)) ≤ largest (field_levels (f ∷ fs))
    by true h = omega (arith, h)
    by false h = omega (arith, h)

other_lookup : (k : List ℕ) (fs : Fields) → lookup k fs ≡ None → lookup k (other_fields fs) ≡ None
unfolding other_fields
other_lookup k [] e = refl
other_lookup k (f ∷ fs) e = by (is_one_of placed f.0) (bytes_eq f.0 k) refl e (λ g. other_lookup k fs g)
  where
    by : (a b : Bool) → bytes_eq f.0 k ≡ b → (if b then Some f.1 else lookup k fs) ≡ None → (lookup k fs ≡ None → lookup k (other_fields fs) ≡ None) → lookup k (if a then other_fields fs else f ∷ other_fields fs) ≡ None
    by a true q g ih = cc
    by true false q g ih = ih g
    by false false q g ih = ap (λ (b : Bool). if b then Some f.1 else lookup k (other_fields fs)) q ∙ ih g

abbrev PlainFields : Fields → Type 0
PlainFields fs = AllByRecursion (λ e. every-Value IsPlain e.1) fs

other_plain : (fs : Fields) → PlainFields fs → PlainFields (other_fields fs)
unfolding other_fields
other_plain [] h = tt
other_plain (f ∷ fs) h = by (is_one_of placed f.0) (other_plain fs h.1)
  where
    by : (b : Bool) → PlainFields (other_fields fs) → PlainFields (if b then other_fields fs else f ∷ other_fields fs)
    by true r = r
    by false r = (h.0, r)

other_unwrapped : (fs : Fields) → has_wrapper fs ≡ false → has_wrapper (other_fields fs) ≡ false
unfolding other_fields has_wrapper
other_unwrapped [] h = refl
other_unwrapped (f ∷ fs) h =
    let p = or_parts (is_some (wrapper_of f.0)) (list_any (λ e. is_some (wrapper_of e.0)) fs) h in
    by p.0 (is_one_of placed f.0) (other_unwrapped fs p.1)
  where
    by : is_some (wrapper_of f.0) ≡ false → (b : Bool) → list_any (λ e. is_some (wrapper_of e.0)) (other_fields fs) ≡ false → list_any (λ e. is_some (wrapper_of e.0)) (if b then other_fields fs else f ∷ other_fields fs) ≡ false
    by q true r = r
    by q false r = ap (λ (b : Bool). b || list_any (λ e. is_some (wrapper_of e.0)) (other_fields fs)) q ∙ r

normal_unwrapped : (k : Fields) (nm : List ℕ) (d : Fields) → has_wrapper (other_fields d) ≡ false → has_wrapper (normal_fields k nm d) ≡ false
unfolding has_wrapper wrapper_of outermost_names normal_fields
normal_unwrapped k nm d h = h

plain_field : (fs : Fields) (k : List ℕ) (v : Value) → PlainFields fs → lookup k fs ≡ Some v → every-Value IsPlain v
plain_field [] k v h e = cc
plain_field (f ∷ fs) k v h e = by (bytes_eq f.0 k) e (plain_field fs k v h.1)
  where
    by : (b : Bool) → (if b then Some f.1 else lookup k fs) ≡ Some v → (lookup k fs ≡ Some v → every-Value IsPlain v) → every-Value IsPlain v
    by true g ih = (let q : f.1 ≡ v = cc in subst (every-Value IsPlain) q h.0)
    by false g ih = ih g

HeldPlain : Type 0
HeldPlain = (v : Value) × every-Value IsPlain v

on_plain : List ℕ × HeldPlain → List ℕ × Value
unfolding HeldPlain
on_plain e = (e.0, e.1.0)

with_plain : (fs : Fields) → PlainFields fs → (ys : List (List ℕ × HeldPlain)) × (map on_plain ys ≡ fs)
unfolding HeldPlain on_plain
with_plain [] h = ([], refl)
with_plain (f ∷ fs) h = let r = with_plain fs h.1 in ((f.0, (f.1, h.0)) ∷ r.0, ap (λ (l : Fields). f ∷ l) r.1)

plain_object : (fs : Fields) → has_wrapper fs ≡ false → PlainFields fs → every-Value IsPlain (Object fs)
unfolding HeldPlain on_plain
plain_object fs w h =
    let r = with_plain fs h in
    subst (every-Value IsPlain) (values.rolls-Object fs) (every_made-Value IsPlain (Value-F.Object fs) (Value-F.Object r.0) (ap (λ (l : Fields). Value-F.Object l) r.1) w)

plain_str : (t : List ℕ) → every-Value IsPlain (Str t)
plain_str t = subst (every-Value IsPlain) (values.rolls-Str t) (every_made-Value IsPlain (Value-F.Str t) (Value-F.Str t) refl tt)

plain_two : every-Value IsPlain (Int (pos 2))
plain_two = subst (every-Value IsPlain) (values.rolls-Int (pos 2)) (every_made-Value IsPlain (Value-F.Int (pos 2)) (Value-F.Int (pos 2)) refl tt)

int_level : levels_in (Int (pos 2)) ≡ 0
unfolding levels_in
int_level = ap levels_in (sym (values.rolls-Int (pos 2))) ∙ fold-roll-Value ℕ levels_step (Value-F.Int (pos 2))

-- ---- the whole

-- what the fields `key` and `name` are
key_object : (o : Option Value) → is_key o ≡ true → (k : Fields) × (o ≡ Some (Object k))
key_object None e = cc
key_object (Some v) e = by (out-Value v) (roll-out-Value v) e
  where
    by : (f : Value-F Value) → roll-Value f ≡ v → is_key_in (fields_in f) ≡ true → (k : Fields) × (Some v ≡ Some (Object k))
    by (Value-F.Object fs) r g = (fs, ap Some (sym r ∙ values.rolls-Object fs))
    by _ r g = cc

name_string : (o : Option Value) (nm : List ℕ) → text_of_value o ≡ Some nm → o ≡ Some (Str nm)
name_string None nm e = cc
name_string (Some v) nm e = by (out-Value v) (roll-out-Value v) e
  where
    by : (f : Value-F Value) → roll-Value f ≡ v → text_in f ≡ Some nm → Some v ≡ Some (Str nm)
    by (Value-F.Str t) r g = (let q : t ≡ nm = cc in ap Some (sym r ∙ (values.rolls-Str t ∙ ap (λ (z : List ℕ). Str z) q)))
    by _ r g = cc

some_name : (o : Option (List ℕ)) → is_a_name o ≡ true → (nm : List ℕ) × (o ≡ Some nm)
some_name None e = cc
some_name (Some nm) e = (nm, refl)

tree_members : (es : Members) → members (trees.Object es) ≡ Some es
unfolding members
tree_members es = ap members_at (trees.outs-Object es)

tree_texts : (t : List ℕ) → text (trees.Str t) ≡ Some t
unfolding text
tree_texts t = ap text_at (trees.outs-Str t)

normal_is : (d k : Fields) (nm : List ℕ) → lookup (codes "key") d ≡ Some (Object k) → lookup (codes "name") d ≡ Some (Str nm) → AreWellFormedFields (normal_fields k nm d) → normal_of d ≡ Some (tree_of (Object (normal_fields k nm d)))
unfolding normal_of normal
normal_is d k nm e f w =
    let es = fields_of d in
    let key : members_in (lookup (codes "key") es) ≡ Some (fields_of k) = ap members_in (lookup_trees (codes "key") d ∙ ap (option_map tree_of) e) ∙ (ap members (tree_object k) ∙ tree_members (fields_of k)) in
    let name : tree_text (lookup (codes "name") es) ≡ Some nm = ap tree_text (lookup_trees (codes "name") d ∙ ap (option_map tree_of) f) ∙ (ap text (tree_str nm) ∙ tree_texts nm) in
    ap (λ (t : Tree). normal_in (members t)) (tree_object d)
    ∙ (ap normal_in (tree_members es)
    ∙ ((λ i. normal_by (key i) (name i) es)
    ∙ (ap (λ (z : Members). Some (trees.Object (wrapped_fields z))) (arranged_is k nm d)
    ∙ (ap (λ (z : Members). Some (trees.Object z)) (wrapped_is (normal_fields k nm d) w)
    ∙ ap Some (sym (tree_object (normal_fields k nm d)))))))

version_formed : (d : Fields) → AreWellFormedFields d → IsWellFormed (version_value (lookup (codes "v") d))
unfolding version_value
version_formed d w = by (lookup (codes "v") d) refl
  where
    by : (o : Option Value) → lookup (codes "v") d ≡ o → IsWellFormed (version_value o)
    by None e = formed_int (pos 2) (omega arith)
    by (Some v) e = field_formed d (codes "v") v w e

version_plain : (d : Fields) → PlainFields d → every-Value IsPlain (version_value (lookup (codes "v") d))
unfolding version_value
version_plain d w = by (lookup (codes "v") d) refl
  where
    by : (o : Option Value) → lookup (codes "v") d ≡ o → every-Value IsPlain (version_value o)
    by None e = plain_two
    by (Some v) e = plain_field d (codes "v") v w e

version_level : (d : Fields) → levels_in (version_value (lookup (codes "v") d)) ≤ largest (field_levels d)
unfolding version_value
version_level d = by (lookup (codes "v") d) refl
  where
    by : (o : Option Value) → lookup (codes "v") d ≡ o → levels_in (version_value o) ≤ largest (field_levels d)
    by None e = omega (arith, int_level)
    by (Some v) e = field_level d (codes "v") v e

name_is : (k : Fields) (nm : List ℕ) (d : Fields) → definition_name (tree_of (Object (normal_fields k nm d))) ≡ nm
unfolding definition_name normal_fields
name_is k nm d =
    ap definition_name (tree_object (normal_fields k nm d))
    ∙ (ap name_in (trees.outs-Object (fields_of (normal_fields k nm d)))
    ∙ (ap (λ (t : Tree). label_in (out-Tree t)) (tree_str nm) ∙ ap label_in (trees.outs-Str nm)))

form_once : (d : Fields) (t : Tree) → normal_of d ≡ Some t → normal t ≡ Some t
unfolding normal_of
form_once d t e = normal_once (tree_of (Object d)) t e

pub at_most : (a b : ℕ) → nat_le a b ≡ true → a ≤ b
at_most a b e = grind (arith, common_steps)

pub is_false : (b : Bool) → not b ≡ true → b ≡ false
is_false true e = cc
is_false false e = refl

pub is_none : {A : Type 0} (o : Option A) → is_some o ≡ false → o ≡ None
is_none None e = refl
is_none (Some x) e = cc

pub good_definition : (d : Fields) (t : Tree) → IsWellFormedDocument d → IsPlainDocument d → is_good_definition d ≡ true → normal_of d ≡ Some t → (name_of d ≡ Some (codes "_id_") → ⊥) → IsGoodDefinition t
unfolding is_good_definition normal_fields options_of
good_definition d t w p g e other =
    let rest = is_short_form (normal_of d) && nat_le (levels_of d) 100 in
    let a = and_parts (is_key (lookup (codes "key") d) && is_a_name (name_of d)) (not (has_field (codes "createIndexes") d || has_field (codes "ns") d) && rest) g in
    let b = and_parts (is_key (lookup (codes "key") d)) (is_a_name (name_of d)) a.0 in
    let c = and_parts (not (has_field (codes "createIndexes") d || has_field (codes "ns") d)) rest a.1 in
    let l = and_parts (is_short_form (normal_of d)) (nat_le (levels_of d) 100) c.1 in
    let absent = or_parts (has_field (codes "createIndexes") d) (has_field (codes "ns") d) (is_false (has_field (codes "createIndexes") d || has_field (codes "ns") d) c.0) in
    let k = key_object (lookup (codes "key") d) b.0 in
    let nm = some_name (name_of d) b.1 in
    let str = name_string (lookup (codes "name") d) nm.0 nm.1 in
    let nf = normal_fields k.0 nm.0 d in
    let q = subst (every-Value IsPlain) (sym (values.rolls-Object d)) p in
    let unwrapped = here IsPlain (Value-F.Object d) q in
    let plain = held IsPlain (Value-F.Object d) q in
    let low = at_most (levels_of d) 100 l.1 in
    let fields_formed : AreWellFormedFields nf = (version_formed d w.1, (field_formed d (codes "key") (Object k.0) w.1 k.1, (field_formed d (codes "name") (Str nm.0) w.1 str, other_formed d w.1))) in
    let is : t ≡ tree_of (Object nf) = same t (tree_of (Object nf)) (sym e ∙ normal_is d k.0 nm.0 k.1 str fields_formed) in
    let named : definition_name t ≡ nm.0 = ap definition_name is ∙ name_is k.0 nm.0 d in
    record {
      fields = nf;
      tree = is;
      formed = (
        (
          (
            (differ _ _ refl, (differ _ _ refl, placed_absent (codes "v") d refl)),
            ((differ _ _ refl, placed_absent (codes "key") d refl), (placed_absent (codes "name") d refl, other_distinct d w.0.0)),
          ),
          (a_name _ refl refl, (a_name _ refl refl, (a_name _ refl refl, other_names d w.0.1))),
        ),
        fields_formed,
      );
      plain = plain_object nf (normal_unwrapped k.0 nm.0 d (other_unwrapped d unwrapped)) (version_plain d plain, (plain_field d (codes "key") (Object k.0) plain k.1, (plain_str nm.0, other_plain d plain)));
      normal_form = form_once d t e;
      key = (k.0, refl);
      name = ap (λ (z : List ℕ). Some (Str z)) (sym named);
      other = λ x. other (nm.1 ∙ ap Some (sym named ∙ x));
      no_create = other_lookup (codes "createIndexes") d (is_none (lookup (codes "createIndexes") d) absent.0);
      short = at_most (length (text_of t)) 8192 (subst (λ (o : Option Tree). is_short_form o ≡ true) e l.0);
      shallow = omega (arith, low, version_level d, field_level d (codes "key") (Object k.0) k.1, levels-str nm.0, other_levels d);
    }
  where
    same : (x y : Tree) → Some x ≡ Some y → x ≡ y
    same x y h = cc
