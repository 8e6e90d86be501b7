-- Where a path leads from documents, arrays and other values.
use Rattle.std.proofs.Common.{◌≡◌, ℕ, ◌<◌, ◌≤◌, ◌-◌, suc, zero, List, [], ◌∷◌, ◌++◌, Bool, true, false, refl, sym, ap, ◌∙◌, subst, arith, Option, Some, None, append_assoc, append-nil, length}
use Rattle.std.specs.Prelude.{nat_lt}
use Rattle.std.proofs.lemmas.Bool.{cases_Bool}
use Rattle.std.proofs.lemmas.Grind.{common_steps}
use Rattle.bson_value.specs.declared.value.Value.{Value, Value-F, Object, Array, out-Value}
use Rattle.bson_value.specs.declared.value.Value.TheVariants.{outs-Object, outs-Array}
use Rattle.bson_value.specs.Digits.{digits, index_of}
use Rattle.bson_value.specs.Place.{Shape, a_leaf, an_array, an_object, a_code, shape, child, nth, at_index}
use Rattle.bson_value.proofs.Digits.{index_of-digits}
use Rattle.containers.specs.Entries.{lookup}
use Rattle.doc_path.specs.declared.parts.Part.{Part}
use Rattle.doc_path.specs.declared.parts.Part.TheVariants.{Name as name, Index as index}
use Rattle.doc_path.specs.declared.parts.Rule.TheVariants.{V2}
use Rattle.doc_path.specs.Rules.{taken_by}
use Rattle.doc_path.specs.Touch.{key_of, limit, small}
use Rattle.doc_path.proofs.Steps.{shape-object, shape-array, other_takes}
use Rattle.doc_path.proofs.Places.{child-object, child-array}
use Rattle.update_model.specs.Conflicts.{Path}
use Rattle.update_model.specs.Located.{Located, There, Missing, Blocked, part_in, part_at, size_in, size, within, further, located_under, located_at, located}
use Rattle.update_ops.specs.Sites.{behind}

size-object : (fs : List (List ℕ × Value)) → size (Object fs) ≡ 0
unfolding size
size-object fs = ap size_in (outs-Object fs)

pub size-array : (vs : List Value) → size (Array vs) ≡ length vs
unfolding size
size-array vs = ap size_in (outs-Array vs)

-- ---- a document

part-object : (k : List ℕ) (fs : List (List ℕ × Value)) → part_at k (Object fs) ≡ Some (name k)
part-object k fs = ap (part_in k (index_of k)) (shape-object fs)

pub field_located : (k : List ℕ) (ks : Path) (fs : List (List ℕ × Value)) (o : Option Value) → lookup k fs ≡ o → located (k ∷ ks) (Object fs) ≡ located_under (further ks (located ks)) ks (Object fs) (name k) o
field_located k ks fs o e =
    ap (located_at (further ks (located ks)) ks (Object fs)) (part-object k fs)
    ∙ ap (located_under (further ks (located ks)) ks (Object fs) (name k)) (child-object fs k ∙ e)

pub no_field : (k : List ℕ) (ks : Path) (fs : List (List ℕ × Value)) → lookup k fs ≡ None → located (k ∷ ks) (Object fs) ≡ Missing [] (name k) 0 ks
no_field k ks fs e = field_located k ks fs None e ∙ ap (λ (n : ℕ). Missing [] (name k) n ks) (size-object fs)

-- ---- an array

part-array : (k : List ℕ) (vs : List Value) (n : ℕ) → index_of k ≡ Some n → n < limit → part_at k (Array vs) ≡ Some (index n)
part-array k vs n e l = (λ i. part_in k (e i) (shape-array vs i)) ∙ (let f : nat_lt n limit ≡ true = grind (arith, common_steps) in rw f refl)

pub element_located : (k : List ℕ) (ks : Path) (vs : List Value) (n : ℕ) (o : Option Value) → index_of k ≡ Some n → n < limit → nth vs n ≡ o →
    located (k ∷ ks) (Array vs) ≡ located_under (further ks (located ks)) ks (Array vs) (index n) o
element_located k ks vs n o i l e =
    ap (located_at (further ks (located ks)) ks (Array vs)) (part-array k vs n i l)
    ∙ ap (located_under (further ks (located ks)) ks (Array vs) (index n)) (child-array vs (digits n) ∙ (ap (at_index vs) (index_of-digits n) ∙ e))

pub no_element : (k : List ℕ) (ks : Path) (vs : List Value) (n : ℕ) → index_of k ≡ Some n → n < limit → nth vs n ≡ None → located (k ∷ ks) (Array vs) ≡ Missing [] (index n) (length vs) ks
no_element k ks vs n i l e = element_located k ks vs n None i l e ∙ ap (λ (m : ℕ). Missing [] (index n) m ks) (size-array vs)

part_none : (k : List ℕ) (o : Option ℕ) → small o ≡ false → part_in k o an_array ≡ None
part_none k None e = refl
part_none k (Some n) e = rw e refl

pub no_index_located : (k : List ℕ) (ks : Path) (vs : List Value) → small (index_of k) ≡ false → located (k ∷ ks) (Array vs) ≡ Blocked
no_index_located k ks vs e = ap (located_at (further ks (located ks)) ks (Array vs)) (ap (part_in k (index_of k)) (shape-array vs) ∙ part_none k (index_of k) e)

-- ---- another value

part_off : (k : List ℕ) (o : Option ℕ) (s : Shape) → taken_by V2 (name k) s ≡ false → taken_by V2 (index 0) s ≡ false → part_in k o s ≡ None
part_off k o an_object a b = cc
part_off k o an_array a b = cc
part_off k o (a_leaf c) a b = refl
part_off k o (a_code t) a b = refl

pub other_located : (k : List ℕ) (ks : Path) (v : Value) → ((fs : List (List ℕ × Value)) → v ≡ Object fs → ⊥) → ((vs : List Value) → v ≡ Array vs → ⊥) → located (k ∷ ks) v ≡ Blocked
other_located k ks v a b = ap (located_at (further ks (located ks)) ks v) (part_off k (index_of k) (shape v) (other_takes v V2 (name k) a b) (other_takes v V2 (index 0) a b))

-- ---- behind other parts

pub behind-within : (ws : List Part) (p : Part) (l : Located) → behind ws (within p l) ≡ behind (ws ++ (p ∷ [])) l
behind-within ws p (There us q c) = ap (λ (z : List Part). There z q c) (sym (append_assoc ws (p ∷ []) us))
behind-within ws p (Missing us q n ks) = ap (λ (z : List Part). Missing z q n ks) (sym (append_assoc ws (p ∷ []) us))
behind-within ws p Blocked = refl
