-- The branches of a path by what stands first on it.
use Rattle.std.proofs.Common.{◌≡◌, ℕ, List, [], ◌∷◌, Bool, true, false, refl, sym, ap, ◌∙◌, Option, Some, None, is_some, option_map, length, ◌≤◌, arith}
use Rattle.bson_value.specs.declared.value.Value.{Value, Value-F, Object, out-Value}
use Rattle.bson_value.specs.declared.value.Value.TheVariants.{outs-Object}
use Rattle.containers.specs.Entries.{lookup}
use Rattle.bson_view.specs.HeldWalk.{items_in, fields_in}
use Rattle.bson_view.specs.Paths.{value_under}
use Rattle.index_keys.specs.Branches.{Path, Branch, Given, elements, end_in, from_field, from_one, from_each, on_way, branches, is_array, in_field, array_on_way, meets_array}

end_some_in : (v : Value) (f : Value-F Value) (ws : List Value) → items_in f ≡ Some ws → end_in v f ≡ elements ws
end_some_in v (Value-F.Array vs) ws e = let s : vs ≡ ws = cc in ap elements s
end_some_in v (Value-F.Object fs) ws e = cc
end_some_in v (Value-F.ScopedCode t fs) ws e = cc
end_some_in v _ ws e = cc

pub end_some : (v : Value) (ws : List Value) → items_in (out-Value v) ≡ Some ws → branches [] v ≡ elements ws
unfolding branches
end_some v ws e = end_some_in v (out-Value v) ws e

end_none_in : (v : Value) (f : Value-F Value) → items_in f ≡ None → end_in v f ≡ Given v ∷ []
end_none_in v (Value-F.Array vs) e = cc
end_none_in v (Value-F.Object fs) e = refl
end_none_in v (Value-F.ScopedCode t fs) e = refl
end_none_in v _ e = refl

pub end_none : (v : Value) → items_in (out-Value v) ≡ None → branches [] v ≡ Given v ∷ []
unfolding branches
end_none v e = end_none_in v (out-Value v) e

way_some_in : (go : Value → List Branch) (k : List ℕ) (f : Value-F Value) (ws : List Value) → items_in f ≡ Some ws → on_way go k f ≡ from_each go k ws
way_some_in go k (Value-F.Array vs) ws e = let s : vs ≡ ws = cc in ap (from_each go k) s
way_some_in go k (Value-F.Object fs) ws e = cc
way_some_in go k (Value-F.ScopedCode t fs) ws e = cc
way_some_in go k _ ws e = cc

pub way_some : (k : List ℕ) (p : Path) (v : Value) (ws : List Value) → items_in (out-Value v) ≡ Some ws → branches (k ∷ p) v ≡ from_each (branches p) k ws
unfolding branches
way_some k p v ws e = way_some_in (branches p) k (out-Value v) ws e

way_none_in : (go : Value → List Branch) (k : List ℕ) (f : Value-F Value) → items_in f ≡ None → on_way go k f ≡ from_one go k f
way_none_in go k (Value-F.Array vs) e = cc
way_none_in go k (Value-F.Object fs) e = refl
way_none_in go k (Value-F.ScopedCode t fs) e = refl
way_none_in go k _ e = refl

pub way_none : (k : List ℕ) (p : Path) (v : Value) → items_in (out-Value v) ≡ None → branches (k ∷ p) v ≡ from_one (branches p) k (out-Value v)
unfolding branches
way_none k p v e = way_none_in (branches p) k (out-Value v) e

-- ---- arrays

pub mapped_some : {A B : Type 0} (h : A → B) (o : Option A) → is_some (option_map h o) ≡ is_some o
mapped_some h None = refl
mapped_some h (Some x) = refl

abbrev is_items : Value-F Value → Bool
is_items f = is_some (items_in f)

array_in : (f : Value-F Value) → is_array f ≡ is_items f
array_in (Value-F.Array vs) = refl
array_in (Value-F.Object fs) = refl
array_in (Value-F.ScopedCode t fs) = refl
array_in _ = refl

way_array : (go : Value → Bool) (k : List ℕ) (f : Value-F Value) → is_items f ≡ true → array_on_way go k f ≡ true
way_array go k (Value-F.Array vs) e = refl
way_array go k (Value-F.Object fs) e = cc
way_array go k (Value-F.ScopedCode t fs) e = cc
way_array go k _ e = cc

pub meets_here : (p : Path) (v : Value) → is_some (items_in (out-Value v)) ≡ true → true ≡ meets_array p v
unfolding meets_array
meets_here [] v e = sym (array_in (out-Value v) ∙ e)
meets_here (k ∷ p) v e = sym (way_array (meets_array p) k (out-Value v) e)

pub no_array : (p : Path) (v : Value) → length p ≡ 0 → is_some (items_in (out-Value v)) ≡ false → false ≡ meets_array p v
unfolding meets_array
no_array [] v is e = sym (array_in (out-Value v) ∙ e)
no_array (k ∷ p) v is e = absurd (omega arith)

on_under : (go : Value → Bool) (k : List ℕ) (f : Value-F Value) → is_items f ≡ false → is_some (fields_in f) ≡ true → array_on_way go k f ≡ in_field go (value_under f k)
on_under go k (Value-F.Object fs) e h = refl
on_under go k (Value-F.Array vs) e h = cc
on_under go k (Value-F.ScopedCode t fs) e h = cc
on_under go k _ e h = cc

pub meets_under : (p q : Path) (k : List ℕ) (v : Value) (o : Option Value) → p ≡ k ∷ q → is_some (items_in (out-Value v)) ≡ false → is_some (fields_in (out-Value v)) ≡ true →
    value_under (out-Value v) k ≡ o → in_field (meets_array q) o ≡ meets_array p v
unfolding meets_array
meets_under [] q k v o is e h u = cc
meets_under (j ∷ p) q k v o is e h u =
    let a : j ≡ k = cc in
    let b : p ≡ q = cc in
    sym ((λ i. array_on_way (meets_array (b i)) (a i) (out-Value v)) ∙ (on_under (meets_array q) k (out-Value v) e h ∙ ap (in_field (meets_array q)) u))

no_fields : (go : Value → Bool) (k : List ℕ) (f : Value-F Value) → is_items f ≡ false → fields_in f ≡ None → array_on_way go k f ≡ false
no_fields go k (Value-F.Object fs) e h = cc
no_fields go k (Value-F.Array vs) e h = cc
no_fields go k (Value-F.ScopedCode t fs) e h = refl
no_fields go k _ e h = refl

pub meets_scalar : (p q : Path) (k : List ℕ) (v : Value) → p ≡ k ∷ q → is_some (items_in (out-Value v)) ≡ false → fields_in (out-Value v) ≡ None → false ≡ meets_array p v
unfolding meets_array
meets_scalar [] q k v is e h = cc
meets_scalar (j ∷ p) q k v is e h = sym (no_fields (meets_array p) j (out-Value v) e h)

-- ---- documents

pub from_document : (k : List ℕ) (p : Path) (fs : List (List ℕ × Value)) → branches (k ∷ p) (Object fs) ≡ from_field (branches p) (lookup k fs)
unfolding branches
from_document k p fs = ap (on_way (branches p) k) (outs-Object fs)

pub meets_document : (k : List ℕ) (p : Path) (fs : List (List ℕ × Value)) → meets_array (k ∷ p) (Object fs) ≡ in_field (meets_array p) (lookup k fs)
unfolding meets_array
meets_document k p fs = ap (array_on_way (meets_array p) k) (outs-Object fs)

pub some_name : (p : Path) → (p ≡ [] → ⊥) → 1 ≤ length p
some_name [] h = absurd (h refl)
some_name (k ∷ p) h = omega arith

pub no_name_left : (p : Path) → length p ≡ 0 → (p ≡ [] → ⊥) → ⊥
no_name_left [] e h = h refl
no_name_left (k ∷ p) e h = omega arith
