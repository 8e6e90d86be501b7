-- Documents that are equal up to the order of fields have the same branches, with the values in the order of names.
use Rattle.std.proofs.Common.{◌≡◌, ℕ, List, [], ◌∷◌, ◌++◌, map, Bool, cond, refl, sym, ap, ◌∙◌, Option, Some, None}
use Rattle.std.specs.Prelude.{option_map, filter, ◌&&◌}
use Rattle.std.specs.List.{flat_map, list_all}
use Rattle.bson_value.specs.declared.value.Value.{Value, Value-F, Object, out-Value, out-roll-Value, fold_out-Value, map-Value}
use Rattle.containers.specs.Entries.{lookup}
use Rattle.bson_value.specs.Alike.{by_name, ordered_step, ordered, AreAlike}
use Rattle.bson_value.proofs.Alike.{lookup-by_name, lookup-map}
use Rattle.index_keys.specs.Branches.{Path, Branch, Missing, Empty, Given, end_in, from_field, from_one, on_way, branches, is_array, in_field, array_on_way, meets_array}
use Rattle.index_keys.specs.Keys.{Fields, Cell, Of, EmptyArray, cell, cells, tuples, is_missing, has_none, first_two}
use Rattle.index_keys.specs.Laws.{AlikeKeys, AlikeParallel}

-- the branch of the ordered value
abbrev in_order : Branch → Branch
in_order Missing = Missing
in_order Empty = Empty
in_order (Given v) = Given (ordered v)

-- one level of the ordered value
abbrev level : Value-F Value → Value-F Value
level f = out-Value (ordered_step (map-Value Value Value ordered f))

out-ordered : (v : Value) → out-Value (ordered v) ≡ level (out-Value v)
unfolding ordered
out-ordered v = ap out-Value (fold_out-Value Value ordered_step v)

under_name : (k : List ℕ) (fs : List (List ℕ × Value)) → lookup k (by_name (map (λ e. (e.0, ordered e.1)) fs)) ≡ option_map ordered (lookup k fs)
under_name k fs = lookup-by_name k _ ∙ lookup-map ordered k fs

given_map : (vs : List Value) → map Given (map ordered vs) ≡ map in_order (map Given vs)
given_map [] = refl
given_map (v ∷ vs) = ap (λ (l : List Branch). Given (ordered v) ∷ l) (given_map vs)

end_ordered : (v : Value) (f : Value-F Value) → end_in (ordered v) (level f) ≡ map in_order (end_in v f)
end_ordered v (Value-F.Object fs) = ap (end_in (ordered v)) (out-roll-Value _)
end_ordered v (Value-F.ScopedCode t fs) = ap (end_in (ordered v)) (out-roll-Value _)
end_ordered v (Value-F.Array []) = ap (end_in (ordered v)) (out-roll-Value _)
end_ordered v (Value-F.Array (w ∷ ws)) = ap (end_in (ordered v)) (out-roll-Value _) ∙ given_map (w ∷ ws)
end_ordered v _ = ap (end_in (ordered v)) (out-roll-Value _)

-- a way on that takes the ordered value to the ordered branches
abbrev Orders : (Value → List Branch) → Type 0
Orders go = (v : Value) → go (ordered v) ≡ map in_order (go v)

field_ordered : (go : Value → List Branch) → Orders go → (o : Option Value) → from_field go (option_map ordered o) ≡ map in_order (from_field go o)
field_ordered go h None = refl
field_ordered go h (Some v) = h v

element_ordered : (go : Value → List Branch) → Orders go → (k : List ℕ) (f : Value-F Value) → from_one go k (level f) ≡ map in_order (from_one go k f)
element_ordered go h k (Value-F.Object fs) = ap (from_one go k) (out-roll-Value _) ∙ (ap (from_field go) (under_name k fs) ∙ field_ordered go h (lookup k fs))
element_ordered go h k (Value-F.ScopedCode t fs) = ap (from_one go k) (out-roll-Value _)
element_ordered go h k (Value-F.Array vs) = ap (from_one go k) (out-roll-Value _)
element_ordered go h k _ = ap (from_one go k) (out-roll-Value _)

joined : (a b : List Branch) → map in_order a ++ map in_order b ≡ map in_order (a ++ b)
joined [] b = refl
joined (x ∷ a) b = ap (λ (l : List Branch). in_order x ∷ l) (joined a b)

elements_ordered : (go : Value → List Branch) → Orders go → (k : List ℕ) (vs : List Value) →
    flat_map (λ v. from_one go k (out-Value v)) (map ordered vs) ≡ map in_order (flat_map (λ v. from_one go k (out-Value v)) vs)
elements_ordered go h k [] = refl
elements_ordered go h k (v ∷ vs) =
    let first : from_one go k (out-Value (ordered v)) ≡ map in_order (from_one go k (out-Value v)) = ap (from_one go k) (out-ordered v) ∙ element_ordered go h k (out-Value v) in
    (λ i. first i ++ elements_ordered go h k vs i) ∙ joined (from_one go k (out-Value v)) _

way_ordered : (go : Value → List Branch) → Orders go → (k : List ℕ) (f : Value-F Value) → on_way go k (level f) ≡ map in_order (on_way go k f)
way_ordered go h k (Value-F.Object fs) = ap (on_way go k) (out-roll-Value _) ∙ (ap (from_field go) (under_name k fs) ∙ field_ordered go h (lookup k fs))
way_ordered go h k (Value-F.ScopedCode t fs) = ap (on_way go k) (out-roll-Value _)
way_ordered go h k (Value-F.Array []) = ap (on_way go k) (out-roll-Value _)
way_ordered go h k (Value-F.Array (w ∷ ws)) = ap (on_way go k) (out-roll-Value _) ∙ elements_ordered go h k (w ∷ ws)
way_ordered go h k _ = ap (on_way go k) (out-roll-Value _)

branches_ordered : (p : Path) → Orders (branches p)
unfolding branches
branches_ordered [] v = ap (end_in (ordered v)) (out-ordered v) ∙ end_ordered v (out-Value v)
branches_ordered (k ∷ p) v = ap (on_way (branches p) k) (out-ordered v) ∙ way_ordered (branches p) (branches_ordered p) k (out-Value v)

-- ---- arrays on the way and at the end

abbrev Stays : (Value → Bool) → Type 0
Stays go = (v : Value) → go (ordered v) ≡ go v

array_ordered : (f : Value-F Value) → is_array (level f) ≡ is_array f
array_ordered (Value-F.Object fs) = ap is_array (out-roll-Value _)
array_ordered (Value-F.ScopedCode t fs) = ap is_array (out-roll-Value _)
array_ordered (Value-F.Array vs) = ap is_array (out-roll-Value _)
array_ordered _ = ap is_array (out-roll-Value _)

in_field_ordered : (go : Value → Bool) → Stays go → (o : Option Value) → in_field go (option_map ordered o) ≡ in_field go o
in_field_ordered go h None = refl
in_field_ordered go h (Some v) = h v

array_way_ordered : (go : Value → Bool) → Stays go → (k : List ℕ) (f : Value-F Value) → array_on_way go k (level f) ≡ array_on_way go k f
array_way_ordered go h k (Value-F.Object fs) = ap (array_on_way go k) (out-roll-Value _) ∙ (ap (in_field go) (under_name k fs) ∙ in_field_ordered go h (lookup k fs))
array_way_ordered go h k (Value-F.ScopedCode t fs) = ap (array_on_way go k) (out-roll-Value _)
array_way_ordered go h k (Value-F.Array vs) = ap (array_on_way go k) (out-roll-Value _)
array_way_ordered go h k _ = ap (array_on_way go k) (out-roll-Value _)

meets_ordered : (p : Path) → Stays (meets_array p)
unfolding meets_array
meets_ordered [] v = ap is_array (out-ordered v) ∙ array_ordered (out-Value v)
meets_ordered (k ∷ p) v = ap (array_on_way (meets_array p) k) (out-ordered v) ∙ array_way_ordered (meets_array p) (meets_ordered p) k (out-Value v)

-- ---- keys

-- the cell of a branch of an ordered value
abbrev plain : Branch → Cell
plain Missing = cell Missing
plain Empty = EmptyArray
plain (Given v) = Of v

plain_in_order : (b : Branch) → plain (in_order b) ≡ cell b
plain_in_order Missing = refl
plain_in_order Empty = refl
plain_in_order (Given v) = refl

plain_all : (bs : List Branch) → map plain (map in_order bs) ≡ map cell bs
plain_all [] = refl
plain_all (b ∷ bs) = λ i. plain_in_order b i ∷ plain_all bs i

cells_by : (p : Path) (v : Value) → map cell (branches p v) ≡ map plain (branches p (ordered v))
cells_by p v = sym (plain_all (branches p v)) ∙ ap (map plain) (sym (branches_ordered p v))

missing_in_order : (b : Branch) → is_missing (in_order b) ≡ is_missing b
missing_in_order Missing = refl
missing_in_order Empty = refl
missing_in_order (Given v) = refl

missing_all : (bs : List Branch) → list_all is_missing (map in_order bs) ≡ list_all is_missing bs
missing_all [] = refl
missing_all (b ∷ bs) = λ i. missing_in_order b i && missing_all bs i

missing_by : (p : Path) (v : Value) → list_all is_missing (branches p v) ≡ list_all is_missing (branches p (ordered v))
missing_by p v = sym (missing_all (branches p v)) ∙ ap (list_all is_missing) (sym (branches_ordered p v))

module _ (a b : Fields) (e : AreAlike a b) where
  same_cells : (ps : List Path) → cells ps a ≡ cells ps b
  same_cells [] = refl
  same_cells (p ∷ ps) =
      let here : map cell (branches p (Object a)) ≡ map cell (branches p (Object b)) = cells_by p (Object a) ∙ (ap (λ (v : Value). map plain (branches p v)) e ∙ sym (cells_by p (Object b))) in
      λ i. here i ∷ same_cells ps i

  same_none : (ps : List Path) → has_none ps a ≡ has_none ps b
  same_none [] = refl
  same_none (p ∷ ps) =
      let here : list_all is_missing (branches p (Object a)) ≡ list_all is_missing (branches p (Object b)) = missing_by p (Object a) ∙ (ap (λ (v : Value). list_all is_missing (branches p v)) e ∙ sym (missing_by p (Object b))) in
      λ i. here i && same_none ps i

  same_meeting : (ps : List Path) → filter (λ p. meets_array p (Object a)) ps ≡ filter (λ p. meets_array p (Object b)) ps
  same_meeting [] = refl
  same_meeting (p ∷ ps) =
      let here : meets_array p (Object a) ≡ meets_array p (Object b) = sym (meets_ordered p (Object a)) ∙ (ap (meets_array p) e ∙ meets_ordered p (Object b)) in
      λ i. cond (here i) (p ∷ same_meeting ps i) (same_meeting ps i)

pub alike_keys : AlikeKeys
alike_keys plan a b e = λ i. cond (plan.sparse && same_none a b e plan.paths i) [] (tuples (same_cells a b e plan.paths i))

pub alike_parallel : AlikeParallel
alike_parallel plan a b e = ap first_two (same_meeting a b e plan.paths)
