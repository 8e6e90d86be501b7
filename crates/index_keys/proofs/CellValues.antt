-- A branch as a value, whose fields then come into the order of their names, is its cell.
use Rattle.std.proofs.Common.{◌≡◌, ℕ, List, [], ◌∷◌, map, refl, ap, ◌∙◌}
use Rattle.std.specs.Cmp.Lexicographic.{nat_list_cmp_total}
use Rattle.std.specs.FinMap.{from_entries, entries-insert}
use Rattle.std.specs.FinMap as map_of
use Rattle.bson_value.specs.declared.value.Value.{Value, Array, Null}
use Rattle.bson_value.specs.Alike.{by_name, ordered}
use Rattle.bson_value.proofs.Ordered.{ordered-Array}
use Rattle.index_keys.specs.Branches.{Branch, Missing, Empty, Given}
use Rattle.index_keys.specs.Keys.{cell}
use Rattle.index_keys.specs.Texts.{cell_value}
use Rattle.index_keys.specs.HeldBranches.{branch_value}
use Rattle.index_keys.proofs.FormedKeys.{R, no_entries}
use Rattle.index_keys.proofs.Nulls.{ordered_null}

pub single_by_name : (k : List ℕ) (v : Value) → by_name ((k, v) ∷ []) ≡ (k, v) ∷ []
unfolding by_name
single_by_name k v =
    entries-insert nat_list_cmp_total (from_entries {R = R} []) k v ∙ ap (map_of.put R k v) no_entries

cell_is : (b : Branch) → ordered (branch_value b) ≡ cell_value (cell b)
cell_is Missing = ordered-Array (Null ∷ []) ∙ ap (λ (v : Value). Array (v ∷ [])) ordered_null
cell_is Empty = ordered-Array []
cell_is (Given v) = ordered-Array (v ∷ [])

pub cells_are : (bs : List Branch) → map ordered (map branch_value bs) ≡ map cell_value (map cell bs)
cells_are [] = refl
cells_are (b ∷ bs) = λ i. cell_is b i ∷ cells_are bs i
