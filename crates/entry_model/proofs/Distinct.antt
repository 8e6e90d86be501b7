-- Distinct names at every level, from those of one level and of what it holds.
use Rattle.std.proofs.Common.{◌≡◌, ℕ, List, [], ◌∷◌, map, refl, ap, subst}
use Rattle.bson_value.specs.declared.value.Value.{Value, Value-F, every_made-Value}
use Rattle.bson_value.specs.declared.value.Value.TheVariants.{Object, rolls-Object}
use Rattle.containers.specs.Entries.{AreDistinct, names_of}
use Rattle.entry_model.specs.Distinct.{DistinctIn, AllDistinct, FieldsDistinct}

abbrev Held : Type 0
Held = (v : Value) × AllDistinct v

abbrev on_first : List ℕ × Held → List ℕ × Value
on_first e = (e.0, e.1.0)

held_fields : (es : List (List ℕ × Value)) → FieldsDistinct es → (ys : List (List ℕ × Held)) × (map on_first ys ≡ es)
held_fields [] d = ([], refl)
held_fields (e ∷ es) d = let r = held_fields es d.1 in ((e.0, (e.1, d.0)) ∷ r.0, ap (λ (l : List (List ℕ × Value)). e ∷ l) r.1)

pub distinct_object : (es : List (List ℕ × Value)) → AreDistinct (names_of es) → FieldsDistinct es → AllDistinct (Object es)
distinct_object es a d =
    let r = held_fields es d in
    subst AllDistinct (rolls-Object es) (every_made-Value DistinctIn (Value-F.Object es) (Value-F.Object r.0) (ap (λ (l : List (List ℕ × Value)). Value-F.Object l) r.1) a)
