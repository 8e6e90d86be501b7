-- The value that a reference means, and what it is where it has one type.
use Rattle.std.specs.Prelude.{◌≡◌, ℕ, ℤ, Bool, List, Option, None, Some}
use Rattle.bson_value.specs.declared.value.Ts.{Ts}
use Rattle.bson_value.specs.declared.value.Value.{Value}
use Rattle.bson_value.specs.declared.value.Value.TheVariants as values
use Rattle.bson_view.specs.declared.value_ref.ValueRef.{ValueRef}
use Rattle.bson_view.specs.declared.value_ref.ValueRef.TheVariants as refs
use Rattle.bson_view.specs.Held.{held_document}
use Rattle.bson_view.specs.HeldWalk.{items_left}

abbrev pub value_meant : ValueRef → Value
value_meant (refs.Double d) = values.Double d
value_meant (refs.Str t) = values.Str t.now
value_meant (refs.Object h) = values.Object (held_document h)
value_meant (refs.Array vs) = values.Array (items_left vs)
value_meant (refs.Binary s b) = values.Binary s b.now
value_meant refs.Undefined = values.Undefined
value_meant (refs.Oid d) = values.Oid d
value_meant (refs.Bool b) = values.Bool b
value_meant (refs.Date z) = values.Date z
value_meant refs.Null = values.Null
value_meant (refs.Regex p o) = values.Regex p.now o.now
value_meant (refs.DbPointer t d) = values.DbPointer t.now d
value_meant (refs.Code t) = values.Code t.now
value_meant (refs.Symbol t) = values.Symbol t.now
value_meant (refs.ScopedCode t h) = values.ScopedCode t.now (held_document h)
value_meant (refs.Int z) = values.Int z
value_meant (refs.Stamp s) = values.Stamp s
value_meant (refs.Long z) = values.Long z
value_meant (refs.Decimal d) = values.Decimal d
value_meant refs.MinKey = values.MinKey
value_meant refs.MaxKey = values.MaxKey

-- what a value of one type holds, and nothing where it has another type
abbrev pub str_in : ValueRef → Option (List ℕ)
str_in (refs.Str t) = Some t.now
str_in _ = None

abbrev pub int_in : ValueRef → Option ℤ
int_in (refs.Int z) = Some z
int_in _ = None

abbrev pub long_in : ValueRef → Option ℤ
long_in (refs.Long z) = Some z
long_in _ = None

abbrev pub bool_in : ValueRef → Option Bool
bool_in (refs.Bool b) = Some b
bool_in _ = None

abbrev pub stamp_in : ValueRef → Option Ts
stamp_in (refs.Stamp s) = Some s
stamp_in _ = None

abbrev pub object_in : ValueRef → Option (List (List ℕ × Value))
object_in (refs.Object h) = Some (held_document h)
object_in _ = None

-- the type of a value that holds no document and no array
abbrev pub HasLeafType : ℕ → Type 0
HasLeafType tag = (tag ≡ 3 → ⊥) × (tag ≡ 4 → ⊥) × (tag ≡ 15 → ⊥)
