-- A reference of another type.
use Rattle.std.proofs.Common.{◌≡◌, ℕ, ℤ, Bool, List, refl}
use Rattle.std.specs.Prelude.{None}
use Rattle.bson_value.specs.declared.value.Ts.{Ts}
use Rattle.bson_view.specs.declared.value_ref.ValueRef.{ValueRef}
use Rattle.bson_view.specs.declared.value_ref.ValueRef.TheVariants as refs
use Rattle.bson_view.specs.declared.held.Held.{Held}
use Rattle.bson_view.specs.References.{str_in, int_in, long_in, bool_in, object_in, stamp_in}
use Rattle.std.specs.Borrow.{Bor}

pub no_str : (r : ValueRef) → ((x : Bor (List ℕ)) → r ≡ refs.Str x → ⊥) → None ≡ str_in r
no_str (refs.Str x) h = absurd (h x refl)
no_str _ h = refl

pub no_int : (r : ValueRef) → ((x : ℤ) → r ≡ refs.Int x → ⊥) → None ≡ int_in r
no_int (refs.Int x) h = absurd (h x refl)
no_int _ h = refl

pub no_long : (r : ValueRef) → ((x : ℤ) → r ≡ refs.Long x → ⊥) → None ≡ long_in r
no_long (refs.Long x) h = absurd (h x refl)
no_long _ h = refl

pub no_bool : (r : ValueRef) → ((x : Bool) → r ≡ refs.Bool x → ⊥) → None ≡ bool_in r
no_bool (refs.Bool x) h = absurd (h x refl)
no_bool _ h = refl

pub no_stamp : (r : ValueRef) → ((x : Ts) → r ≡ refs.Stamp x → ⊥) → None ≡ stamp_in r
no_stamp (refs.Stamp x) h = absurd (h x refl)
no_stamp _ h = refl

pub no_object : (r : ValueRef) → ((x : Held) → r ≡ refs.Object x → ⊥) → None ≡ object_in r
no_object (refs.Object x) h = absurd (h x refl)
no_object _ h = refl
