-- Values of which each level is so, by their outermost one.
use Rattle.std.proofs.Common.{◌≡◌, ℕ, List, [], ◌∷◌, map, refl, sym, ap, subst}
use Rattle.std.specs.List.{AllByRecursion}
use Rattle.bson_value.specs.declared.value.Value.{Value, Value-F, out-Value, roll-Value, roll-out-Value, map-Value, every-Value, every_made-Value, every_here-Value}
use Rattle.extjson.proofs.RoundTrips.{Holds, held}

module _ (P : Value-F Value → Type 0) where
  abbrev Every : Type 0
  Every = (v : Value) × every-Value P v

  abbrev value_in : Every → Value
  value_in h = h.0

  abbrev on_value : List ℕ × Every → List ℕ × Value
  on_value e = (e.0, e.1.0)

  with_items : (vs : List Value) → AllByRecursion (every-Value P) vs → (ys : List Every) × (map value_in ys ≡ vs)
  with_items [] k = ([], refl)
  with_items (v ∷ vs) k = let r = with_items vs k.1 in ((v, k.0) ∷ r.0, ap (λ (l : List Value). v ∷ l) r.1)

  with_fields : (es : List (List ℕ × Value)) → AllByRecursion (λ e. every-Value P e.1) es → (ys : List (List ℕ × Every)) × (map on_value ys ≡ es)
  with_fields [] k = ([], refl)
  with_fields (e ∷ es) k = let r = with_fields es k.1 in ((e.0, (e.1, k.0)) ∷ r.0, ap (λ (l : List (List ℕ × Value)). e ∷ l) r.1)

  with_held : (x : Value-F Value) → Holds P x → (y : Value-F Every) × (map-Value Every Value value_in y ≡ x)
  with_held (Value-F.Object fs) h = let r = with_fields fs h in (Value-F.Object r.0, ap (λ (l : List (List ℕ × Value)). Value-F.Object l) r.1)
  with_held (Value-F.Array vs) h = let r = with_items vs h in (Value-F.Array r.0, ap (λ (l : List Value). Value-F.Array l) r.1)
  with_held (Value-F.ScopedCode t fs) h = let r = with_fields fs h in (Value-F.ScopedCode t r.0, ap (λ (l : List (List ℕ × Value)). Value-F.ScopedCode t l) r.1)
  with_held (Value-F.Double d) h = (Value-F.Double d, refl)
  with_held (Value-F.Str t) h = (Value-F.Str t, refl)
  with_held (Value-F.Binary s d) h = (Value-F.Binary s d, refl)
  with_held Value-F.Undefined h = (Value-F.Undefined, refl)
  with_held (Value-F.Oid d) h = (Value-F.Oid d, refl)
  with_held (Value-F.Bool b) h = (Value-F.Bool b, refl)
  with_held (Value-F.Date z) h = (Value-F.Date z, refl)
  with_held Value-F.Null h = (Value-F.Null, refl)
  with_held (Value-F.Regex p o) h = (Value-F.Regex p o, refl)
  with_held (Value-F.DbPointer t d) h = (Value-F.DbPointer t d, refl)
  with_held (Value-F.Code t) h = (Value-F.Code t, refl)
  with_held (Value-F.Symbol t) h = (Value-F.Symbol t, refl)
  with_held (Value-F.Int z) h = (Value-F.Int z, refl)
  with_held (Value-F.Stamp s) h = (Value-F.Stamp s, refl)
  with_held (Value-F.Long z) h = (Value-F.Long z, refl)
  with_held (Value-F.Decimal d) h = (Value-F.Decimal d, refl)
  with_held Value-F.MinKey h = (Value-F.MinKey, refl)
  with_held Value-F.MaxKey h = (Value-F.MaxKey, refl)

  pub made : (x : Value-F Value) → P x → Holds P x → every-Value P (roll-Value x)
  made x k h = let y = with_held x h in every_made-Value P x y.0 y.1 k

  pub outer : (v : Value) → every-Value P v → P (out-Value v)
  outer v k = every_here-Value P v k

  pub inner : (v : Value) → every-Value P v → Holds P (out-Value v)
  inner v k = held P (out-Value v) (subst (every-Value P) (sym (roll-out-Value v)) k)
