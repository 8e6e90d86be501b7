-- What holds at every level of a value, from two things that do.
use Rattle.std.proofs.Common.{◌≡◌, ℕ, List, [], ◌∷◌, map, refl, sym, ap, ◌∙◌, subst}
use Rattle.std.specs.List.{AllByRecursion}
use Rattle.bson_value.specs.declared.value.Value.{Value, Value-F, roll-Value, out-roll-Value, map-Value, ind-Value, every-Value, every_here-Value, every_held-Value, every_made-Value}

abbrev pub Fields : Type 0
Fields = List (List ℕ × Value)

module _ (P : Value-F Value → Type 0) where
  abbrev Held : Type 0
  Held = (v : Value) × every-Value P v

  abbrev on_value : List ℕ × Held → List ℕ × Value
  on_value e = (e.0, e.1.0)

  abbrev value_of : Held → Value
  value_of h = h.0

  abbrev FieldsAre : Fields → Type 0
  FieldsAre fs = AllByRecursion (λ e. every-Value P e.1) fs

  abbrev ItemsAre : List Value → Type 0
  ItemsAre vs = AllByRecursion (every-Value P) vs

  -- it holds of what one level holds
  abbrev Holds : Value-F Value → Type 0
  Holds (Value-F.Object fs) = FieldsAre fs
  Holds (Value-F.Array vs) = ItemsAre vs
  Holds (Value-F.ScopedCode t fs) = FieldsAre fs
  Holds _ = Unit {0}

  fields_held : (ys : List (List ℕ × Held)) → FieldsAre (map on_value ys)
  fields_held [] = tt
  fields_held (y ∷ ys) = (y.1.1, fields_held ys)

  items_held : (ys : List Held) → ItemsAre (map value_of ys)
  items_held [] = tt
  items_held (y ∷ ys) = (y.1, items_held ys)

  all_held : (y : Value-F Held) → Holds (map-Value Held Value value_of y)
  all_held (Value-F.Object ys) = fields_held ys
  all_held (Value-F.Array ys) = items_held ys
  all_held (Value-F.ScopedCode t ys) = fields_held ys
  all_held _ = tt

  held : (x : Value-F Value) → every-Value P (roll-Value x) → Holds x
  held x k =
      let y = every_held-Value P (roll-Value x) k in
      subst Holds (y.1 ∙ out-roll-Value x) (all_held y.0)

  here : (x : Value-F Value) → every-Value P (roll-Value x) → P x
  here x k = subst P (out-roll-Value x) (every_here-Value P (roll-Value x) k)

module _ (P Q R : Value-F Value → Type 0) (one : (x : Value-F Value) → P x → Q x → R x) where
  abbrev Follows : Value → Type 0
  Follows v = every-Value P v → every-Value Q v → every-Value R v

  abbrev Proved : Type 0
  Proved = (v : Value) × Follows v

  abbrev of_proved : List ℕ × Proved → List ℕ × Value
  of_proved e = (e.0, e.1.0)

  abbrev proved_value : Proved → Value
  proved_value p = p.0

  fields_follow : (ys : List (List ℕ × Proved)) → FieldsAre P (map of_proved ys) → FieldsAre Q (map of_proved ys) → (zs : List (List ℕ × Held R)) × (map (on_value R) zs ≡ map of_proved ys)
  fields_follow [] p q = ([], refl)
  fields_follow (y ∷ ys) p q =
      let r = fields_follow ys p.1 q.1 in
      ((y.0, (y.1.0, y.1.1 p.0 q.0)) ∷ r.0, ap (λ (l : Fields). (y.0, y.1.0) ∷ l) r.1)

  items_follow : (ys : List Proved) → ItemsAre P (map proved_value ys) → ItemsAre Q (map proved_value ys) → (zs : List (Held R)) × (map (value_of R) zs ≡ map proved_value ys)
  items_follow [] p q = ([], refl)
  items_follow (y ∷ ys) p q =
      let r = items_follow ys p.1 q.1 in
      ((y.0, y.1 p.0 q.0) ∷ r.0, ap (λ (l : List Value). y.0 ∷ l) r.1)

  abbrev Level : Value-F Proved → Value-F Value
  Level y = map-Value Proved Value proved_value y

  abbrev Made : Value-F Proved → Type 0
  Made y = (z : Value-F (Held R)) × (map-Value (Held R) Value (value_of R) z ≡ Level y)

  level_follows : (y : Value-F Proved) → Holds P (Level y) → Holds Q (Level y) → Made y
  level_follows (Value-F.Object ys) p q = let r = fields_follow ys p q in (Value-F.Object r.0, ap (λ (l : Fields). Value-F.Object l) r.1)
  level_follows (Value-F.Array ys) p q = let r = items_follow ys p q in (Value-F.Array r.0, ap (λ (l : List Value). Value-F.Array l) r.1)
  level_follows (Value-F.ScopedCode t ys) p q = let r = fields_follow ys p q in (Value-F.ScopedCode t r.0, ap (λ (l : Fields). Value-F.ScopedCode t l) r.1)
  level_follows (Value-F.Double d) p q = (Value-F.Double d, refl)
  level_follows (Value-F.Str t) p q = (Value-F.Str t, refl)
  level_follows (Value-F.Binary s d) p q = (Value-F.Binary s d, refl)
  level_follows Value-F.Undefined p q = (Value-F.Undefined, refl)
  level_follows (Value-F.Oid d) p q = (Value-F.Oid d, refl)
  level_follows (Value-F.Bool b) p q = (Value-F.Bool b, refl)
  level_follows (Value-F.Date z) p q = (Value-F.Date z, refl)
  level_follows Value-F.Null p q = (Value-F.Null, refl)
  level_follows (Value-F.Regex a o) p q = (Value-F.Regex a o, refl)
  level_follows (Value-F.DbPointer t d) p q = (Value-F.DbPointer t d, refl)
  level_follows (Value-F.Code t) p q = (Value-F.Code t, refl)
  level_follows (Value-F.Symbol t) p q = (Value-F.Symbol t, refl)
  level_follows (Value-F.Int z) p q = (Value-F.Int z, refl)
  level_follows (Value-F.Stamp s) p q = (Value-F.Stamp s, refl)
  level_follows (Value-F.Long z) p q = (Value-F.Long z, refl)
  level_follows (Value-F.Decimal d) p q = (Value-F.Decimal d, refl)
  level_follows Value-F.MinKey p q = (Value-F.MinKey, refl)
  level_follows Value-F.MaxKey p q = (Value-F.MaxKey, refl)

  step_follows : (x : Value-F Value) (y : Value-F Proved) → map-Value Proved Value (λ p. p.0) y ≡ x → Follows (roll-Value x)
  step_follows x y e p q =
      let z = level_follows y (subst (Holds P) (sym e) (held P x p)) (subst (Holds Q) (sym e) (held Q x q)) in
      every_made-Value R x z.0 (z.1 ∙ e) (one x (here P x p) (here Q x q))

  pub both_hold : (v : Value) → Follows v
  both_hold v = ind-Value Follows step_follows v
