-- The tree of a value reads as the value, level by level.
use Rattle.std.proofs.Common.{◌≡◌, ℕ, false, List, [], ◌∷◌, map, Ok, refl, sym, ap, ◌∙◌, subst}
use Rattle.std.specs.List.{AllByRecursion}
use Rattle.bson_value.specs.declared.value.Value.{Value, Value-F, roll-Value, out-roll-Value, map-Value, fold-roll-Value, ind-Value, every-Value, every_here-Value, every_held-Value}
use Rattle.bson_value.specs.declared.value.Value.TheVariants as values
use Rattle.json_tree.specs.declared.tree.Tree.{Tree}
use Rattle.json_tree.specs.declared.tree.Tree.TheVariants as trees
use Rattle.extjson.specs.Trees.{tree_step, tree_of, items_of, fields_of}
use Rattle.extjson.specs.Values.{Read, ◌>>=◌, has_wrapper, fields_value, items_value, value_of, parts_of}
use Rattle.bson_value.specs.WellFormed.{IsName, AreNames, IsWellFormedLevel, IsWellFormed}
use Rattle.extjson.specs.RoundTrip.{IsPlain, TreesReadBack}
use Rattle.extjson.proofs.TreeParts.{value_null, value_bool, value_str, value_items, value_object, plain_object}
use Rattle.extjson.proofs.ReadBack.{no_zero_is, int_back, long_back, date_back, stamp_back, double_back, decimal_back, oid_back, pointer_back, binary_back, regex_back, code_back, symbol_back, undefined_back, min_back, max_back, scoped_back}

-- ---- what is so at every level

module _ (P : Value-F Value → Type 0) where
  abbrev Held : Type 0
  Held = (v : Value) × every-Value P v

  abbrev on_value : List ℕ × Held → List ℕ × Value
  on_value e = (e.0, e.1.0)

  abbrev FieldsAre : List (List ℕ × Value) → Type 0
  FieldsAre fs = AllByRecursion (λ e. every-Value P e.1) fs

  abbrev ItemsAre : List Value → Type 0
  ItemsAre vs = AllByRecursion (every-Value P) vs

  -- it is so of what one level holds
  abbrev pub Holds : Value-F Value → Type 0
  Holds (Value-F.Object fs) = FieldsAre fs
  Holds (Value-F.Array vs) = ItemsAre vs
  Holds (Value-F.ScopedCode t fs) = FieldsAre fs
  Holds _ = Unit {0}

  fields_held : (ys : List (List ℕ × Held)) → FieldsAre (map on_value ys)
  fields_held [] = tt
  fields_held (y ∷ ys) = (y.1.1, fields_held ys)

  items_held : (ys : List Held) → ItemsAre (map (λ (h : Held). h.0) ys)
  items_held [] = tt
  items_held (y ∷ ys) = (y.1, items_held ys)

  all_held : (y : Value-F Held) → Holds (map-Value Held Value (λ h. h.0) y)
  all_held (Value-F.Object ys) = fields_held ys
  all_held (Value-F.Array ys) = items_held ys
  all_held (Value-F.ScopedCode t ys) = fields_held ys
  all_held _ = tt

  pub held : (x : Value-F Value) → every-Value P (roll-Value x) → Holds x
  held x k =
      let y = every_held-Value P (roll-Value x) k in
      subst Holds (y.1 ∙ out-roll-Value x) (all_held y.0)

  pub here : (x : Value-F Value) → every-Value P (roll-Value x) → P x
  here x k = subst P (out-roll-Value x) (every_here-Value P (roll-Value x) k)

-- ---- the induction

abbrev ReadsBack : Value → Type 0
ReadsBack v = IsWellFormed v → every-Value IsPlain v → value_of (tree_of v) ≡ Ok v

abbrev Proved : Type 0
Proved = (v : Value) × ReadsBack v

abbrev of_proved : List ℕ × Proved → List ℕ × Value
of_proved e = (e.0, e.1.0)

abbrev value_in : Proved → Value
value_in p = p.0

items_back : (ys : List Proved) → ItemsAre IsWellFormedLevel (map value_in ys) → ItemsAre IsPlain (map value_in ys) → items_value (map value_of (items_of (map value_in ys))) ≡ Ok (map value_in ys)
unfolding items_value
items_back [] k p = refl
items_back (y ∷ ys) k p = rw (y.1 k.0 p.0, items_back ys k.1 p.1) refl

fields_back : (ys : List (List ℕ × Proved)) → AllByRecursion (λ e. IsName e.0) (map of_proved ys) → FieldsAre IsWellFormedLevel (map of_proved ys) → FieldsAre IsPlain (map of_proved ys)
    → fields_value (parts_of (fields_of (map of_proved ys))) ≡ Ok (map of_proved ys)
unfolding fields_value
fields_back [] names k p = refl
fields_back (y ∷ ys) names k p = rw (no_zero_is y.0 names.0.no_zero, y.1.1 k.0 p.0, fields_back ys names.1 k.1 p.1) refl

same_names : (fs : List (List ℕ × Value)) → has_wrapper (fields_of fs) ≡ has_wrapper fs
unfolding has_wrapper
same_names [] = refl
same_names (f ∷ fs) = rw (same_names fs) refl

object_back : (ys : List (List ℕ × Proved)) → AreNames (map of_proved ys) → has_wrapper (map of_proved ys) ≡ false → FieldsAre IsWellFormedLevel (map of_proved ys) → FieldsAre IsPlain (map of_proved ys)
    → value_of (trees.Object (fields_of (map of_proved ys))) ≡ Ok (values.Object (map of_proved ys))
object_back ys names plain k p =
    let fs = map of_proved ys in
    value_object (fields_of fs) ∙ plain_object (fields_of fs) (same_names fs ∙ plain) ∙ ap (λ (r : Read (List (List ℕ × Value))). r >>= λ gs. Ok (values.Object gs)) (fields_back ys names.1 k p)

rolled : (r : Read Value) (v w : Value) → r ≡ Ok v → w ≡ v → r ≡ Ok w
rolled r v w h e = h ∙ ap (λ (u : Value). Ok u) (sym e)

-- one level that is well-formed and plain
abbrev IsGood : Value-F Value → Type 0
IsGood x = IsWellFormedLevel x × IsPlain x

abbrev HoldsGood : Value-F Value → Type 0
HoldsGood x = Holds IsWellFormedLevel x × Holds IsPlain x

level_back : (y : Value-F Proved) → IsGood (map-Value Proved Value value_in y) → HoldsGood (map-Value Proved Value value_in y)
    → value_of (tree_step (map-Value Value Tree tree_of (map-Value Proved Value value_in y))) ≡ Ok (roll-Value (map-Value Proved Value value_in y))
level_back (Value-F.Double d) k h = rolled _ _ _ (double_back d k.0) (values.rolls-Double d)
level_back (Value-F.Str t) k h = rolled _ _ _ (value_str t) (values.rolls-Str t)
level_back (Value-F.Object ys) k h = object_back ys k.0 k.1 h.0 h.1 ∙ ap (λ (v : Value). Ok v) (sym (values.rolls-Object (map of_proved ys)))
level_back (Value-F.Array ys) k h =
    let vs = map value_in ys in
    value_items (items_of vs) ∙ ap (λ (r : Read (List Value)). r >>= λ ws. Ok (values.Array ws)) (items_back ys h.0 h.1) ∙ ap (λ (v : Value). Ok v) (sym (values.rolls-Array vs))
level_back (Value-F.Binary s b) k h = rolled _ _ _ (binary_back s b k.0.0 k.0.1) (values.rolls-Binary s b)
level_back Value-F.Undefined k h = rolled _ _ _ undefined_back values.rolls-Undefined
level_back (Value-F.Oid d) k h = rolled _ _ _ (oid_back d k.0) (values.rolls-Oid d)
level_back (Value-F.Bool b) k h = rolled _ _ _ (value_bool b) (values.rolls-Bool b)
level_back (Value-F.Date z) k h = rolled _ _ _ (date_back z k.0) (values.rolls-Date z)
level_back Value-F.Null k h = rolled _ _ _ value_null values.rolls-Null
level_back (Value-F.Regex p o) k h = rolled _ _ _ (regex_back p o k.0.0.no_zero k.0.1.no_zero) (values.rolls-Regex p o)
level_back (Value-F.DbPointer t d) k h = rolled _ _ _ (pointer_back t d k.0.1) (values.rolls-DbPointer t d)
level_back (Value-F.Code t) k h = rolled _ _ _ (code_back t) (values.rolls-Code t)
level_back (Value-F.Symbol t) k h = rolled _ _ _ (symbol_back t) (values.rolls-Symbol t)
level_back (Value-F.ScopedCode t ys) k h =
    let fs = map of_proved ys in
    scoped_back t (fields_of fs) fs (object_back ys k.0.1 k.1 h.0 h.1) ∙ ap (λ (v : Value). Ok v) (sym (values.rolls-ScopedCode t fs))
level_back (Value-F.Int z) k h = rolled _ _ _ (int_back z k.0) (values.rolls-Int z)
level_back (Value-F.Stamp s) k h = rolled _ _ _ (stamp_back s.secs s.inc k.0.0 k.0.1) (values.rolls-Stamp s)
level_back (Value-F.Long z) k h = rolled _ _ _ (long_back z k.0) (values.rolls-Long z)
level_back (Value-F.Decimal d) k h = rolled _ _ _ (decimal_back d k.0) (values.rolls-Decimal d)
level_back Value-F.MinKey k h = rolled _ _ _ min_back values.rolls-MinKey
level_back Value-F.MaxKey k h = rolled _ _ _ max_back values.rolls-MaxKey

step_back : (x : Value-F Value) (y : Value-F Proved) → map-Value Proved Value (λ p. p.0) y ≡ x → ReadsBack (roll-Value x)
step_back x y e k p =
    ap value_of (fold-roll-Value Tree tree_step x)
    ∙ subst (λ (z : Value-F Value). IsGood z → HoldsGood z → value_of (tree_step (map-Value Value Tree tree_of z)) ≡ Ok (roll-Value z)) e (level_back y)
    (here IsWellFormedLevel x k, here IsPlain x p) (held IsWellFormedLevel x k, held IsPlain x p)

pub read_back : TreesReadBack
read_back v = ind-Value ReadsBack step_back v
