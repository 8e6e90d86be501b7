-- Equality of values, with types and order of fields, as a test.
use Rattle.std.specs.Prelude.{ℕ, Bool, true, false, ◌&&◌, ◌==◌, List, [], ◌∷◌}
use Rattle.std.specs.Str.{bytes_eq}
use Rattle.std.specs.Ordering.{int_eq}
use Rattle.bson_value.specs.declared.value.Value.{Value, out-Value, fold-Value}
use Rattle.bson_value.specs.declared.value.Value.TheOpen.{Value-F}

abbrev pub Test : Type 0
Test = Value → Bool

abbrev pub same_bool : Bool → Bool → Bool
same_bool true b = b
same_bool false true = false
same_bool false false = true

abbrev pub same_items : List Test → List Value → Bool
same_items [] [] = true
same_items (t ∷ ts) (v ∷ vs) = t v && same_items ts vs
same_items _ _ = false

abbrev pub same_fields : List (List ℕ × Test) → List (List ℕ × Value) → Bool
same_fields [] [] = true
same_fields (f ∷ fs) (g ∷ gs) = (bytes_eq f.0 g.0 && f.1 g.1) && same_fields fs gs
same_fields _ _ = false

-- one level of a value and another one, with a test of equality for each value inside
abbrev pub same_level : Value-F Test → Value-F Value → Bool
same_level (Value-F.Double a) (Value-F.Double b) = bytes_eq a b
same_level (Value-F.Str a) (Value-F.Str b) = bytes_eq a b
same_level (Value-F.Object fs) (Value-F.Object gs) = same_fields fs gs
same_level (Value-F.Array ts) (Value-F.Array vs) = same_items ts vs
same_level (Value-F.Binary s a) (Value-F.Binary t b) = (s == t) && bytes_eq a b
same_level Value-F.Undefined Value-F.Undefined = true
same_level (Value-F.Oid a) (Value-F.Oid b) = bytes_eq a b
same_level (Value-F.Bool a) (Value-F.Bool b) = same_bool a b
same_level (Value-F.Date a) (Value-F.Date b) = int_eq a b
same_level Value-F.Null Value-F.Null = true
same_level (Value-F.Regex p o) (Value-F.Regex q r) = bytes_eq p q && bytes_eq o r
same_level (Value-F.DbPointer n a) (Value-F.DbPointer m b) = bytes_eq n m && bytes_eq a b
same_level (Value-F.Code a) (Value-F.Code b) = bytes_eq a b
same_level (Value-F.Symbol a) (Value-F.Symbol b) = bytes_eq a b
same_level (Value-F.ScopedCode a fs) (Value-F.ScopedCode b gs) = bytes_eq a b && same_fields fs gs
same_level (Value-F.Int a) (Value-F.Int b) = int_eq a b
same_level (Value-F.Stamp a) (Value-F.Stamp b) = (a.secs == b.secs) && (a.inc == b.inc)
same_level (Value-F.Long a) (Value-F.Long b) = int_eq a b
same_level (Value-F.Decimal a) (Value-F.Decimal b) = bytes_eq a b
same_level Value-F.MinKey Value-F.MinKey = true
same_level Value-F.MaxKey Value-F.MaxKey = true
same_level _ _ = false

abbrev pub same_step : Value-F Test → Test
same_step f v = same_level f (out-Value v)

-- whether two values are equal
unfoldable pub same : Value → Value → Bool
same = fold-Value Test same_step
