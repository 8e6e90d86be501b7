-- What stands at each place of a value. A place is a list of names, where an index goes by its digits.
use Rattle.std.specs.Prelude.{ℕ, zero, suc, ◌≡◌, List, [], ◌∷◌, Option, Some, None}
use Rattle.bson_value.specs.declared.value.Value.{Value, Value-F, out-Value, roll-Value, Null}
use Rattle.containers.specs.Entries.{lookup, put as put_field, without}
use Rattle.bson_value.specs.Digits.{index_of}

-- what a value is, without its parts
pub data Shape : Type 0 where
  a_leaf : Value-F Value → Shape
  an_array : Shape
  an_object : Shape
  a_code : List ℕ → Shape

abbrev pub shape_in : Value-F Value → Shape
shape_in (Value-F.Array vs) = an_array
shape_in (Value-F.Object fs) = an_object
shape_in (Value-F.ScopedCode t fs) = a_code t
shape_in f = a_leaf f

unfoldable pub shape : Value → Shape
shape v = shape_in (out-Value v)

-- the element at an index
abbrev pub nth : {A : Type 0} → List A → ℕ → Option A
nth [] n = None
nth (v ∷ vs) zero = Some v
nth (v ∷ vs) (suc n) = nth vs n

abbrev pub at_index : List Value → Option ℕ → Option Value
at_index vs None = None
at_index vs (Some n) = nth vs n

-- the part under a name; i is the index whose name it is
abbrev pub child_in : Value-F Value → List ℕ → Option ℕ → Option Value
child_in (Value-F.Array vs) k i = at_index vs i
child_in (Value-F.Object fs) k i = lookup k fs
child_in (Value-F.ScopedCode t fs) k i = lookup k fs
child_in _ k i = None

unfoldable pub child : Value → List ℕ → Option Value
child v k = child_in (out-Value v) k (index_of k)

-- what stands at each place: its kind or its leaf, or nothing
unfoldable pub look : Option Value → List (List ℕ) → Option Shape
look None q = None
look (Some v) [] = Some (shape v)
look (Some v) (k ∷ q) = look (child v k) q

-- the value at a place
unfoldable pub value_at : Option Value → List (List ℕ) → Option Value
value_at None q = None
value_at (Some v) [] = Some v
value_at (Some v) (k ∷ q) = value_at (child v k) q

-- with this element at this index: in its place, or behind nulls
abbrev pub put_item : List Value → ℕ → Value → List Value
put_item [] zero v = v ∷ []
put_item [] (suc n) v = Null ∷ put_item [] n v
put_item (w ∷ vs) zero v = v ∷ vs
put_item (w ∷ vs) (suc n) v = w ∷ put_item vs n v

abbrev pub put_index : List Value → Option ℕ → Value → List Value
put_index vs None a = vs
put_index vs (Some n) a = put_item vs n a

abbrev pub put_in : Value-F Value → List ℕ → Option ℕ → Value → Value-F Value
put_in (Value-F.Array vs) k i a = Value-F.Array (put_index vs i a)
put_in (Value-F.Object fs) k i a = Value-F.Object (put_field k a fs)
put_in f k i a = f

-- the value stands under the name: in its place, or last, or behind nulls. A leaf and a code are as before
unfoldable pub put : Value → List ℕ → Value → Value
put v k a = roll-Value (put_in (out-Value v) k (index_of k) a)

-- an element that is there becomes null
abbrev pub blank_item : List Value → ℕ → List Value
blank_item [] n = []
blank_item (w ∷ vs) zero = Null ∷ vs
blank_item (w ∷ vs) (suc n) = w ∷ blank_item vs n

abbrev pub blank_index : List Value → Option ℕ → List Value
blank_index vs None = vs
blank_index vs (Some n) = blank_item vs n

abbrev pub del_in : Value-F Value → List ℕ → Option ℕ → Value-F Value
del_in (Value-F.Array vs) k i = Value-F.Array (blank_index vs i)
del_in (Value-F.Object fs) k i = Value-F.Object (without k fs)
del_in f k i = f

unfoldable pub del : Value → List ℕ → Value
del v k = roll-Value (del_in (out-Value v) k (index_of k))

-- cut, or padded with nulls
abbrev pub sized : ℕ → List Value → List Value
sized zero vs = []
sized (suc n) [] = Null ∷ sized n []
sized (suc n) (v ∷ vs) = v ∷ sized n vs

-- a place: the names on the way
abbrev pub Place : Type 0
Place = List (List ℕ)

-- what is made of the value on the way, where the name leads on
abbrev pub into : (Value → Value) → Value → List ℕ → Option Value → Value
into g v k None = v
into g v k (Some c) = put v k (g c)

-- the value stands under k and then the names behind it, where all but the last lead on. Else all is as before
unfoldable pub put_under : List ℕ → Place → Value → Value → Value
put_under k [] a v = put v k a
put_under k (j ∷ q) a v = into (put_under j q a) v k (child v k)

-- the same of a whole place
unfoldable pub put_at : Place → Value → Value → Value
put_at [] a v = v
put_at (k ∷ q) a v = put_under k q a v

-- at every place of the two values the same stands
abbrev pub LooksTheSame : Value → Value → Type 0
LooksTheSame a b = (q : Place) → look (Some a) q ≡ look (Some b) q
