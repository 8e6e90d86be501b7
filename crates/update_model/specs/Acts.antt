-- What each operator does to the document that stands when its turn comes.
use Rattle.std.specs.Prelude.{ℕ, ◌-◌, ◌+◌, List, [], ◌∷◌, ◌++◌, length, Bool, true, false, not, ◌||◌, nat_lt, filter, if◌then◌else◌, Option, Some, None}
use Rattle.std.specs.List.{list_any}
use Rattle.bson_value.specs.declared.value.Value.{Value, Value-F, Array, Null, out-Value}
use Rattle.doc_path.specs.declared.parts.Part.{Part}
use Rattle.doc_path.specs.declared.parts.Part.TheVariants.{Name as name, Index as index}
use Rattle.doc_path.specs.Touch.{limit}
use Rattle.update_model.specs.declared.operator.Operator.{Operator}
use Rattle.update_model.specs.declared.operator.Operator.TheVariants as operators
use Rattle.update_model.specs.declared.operator.Number.{Number}
use Rattle.update_model.specs.declared.operator.ArrayEnd.{ArrayEnd}
use Rattle.update_model.specs.declared.operator.ArrayEnd.TheVariants as ends
use Rattle.update_model.specs.declared.fault.UpdateFault.{UpdateFault}
use Rattle.update_model.specs.declared.fault.UpdateFault.TheVariants as faults
use Rattle.update_model.specs.Conflicts.{Path}
use Rattle.update_model.specs.Arguments.{number_in}
use Rattle.update_model.specs.Equality.{same}
use Rattle.update_model.specs.Numbers.{sum, product, zero_of, value_of}
use Rattle.update_model.specs.Located.{Located, There, Missing, Blocked, located, build}
use Rattle.update_model.specs.Steps.{Trace, after, replaced, added, appended, removed, cut}

-- Oversized: an array would get more elements than any document has room for
pub data Act : Type 0 where
  Steps : Trace → Act
  Refused : UpdateFault → Act
  Oversized : Act

-- ---- a value that is to stand at a path

abbrev pub padding_limit : ℕ
padding_limit = 1000

-- more nulls than are padded
abbrev pub is_far : Part → ℕ → Bool
is_far (name k) n = false
is_far (index i) n = nat_lt padding_limit (i - n)

abbrev pub made_at : List Part → Part → ℕ → Path → Value → Value → Act
made_at ws p n ks a v = if is_far p n then Refused faults.Backfill else Steps (added ws p n (build ks a) v)

-- nothing where the same value is there
abbrev pub changed_at : List Part → Part → Value → Value → Value → Act
changed_at ws p old a v = if same old a then Steps [] else Steps (replaced ws p a v)

abbrev pub set : Located → Value → Value → Act
set (There ws p c) a v = changed_at ws p c a v
set (Missing ws p n ks) a v = made_at ws p n ks a v
set Blocked a v = Refused faults.NotViable

-- ---- $unset

abbrev pub is_null : Value-F Value → Bool
is_null Value-F.Null = true
is_null _ = false

abbrev pub unset : Located → Value → Act
unset (There ws (name k) c) v = Steps (removed ws (name k) v)
unset (There ws (index i) c) v = if is_null (out-Value c) then Steps [] else Steps (replaced ws (index i) Null v)
unset (Missing ws p n ks) v = Steps []
unset Blocked v = Steps []

-- ---- $inc and $mul

abbrev pub counted_as : List Part → Part → Value → Option Number → Value → Act
counted_as ws p c None v = Refused faults.Overflow
counted_as ws p c (Some n) v = changed_at ws p c (value_of n) v

abbrev pub counted : List Part → Part → Value → (Number → Option Number) → Option Number → Value → Act
counted ws p c op None v = Refused faults.WrongType
counted ws p c op (Some n) v = counted_as ws p c (op n) v

-- first stands where nothing is
abbrev pub count : Located → (Number → Option Number) → Number → Value → Act
count (There ws p c) op first v = counted ws p c op (number_in (out-Value c)) v
count (Missing ws p n ks) op first v = made_at ws p n ks (value_of first) v
count Blocked op first v = Refused faults.NotViable

-- ---- $rename

abbrev pub is_index : Part → Bool
is_index (name k) = false
is_index (index n) = true

-- a part is taken in an array
abbrev pub goes_through_array : List Part → Part → Bool
goes_through_array ws p = list_any is_index (ws ++ (p ∷ []))

abbrev pub can_take : Located → Bool
can_take (There ws p c) = not (goes_through_array ws p)
can_take (Missing ws p n ks) = not (goes_through_array ws p)
can_take Blocked = false

-- a value that stands at the path, also in the place of an equal one
abbrev pub moved_to : Located → Value → Value → Trace
moved_to (There ws p c) a v = replaced ws p a v
moved_to (Missing ws p n ks) a v = added ws p n (build ks a) v
moved_to Blocked a v = []

-- the field is taken out, and then its value stands at the target
abbrev pub moved : Trace → Path → Value → Value → Trace
moved out to a v = out ++ moved_to (located to (after v out)) a (after v out)

abbrev pub rename : Located → Path → Value → Act
rename (There ws p c) to v = if goes_through_array ws p || not (can_take (located to v)) then Refused faults.NotViable else Steps (moved (removed ws p v) to c v)
rename (Missing ws p n ks) to v = Steps []
rename Blocked to v = Refused faults.NotViable

-- ---- arrays

-- the values that equal no element, nor an earlier one
abbrev pub new_ones : List Value → List Value → List Value
new_ones is [] = []
new_ones is (a ∷ vs) = if list_any (same a) is then new_ones is vs else a ∷ new_ones (is ++ (a ∷ [])) vs

abbrev pub grown : List Part → Part → List Value → List Value → Value → Act
grown ws p is [] v = Steps []
grown ws p is (a ∷ vs) v = if nat_lt limit (length is + length (a ∷ vs)) then Oversized else Steps (appended ws p is (a ∷ vs) v)

-- news gives the values that are appended to these elements
abbrev pub pushed_in : (List Value → List Value) → List Part → Part → Value-F Value → Value → Act
pushed_in news ws p (Value-F.Array is) v = grown ws p is (news is) v
pushed_in news ws p _ v = Refused faults.WrongType

abbrev pub push : (List Value → List Value) → Located → Value → Act
push news (There ws p c) v = pushed_in news ws p (out-Value c) v
push news (Missing ws p n ks) v = made_at ws p n ks (Array (news [])) v
push news Blocked v = Refused faults.NotViable

-- without the last element, behind so many others
abbrev pub shortened : List Part → Part → ℕ → Value → Act
shortened ws p n v = if nat_lt n limit then Steps (cut ws p n v) else Oversized

abbrev pub popped : ArrayEnd → List Part → Part → List Value → Value → Act
popped end ws p [] v = Steps []
popped ends.First ws p (i ∷ is) v = Steps (replaced ws p (Array is) v)
popped ends.Last ws p (i ∷ is) v = shortened ws p (length is) v

abbrev pub popped_in : ArrayEnd → List Part → Part → Value-F Value → Value → Act
popped_in end ws p (Value-F.Array is) v = popped end ws p is v
popped_in end ws p _ v = Refused faults.WrongType

abbrev pub pop : ArrayEnd → Located → Value → Act
pop end (There ws p c) v = popped_in end ws p (out-Value c) v
pop end (Missing ws p n ks) v = Steps []
pop end Blocked v = Refused faults.NotViable

-- the elements that aren't equal to the value
abbrev pub others : Value → List Value → List Value
others a is = filter (λ i. not (same i a)) is

abbrev pub pulled_in : Value → List Part → Part → Value-F Value → Value → Act
pulled_in a ws p (Value-F.Array is) v = if list_any (λ i. same i a) is then Steps (replaced ws p (Array (others a is)) v) else Steps []
pulled_in a ws p _ v = Refused faults.WrongType

abbrev pub pull : Value → Located → Value → Act
pull a (There ws p c) v = pulled_in a ws p (out-Value c) v
pull a (Missing ws p n ks) v = Steps []
pull a Blocked v = Refused faults.NotViable

-- ---- all of them

abbrev pub act : Operator → Value → Act
act (operators.Set path a) v = set (located path v) a v
act (operators.Unset path) v = unset (located path v) v
act (operators.Inc path n) v = count (located path v) (λ m. sum m n) n v
act (operators.Mul path n) v = count (located path v) (λ m. product m n) (zero_of n) v
act (operators.Rename from to) v = rename (located from v) to v
act (operators.Push path vs) v = push (λ is. vs) (located path v) v
act (operators.AddToSet path vs) v = push (λ is. new_ones is vs) (located path v) v
act (operators.Pop path end) v = pop end (located path v) v
act (operators.Pull path a) v = pull a (located path v) v
