-- What an operator makes of a well-formed document is well-formed, and names of paths and of the document stand in its marks.
use Rattle.std.proofs.Common.{◌≡◌, ℕ, zero, suc, ◌-◌, ◌+◌, ◌<◌, ◌^◌, List, [], ◌∷◌, ◌++◌, length, Bool, true, false, refl, subst, arith, Option, Some, None}
use Rattle.std.specs.Prelude.{⊤, ◌||◌, ℤ, pos, negsuc, ◌+ℤ◌, ◌*ℤ◌, not, if◌then◌else◌, nat_lt, FitsSigned, Ok, Err}
use Rattle.std.specs.List.{list_any}
use Rattle.std.specs.Int.{w32, w64}
use Rattle.std.proofs.lemmas.Grind.{common_steps}
use Rattle.bson_value.specs.declared.value.Value.{Value, Value-F, Array, Null, out-Value}
use Rattle.bson_value.specs.Digits.{index_of}
use Rattle.bson_value.specs.Place.{Shape, a_leaf, an_array, an_object, a_code, shape, child}
use Rattle.bson_value.specs.WellFormed.{IsName, IsWellFormed, AreWellFormedItems}
use Rattle.bson_value.proofs.WellFormed.{IsHeldWellFormed, held_formed, formed_null, formed_array, formed_object, formed_int, formed_long}
use Rattle.doc_path.specs.declared.parts.Part.{Part}
use Rattle.doc_path.specs.declared.parts.Part.TheVariants.{Name as name, Index as index}
use Rattle.doc_path.specs.declared.parts.Change.TheVariants.{Put, Delete, Resize as Length}
use Rattle.doc_path.specs.Touch.{key_of, limit}
use Rattle.update_model.specs.declared.mark.Mark.{Mark}
use Rattle.update_model.specs.declared.operator.Operator.{Operator}
use Rattle.update_model.specs.declared.operator.Operator.TheVariants as operators
use Rattle.update_model.specs.declared.operator.Number.{Number}
use Rattle.update_model.specs.declared.operator.Number.TheVariants as numbers
use Rattle.update_model.specs.declared.operator.ArrayEnd.{ArrayEnd}
use Rattle.update_model.specs.declared.operator.ArrayEnd.TheVariants as ends
use Rattle.update_model.specs.declared.fault.UpdateFault.{UpdateFault}
use Rattle.update_model.specs.declared.fault.UpdateFault.TheVariants as faults
use Rattle.update_model.specs.Conflicts.{Path}
use Rattle.update_model.specs.Arguments.{number_in}
use Rattle.update_model.specs.Equality.{same}
use Rattle.update_model.specs.Numbers.{has_bits, long, int_or_long, combined, sum, product, zero_of, value_of}
use Rattle.update_model.specs.Located.{Located, There, Missing, Blocked, part_in, part_at, within, further, located_under, located_at, located, build}
use Rattle.update_model.specs.Steps.{Trace, after, mark, marks_of, elements, padding, newly, replaced, added, appended, removed, cut}
use Rattle.update_model.specs.Acts.{Act, Steps, Refused, Oversized, is_far, made_at, changed_at, set, is_null, unset, counted_as, counted, count, goes_through_array, can_take, moved_to, moved, rename, grown, pushed_in, push, new_ones, shortened, popped, popped_in, pop, others, pulled_in, pull, act}
use Rattle.update_model.specs.Updating.{Outcome, fields_of, refusal_at_end, ended, and_more, on_act, outcome}
use Rattle.update_action.proofs.Texts.{name_digits}
use Rattle.update_records.proofs.Spelled.{AreNamed, named_end}
use Rattle.update_records.proofs.Changed.{child_formed, changed_formed}

abbrev pub IsNamedPath : Path → Type 0
IsNamedPath [] = ⊤
IsNamedPath (k ∷ ks) = IsName k × IsNamedPath ks

abbrev pub IsWellFormedNumber : Number → Type 0
IsWellFormedNumber (numbers.Int z) = FitsSigned w32 z
IsWellFormedNumber (numbers.Long z) = FitsSigned w64 z

abbrev pub IsWellFormedOperator : Operator → Type 0
IsWellFormedOperator (operators.Set path a) = IsNamedPath path × IsWellFormed a
IsWellFormedOperator (operators.Unset path) = IsNamedPath path
IsWellFormedOperator (operators.Inc path n) = IsNamedPath path × IsWellFormedNumber n
IsWellFormedOperator (operators.Mul path n) = IsNamedPath path × IsWellFormedNumber n
IsWellFormedOperator (operators.Rename from to) = IsNamedPath from × IsNamedPath to
IsWellFormedOperator (operators.Push path vs) = IsNamedPath path × AreWellFormedItems vs
IsWellFormedOperator (operators.AddToSet path vs) = IsNamedPath path × AreWellFormedItems vs
IsWellFormedOperator (operators.Pop path end) = IsNamedPath path
IsWellFormedOperator (operators.Pull path a) = IsNamedPath path

abbrev pub AreWellFormedOperators : List Operator → Type 0
AreWellFormedOperators [] = ⊤
AreWellFormedOperators (o ∷ os) = IsWellFormedOperator o × AreWellFormedOperators os

abbrev pub IsNamedPlace : List Part → Part → Type 0
IsNamedPlace ws p = AreNamed ws × IsName (key_of p)

abbrev pub AreNamedMarks : List Mark → Type 0
AreNamedMarks [] = ⊤
AreNamedMarks (m ∷ ms) = IsNamedPlace m.way m.last × AreNamedMarks ms

abbrev pub IsWellFormedTrace : Trace → Type 0
IsWellFormedTrace [] = ⊤
IsWellFormedTrace (s ∷ ss) = AreNamedMarks s.0 × IsWellFormed s.1 × IsWellFormedTrace ss

abbrev IsWellFormedAct : Act → Type 0
IsWellFormedAct (Steps ss) = IsWellFormedTrace ss
IsWellFormedAct (Refused f) = ⊤
IsWellFormedAct Oversized = ⊤

trace_append : (ss ts : Trace) → IsWellFormedTrace ss → IsWellFormedTrace ts → IsWellFormedTrace (ss ++ ts)
trace_append [] ts a b = b
trace_append (s ∷ ss) ts a b = (a.0, a.1, trace_append ss ts a.2 b)

marks_append : (ms ns : List Mark) → AreNamedMarks ms → AreNamedMarks ns → AreNamedMarks (ms ++ ns)
marks_append [] ns a b = b
marks_append (m ∷ ms) ns a b = (a.0, marks_append ms ns a.1 b)

pub after_formed : (v : Value) (ss : Trace) → IsWellFormed v → IsWellFormedTrace ss → IsWellFormed (after v ss)
after_formed v [] h t = h
after_formed v (s ∷ ss) h t = after_formed s.1 ss t.1 t.2

pub all_named : (ss : Trace) → IsWellFormedTrace ss → AreNamedMarks (marks_of ss)
all_named [] t = tt
all_named (s ∷ ss) t = marks_append s.0 (marks_of ss) t.0 (all_named ss t.2)

-- ---- where a path leads

abbrev IsWellFormedEnd : Located → Type 0
IsWellFormedEnd (There ws p c) = IsNamedPlace ws p × IsWellFormed c
IsWellFormedEnd (Missing ws p n ks) = IsNamedPlace ws p × IsNamedPath ks
IsWellFormedEnd Blocked = ⊤

part_named : (k : List ℕ) (i : Option ℕ) (s : Shape) (p : Part) → IsName k → part_in k i s ≡ Some p → IsName (key_of p)
part_named k i an_object p n e = let f : name k ≡ p = cc in subst (λ (z : Part). IsName (key_of z)) f n
part_named k (Some m) an_array p n e = by (nat_lt m limit) e
  where
    by : (b : Bool) → (if b then Some (index m) else None) ≡ Some p → IsName (key_of p)
    by true e = let g : index m ≡ p = cc in subst (λ (z : Part). IsName (key_of z)) g (name_digits m)
    by false e = cc
part_named k None an_array p n e = cc
part_named k i (a_leaf c) p n e = cc
part_named k i (a_code t) p n e = cc

within_formed : (p : Part) (l : Located) → IsName (key_of p) → IsWellFormedEnd l → IsWellFormedEnd (within p l)
within_formed p (There ws q c) n h = (((n, h.0.0), h.0.1), h.1)
within_formed p (Missing ws q m ks) n h = (((n, h.0.0), h.0.1), h.1)
within_formed p Blocked n h = tt

further_formed : (ks : Path) (go : Value → Located) (p : Part) (c : Value) → IsName (key_of p) → IsWellFormed c → ((d : Value) → IsWellFormed d → IsWellFormedEnd (go d)) → IsWellFormedEnd (further ks go p c)
further_formed [] go p c n h g = ((tt, n), h)
further_formed (k ∷ ks) go p c n h g = within_formed p (go c) n (g c h)

located_formed : (path : Path) (v : Value) → IsNamedPath path → IsWellFormed v → IsWellFormedEnd (located path v)
located_formed [] v n h = tt
located_formed (k ∷ ks) v n h = by (part_at k v) refl (λ d w. located_formed ks d n.1 w)
  where
    under_part : (p : Part) (o : Option Value) → IsName (key_of p) → child v (key_of p) ≡ o → ((d : Value) → IsWellFormed d → IsWellFormedEnd (located ks d)) → IsWellFormedEnd (located_under (further ks (located ks)) ks v p o)
    under_part p None m e g = ((tt, m), n.1)
    under_part p (Some c) m e g = further_formed ks (located ks) p c m (child_formed v (key_of p) c h e) g

    by : (o : Option Part) → part_at k v ≡ o → ((d : Value) → IsWellFormed d → IsWellFormedEnd (located ks d)) → IsWellFormedEnd (located_at (further ks (located ks)) ks v o)
    by None e g = tt
    by (Some p) e g = under_part p (child v (key_of p)) (part_named k (index_of k) (shape v) p n.0 e) refl g

-- ---- single changes

elements_named : (ws : List Part) (from n : ℕ) → AreNamed ws → AreNamedMarks (elements ws from n)
elements_named ws from zero h = tt
elements_named ws from (suc n) h = ((h, name_digits from), elements_named ws (suc from) n h)

padding_named : (ws : List Part) (p : Part) (n : ℕ) → AreNamed ws → AreNamedMarks (padding ws p n)
padding_named ws (name k) n h = tt
padding_named ws (index i) n h = elements_named ws n (i - n) h

replaced_formed : (ws : List Part) (p : Part) (a v : Value) → IsNamedPlace ws p → IsWellFormed a → IsWellFormed v → IsWellFormedTrace (replaced ws p a v)
replaced_formed ws p a v n k h = ((n, tt), changed_formed ws p (Put a) v n.0 n.1 k h, tt)

added_formed : (ws : List Part) (p : Part) (m : ℕ) (a v : Value) → IsNamedPlace ws p → IsWellFormed a → IsWellFormed v → IsWellFormedTrace (added ws p m a v)
added_formed ws p m a v n k h = (marks_append (padding ws p m) (mark ws p (newly p) ∷ []) (padding_named ws p m n.0) (n, tt), changed_formed ws p (Put a) v n.0 n.1 k h, tt)

removed_formed : (ws : List Part) (p : Part) (v : Value) → IsNamedPlace ws p → IsWellFormed v → IsWellFormedTrace (removed ws p v)
removed_formed ws p v n h = ((n, tt), changed_formed ws p Delete v n.0 n.1 tt h, tt)

cut_formed : (ws : List Part) (p : Part) (m : ℕ) (v : Value) → IsNamedPlace ws p → IsWellFormed v → IsWellFormedTrace (cut ws p m v)
cut_formed ws p m v n h = ((n, tt), changed_formed ws p (Length m) v n.0 n.1 tt h, tt)

items_append : (xs ys : List Value) → AreWellFormedItems xs → AreWellFormedItems ys → AreWellFormedItems (xs ++ ys)
items_append [] ys a b = b
items_append (x ∷ xs) ys a b = (a.0, items_append xs ys a.1 b)

appended_formed : (ws : List Part) (p : Part) (is vs : List Value) (v : Value) → IsNamedPlace ws p → AreWellFormedItems is → AreWellFormedItems vs → IsWellFormed v → IsWellFormedTrace (appended ws p is vs v)
appended_formed ws p is vs v n a b h = (
  elements_named (ws ++ (p ∷ [])) (length is) (length vs) (named_end ws p n.0 n.1),
  changed_formed ws p (Put (Array (is ++ vs))) v n.0 n.1 (formed_array (is ++ vs) (items_append is vs a b)) h,
  tt,
)

build_formed : (ks : Path) (a : Value) → IsNamedPath ks → IsWellFormed a → IsWellFormed (build ks a)
build_formed [] a n h = h
build_formed (k ∷ ks) a n h = formed_object ((k, build ks a) ∷ []) (((tt, tt), (n.0, tt)), (build_formed ks a n.1 h, tt))

-- ---- each operator

made_formed : (ws : List Part) (p : Part) (m : ℕ) (ks : Path) (a v : Value) → IsNamedPlace ws p → IsNamedPath ks → IsWellFormed a → IsWellFormed v → IsWellFormedAct (made_at ws p m ks a v)
made_formed ws p m ks a v n q k h = by (is_far p m)
  where
    by : (b : Bool) → IsWellFormedAct (if b then Refused faults.Backfill else Steps (added ws p m (build ks a) v))
    by true = tt
    by false = added_formed ws p m (build ks a) v n (build_formed ks a q k) h

changed_at_formed : (ws : List Part) (p : Part) (c a v : Value) → IsNamedPlace ws p → IsWellFormed a → IsWellFormed v → IsWellFormedAct (changed_at ws p c a v)
changed_at_formed ws p c a v n k h = by (same c a)
  where
    by : (b : Bool) → IsWellFormedAct (if b then Steps [] else Steps (replaced ws p a v))
    by true = tt
    by false = replaced_formed ws p a v n k h

set_formed : (l : Located) (a v : Value) → IsWellFormedEnd l → IsWellFormed a → IsWellFormed v → IsWellFormedAct (set l a v)
set_formed (There ws p c) a v l k h = changed_at_formed ws p c a v l.0 k h
set_formed (Missing ws p n ks) a v l k h = made_formed ws p n ks a v l.0 l.1 k h
set_formed Blocked a v l k h = tt

unset_formed : (l : Located) (v : Value) → IsWellFormedEnd l → IsWellFormed v → IsWellFormedAct (unset l v)
unset_formed (There ws (name k) c) v l h = removed_formed ws (name k) v l.0 h
unset_formed (There ws (index i) c) v l h = by (is_null (out-Value c))
  where
    by : (b : Bool) → IsWellFormedAct (if b then Steps [] else Steps (replaced ws (index i) Null v))
    by true = tt
    by false = replaced_formed ws (index i) Null v l.0 formed_null h
unset_formed (Missing ws p n ks) v l h = tt
unset_formed Blocked v l h = tt

fits_long : (z : ℤ) → has_bits 63 z ≡ true → FitsSigned w64 z
fits_long (pos n) e = let l : n < 2 ^ 63 = grind (arith, common_steps) in omega (arith, l)
fits_long (negsuc n) e = let l : n < 2 ^ 63 = grind (arith, common_steps) in omega (arith, l)

fits_int : (z : ℤ) → has_bits 31 z ≡ true → FitsSigned w32 z
fits_int (pos n) e = let l : n < 2 ^ 31 = grind (arith, common_steps) in omega (arith, l)
fits_int (negsuc n) e = let l : n < 2 ^ 31 = grind (arith, common_steps) in omega (arith, l)

long_formed : (z : ℤ) (r : Number) → long z ≡ Some r → IsWellFormedNumber r
long_formed z r e = by (has_bits 63 z) refl e
  where
    by : (b : Bool) → has_bits 63 z ≡ b → (if b then Some (numbers.Long z) else None) ≡ Some r → IsWellFormedNumber r
    by true q f = let g : numbers.Long z ≡ r = cc in subst IsWellFormedNumber g (fits_long z q)
    by false q f = cc

int_or_long_formed : (z : ℤ) (r : Number) → int_or_long z ≡ Some r → IsWellFormedNumber r
int_or_long_formed z r e = by (has_bits 31 z) refl e
  where
    by : (b : Bool) → has_bits 31 z ≡ b → (if b then Some (numbers.Int z) else long z) ≡ Some r → IsWellFormedNumber r
    by true q f = let g : numbers.Int z ≡ r = cc in subst IsWellFormedNumber g (fits_int z q)
    by false q f = long_formed z r f

combined_formed : (op : ℤ → ℤ → ℤ) (a b r : Number) → combined op a b ≡ Some r → IsWellFormedNumber r
combined_formed op (numbers.Int a) (numbers.Int b) r e = int_or_long_formed (op a b) r e
combined_formed op (numbers.Int a) (numbers.Long b) r e = long_formed (op a b) r e
combined_formed op (numbers.Long a) (numbers.Int b) r e = long_formed (op a b) r e
combined_formed op (numbers.Long a) (numbers.Long b) r e = long_formed (op a b) r e

zero_formed : (n : Number) → IsWellFormedNumber (zero_of n)
zero_formed (numbers.Int n) = fits_int (pos 0) refl
zero_formed (numbers.Long n) = fits_long (pos 0) refl

number_formed : (n : Number) → IsWellFormedNumber n → IsWellFormed (value_of n)
number_formed (numbers.Int n) h = formed_int n h
number_formed (numbers.Long n) h = formed_long n h

abbrev GivesWellFormed : (Number → Option Number) → Type 0
GivesWellFormed op = (m r : Number) → op m ≡ Some r → IsWellFormedNumber r

counted_formed : (ws : List Part) (p : Part) (c v : Value) (op : Number → Option Number) (o : Option Number) → IsNamedPlace ws p → GivesWellFormed op → IsWellFormed v → IsWellFormedAct (counted ws p c op o v)
counted_formed ws p c v op None n g h = tt
counted_formed ws p c v op (Some m) n g h = by (op m) refl
  where
    by : (o : Option Number) → op m ≡ o → IsWellFormedAct (counted_as ws p c o v)
    by None e = tt
    by (Some r) e = changed_at_formed ws p c (value_of r) v n (number_formed r (g m r e)) h

count_formed : (l : Located) (op : Number → Option Number) (first : Number) (v : Value) → IsWellFormedEnd l → GivesWellFormed op → IsWellFormedNumber first → IsWellFormed v → IsWellFormedAct (count l op first v)
count_formed (There ws p c) op first v l g k h = counted_formed ws p c v op (number_in (out-Value c)) l.0 g h
count_formed (Missing ws p n ks) op first v l g k h = made_formed ws p n ks (value_of first) v l.0 l.1 (number_formed first k) h
count_formed Blocked op first v l g k h = tt

moved_to_formed : (l : Located) (a v : Value) → IsWellFormedEnd l → IsWellFormed a → IsWellFormed v → IsWellFormedTrace (moved_to l a v)
moved_to_formed (There ws p c) a v l k h = replaced_formed ws p a v l.0 k h
moved_to_formed (Missing ws p n ks) a v l k h = added_formed ws p n (build ks a) v l.0 (build_formed ks a l.1 k) h
moved_to_formed Blocked a v l k h = tt

rename_formed : (l : Located) (to : Path) (v : Value) → IsWellFormedEnd l → IsNamedPath to → IsWellFormed v → IsWellFormedAct (rename l to v)
rename_formed (There ws p c) to v l n h = by (goes_through_array ws p || not (can_take (located to v)))
  where
    by : (b : Bool) → IsWellFormedAct (if b then Refused faults.NotViable else Steps (moved (removed ws p v) to c v))
    by true = tt
    by false =
        let out = removed ws p v in
        let gone = removed_formed ws p v l.0 h in
        let left = after_formed v out h gone in
        trace_append out (moved_to (located to (after v out)) c (after v out)) gone (moved_to_formed (located to (after v out)) c (after v out) (located_formed to (after v out) n left) l.1 left)
rename_formed (Missing ws p n ks) to v l m h = tt
rename_formed Blocked to v l m h = tt

grown_formed : (ws : List Part) (p : Part) (is vs : List Value) (v : Value) → IsNamedPlace ws p → AreWellFormedItems is → AreWellFormedItems vs → IsWellFormed v → IsWellFormedAct (grown ws p is vs v)
grown_formed ws p is [] v n a b h = tt
grown_formed ws p is (x ∷ vs) v n a b h = by (nat_lt limit (length is + length (x ∷ vs)))
  where
    by : (t : Bool) → IsWellFormedAct (if t then Oversized else Steps (appended ws p is (x ∷ vs) v))
    by true = tt
    by false = appended_formed ws p is (x ∷ vs) v n a b h

abbrev GivesItems : (List Value → List Value) → Type 0
GivesItems news = (is : List Value) → AreWellFormedItems (news is)

pushed_formed : (news : List Value → List Value) (ws : List Part) (p : Part) (v : Value) (f : Value-F Value) → IsNamedPlace ws p → GivesItems news → IsHeldWellFormed f → IsWellFormed v → IsWellFormedAct (pushed_in news ws p f v)
pushed_formed news ws p v (Value-F.Array is) n g a h = grown_formed ws p is (news is) v n a (g is) h
pushed_formed news ws p v _ n g a h = tt

push_formed : (news : List Value → List Value) (l : Located) (v : Value) → IsWellFormedEnd l → GivesItems news → IsWellFormed v → IsWellFormedAct (push news l v)
push_formed news (There ws p c) v l g h = pushed_formed news ws p v (out-Value c) l.0 g (held_formed c l.1) h
push_formed news (Missing ws p n ks) v l g h = made_formed ws p n ks (Array (news [])) v l.0 l.1 (formed_array (news []) (g [])) h
push_formed news Blocked v l g h = tt

new_ones_formed : (vs is : List Value) → AreWellFormedItems vs → AreWellFormedItems (new_ones is vs)
new_ones_formed [] is h = tt
new_ones_formed (a ∷ vs) is h = by (list_any (same a) is) (new_ones_formed vs is h.1) (new_ones_formed vs (is ++ (a ∷ [])) h.1)
  where
    by : (b : Bool) → AreWellFormedItems (new_ones is vs) → AreWellFormedItems (new_ones (is ++ (a ∷ [])) vs) → AreWellFormedItems (if b then new_ones is vs else a ∷ new_ones (is ++ (a ∷ [])) vs)
    by true r q = r
    by false r q = (h.0, q)

shortened_formed : (ws : List Part) (p : Part) (m : ℕ) (v : Value) → IsNamedPlace ws p → IsWellFormed v → IsWellFormedAct (shortened ws p m v)
shortened_formed ws p m v n h = by (nat_lt m limit)
  where
    by : (b : Bool) → IsWellFormedAct (if b then Steps (cut ws p m v) else Oversized)
    by true = cut_formed ws p m v n h
    by false = tt

popped_formed : (end : ArrayEnd) (ws : List Part) (p : Part) (is : List Value) (v : Value) → IsNamedPlace ws p → AreWellFormedItems is → IsWellFormed v → IsWellFormedAct (popped end ws p is v)
popped_formed end ws p [] v n a h = tt
popped_formed ends.First ws p (i ∷ is) v n a h = replaced_formed ws p (Array is) v n (formed_array is a.1) h
popped_formed ends.Last ws p (i ∷ is) v n a h = shortened_formed ws p (length is) v n h

popped_in_formed : (end : ArrayEnd) (ws : List Part) (p : Part) (f : Value-F Value) (v : Value) → IsNamedPlace ws p → IsHeldWellFormed f → IsWellFormed v → IsWellFormedAct (popped_in end ws p f v)
popped_in_formed end ws p (Value-F.Array is) v n a h = popped_formed end ws p is v n a h
popped_in_formed end ws p _ v n a h = tt

pop_formed : (end : ArrayEnd) (l : Located) (v : Value) → IsWellFormedEnd l → IsWellFormed v → IsWellFormedAct (pop end l v)
pop_formed end (There ws p c) v l h = popped_in_formed end ws p (out-Value c) v l.0 (held_formed c l.1) h
pop_formed end (Missing ws p n ks) v l h = tt
pop_formed end Blocked v l h = tt

others_formed : (a : Value) (is : List Value) → AreWellFormedItems is → AreWellFormedItems (others a is)
others_formed a [] h = tt
others_formed a (i ∷ is) h = by (not (same i a)) (others_formed a is h.1)
  where
    by : (b : Bool) → AreWellFormedItems (others a is) → AreWellFormedItems (if b then i ∷ others a is else others a is)
    by true r = (h.0, r)
    by false r = r

pulled_in_formed : (a : Value) (ws : List Part) (p : Part) (f : Value-F Value) (v : Value) → IsNamedPlace ws p → IsHeldWellFormed f → IsWellFormed v → IsWellFormedAct (pulled_in a ws p f v)
pulled_in_formed a ws p (Value-F.Array is) v n k h = by (list_any (λ i. same i a) is)
  where
    by : (b : Bool) → IsWellFormedAct (if b then Steps (replaced ws p (Array (others a is)) v) else Steps [])
    by true = replaced_formed ws p (Array (others a is)) v n (formed_array (others a is) (others_formed a is k)) h
    by false = tt
pulled_in_formed a ws p _ v n k h = tt

pull_formed : (a : Value) (l : Located) (v : Value) → IsWellFormedEnd l → IsWellFormed v → IsWellFormedAct (pull a l v)
pull_formed a (There ws p c) v l h = pulled_in_formed a ws p (out-Value c) v l.0 (held_formed c l.1) h
pull_formed a (Missing ws p n ks) v l h = tt
pull_formed a Blocked v l h = tt

act_formed : (o : Operator) (v : Value) → IsWellFormedOperator o → IsWellFormed v → IsWellFormedAct (act o v)
act_formed (operators.Set path a) v o h = set_formed (located path v) a v (located_formed path v o.0 h) o.1 h
act_formed (operators.Unset path) v o h = unset_formed (located path v) v (located_formed path v o h) h
act_formed (operators.Inc path n) v o h = count_formed (located path v) (λ m. sum m n) n v (located_formed path v o.0 h) (λ m r e. combined_formed (λ a b. a +ℤ b) m n r e) o.1 h
act_formed (operators.Mul path n) v o h = count_formed (located path v) (λ m. product m n) (zero_of n) v (located_formed path v o.0 h) (λ m r e. combined_formed (λ a b. a *ℤ b) m n r e) (zero_formed n) h
act_formed (operators.Rename from to) v o h = rename_formed (located from v) to v (located_formed from v o.0 h) o.1 h
act_formed (operators.Push path vs) v o h = push_formed (λ is. vs) (located path v) v (located_formed path v o.0 h) (λ is. o.1) h
act_formed (operators.AddToSet path vs) v o h = push_formed (λ is. new_ones is vs) (located path v) v (located_formed path v o.0 h) (λ is. new_ones_formed vs is o.1) h
act_formed (operators.Pop path end) v o h = pop_formed end (located path v) v (located_formed path v o h) h
act_formed (operators.Pull path a) v o h = pull_formed a (located path v) v (located_formed path v o h) h

-- ---- all operators

abbrev pub IsWellFormedOutcome : Outcome → Type 0
IsWellFormedOutcome (Ok ss) = IsWellFormedTrace ss
IsWellFormedOutcome (Err f) = ⊤

more_formed : (ss : Trace) (o : Outcome) → IsWellFormedTrace ss → IsWellFormedOutcome o → IsWellFormedOutcome (and_more ss o)
more_formed ss (Ok ts) a b = trace_append ss ts a b
more_formed ss (Err f) a b = tt

on_act_formed : (go : Bool → Value → Outcome) (large : Bool) (v : Value) (a : Act) → ((b : Bool) (w : Value) → IsWellFormed w → IsWellFormedOutcome (go b w)) → IsWellFormedAct a → IsWellFormed v → IsWellFormedOutcome (on_act go large v a)
on_act_formed go large v (Steps ss) g a h = more_formed ss (go large (after v ss)) a (g large (after v ss) (after_formed v ss h a))
on_act_formed go large v (Refused f) g a h = tt
on_act_formed go large v Oversized g a h = g true v h

end_formed : (o : Option UpdateFault) → IsWellFormedOutcome (ended o)
end_formed None = tt
end_formed (Some f) = tt

pub outcome_formed : (os : List Operator) (large : Bool) (v : Value) → AreWellFormedOperators os → IsWellFormed v → IsWellFormedOutcome (outcome os large v)
outcome_formed [] large v o h = end_formed (refusal_at_end large (fields_of v))
outcome_formed (o ∷ os) large v k h = on_act_formed (outcome os) large v (act o v) (λ b w q. outcome_formed os b w k.1 q) (act_formed o v k.0 h) h
