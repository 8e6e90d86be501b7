-- Each change of an operator has a mark, and none is at `_id`.
use Rattle.std.proofs.Common.{◌≡◌, ℕ, zero, suc, ◌-◌, ◌<◌, ◌≤◌, ◌+◌, List, [], ◌∷◌, ◌++◌, length, Bool, true, false, refl, sym, ap, ◌∙◌, subst, arith, Option, Some, None}
use Rattle.std.specs.Prelude.{⊤, ◌||◌, not, if◌then◌else◌, nat_lt, Result, Ok, Err}
use Rattle.std.specs.List.{list_any}
use Rattle.std.proofs.lemmas.Grind.{common_steps}
use Rattle.bson_value.specs.declared.value.Value.{Value, Value-F, Array, Null, out-Value}
use Rattle.doc_path.specs.declared.parts.Part.{Part}
use Rattle.doc_path.specs.declared.parts.Part.TheVariants.{Name as name, Index as index}
use Rattle.doc_path.specs.declared.parts.Form.TheVariants.{V2}
use Rattle.doc_path.specs.Touch.{limit, Way}
use Rattle.update_model.specs.declared.mark.Mark.{Mark}
use Rattle.update_model.specs.declared.operator.Operator.{Operator}
use Rattle.update_model.specs.declared.operator.Operator.TheVariants as operators
use Rattle.update_model.specs.declared.operator.Number.{Number}
use Rattle.update_model.specs.declared.operator.ArrayEnd.{ArrayEnd}
use Rattle.update_model.specs.declared.operator.ArrayEnd.TheVariants as ends
use Rattle.update_model.specs.declared.fault.UpdateFault.{UpdateFault}
use Rattle.update_model.specs.declared.fault.UpdateFault.TheVariants as faults
use Rattle.update_model.specs.Conflicts.{Path}
use Rattle.update_model.specs.Arguments.{number_in}
use Rattle.update_model.specs.Equality.{same}
use Rattle.update_model.specs.Numbers.{sum, product, zero_of, value_of}
use Rattle.update_model.specs.Located.{Located, There, Missing, Blocked, located, build}
use Rattle.update_model.specs.Steps.{Trace, after, replaced, added, appended, removed, cut}
use Rattle.update_model.specs.Acts.{Act, Steps, Refused, Oversized, is_far, made_at, changed_at, set, is_null, unset, counted_as, counted, count, is_index, goes_through_array, can_take, moved_to, moved, rename, grown, pushed_in, push, new_ones, shortened, popped, popped_in, pop, others, pulled_in, pull, act}
use Rattle.update_model.specs.Updating.{Outcome, fields_of, refusal_at_end, ended, and_more, on_act, outcome}
use Rattle.std.specs.Str.{bytes_eq}
use Rattle.bson_value.specs.Place.{Shape, a_leaf, an_array, an_object, a_code, shape, child}
use Rattle.bson_value.specs.Digits.{index_of}
use Rattle.doc_path.specs.Touch.{key_of}
use Rattle.doc_path.specs.Played.{id_name, is_id, starts_at_id}
use Rattle.update_model.specs.declared.mark.Made.{Made}
use Rattle.update_model.specs.Reading.{starts_with_id}
use Rattle.update_model.specs.Sound.{IsOff, ActsOff, AllActOff}
use Rattle.update_model.specs.Steps.{mark, elements, padding, newly, marks_of}
use Rattle.update_model.specs.Touched.{parts_of}
use Rattle.update_model.specs.Located.{part_in, part_at, within, further, located_under, located_at}

abbrev pub Off : List Part → Part → Type 0
Off ws p = starts_at_id (ws ++ (p ∷ [])) ≡ false

abbrev pub AllOff : Located → Type 0
AllOff (There ws p c) = Off ws p
AllOff (Missing ws p n ks) = Off ws p
AllOff Blocked = ⊤

abbrev pub NotId : List Mark → Type 0
NotId [] = ⊤
NotId (m ∷ ms) = (starts_at_id (parts_of m) ≡ false) × NotId ms

abbrev pub CleanTrace : Trace → Type 0
CleanTrace [] = ⊤
CleanTrace (s ∷ ss) = (s.0 ≡ [] → ⊥) × NotId s.0 × CleanTrace ss

abbrev pub Clean : Act → Type 0
Clean (Steps ss) = CleanTrace ss
Clean (Refused f) = ⊤
Clean Oversized = ⊤

pub clean_append : (ss ts : Trace) → CleanTrace ss → CleanTrace ts → CleanTrace (ss ++ ts)
clean_append [] ts a b = b
clean_append (s ∷ ss) ts a b = (a.0, a.1, clean_append ss ts a.2 b)

not_id_append : (ms ns : List Mark) → NotId ms → NotId ns → NotId (ms ++ ns)
not_id_append [] ns a b = b
not_id_append (m ∷ ms) ns a b = (a.0, not_id_append ms ns a.1 b)

-- ---- where a path leads

part_off : (k : List ℕ) (i : Option ℕ) (s : Shape) (p : Part) → bytes_eq k id_name ≡ false → part_in k i s ≡ Some p → is_id p ≡ false
part_off k i an_object p n e = let f : name k ≡ p = cc in subst (λ (z : Part). is_id z ≡ false) f n
part_off k (Some m) an_array p n e = by (nat_lt m limit) e
  where
    by : (b : Bool) → (if b then Some (index m) else None) ≡ Some p → is_id p ≡ false
    by true e = let g : index m ≡ p = cc in subst (λ (z : Part). is_id z ≡ false) g refl
    by false e = cc
part_off k None an_array p n e = cc
part_off k i (a_leaf c) p n e = cc
part_off k i (a_code t) p n e = cc

within_off : (p : Part) (l : Located) → is_id p ≡ false → AllOff (within p l)
within_off p (There ws q c) h = h
within_off p (Missing ws q n ks) h = h
within_off p Blocked h = tt

further_off : (ks : Path) (go : Value → Located) (p : Part) (c : Value) → is_id p ≡ false → AllOff (further ks go p c)
further_off [] go p c h = h
further_off (k ∷ ks) go p c h = within_off p (go c) h

pub located_off : (path : Path) (v : Value) → IsOff path → AllOff (located path v)
located_off [] v h = tt
located_off (k ∷ ks) v h = by (part_at k v) refl
  where
    under_part : (p : Part) (o : Option Value) → is_id p ≡ false → AllOff (located_under (further ks (located ks)) ks v p o)
    under_part p None e = e
    under_part p (Some c) e = further_off ks (located ks) p c e

    by : (o : Option Part) → part_at k v ≡ o → AllOff (located_at (further ks (located ks)) ks v o)
    by None e = tt
    by (Some p) e = under_part p (child v (key_of p)) (part_off k (index_of k) (shape v) p h e)

-- ---- single changes

beside : (ws : List Part) (p : Part) (i : ℕ) → Off ws p → Off ws (index i)
beside [] p i h = refl
beside (q ∷ ws) p i h = h

deeper : (ws : List Part) (p : Part) (i : ℕ) → Off ws p → Off (ws ++ (p ∷ [])) (index i)
deeper [] p i h = h
deeper (q ∷ ws) p i h = h

elements_off : (ws : List Part) (from n : ℕ) → ((i : ℕ) → Off ws (index i)) → NotId (elements ws from n)
elements_off ws from zero h = tt
elements_off ws from (suc n) h = (h from, elements_off ws (suc from) n h)

padding_off : (ws : List Part) (p : Part) (n : ℕ) → Off ws p → NotId (padding ws p n)
padding_off ws (name k) n h = tt
padding_off ws (index i) n h = elements_off ws n (i - n) (λ j. beside ws (index i) j h)

some_last : (ms : List Mark) (m : Mark) → ms ++ (m ∷ []) ≡ [] → ⊥
some_last [] m e = cc
some_last (n ∷ ms) m e = cc

replaced_clean : (ws : List Part) (p : Part) (a v : Value) → Off ws p → CleanTrace (replaced ws p a v)
replaced_clean ws p a v h = ((λ e. cc), (h, tt), tt)

added_clean : (ws : List Part) (p : Part) (n : ℕ) (a v : Value) → Off ws p → CleanTrace (added ws p n a v)
added_clean ws p n a v h = (some_last (padding ws p n) (mark ws p (newly p)), not_id_append (padding ws p n) (mark ws p (newly p) ∷ []) (padding_off ws p n h) (h, tt), tt)

removed_clean : (ws : List Part) (p : Part) (v : Value) → Off ws p → CleanTrace (removed ws p v)
removed_clean ws p v h = ((λ e. cc), (h, tt), tt)

cut_clean : (ws : List Part) (p : Part) (n : ℕ) (v : Value) → Off ws p → CleanTrace (cut ws p n v)
cut_clean ws p n v h = ((λ e. cc), (h, tt), tt)

appended_clean : (ws : List Part) (p : Part) (is : List Value) (a : Value) (vs : List Value) (v : Value) → Off ws p → CleanTrace (appended ws p is (a ∷ vs) v)
appended_clean ws p is a vs v h = ((λ e. cc), elements_off (ws ++ (p ∷ [])) (length is) (length (a ∷ vs)) (λ i. deeper ws p i h), tt)

made_clean : (ws : List Part) (p : Part) (n : ℕ) (ks : Path) (a v : Value) → Off ws p → Clean (made_at ws p n ks a v)
made_clean ws p n ks a v h = by (is_far p n)
  where
    by : (b : Bool) → Clean (if b then Refused faults.Backfill else Steps (added ws p n (build ks a) v))
    by true = tt
    by false = added_clean ws p n (build ks a) v h

changed_clean : (ws : List Part) (p : Part) (c a v : Value) → Off ws p → Clean (changed_at ws p c a v)
changed_clean ws p c a v h = by (same c a)
  where
    by : (b : Bool) → Clean (if b then Steps [] else Steps (replaced ws p a v))
    by true = tt
    by false = replaced_clean ws p a v h

set_clean : (l : Located) (a v : Value) → AllOff l → Clean (set l a v)
set_clean (There ws p c) a v h = changed_clean ws p c a v h
set_clean (Missing ws p n ks) a v h = made_clean ws p n ks a v h
set_clean Blocked a v h = tt

unset_clean : (l : Located) (v : Value) → AllOff l → Clean (unset l v)
unset_clean (There ws (name k) c) v h = removed_clean ws (name k) v h
unset_clean (There ws (index i) c) v h = by (is_null (out-Value c))
  where
    by : (b : Bool) → Clean (if b then Steps [] else Steps (replaced ws (index i) Null v))
    by true = tt
    by false = replaced_clean ws (index i) Null v h
unset_clean (Missing ws p n ks) v h = tt
unset_clean Blocked v h = tt

counted_clean : (ws : List Part) (p : Part) (c v : Value) (op : Number → Option Number) (o : Option Number) → Off ws p → Clean (counted ws p c op o v)
counted_clean ws p c v op None h = tt
counted_clean ws p c v op (Some n) h = by (op n)
  where
    by : (o : Option Number) → Clean (counted_as ws p c o v)
    by None = tt
    by (Some m) = changed_clean ws p c (value_of m) v h

count_clean : (l : Located) (op : Number → Option Number) (first : Number) (v : Value) → AllOff l → Clean (count l op first v)
count_clean (There ws p c) op first v h = counted_clean ws p c v op (number_in (out-Value c)) h
count_clean (Missing ws p n ks) op first v h = made_clean ws p n ks (value_of first) v h
count_clean Blocked op first v h = tt

moved_to_clean : (l : Located) (a v : Value) → AllOff l → CleanTrace (moved_to l a v)
moved_to_clean (There ws p c) a v h = replaced_clean ws p a v h
moved_to_clean (Missing ws p n ks) a v h = added_clean ws p n (build ks a) v h
moved_to_clean Blocked a v h = tt

rename_clean : (l : Located) (to : Path) (v : Value) → AllOff l → IsOff to → Clean (rename l to v)
rename_clean (There ws p c) to v h o = by (goes_through_array ws p || not (can_take (located to v)))
  where
    by : (b : Bool) → Clean (if b then Refused faults.NotViable else Steps (moved (removed ws p v) to c v))
    by true = tt
    by false =
        let out = removed ws p v in
        clean_append out (moved_to (located to (after v out)) c (after v out)) (removed_clean ws p v h) (moved_to_clean (located to (after v out)) c (after v out) (located_off to (after v out) o))
rename_clean (Missing ws p n ks) to v h o = tt
rename_clean Blocked to v h o = tt

grown_clean : (ws : List Part) (p : Part) (is vs : List Value) (c v : Value) → out-Value c ≡ Value-F.Array is → Off ws p → Clean (grown ws p is vs v)
grown_clean ws p is [] c v e h = tt
grown_clean ws p is (a ∷ vs) c v e h = by (nat_lt limit (length is + length (a ∷ vs))) refl
  where
    by : (b : Bool) → nat_lt limit (length is + length (a ∷ vs)) ≡ b → Clean (if b then Oversized else Steps (appended ws p is (a ∷ vs) v))
    by true f = tt
    by false f = appended_clean ws p is a vs v h

pushed_clean : (news : List Value → List Value) (ws : List Part) (p : Part) (c v : Value) (f : Value-F Value) → out-Value c ≡ f → Off ws p → Clean (pushed_in news ws p f v)
pushed_clean news ws p c v (Value-F.Array is) e h = grown_clean ws p is (news is) c v e h
pushed_clean news ws p c v _ e h = tt

push_clean : (news : List Value → List Value) (l : Located) (v : Value) → AllOff l → Clean (push news l v)
push_clean news (There ws p c) v h = pushed_clean news ws p c v (out-Value c) refl h
push_clean news (Missing ws p n ks) v h = made_clean ws p n ks (Array (news [])) v h
push_clean news Blocked v h = tt

shortened_clean : (ws : List Part) (p : Part) (n : ℕ) (c v : Value) → Off ws p → Clean (shortened ws p n v)
shortened_clean ws p n c v h = by (nat_lt n limit)
  where
    by : (b : Bool) → Clean (if b then Steps (cut ws p n v) else Oversized)
    by true = cut_clean ws p n v h
    by false = tt

popped_clean : (end : ArrayEnd) (ws : List Part) (p : Part) (is : List Value) (c v : Value) → Off ws p → Clean (popped end ws p is v)
popped_clean end ws p [] c v h = tt
popped_clean ends.First ws p (i ∷ is) c v h = replaced_clean ws p (Array is) v h
popped_clean ends.Last ws p (i ∷ is) c v h = shortened_clean ws p (length is) c v h

pop_clean : (end : ArrayEnd) (l : Located) (v : Value) → AllOff l → Clean (pop end l v)
pop_clean end (There ws p c) v h = by (out-Value c)
  where
    by : (f : Value-F Value) → Clean (popped_in end ws p f v)
    by (Value-F.Array is) = popped_clean end ws p is c v h
    by _ = tt
pop_clean end (Missing ws p n ks) v h = tt
pop_clean end Blocked v h = tt

pull_clean : (a : Value) (l : Located) (v : Value) → AllOff l → Clean (pull a l v)
pull_clean a (There ws p c) v h = by (out-Value c)
  where
    some : (is : List Value) (b : Bool) → Clean (if b then Steps (replaced ws p (Array (others a is)) v) else Steps [])
    some is true = replaced_clean ws p (Array (others a is)) v h
    some is false = tt

    by : (f : Value-F Value) → Clean (pulled_in a ws p f v)
    by (Value-F.Array is) = some is (list_any (λ i. same i a) is)
    by _ = tt
pull_clean a (Missing ws p n ks) v h = tt
pull_clean a Blocked v h = tt

pub act_clean : (o : Operator) (v : Value) → ActsOff o → Clean (act o v)
act_clean (operators.Set path a) v h = set_clean (located path v) a v (located_off path v h)
act_clean (operators.Unset path) v h = unset_clean (located path v) v (located_off path v h)
act_clean (operators.Inc path n) v h = count_clean (located path v) (λ m. sum m n) n v (located_off path v h)
act_clean (operators.Mul path n) v h = count_clean (located path v) (λ m. product m n) (zero_of n) v (located_off path v h)
act_clean (operators.Rename from to) v h = rename_clean (located from v) to v (located_off from v h.0) h.1
act_clean (operators.Push path vs) v h = push_clean (λ is. vs) (located path v) v (located_off path v h)
act_clean (operators.AddToSet path vs) v h = push_clean (λ is. new_ones is vs) (located path v) v (located_off path v h)
act_clean (operators.Pop path end) v h = pop_clean end (located path v) v (located_off path v h)
act_clean (operators.Pull path a) v h = pull_clean a (located path v) v (located_off path v h)

-- ---- all operators

abbrev pub CleanOutcome : Outcome → Type 0
CleanOutcome (Ok ss) = CleanTrace ss
CleanOutcome (Err f) = ⊤

more_clean : (ss : Trace) (o : Outcome) → CleanTrace ss → CleanOutcome o → CleanOutcome (and_more ss o)
more_clean ss (Ok ts) a b = clean_append ss ts a b
more_clean ss (Err f) a b = tt

on_act_clean : (go : Bool → Value → Outcome) (large : Bool) (v : Value) (a : Act) → ((b : Bool) (w : Value) → CleanOutcome (go b w)) → Clean a → CleanOutcome (on_act go large v a)
on_act_clean go large v (Steps ss) h g = more_clean ss (go large (after v ss)) g (h large (after v ss))
on_act_clean go large v (Refused f) h g = tt
on_act_clean go large v Oversized h g = h true v

end_clean : (o : Option UpdateFault) → CleanOutcome (ended o)
end_clean None = tt
end_clean (Some f) = tt

pub outcome_clean : (os : List Operator) (large : Bool) (v : Value) → AllActOff os → CleanOutcome (outcome os large v)
outcome_clean [] large v h = end_clean (refusal_at_end large (fields_of v))
outcome_clean (o ∷ os) large v h = on_act_clean (outcome os) large v (act o v) (λ b w. outcome_clean os b w h.1) (act_clean o v h.0)

pub all_not_id : (ss : Trace) → CleanTrace ss → NotId (marks_of ss)
all_not_id [] h = tt
all_not_id (s ∷ ss) h = not_id_append s.0 (marks_of ss) h.1 (all_not_id ss h.2)
