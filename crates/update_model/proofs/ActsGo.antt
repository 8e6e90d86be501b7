-- Each operator, and an accepted update, is steps.
use Rattle.std.proofs.Common.{◌≡◌, ℕ, ◌≤◌, ◌+◌, List, [], ◌∷◌, ◌++◌, length, Bool, true, false, refl, ◌∙◌, arith, Option, Some, None}
use Rattle.std.specs.Prelude.{⊤, ◌||◌, not, if◌then◌else◌, nat_lt, Ok, Err}
use Rattle.std.specs.List.{list_any}
use Rattle.std.proofs.lemmas.Grind.{common_steps}
use Rattle.bson_value.specs.declared.value.Value.{Value, Value-F, Array, Null, out-Value}
use Rattle.doc_path.specs.declared.parts.Part.{Part}
use Rattle.doc_path.specs.declared.parts.Part.TheVariants.{Name as name, Index as index}
use Rattle.doc_path.specs.declared.parts.Form.TheVariants.{V2}
use Rattle.doc_path.specs.Touch.{limit, Way}
use Rattle.update_model.specs.declared.operator.Operator.{Operator}
use Rattle.update_model.specs.declared.operator.Operator.TheVariants as operators
use Rattle.update_model.specs.declared.operator.Number.{Number}
use Rattle.update_model.specs.declared.operator.ArrayEnd.{ArrayEnd}
use Rattle.update_model.specs.declared.operator.ArrayEnd.TheVariants as ends
use Rattle.update_model.specs.declared.fault.UpdateFault.{UpdateFault}
use Rattle.update_model.specs.declared.fault.UpdateFault.TheVariants as faults
use Rattle.update_model.specs.Conflicts.{Path}
use Rattle.update_model.specs.Arguments.{number_in}
use Rattle.update_model.specs.Equality.{same}
use Rattle.update_model.specs.Numbers.{sum, product, zero_of, value_of}
use Rattle.update_model.specs.Located.{Located, There, Missing, Blocked, located, build}
use Rattle.update_model.specs.Steps.{Trace, after, replaced, added, appended, removed, cut}
use Rattle.update_model.specs.Acts.{Act, Steps, Refused, Oversized, is_far, made_at, changed_at, set, is_null, unset, counted_as, counted, count, goes_through_array, can_take, moved_to, moved, rename, grown, pushed_in, push, new_ones, shortened, popped, popped_in, pop, others, pulled_in, pull, act}
use Rattle.update_model.specs.Updating.{Outcome, fields_of, refusal_at_end, ended, and_more, on_act, outcome}
use Rattle.update_model.proofs.ActSteps.{IsThere, IsMissing, Holds, located_holds, Goes, replaced_goes, added_goes, removed_goes, cut_goes, appended_goes}

abbrev pub Good : Value → Act → Type 0
Good v (Steps ss) = Goes v ss
Good v (Refused f) = ⊤
Good v Oversized = ⊤

steps_append : (ss ts : Trace) (v : Value) → Goes v ss → Goes (after v ss) ts → Goes v (ss ++ ts)
steps_append [] ts v a b = b
steps_append (s ∷ ss) ts v a b = (a.0, steps_append ss ts s.1 a.1 b)

made_good : (ws : List Part) (p : Part) (n : ℕ) (ks : Path) (a v : Value) → Way V2 ws (IsMissing p n) v → Good v (made_at ws p n ks a v)
made_good ws p n ks a v h = by (is_far p n)
  where
    by : (b : Bool) → Good v (if b then Refused faults.Backfill else Steps (added ws p n (build ks a) v))
    by true = tt
    by false = added_goes ws p n (build ks a) v h

changed_good : (ws : List Part) (p : Part) (c a v : Value) → Way V2 ws (IsThere p c) v → Good v (changed_at ws p c a v)
changed_good ws p c a v h = by (same c a)
  where
    by : (b : Bool) → Good v (if b then Steps [] else Steps (replaced ws p a v))
    by true = refl
    by false = replaced_goes ws p c a v h

set_good : (l : Located) (a v : Value) → Holds v l → Good v (set l a v)
set_good (There ws p c) a v h = changed_good ws p c a v h
set_good (Missing ws p n ks) a v h = made_good ws p n ks a v h
set_good Blocked a v h = tt

unset_good : (l : Located) (v : Value) → Holds v l → Good v (unset l v)
unset_good (There ws (name k) c) v h = removed_goes ws k c v h
unset_good (There ws (index i) c) v h = by (is_null (out-Value c))
  where
    by : (b : Bool) → Good v (if b then Steps [] else Steps (replaced ws (index i) Null v))
    by true = refl
    by false = replaced_goes ws (index i) c Null v h
unset_good (Missing ws p n ks) v h = refl
unset_good Blocked v h = refl

counted_good : (ws : List Part) (p : Part) (c v : Value) (op : Number → Option Number) (o : Option Number) → Way V2 ws (IsThere p c) v → Good v (counted ws p c op o v)
counted_good ws p c v op None h = tt
counted_good ws p c v op (Some n) h = by (op n)
  where
    by : (o : Option Number) → Good v (counted_as ws p c o v)
    by None = tt
    by (Some m) = changed_good ws p c (value_of m) v h

count_good : (l : Located) (op : Number → Option Number) (first : Number) (v : Value) → Holds v l → Good v (count l op first v)
count_good (There ws p c) op first v h = counted_good ws p c v op (number_in (out-Value c)) h
count_good (Missing ws p n ks) op first v h = made_good ws p n ks (value_of first) v h
count_good Blocked op first v h = tt

moved_to_good : (l : Located) (a v : Value) → Holds v l → Goes v (moved_to l a v)
moved_to_good (There ws p c) a v h = replaced_goes ws p c a v h
moved_to_good (Missing ws p n ks) a v h = added_goes ws p n (build ks a) v h
moved_to_good Blocked a v h = refl

pub no_index_last : (ws : List Part) (i : ℕ) → goes_through_array ws (index i) ≡ true
no_index_last [] i = refl
no_index_last (name k ∷ ws) i = no_index_last ws i
no_index_last (index j ∷ ws) i = refl

rename_good : (l : Located) (to : Path) (v : Value) → Holds v l → Good v (rename l to v)
rename_good (There ws (name k) c) to v h = by (goes_through_array ws (name k) || not (can_take (located to v)))
  where
    by : (b : Bool) → Good v (if b then Refused faults.NotViable else Steps (moved (removed ws (name k) v) to c v))
    by true = tt
    by false =
        let out = removed ws (name k) v in
        steps_append out (moved_to (located to (after v out)) c (after v out)) v (removed_goes ws k c v h) (moved_to_good (located to (after v out)) c (after v out) (located_holds to (after v out)))
rename_good (There ws (index i) c) to v h = rw (no_index_last ws i) tt
rename_good (Missing ws p n ks) to v h = refl
rename_good Blocked to v h = tt

pub within : (n : ℕ) (b : Bool) → nat_lt limit n ≡ b → b ≡ false → n ≤ limit
within n b e f = let g = e ∙ f in grind (arith, common_steps)

grown_good : (ws : List Part) (p : Part) (is vs : List Value) (c v : Value) → out-Value c ≡ Value-F.Array is → Way V2 ws (IsThere p c) v → Good v (grown ws p is vs v)
grown_good ws p is [] c v e h = refl
grown_good ws p is (a ∷ vs) c v e h = by (nat_lt limit (length is + length (a ∷ vs))) refl
  where
    by : (b : Bool) → nat_lt limit (length is + length (a ∷ vs)) ≡ b → Good v (if b then Oversized else Steps (appended ws p is (a ∷ vs) v))
    by true f = tt
    by false f = appended_goes ws p is (a ∷ vs) c v e (within (length is + length (a ∷ vs)) false f refl) h

pushed_good : (news : List Value → List Value) (ws : List Part) (p : Part) (c v : Value) (f : Value-F Value) → out-Value c ≡ f → Way V2 ws (IsThere p c) v → Good v (pushed_in news ws p f v)
pushed_good news ws p c v (Value-F.Array is) e h = grown_good ws p is (news is) c v e h
pushed_good news ws p c v _ e h = tt

push_good : (news : List Value → List Value) (l : Located) (v : Value) → Holds v l → Good v (push news l v)
push_good news (There ws p c) v h = pushed_good news ws p c v (out-Value c) refl h
push_good news (Missing ws p n ks) v h = made_good ws p n ks (Array (news [])) v h
push_good news Blocked v h = tt

shortened_good : (ws : List Part) (p : Part) (n : ℕ) (c v : Value) → Way V2 ws (IsThere p c) v → Good v (shortened ws p n v)
shortened_good ws p n c v h = by (nat_lt n limit)
  where
    by : (b : Bool) → Good v (if b then Steps (cut ws p n v) else Oversized)
    by true = cut_goes ws p n c v h
    by false = tt

popped_good : (end : ArrayEnd) (ws : List Part) (p : Part) (is : List Value) (c v : Value) → Way V2 ws (IsThere p c) v → Good v (popped end ws p is v)
popped_good end ws p [] c v h = refl
popped_good ends.First ws p (i ∷ is) c v h = replaced_goes ws p c (Array is) v h
popped_good ends.Last ws p (i ∷ is) c v h = shortened_good ws p (length is) c v h

pop_good : (end : ArrayEnd) (l : Located) (v : Value) → Holds v l → Good v (pop end l v)
pop_good end (There ws p c) v h = by (out-Value c)
  where
    by : (f : Value-F Value) → Good v (popped_in end ws p f v)
    by (Value-F.Array is) = popped_good end ws p is c v h
    by _ = tt
pop_good end (Missing ws p n ks) v h = refl
pop_good end Blocked v h = tt

pull_good : (a : Value) (l : Located) (v : Value) → Holds v l → Good v (pull a l v)
pull_good a (There ws p c) v h = by (out-Value c)
  where
    some : (is : List Value) (b : Bool) → Good v (if b then Steps (replaced ws p (Array (others a is)) v) else Steps [])
    some is true = replaced_goes ws p c (Array (others a is)) v h
    some is false = refl

    by : (f : Value-F Value) → Good v (pulled_in a ws p f v)
    by (Value-F.Array is) = some is (list_any (λ i. same i a) is)
    by _ = tt
pull_good a (Missing ws p n ks) v h = refl
pull_good a Blocked v h = tt

pub act_good : (o : Operator) (v : Value) → Good v (act o v)
act_good (operators.Set path a) v = set_good (located path v) a v (located_holds path v)
act_good (operators.Unset path) v = unset_good (located path v) v (located_holds path v)
act_good (operators.Inc path n) v = count_good (located path v) (λ m. sum m n) n v (located_holds path v)
act_good (operators.Mul path n) v = count_good (located path v) (λ m. product m n) (zero_of n) v (located_holds path v)
act_good (operators.Rename from to) v = rename_good (located from v) to v (located_holds from v)
act_good (operators.Push path vs) v = push_good (λ is. vs) (located path v) v (located_holds path v)
act_good (operators.AddToSet path vs) v = push_good (λ is. new_ones is vs) (located path v) v (located_holds path v)
act_good (operators.Pop path end) v = pop_good end (located path v) v (located_holds path v)
act_good (operators.Pull path a) v = pull_good a (located path v) v (located_holds path v)

-- ---- all operators

abbrev pub Traced : Value → Outcome → Type 0
Traced v (Ok ss) = Goes v ss
Traced v (Err f) = ⊤

more_traced : (ss : Trace) (v : Value) (o : Outcome) → Goes v ss → Traced (after v ss) o → Traced v (and_more ss o)
more_traced ss v (Ok ts) a b = steps_append ss ts v a b
more_traced ss v (Err f) a b = tt

act_traced : (go : Bool → Value → Outcome) (large : Bool) (v : Value) (a : Act) → ((b : Bool) (w : Value) → Traced w (go b w)) → Good v a → Traced v (on_act go large v a)
act_traced go large v (Steps ss) h g = more_traced ss v (go large (after v ss)) g (h large (after v ss))
act_traced go large v (Refused f) h g = tt
act_traced go large v Oversized h g = h true v

end_traced : (o : Option UpdateFault) (v : Value) → Traced v (ended o)
end_traced None v = refl
end_traced (Some f) v = tt

pub outcome_traced : (os : List Operator) (large : Bool) (v : Value) → Traced v (outcome os large v)
outcome_traced [] large v = end_traced (refusal_at_end large (fields_of v)) v
outcome_traced (o ∷ os) large v = act_traced (outcome os) large v (act o v) (λ b w. outcome_traced os b w) (act_good o v)
