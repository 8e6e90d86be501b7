-- An update that is accepted leaves a document with its `_id`, which is short.
use Rattle.std.proofs.Common.{◌≡◌, ℕ, ◌+◌, ◌≤◌, List, [], ◌∷◌, ◌++◌, length, Bool, true, false, refl, sym, ◌∙◌, subst, arith, Option, Some, None}
use Rattle.std.specs.Prelude.{⊤, ◌||◌, not, if◌then◌else◌, nat_lt, nat_le, Ok, Err}
use Rattle.std.specs.List.{list_any}
use Rattle.std.proofs.lemmas.Bool.{le-leb}
use Rattle.std.proofs.lemmas.Grind.{common_steps}
use Rattle.containers.specs.Entries.{lookup}
use Rattle.bson_value.specs.declared.value.Value.{Value, Value-F, Array, Null, Object, out-Value}
use Rattle.bson_value.specs.Digits.{index_of}
use Rattle.bson_value.specs.Levels.{levels_of}
use Rattle.bson_value.specs.Place.{an_object, shape_in, shape, child_in, child}
use Rattle.bson_value.specs.Spelling.{document_text}
use Rattle.coll_state.specs.Kept.{is_short}
use Rattle.coll_state.specs.Rows.{Document, id_of}
use Rattle.doc_path.specs.declared.parts.Part.{Part}
use Rattle.doc_path.specs.declared.parts.Part.TheVariants.{Name as name, Index as index}
use Rattle.doc_path.specs.declared.parts.Change.TheVariants.{Put, Delete, Resize as Length}
use Rattle.doc_path.specs.Touch.{limit}
use Rattle.doc_path.specs.Played.{id_name}
use Rattle.doc_path.proofs.Places.{child-object}
use Rattle.doc_path.proofs.Steps.{shape-object}
use Rattle.update_model.specs.declared.operator.Operator.{Operator}
use Rattle.update_model.specs.declared.operator.Operator.TheVariants as operators_are
use Rattle.update_model.specs.declared.operator.Number.{Number}
use Rattle.update_model.specs.declared.operator.ArrayEnd.{ArrayEnd}
use Rattle.update_model.specs.declared.operator.ArrayEnd.TheVariants as ends
use Rattle.update_model.specs.declared.fault.UpdateFault.{UpdateFault}
use Rattle.update_model.specs.declared.fault.UpdateFault.TheVariants as faults
use Rattle.update_model.specs.declared.updated.Updated.{Updated}
use Rattle.update_model.specs.Conflicts.{Path}
use Rattle.update_model.specs.Arguments.{number_in}
use Rattle.update_model.specs.Equality.{same}
use Rattle.update_model.specs.Numbers.{sum, product, zero_of, value_of}
use Rattle.update_model.specs.Located.{Located, There, Missing, Blocked, located, build}
use Rattle.update_model.specs.Steps.{Trace, after, marks_of, replaced, added, appended, removed, cut}
use Rattle.update_model.specs.Touched.{touches}
use Rattle.update_model.specs.Acts.{Act, Steps, Refused, Oversized, is_far, made_at, changed_at, set, is_null, unset, counted_as, counted, count, goes_through_array, can_take, moved_to, moved, rename, grown, pushed_in, push, new_ones, shortened, popped, popped_in, pop, others, pulled_in, pull, act}
use Rattle.update_model.specs.Reading.{operators, ops_fault}
use Rattle.update_model.specs.Sound.{IsOff, ActsOff, AllActOff}
use Rattle.update_model.specs.Updating.{Outcome, fields_in, fields_of, byte_limit, level_limit, refusal_at_end, ended, and_more, on_act, outcome, updated_by, updated}
use Rattle.update_model.proofs.CleanActs.{Off, AllOff, located_off}
use Rattle.update_model.proofs.ReadOff.{read_off}
use Rattle.history_model.specs.Refusals.{accepted}
use Rattle.history_model.proofs.WellFormed.{accepted_ok}
use Rattle.stored_documents.specs.Laws.{UpdateKeepsId, UpdateIsShort}
use Rattle.stored_documents.proofs.Steps.{Keeps, stays, then_keeps, changed_keeps}
use Rattle.coll_state.proofs.Shortness.{join}

-- ---- each operator

abbrev KeptBy : Value → Act → Type 0
KeptBy v (Steps ss) = Keeps v (after v ss)
KeptBy v (Refused f) = ⊤
KeptBy v Oversized = ⊤

after_append : (ss ts : Trace) (v : Value) → after v (ss ++ ts) ≡ after (after v ss) ts
after_append [] ts v = refl
after_append (s ∷ ss) ts v = after_append ss ts s.1

made_kept : (ws : List Part) (p : Part) (n : ℕ) (ks : Path) (a v : Value) → Off ws p → KeptBy v (made_at ws p n ks a v)
made_kept ws p n ks a v h = by (is_far p n)
  where
    by : (b : Bool) → KeptBy v (if b then Refused faults.Backfill else Steps (added ws p n (build ks a) v))
    by true = tt
    by false = changed_keeps ws p (Put (build ks a)) v h

changed_kept : (ws : List Part) (p : Part) (c a v : Value) → Off ws p → KeptBy v (changed_at ws p c a v)
changed_kept ws p c a v h = by (same c a)
  where
    by : (b : Bool) → KeptBy v (if b then Steps [] else Steps (replaced ws p a v))
    by true = stays v
    by false = changed_keeps ws p (Put a) v h

set_kept : (l : Located) (a v : Value) → AllOff l → KeptBy v (set l a v)
set_kept (There ws p c) a v h = changed_kept ws p c a v h
set_kept (Missing ws p n ks) a v h = made_kept ws p n ks a v h
set_kept Blocked a v h = tt

unset_kept : (l : Located) (v : Value) → AllOff l → KeptBy v (unset l v)
unset_kept (There ws (name k) c) v h = changed_keeps ws (name k) Delete v h
unset_kept (There ws (index i) c) v h = by (is_null (out-Value c))
  where
    by : (b : Bool) → KeptBy v (if b then Steps [] else Steps (replaced ws (index i) Null v))
    by true = stays v
    by false = changed_keeps ws (index i) (Put Null) v h
unset_kept (Missing ws p n ks) v h = stays v
unset_kept Blocked v h = stays v

counted_kept : (ws : List Part) (p : Part) (c v : Value) (op : Number → Option Number) (o : Option Number) → Off ws p → KeptBy v (counted ws p c op o v)
counted_kept ws p c v op None h = tt
counted_kept ws p c v op (Some n) h = by (op n)
  where
    by : (o : Option Number) → KeptBy v (counted_as ws p c o v)
    by None = tt
    by (Some m) = changed_kept ws p c (value_of m) v h

count_kept : (l : Located) (op : Number → Option Number) (first : Number) (v : Value) → AllOff l → KeptBy v (count l op first v)
count_kept (There ws p c) op first v h = counted_kept ws p c v op (number_in (out-Value c)) h
count_kept (Missing ws p n ks) op first v h = made_kept ws p n ks (value_of first) v h
count_kept Blocked op first v h = tt

moved_to_kept : (l : Located) (a v : Value) → AllOff l → Keeps v (after v (moved_to l a v))
moved_to_kept (There ws p c) a v h = changed_keeps ws p (Put a) v h
moved_to_kept (Missing ws p n ks) a v h = changed_keeps ws p (Put (build ks a)) v h
moved_to_kept Blocked a v h = stays v

rename_kept : (l : Located) (to : Path) (v : Value) → AllOff l → IsOff to → KeptBy v (rename l to v)
rename_kept (There ws p c) to v h o = by (goes_through_array ws p || not (can_take (located to v)))
  where
    by : (b : Bool) → KeptBy v (if b then Refused faults.NotViable else Steps (moved (removed ws p v) to c v))
    by true = tt
    by false =
        (let w = after v (removed ws p v) in
        then_keeps v w (after w (moved_to (located to w) c w)) (changed_keeps ws p Delete v h) (moved_to_kept (located to w) c w (located_off to w o)))
rename_kept (Missing ws p n ks) to v h o = stays v
rename_kept Blocked to v h o = tt

grown_kept : (ws : List Part) (p : Part) (is vs : List Value) (v : Value) → Off ws p → KeptBy v (grown ws p is vs v)
grown_kept ws p is [] v h = stays v
grown_kept ws p is (a ∷ vs) v h = by (nat_lt limit (length is + length (a ∷ vs)))
  where
    by : (b : Bool) → KeptBy v (if b then Oversized else Steps (appended ws p is (a ∷ vs) v))
    by true = tt
    by false = changed_keeps ws p (Put (Array (is ++ (a ∷ vs)))) v h

pushed_kept : (news : List Value → List Value) (ws : List Part) (p : Part) (v : Value) (f : Value-F Value) → Off ws p → KeptBy v (pushed_in news ws p f v)
pushed_kept news ws p v (Value-F.Array is) h = grown_kept ws p is (news is) v h
pushed_kept news ws p v _ h = tt

push_kept : (news : List Value → List Value) (l : Located) (v : Value) → AllOff l → KeptBy v (push news l v)
push_kept news (There ws p c) v h = pushed_kept news ws p v (out-Value c) h
push_kept news (Missing ws p n ks) v h = made_kept ws p n ks (Array (news [])) v h
push_kept news Blocked v h = tt

shortened_kept : (ws : List Part) (p : Part) (n : ℕ) (v : Value) → Off ws p → KeptBy v (shortened ws p n v)
shortened_kept ws p n v h = by (nat_lt n limit)
  where
    by : (b : Bool) → KeptBy v (if b then Steps (cut ws p n v) else Oversized)
    by true = changed_keeps ws p (Length n) v h
    by false = tt

popped_kept : (end : ArrayEnd) (ws : List Part) (p : Part) (is : List Value) (v : Value) → Off ws p → KeptBy v (popped end ws p is v)
popped_kept end ws p [] v h = stays v
popped_kept ends.First ws p (i ∷ is) v h = changed_keeps ws p (Put (Array is)) v h
popped_kept ends.Last ws p (i ∷ is) v h = shortened_kept ws p (length is) v h

popped_in_kept : (end : ArrayEnd) (ws : List Part) (p : Part) (f : Value-F Value) (v : Value) → Off ws p → KeptBy v (popped_in end ws p f v)
popped_in_kept end ws p (Value-F.Array is) v h = popped_kept end ws p is v h
popped_in_kept end ws p _ v h = tt

pop_kept : (end : ArrayEnd) (l : Located) (v : Value) → AllOff l → KeptBy v (pop end l v)
pop_kept end (There ws p c) v h = popped_in_kept end ws p (out-Value c) v h
pop_kept end (Missing ws p n ks) v h = stays v
pop_kept end Blocked v h = tt

pulled_kept : (a : Value) (ws : List Part) (p : Part) (f : Value-F Value) (v : Value) → Off ws p → KeptBy v (pulled_in a ws p f v)
pulled_kept a ws p (Value-F.Array is) v h = by (list_any (λ i. same i a) is)
  where
    by : (b : Bool) → KeptBy v (if b then Steps (replaced ws p (Array (others a is)) v) else Steps [])
    by true = changed_keeps ws p (Put (Array (others a is))) v h
    by false = stays v
pulled_kept a ws p _ v h = tt

pull_kept : (a : Value) (l : Located) (v : Value) → AllOff l → KeptBy v (pull a l v)
pull_kept a (There ws p c) v h = pulled_kept a ws p (out-Value c) v h
pull_kept a (Missing ws p n ks) v h = stays v
pull_kept a Blocked v h = tt

act_kept : (o : Operator) (v : Value) → ActsOff o → KeptBy v (act o v)
act_kept (operators_are.Set path a) v h = set_kept (located path v) a v (located_off path v h)
act_kept (operators_are.Unset path) v h = unset_kept (located path v) v (located_off path v h)
act_kept (operators_are.Inc path n) v h = count_kept (located path v) (λ m. sum m n) n v (located_off path v h)
act_kept (operators_are.Mul path n) v h = count_kept (located path v) (λ m. product m n) (zero_of n) v (located_off path v h)
act_kept (operators_are.Rename from to) v h = rename_kept (located from v) to v (located_off from v h.0) h.1
act_kept (operators_are.Push path vs) v h = push_kept (λ is. vs) (located path v) v (located_off path v h)
act_kept (operators_are.AddToSet path vs) v h = push_kept (λ is. new_ones is vs) (located path v) v (located_off path v h)
act_kept (operators_are.Pop path end) v h = pop_kept end (located path v) v (located_off path v h)
act_kept (operators_are.Pull path a) v h = pull_kept a (located path v) v (located_off path v h)

-- ---- all operators

abbrev Good : Value → Value → Type 0
Good v w = Keeps v w × (is_short (fields_of w) ≡ true)

abbrev GoodOutcome : Value → Outcome → Type 0
GoodOutcome v (Ok ss) = Good v (after v ss)
GoodOutcome v (Err f) = ⊤

more_good : (v : Value) (ss : Trace) (o : Outcome) → Keeps v (after v ss) → GoodOutcome (after v ss) o → GoodOutcome v (and_more ss o)
more_good v ss (Ok ts) a b = subst (Good v) (sym (after_append ss ts v)) (then_keeps v (after v ss) (after (after v ss) ts) a b.0, b.1)
more_good v ss (Err f) a b = tt

on_act_good : (go : Bool → Value → Outcome) (large : Bool) (v : Value) (a : Act) → ((b : Bool) (w : Value) → GoodOutcome w (go b w)) → KeptBy v a → GoodOutcome v (on_act go large v a)
on_act_good go large v (Steps ss) h k = more_good v ss (go large (after v ss)) k (h large (after v ss))
on_act_good go large v (Refused f) h k = tt
on_act_good go large v Oversized h k = h true v

not_more : (a b : ℕ) → nat_lt a b ≡ false → nat_le b a ≡ true
not_more a b e = (let l : b ≤ a = grind (arith, common_steps) in le-leb b a l)

-- a document that isn't refused at the end
end_short : (large : Bool) (d : Document) → refusal_at_end large d ≡ None → is_short d ≡ true
end_short large d = by large (nat_lt byte_limit (length (document_text d))) (nat_lt level_limit (levels_of d)) refl refl
  where
    by : (x y z : Bool) → nat_lt byte_limit (length (document_text d)) ≡ y → nat_lt level_limit (levels_of d) ≡ z →
        (if x then Some faults.TooLong else if y then Some faults.TooLong else if z then Some faults.Deep else None) ≡ None → is_short d ≡ true
    by true y z e f g = cc
    by false true z e f g = cc
    by false false true e f g = cc
    by false false false e f g = join (nat_le (length (document_text d)) byte_limit) (nat_le (levels_of d) level_limit) (not_more byte_limit (length (document_text d)) e) (not_more level_limit (levels_of d) f)

end_good : (large : Bool) (v : Value) → GoodOutcome v (ended (refusal_at_end large (fields_of v)))
end_good large v = by (refusal_at_end large (fields_of v)) refl
  where
    by : (o : Option UpdateFault) → refusal_at_end large (fields_of v) ≡ o → GoodOutcome v (ended o)
    by None e = (stays v, end_short large (fields_of v) e)
    by (Some f) e = tt

outcome_good : (os : List Operator) (large : Bool) (v : Value) → AllActOff os → GoodOutcome v (outcome os large v)
outcome_good [] large v h = end_good large v
outcome_good (o ∷ os) large v h = on_act_good (outcome os) large v (act o v) (λ b w. outcome_good os b w h.1) (act_kept o v h.0)

-- ---- the document

child_field : (v : Value) (k : List ℕ) → shape v ≡ an_object → child v k ≡ lookup k (fields_of v)
unfolding shape child
child_field v k s = by (out-Value v) s
  where
    by : (f : Value-F Value) → shape_in f ≡ an_object → child_in f k (index_of k) ≡ lookup k (fields_in f)
    by (Value-F.Object fs) e = refl
    by _ e = cc

kept_id : (old : Document) (w : Value) → Keeps (Object old) w → id_of (fields_of w) ≡ id_of old
kept_id old w k = (let h = k (shape-object old) in sym (child_field w id_name h.0) ∙ (h.1 ∙ child-object old id_name))

abbrev Stands : Document → Document → Type 0
Stands old new = (id_of new ≡ id_of old) × (is_short new ≡ true)

good_by : (old : Document) (o : Outcome) (u : Updated) → GoodOutcome (Object old) o → updated_by (Object old) o ≡ Ok u → Stands old u.doc
good_by old (Err f) u g e = cc
good_by old (Ok ss) u g e =
    (let w = after (Object old) ss in
    let is : record { doc = fields_of w; touches = touches w (marks_of ss) } ≡ u = cc in
    subst (λ (x : Updated). Stands old x.doc) is (kept_id old w g.0, g.1))

stands : (ops old : Document) (u : Updated) → accepted (ops_fault ops) (updated (operators ops) old) ≡ Some u → Stands old u.doc
unfolding updated
stands ops old u e =
    (let b = accepted_ok (ops_fault ops) (updated (operators ops) old) u e in
    good_by old (outcome (operators ops) false (Object old)) u (outcome_good (operators ops) false (Object old) (read_off ops b.0)) b.1)

pub keeps_id : UpdateKeepsId
keeps_id ops old u e = (stands ops old u e).0

pub stays_short : UpdateIsShort
stays_short ops old u e = (stands ops old u e).1
