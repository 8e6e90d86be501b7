-- Where `_id` is the first field, no operator changes that.
use Rattle.std.proofs.Common.{◌≡◌, ℕ, ◌+◌, List, [], ◌∷◌, ◌++◌, length, Bool, true, false, sym, ap, ◌∙◌, subst, Option, Some, None}
use Rattle.std.specs.Prelude.{⊤, ◌||◌, not, if◌then◌else◌, nat_lt, Ok, Err}
use Rattle.std.specs.List.{list_any}
use Rattle.std.specs.Str.{bytes_eq}
use Rattle.std.proofs.Common.{inl, inr}
use Rattle.std.proofs.lemmas.Bool.{cases_Bool}
use Rattle.std.proofs.lemmas.Slice.Eq.{bytes_eq-Decides}
use Rattle.containers.specs.Entries.{put as put_field, without as without_field}
use Rattle.bson_value.specs.declared.value.Value.{Value, Value-F, Array, Null, Object, out-Value, out-roll-Value}
use Rattle.bson_value.specs.declared.value.Value.TheVariants.{outs-Object}
use Rattle.bson_value.specs.Digits.{digits, index_of}
use Rattle.bson_value.specs.Place.{an_object, shape, shape_in, child, put, put_in, del, del_in, into}
use Rattle.doc_path.specs.declared.parts.Part.{Part}
use Rattle.doc_path.specs.declared.parts.Part.TheVariants.{Name as name, Index as index}
use Rattle.doc_path.specs.declared.parts.Form.TheVariants.{V2}
use Rattle.doc_path.specs.declared.parts.Change.{Change}
use Rattle.doc_path.specs.declared.parts.Change.TheVariants.{Put, Delete, Resize as Length}
use Rattle.doc_path.specs.Touch.{limit, takes, or_else, walk_by, set_by, unset_by, resize_here, changed}
use Rattle.doc_path.specs.Played.{id_name, is_id}
use Rattle.update_model.specs.declared.operator.Operator.{Operator}
use Rattle.update_model.specs.declared.operator.Operator.TheVariants as operators
use Rattle.update_model.specs.declared.operator.Number.{Number}
use Rattle.update_model.specs.declared.operator.ArrayEnd.{ArrayEnd}
use Rattle.update_model.specs.declared.operator.ArrayEnd.TheVariants as ends
use Rattle.update_model.specs.declared.fault.UpdateFault.{UpdateFault}
use Rattle.update_model.specs.declared.fault.UpdateFault.TheVariants as faults
use Rattle.update_model.specs.declared.updated.Updated.{Updated}
use Rattle.update_model.specs.Conflicts.{Path}
use Rattle.update_model.specs.Arguments.{Fields, number_in}
use Rattle.update_model.specs.Equality.{same}
use Rattle.update_model.specs.Numbers.{sum, product, zero_of, value_of}
use Rattle.update_model.specs.Located.{Located, There, Missing, Blocked, located, build}
use Rattle.update_model.specs.Steps.{Trace, after, replaced, added, appended, removed, cut, marks_of}
use Rattle.update_model.specs.Touched.{touches}
use Rattle.update_model.specs.Acts.{Act, Steps, Refused, Oversized, is_far, made_at, changed_at, set, is_null, unset, counted_as, counted, count, goes_through_array, can_take, moved_to, moved, rename, grown, pushed_in, push, new_ones, popped, popped_in, pop, others, pulled_in, pull, act}
use Rattle.update_model.specs.Reading.{operators as operators_of, ops_fault}
use Rattle.update_model.specs.Updating.{Outcome, fields_in, fields_of, refusal_at_end, ended, and_more, on_act, outcome, updated_by, updated}
use Rattle.update_model.specs.Sound.{ActsOff, AllActOff, IsOff}
use Rattle.update_model.proofs.CleanActs.{Off, AllOff, located_off}
use Rattle.update_model.proofs.ReadOff.{read_off}
use Rattle.update_bounds.specs.Laws.{BeginsWith, UpdatesKeepFirst}

module _ (id : Value) where
  -- a document with that first field
  Begins : Value → Type 0
  Begins v = (rest : Fields) × (out-Value v ≡ Value-F.Object ((id_name, id) ∷ rest))

  shape_is : (v : Value) → Begins v → shape v ≡ an_object
  unfolding Begins shape
  shape_is v h = ap shape_in h.1

  put_begins : (v : Value) (k : List ℕ) (a : Value) → bytes_eq id_name k ≡ false → Begins v → Begins (put v k a)
  unfolding Begins put
  put_begins v k a e h = (
    put_field k a h.0,
    out-roll-Value (put_in (out-Value v) k (index_of k) a)
        ∙ (ap (λ (f : Value-F Value). put_in f k (index_of k) a) h.1 ∙ ap (λ (b : Bool). Value-F.Object (if b then (k, a) ∷ h.0 else (id_name, id) ∷ put_field k a h.0)) e),
  )

  del_begins : (v : Value) (k : List ℕ) → bytes_eq id_name k ≡ false → Begins v → Begins (del v k)
  unfolding Begins del
  del_begins v k e h = (
    without_field k h.0,
    out-roll-Value (del_in (out-Value v) k (index_of k))
        ∙ (ap (λ (f : Value-F Value). del_in f k (index_of k)) h.1 ∙ ap (λ (b : Bool). Value-F.Object (if b then without_field k h.0 else (id_name, id) ∷ without_field k h.0)) e),
  )

  other_way : (k : List ℕ) → bytes_eq k id_name ≡ false → bytes_eq id_name k ≡ false
  other_way k e =
      elim (cases_Bool (bytes_eq id_name k)) [
        | inl t ↦ let q : k ≡ id_name = sym ((bytes_eq-Decides id_name k).0 t) in let r : bytes_eq k id_name ≡ true = (bytes_eq-Decides k id_name).1 q in cc
        | inr f ↦ f
      ]

  not_taken : (n : ℕ) (v : Value) → Begins v → takes V2 (index n) (shape v) ≡ false
  not_taken n v h = ap (takes V2 (index n)) (shape_is v h)

  set_begins : (p : Part) (a v : Value) → is_id p ≡ false → Begins v → Begins (set_by (takes V2) p a v)
  set_begins (name k) a v e h = by (takes V2 (name k) (shape v))
    where
      by : (b : Bool) → Begins (if b then put v k a else v)
      by true = put_begins v k a (other_way k e) h
      by false = h
  set_begins (index n) a v e h = subst (λ (b : Bool). Begins (if b then put v (digits n) a else v)) (sym (not_taken n v h)) h

  unset_begins : (p : Part) (v : Value) → is_id p ≡ false → Begins v → Begins (unset_by (takes V2) p v)
  unset_begins (name k) v e h = by (takes V2 (name k) (shape v))
    where
      by : (b : Bool) → Begins (if b then del v k else v)
      by true = del_begins v k (other_way k e) h
      by false = h
  unset_begins (index n) v e h = subst (λ (b : Bool). Begins (if b then del v (digits n) else v)) (sym (not_taken n v h)) h

  walk_begins : (p : Part) (ps : List Part) (g : Value → Value) (v : Value) → is_id p ≡ false → Begins v → Begins (walk_by (takes V2) None (p ∷ ps) g v)
  walk_begins (name k) ps g v e h = by (takes V2 (name k) (shape v)) (child v k)
    where
      by : (b : Bool) (o : Option Value) → Begins (if b then into (walk_by (takes V2) None ps g) v k (or_else o None) else v)
      by true (Some c) = put_begins v k (walk_by (takes V2) None ps g c) (other_way k e) h
      by true None = h
      by false o = h
  walk_begins (index n) ps g v e h = subst (λ (b : Bool). Begins (if b then into (walk_by (takes V2) None ps g) v (digits n) (or_else (child v (digits n)) None) else v)) (sym (not_taken n v h)) h

  changed_begins : (ws : List Part) (p : Part) (c : Change) (v : Value) → Off ws p → Begins v → Begins (changed V2 ws p c v)
  changed_begins [] p (Put a) v e h = set_begins p a v e h
  changed_begins [] p Delete v e h = unset_begins p v e h
  changed_begins [] p (Length n) v e h = walk_begins p [] (resize_here n) v e h
  changed_begins (q ∷ ws) p (Put a) v e h = walk_begins q ws (set_by (takes V2) p a) v e h
  changed_begins (q ∷ ws) p Delete v e h = walk_begins q ws (unset_by (takes V2) p) v e h
  changed_begins (q ∷ ws) p (Length n) v e h = walk_begins q ws (walk_by (takes V2) None (p ∷ []) (resize_here n)) v e h

  -- ---- each operator

  AllBegin : Trace → Type 0
  AllBegin [] = ⊤
  AllBegin (s ∷ ss) = Begins s.1 × AllBegin ss

  ActBegins : Act → Type 0
  ActBegins (Steps ss) = AllBegin ss
  ActBegins (Refused f) = ⊤
  ActBegins Oversized = ⊤

  all_append : (ss ts : Trace) → AllBegin ss → AllBegin ts → AllBegin (ss ++ ts)
  unfolding AllBegin
  all_append [] ts a b = b
  all_append (s ∷ ss) ts a b = (a.0, all_append ss ts a.1 b)

  after_begins : (v : Value) (ss : Trace) → Begins v → AllBegin ss → Begins (after v ss)
  unfolding AllBegin
  after_begins v [] h t = h
  after_begins v (s ∷ ss) h t = after_begins s.1 ss t.0 t.1

  one_step : (ws : List Part) (p : Part) (c : Change) (v : Value) → Off ws p → Begins v → Begins (changed V2 ws p c v) × ⊤
  one_step ws p c v e h = (changed_begins ws p c v e h, tt)

  made_begins : (ws : List Part) (p : Part) (n : ℕ) (ks : Path) (a v : Value) → Off ws p → Begins v → ActBegins (made_at ws p n ks a v)
  unfolding AllBegin ActBegins
  made_begins ws p n ks a v e h = by (is_far p n)
    where
      by : (b : Bool) → ActBegins (if b then Refused faults.Backfill else Steps (added ws p n (build ks a) v))
      by true = tt
      by false = one_step ws p (Put (build ks a)) v e h

  changed_at_begins : (ws : List Part) (p : Part) (c a v : Value) → Off ws p → Begins v → ActBegins (changed_at ws p c a v)
  unfolding AllBegin ActBegins
  changed_at_begins ws p c a v e h = by (same c a)
    where
      by : (b : Bool) → ActBegins (if b then Steps [] else Steps (replaced ws p a v))
      by true = tt
      by false = one_step ws p (Put a) v e h

  set_act : (l : Located) (a v : Value) → AllOff l → Begins v → ActBegins (set l a v)
  unfolding ActBegins
  set_act (There ws p c) a v e h = changed_at_begins ws p c a v e h
  set_act (Missing ws p n ks) a v e h = made_begins ws p n ks a v e h
  set_act Blocked a v e h = tt

  unset_act : (l : Located) (v : Value) → AllOff l → Begins v → ActBegins (unset l v)
  unfolding AllBegin ActBegins
  unset_act (There ws (name k) c) v e h = one_step ws (name k) Delete v e h
  unset_act (There ws (index i) c) v e h = by (is_null (out-Value c))
    where
      by : (b : Bool) → ActBegins (if b then Steps [] else Steps (replaced ws (index i) Null v))
      by true = tt
      by false = one_step ws (index i) (Put Null) v e h
  unset_act (Missing ws p n ks) v e h = tt
  unset_act Blocked v e h = tt

  counted_act : (ws : List Part) (p : Part) (c v : Value) (op : Number → Option Number) (o : Option Number) → Off ws p → Begins v → ActBegins (counted ws p c op o v)
  unfolding ActBegins
  counted_act ws p c v op None e h = tt
  counted_act ws p c v op (Some n) e h = by (op n)
    where
      by : (o : Option Number) → ActBegins (counted_as ws p c o v)
      by None = tt
      by (Some m) = changed_at_begins ws p c (value_of m) v e h

  count_act : (l : Located) (op : Number → Option Number) (first : Number) (v : Value) → AllOff l → Begins v → ActBegins (count l op first v)
  unfolding ActBegins
  count_act (There ws p c) op first v e h = counted_act ws p c v op (number_in (out-Value c)) e h
  count_act (Missing ws p n ks) op first v e h = made_begins ws p n ks (value_of first) v e h
  count_act Blocked op first v e h = tt

  moved_to_begins : (l : Located) (a v : Value) → AllOff l → Begins v → AllBegin (moved_to l a v)
  unfolding AllBegin
  moved_to_begins (There ws p c) a v e h = one_step ws p (Put a) v e h
  moved_to_begins (Missing ws p n ks) a v e h = one_step ws p (Put (build ks a)) v e h
  moved_to_begins Blocked a v e h = tt

  rename_act : (l : Located) (to : Path) (v : Value) → AllOff l → IsOff to → Begins v → ActBegins (rename l to v)
  unfolding AllBegin ActBegins
  rename_act (There ws p c) to v e o h = by (goes_through_array ws p || not (can_take (located to v)))
    where
      by : (b : Bool) → ActBegins (if b then Refused faults.NotViable else Steps (moved (removed ws p v) to c v))
      by true = tt
      by false =
          let out = removed ws p v in
          let gone : AllBegin out = one_step ws p Delete v e h in
          let left : Begins (after v out) = after_begins v out h gone in
          all_append out (moved_to (located to (after v out)) c (after v out)) gone (moved_to_begins (located to (after v out)) c (after v out) (located_off to (after v out) o) left)
  rename_act (Missing ws p n ks) to v e o h = tt
  rename_act Blocked to v e o h = tt

  grown_act : (ws : List Part) (p : Part) (is vs : List Value) (v : Value) → Off ws p → Begins v → ActBegins (grown ws p is vs v)
  unfolding AllBegin ActBegins
  grown_act ws p is [] v e h = tt
  grown_act ws p is (a ∷ vs) v e h = by (nat_lt limit (length is + length (a ∷ vs)))
    where
      by : (b : Bool) → ActBegins (if b then Oversized else Steps (appended ws p is (a ∷ vs) v))
      by true = tt
      by false = one_step ws p (Put (Array (is ++ a ∷ vs))) v e h

  pushed_act : (news : List Value → List Value) (ws : List Part) (p : Part) (f : Value-F Value) (v : Value) → Off ws p → Begins v → ActBegins (pushed_in news ws p f v)
  unfolding ActBegins
  pushed_act news ws p (Value-F.Array is) v e h = grown_act ws p is (news is) v e h
  pushed_act news ws p _ v e h = tt

  push_act : (news : List Value → List Value) (l : Located) (v : Value) → AllOff l → Begins v → ActBegins (push news l v)
  unfolding ActBegins
  push_act news (There ws p c) v e h = pushed_act news ws p (out-Value c) v e h
  push_act news (Missing ws p n ks) v e h = made_begins ws p n ks (Array (news [])) v e h
  push_act news Blocked v e h = tt

  popped_act : (end : ArrayEnd) (ws : List Part) (p : Part) (is : List Value) (v : Value) → Off ws p → Begins v → ActBegins (popped end ws p is v)
  unfolding AllBegin ActBegins
  popped_act end ws p [] v e h = tt
  popped_act ends.First ws p (i ∷ is) v e h = one_step ws p (Put (Array is)) v e h
  popped_act ends.Last ws p (i ∷ is) v e h = by (nat_lt (length is) limit)
    where
      by : (b : Bool) → ActBegins (if b then Steps (cut ws p (length is) v) else Oversized)
      by true = one_step ws p (Length (length is)) v e h
      by false = tt

  popped_in_act : (end : ArrayEnd) (ws : List Part) (p : Part) (f : Value-F Value) (v : Value) → Off ws p → Begins v → ActBegins (popped_in end ws p f v)
  unfolding ActBegins
  popped_in_act end ws p (Value-F.Array is) v e h = popped_act end ws p is v e h
  popped_in_act end ws p _ v e h = tt

  pop_act : (end : ArrayEnd) (l : Located) (v : Value) → AllOff l → Begins v → ActBegins (pop end l v)
  unfolding AllBegin ActBegins
  pop_act end (There ws p c) v e h = popped_in_act end ws p (out-Value c) v e h
  pop_act end (Missing ws p n ks) v e h = tt
  pop_act end Blocked v e h = tt

  pulled_act : (a : Value) (ws : List Part) (p : Part) (f : Value-F Value) (v : Value) → Off ws p → Begins v → ActBegins (pulled_in a ws p f v)
  unfolding AllBegin ActBegins
  pulled_act a ws p (Value-F.Array is) v e h = by (list_any (λ i. same i a) is)
    where
      by : (b : Bool) → ActBegins (if b then Steps (replaced ws p (Array (others a is)) v) else Steps [])
      by true = one_step ws p (Put (Array (others a is))) v e h
      by false = tt
  pulled_act a ws p _ v e h = tt

  pull_act : (a : Value) (l : Located) (v : Value) → AllOff l → Begins v → ActBegins (pull a l v)
  unfolding AllBegin ActBegins
  pull_act a (There ws p c) v e h = pulled_act a ws p (out-Value c) v e h
  pull_act a (Missing ws p n ks) v e h = tt
  pull_act a Blocked v e h = tt

  act_begins : (o : Operator) (v : Value) → ActsOff o → Begins v → ActBegins (act o v)
  act_begins (operators.Set path a) v o h = set_act (located path v) a v (located_off path v o) h
  act_begins (operators.Unset path) v o h = unset_act (located path v) v (located_off path v o) h
  act_begins (operators.Inc path n) v o h = count_act (located path v) (λ m. sum m n) n v (located_off path v o) h
  act_begins (operators.Mul path n) v o h = count_act (located path v) (λ m. product m n) (zero_of n) v (located_off path v o) h
  act_begins (operators.Rename from to) v o h = rename_act (located from v) to v (located_off from v o.0) o.1 h
  act_begins (operators.Push path vs) v o h = push_act (λ is. vs) (located path v) v (located_off path v o) h
  act_begins (operators.AddToSet path vs) v o h = push_act (λ is. new_ones is vs) (located path v) v (located_off path v o) h
  act_begins (operators.Pop path end) v o h = pop_act end (located path v) v (located_off path v o) h
  act_begins (operators.Pull path a) v o h = pull_act a (located path v) v (located_off path v o) h

  -- ---- all operators

  OutcomeBegins : Outcome → Type 0
  OutcomeBegins (Ok ss) = AllBegin ss
  OutcomeBegins (Err f) = ⊤

  more_begins : (ss : Trace) (o : Outcome) → AllBegin ss → OutcomeBegins o → OutcomeBegins (and_more ss o)
  unfolding OutcomeBegins
  more_begins ss (Ok ts) a b = all_append ss ts a b
  more_begins ss (Err f) a b = tt

  on_act_begins : (go : Bool → Value → Outcome) (large : Bool) (v : Value) (a : Act) → ((b : Bool) (w : Value) → Begins w → OutcomeBegins (go b w)) → ActBegins a → Begins v → OutcomeBegins (on_act go large v a)
  unfolding ActBegins OutcomeBegins
  on_act_begins go large v (Steps ss) g a h = more_begins ss (go large (after v ss)) a (g large (after v ss) (after_begins v ss h a))
  on_act_begins go large v (Refused f) g a h = tt
  on_act_begins go large v Oversized g a h = g true v h

  end_begins : (o : Option UpdateFault) → OutcomeBegins (ended o)
  unfolding AllBegin OutcomeBegins
  end_begins None = tt
  end_begins (Some f) = tt

  outcome_begins : (os : List Operator) (large : Bool) (v : Value) → AllActOff os → Begins v → OutcomeBegins (outcome os large v)
  outcome_begins [] large v o h = end_begins (refusal_at_end large (fields_of v))
  outcome_begins (o ∷ os) large v k h = on_act_begins (outcome os) large v (act o v) (λ b w q. outcome_begins os b w k.1 q) (act_begins o v k.0 h) h

  fields_begin : (v : Value) → Begins v → BeginsWith id (fields_of v)
  unfolding Begins
  fields_begin v h = (h.0, ap fields_in h.1)

  object_begins : (doc : Fields) → BeginsWith id doc → Begins (Object doc)
  unfolding Begins
  object_begins doc b = (b.0, outs-Object doc ∙ ap (λ (fs : Fields). Value-F.Object fs) b.1)

  updated_begins : (ops doc : Fields) (u : Updated) → BeginsWith id doc → ops_fault ops ≡ None → updated (operators_of ops) doc ≡ Ok u → BeginsWith id u.doc
  unfolding updated OutcomeBegins
  updated_begins ops doc u b s e = by (outcome (operators_of ops) false (Object doc)) (outcome_begins (operators_of ops) false (Object doc) (read_off ops s) (object_begins doc b)) e
    where
      by : (o : Outcome) → OutcomeBegins o → updated_by (Object doc) o ≡ Ok u → BeginsWith id u.doc
      by (Err f) g p = cc
      by (Ok ss) g p =
          let z = after (Object doc) ss in
          let q : record { doc = fields_of z; touches = touches z (marks_of ss) } ≡ u = cc in
          subst (λ (w : Updated). BeginsWith id w.doc) q (fields_begin z (after_begins (Object doc) ss (object_begins doc b) g))

pub updates_keep_first : UpdatesKeepFirst
updates_keep_first id ops doc u b s e = updated_begins id ops doc u b s e
