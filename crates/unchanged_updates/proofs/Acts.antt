-- What one operator does: nothing, or another value stands at its path, and at paths that don't conflict all is as before.
use Rattle.std.proofs.Common.{◌≡◌, ℕ, ◌+◌, ◌<◌, ◌≤◌, List, [], ◌∷◌, ◌++◌, length, Bool, true, false, refl, sym, ap, ◌∙◌, subst, arith, Option, Some, None, inl, inr}
use Rattle.std.specs.Prelude.{⊤, ◌||◌, ◌⊎◌, not, nat_lt, if◌then◌else◌}
use Rattle.std.specs.List.{list_any}
use Rattle.std.proofs.lemmas.List.{length-append}
use Rattle.bson_value.specs.declared.value.Value.{Value, Value-F, Array, Null, out-Value, out-roll-Value}
use Rattle.bson_value.specs.declared.value.Value.TheVariants.{outs-Array, outs-Null}
use Rattle.bson_value.specs.Place.{value_at, sized}
use Rattle.doc_path.specs.declared.parts.Part.{Part}
use Rattle.doc_path.specs.declared.parts.Part.TheVariants.{Name as name, Index as index}
use Rattle.doc_path.specs.declared.parts.Form.TheVariants.{V2}
use Rattle.doc_path.specs.declared.parts.Change.TheVariants.{Put, Delete, Resize as Length}
use Rattle.doc_path.specs.Touch.{limit, changed, resize_in, resize_here}
use Rattle.update_model.specs.declared.operator.Operator.{Operator}
use Rattle.update_model.specs.declared.operator.Operator.TheVariants as operators
use Rattle.update_model.specs.declared.operator.Number.{Number}
use Rattle.update_model.specs.declared.operator.ArrayEnd.{ArrayEnd}
use Rattle.update_model.specs.declared.operator.ArrayEnd.TheVariants as ends
use Rattle.update_model.specs.declared.fault.UpdateFault.TheVariants as faults
use Rattle.update_model.specs.Conflicts.{Path, conflict}
use Rattle.update_model.specs.Arguments.{number_in}
use Rattle.update_model.specs.Equality.{same}
use Rattle.update_model.specs.Numbers.{sum, product, zero_of, value_of}
use Rattle.update_model.specs.Located.{Located, There, Missing, Blocked, located, build}
use Rattle.update_model.specs.Steps.{Trace, after, replaced, added, appended, removed, cut}
use Rattle.update_model.specs.Acts.{Act, Steps, Refused, Oversized, is_far, made_at, changed_at, set, is_null, unset, counted_as, counted, count, goes_through_array, can_take, moved_to, moved, rename, grown, pushed_in, push, new_ones, shortened, popped, popped_in, pop, others, pulled_in, pull, act}
use Rattle.update_model.proofs.SameValues.{same_equal}
use Rattle.unchanged_updates.proofs.Beside.{IsFirm, Beside, Framed, framed}
use Rattle.unchanged_updates.proofs.Placed.{Placed, placed, firm_if_there}
use Rattle.touch_laws.proofs.Bridge.{sized_long}

-- ---- what is said of an operator

abbrev pub ApartFrom : Path → List Path → Type 0
ApartFrom P [] = ⊤
ApartFrom P (K ∷ Ks) = (conflict P K ≡ false) × ApartFrom P Ks

-- another value stands there, or none where one was
pub record Changes (K : Path) (v w : Value) : Type 0 where
  pub other : value_at (Some w) K ≡ value_at (Some v) K → ⊥
  pub firm : IsFirm K w

abbrev pub Keeps : List Path → Value → Value → Type 0
Keeps Ks v w = (P : Path) → IsFirm P v → ApartFrom P Ks → Beside P v w

pub record Acted (K : Path) (Ks : List Path) (v : Value) (ss : Trace) : Type 0 where
  pub keeps : Keeps (K ∷ Ks) v (after v ss)
  pub does : (ss ≡ []) ⊎ Changes K v (after v ss)

abbrev pub Does : Path → List Path → Value → Act → Type 0
Does K Ks v (Steps ss) = Acted K Ks v ss
Does K Ks v (Refused f) = ⊤
Does K Ks v Oversized = ⊤

idle : (K : Path) (Ks : List Path) (v : Value) → Acted K Ks v []
idle K Ks v = record { keeps = λ P f a. record { same = refl; firm = f }; does = inl refl }

-- what is known of a place to which a path leads
record At (K : Path) (v : Value) (l : Located) : Type 0 where
  frames : (P : Path) → IsFirm P v → conflict P K ≡ false → Framed l v P
  place : Placed l K v

at : (K : Path) (v : Value) → At K v (located K v)
at K v = record { frames = λ P f e. framed K v P f e; place = placed K v }

-- ---- single changes

swaps : (K : Path) (ws : List Part) (p : Part) (c a v : Value) → At K v (There ws p c) → (a ≡ c → ⊥) → Acted K [] v (replaced ws p a v)
swaps K ws p c a v h n = record {
  keeps = λ P f e. h.frames P f e.0 (Put a) tt;
  does = inr (record {
    other = λ e. (let s : Some a ≡ Some c = sym (h.place.put_there a) ∙ (e ∙ h.place.now) in n cc);
    firm = firm_if_there K (changed V2 ws p (Put a) v) a (h.place.put_there a);
  });
}

makes : (K : Path) (ws : List Part) (p : Part) (n : ℕ) (ks : Path) (a v : Value) → At K v (Missing ws p n ks) → Acted K [] v (added ws p n (build ks a) v)
makes K ws p n ks a v h = record {
  keeps = λ P f e. h.frames P f e.0 (build ks a);
  does = inr (record {
    other = λ e. (let s : Some a ≡ None = sym (h.place.made_there a) ∙ (e ∙ h.place.now) in cc);
    firm = firm_if_there K (changed V2 ws p (Put (build ks a)) v) a (h.place.made_there a);
  });
}

made_does : (K : Path) (ws : List Part) (p : Part) (n : ℕ) (ks : Path) (a v : Value) → At K v (Missing ws p n ks) → Does K [] v (made_at ws p n ks a v)
made_does K ws p n ks a v h = by (is_far p n)
  where
    by : (b : Bool) → Does K [] v (if b then Refused faults.Backfill else Steps (added ws p n (build ks a) v))
    by true = tt
    by false = makes K ws p n ks a v h

changed_does : (K : Path) (ws : List Part) (p : Part) (c a v : Value) → At K v (There ws p c) → Does K [] v (changed_at ws p c a v)
changed_does K ws p c a v h = by (same c a) refl
  where
    by : (b : Bool) → same c a ≡ b → Does K [] v (if b then Steps [] else Steps (replaced ws p a v))
    by true e = idle K [] v
    by false e = swaps K ws p c a v h (λ i. (let t : same c a ≡ true = (same_equal c a).1 (sym i) in cc))

set_does : (K : Path) (l : Located) (a v : Value) → At K v l → Does K [] v (set l a v)
set_does K (There ws p c) a v h = changed_does K ws p c a v h
set_does K (Missing ws p n ks) a v h = made_does K ws p n ks a v h
set_does K Blocked a v h = tt

takes_out : (K : Path) (ws : List Part) (k : List ℕ) (c v : Value) → At K v (There ws (name k) c) → Acted K [] v (removed ws (name k) v)
takes_out K ws k c v h = record {
  keeps = λ P f e. h.frames P f e.0 Delete tt;
  does = inr (record {
    other = λ e. (let s : Some c ≡ None = sym h.place.now ∙ (sym e ∙ (h.place.taken_out k refl).gone) in cc);
    firm = (h.place.taken_out k refl).firm;
  });
}

unset_does : (K : Path) (l : Located) (v : Value) → At K v l → Does K [] v (unset l v)
unset_does K (There ws (name k) c) v h = takes_out K ws k c v h
unset_does K (There ws (index i) c) v h = by (is_null (out-Value c)) refl
  where
    by : (b : Bool) → is_null (out-Value c) ≡ b → Does K [] v (if b then Steps [] else Steps (replaced ws (index i) Null v))
    by true e = idle K [] v
    by false e = swaps K ws (index i) c Null v h (λ j. (let t : is_null (out-Value Null) ≡ false = subst (λ (z : Value). is_null (out-Value z) ≡ false) (sym j) e in let u : is_null Value-F.Null ≡ false = rw outs-Null at t in cc))
unset_does K (Missing ws p n ks) v h = idle K [] v
unset_does K Blocked v h = idle K [] v

counted_does : (K : Path) (ws : List Part) (p : Part) (c v : Value) (op : Number → Option Number) (o : Option Number) → At K v (There ws p c) → Does K [] v (counted ws p c op o v)
counted_does K ws p c v op None h = tt
counted_does K ws p c v op (Some n) h = by (op n)
  where
    by : (o : Option Number) → Does K [] v (counted_as ws p c o v)
    by None = tt
    by (Some m) = changed_does K ws p c (value_of m) v h

count_does : (K : Path) (l : Located) (op : Number → Option Number) (first : Number) (v : Value) → At K v l → Does K [] v (count l op first v)
count_does K (There ws p c) op first v h = counted_does K ws p c v op (number_in (out-Value c)) h
count_does K (Missing ws p n ks) op first v h = made_does K ws p n ks (value_of first) v h
count_does K Blocked op first v h = tt

-- ---- arrays

-- an array is no other one of another length
array_length : (is vs : List Value) (c : Value) → out-Value c ≡ Value-F.Array is → Array vs ≡ c → length vs ≡ length is
array_length is vs c e i =
    let f : Value-F.Array vs ≡ Value-F.Array is = sym (outs-Array vs) ∙ (ap out-Value i ∙ e) in
    ap length (let g : vs ≡ is = cc in g)

grown_does : (K : Path) (ws : List Part) (p : Part) (is vs : List Value) (c v : Value) → out-Value c ≡ Value-F.Array is → At K v (There ws p c) → Does K [] v (grown ws p is vs v)
grown_does K ws p is [] c v e h = idle K [] v
grown_does K ws p is (a ∷ vs) c v e h = by (nat_lt limit (length is + length (a ∷ vs)))
  where
    longer : Array (is ++ (a ∷ vs)) ≡ c → ⊥
    longer i = let l = array_length is (is ++ (a ∷ vs)) c e i in let m = length-append is (a ∷ vs) in omega arith

    by : (b : Bool) → Does K [] v (if b then Oversized else Steps (appended ws p is (a ∷ vs) v))
    by true = tt
    by false = (let s = swaps K ws p c (Array (is ++ (a ∷ vs))) v h longer in record { keeps = s.keeps; does = inr (of s.does) })
      where
        of : (replaced ws p (Array (is ++ (a ∷ vs))) v ≡ []) ⊎ Changes K v (changed V2 ws p (Put (Array (is ++ (a ∷ vs)))) v) → Changes K v (changed V2 ws p (Put (Array (is ++ (a ∷ vs)))) v)
        of (inl e) = cc
        of (inr c) = c

pushed_does : (K : Path) (news : List Value → List Value) (ws : List Part) (p : Part) (c v : Value) (f : Value-F Value) → out-Value c ≡ f → At K v (There ws p c) → Does K [] v (pushed_in news ws p f v)
pushed_does K news ws p c v (Value-F.Array is) e h = grown_does K ws p is (news is) c v e h
pushed_does K news ws p c v _ e h = tt

push_does : (K : Path) (news : List Value → List Value) (l : Located) (v : Value) → At K v l → Does K [] v (push news l v)
push_does K news (There ws p c) v h = pushed_does K news ws p c v (out-Value c) refl h
push_does K news (Missing ws p n ks) v h = made_does K ws p n ks (Array (news [])) v h
push_does K news Blocked v h = tt

-- an array of another length is another one
resized_other : (n : ℕ) (is : List Value) (c : Value) → out-Value c ≡ Value-F.Array is → n < length is → resize_here n c ≡ c → ⊥
unfolding resize_here
resized_other n is c e l i =
    let f : Value-F.Array (sized n is) ≡ out-Value (resize_here n c) = ap (resize_in n) (sym e) ∙ sym (out-roll-Value _) in
    let g : Value-F.Array (sized n is) ≡ Value-F.Array is = f ∙ (ap out-Value i ∙ e) in
    let h : sized n is ≡ is = cc in
    let k : length (sized n is) ≡ length is = ap length h in
    let m = sized_long n is in
    omega arith

cuts : (K : Path) (ws : List Part) (p : Part) (n : ℕ) (c v : Value) → At K v (There ws p c) → (resize_here n c ≡ c → ⊥) → Acted K [] v (cut ws p n v)
cuts K ws p n c v h o = record {
  keeps = λ P f e. h.frames P f e.0 (Length n) tt;
  does = inr (record {
    other = λ e. (let s : Some (resize_here n c) ≡ Some c = sym (h.place.cut_there n) ∙ (e ∙ h.place.now) in o cc);
    firm = firm_if_there K (changed V2 ws p (Length n) v) (resize_here n c) (h.place.cut_there n);
  });
}

shortened_does : (K : Path) (ws : List Part) (p : Part) (n : ℕ) (c v : Value) → At K v (There ws p c) → (resize_here n c ≡ c → ⊥) → Does K [] v (shortened ws p n v)
shortened_does K ws p n c v h o = by (nat_lt n limit)
  where
    by : (b : Bool) → Does K [] v (if b then Steps (cut ws p n v) else Oversized)
    by true = cuts K ws p n c v h o
    by false = tt

popped_does : (K : Path) (end : ArrayEnd) (ws : List Part) (p : Part) (is : List Value) (c v : Value) → out-Value c ≡ Value-F.Array is → At K v (There ws p c) → Does K [] v (popped end ws p is v)
popped_does K end ws p [] c v e h = idle K [] v
popped_does K ends.First ws p (i ∷ is) c v e h = swaps K ws p c (Array is) v h (λ j. (let l = array_length (i ∷ is) is c e j in omega arith))
popped_does K ends.Last ws p (i ∷ is) c v e h = shortened_does K ws p (length is) c v h (λ j. resized_other (length is) (i ∷ is) c e (omega arith) j)

popped_in_does : (K : Path) (end : ArrayEnd) (ws : List Part) (p : Part) (c v : Value) (f : Value-F Value) → out-Value c ≡ f → At K v (There ws p c) → Does K [] v (popped_in end ws p f v)
popped_in_does K end ws p c v (Value-F.Array is) e h = popped_does K end ws p is c v e h
popped_in_does K end ws p c v _ e h = tt

pop_does : (K : Path) (end : ArrayEnd) (l : Located) (v : Value) → At K v l → Does K [] v (pop end l v)
pop_does K end (There ws p c) v h = popped_in_does K end ws p c v (out-Value c) refl h
pop_does K end (Missing ws p n ks) v h = idle K [] v
pop_does K end Blocked v h = tt

others_fewer : (a : Value) (is : List Value) → (length (others a is) ≤ length is) × (list_any (λ i. same i a) is ≡ true → length (others a is) < length is)
others_fewer a [] = (omega arith, λ e. cc)
others_fewer a (i ∷ is) = by (same i a) (others_fewer a is)
  where
    by : (b : Bool) → (length (others a is) ≤ length is) × (list_any (λ i. same i a) is ≡ true → length (others a is) < length is) →
        (length (if not b then i ∷ others a is else others a is) ≤ length (i ∷ is)) × (b || list_any (λ i. same i a) is ≡ true → length (if not b then i ∷ others a is else others a is) < length (i ∷ is))
    by true h = (let l = h.0 in omega arith, λ e. (let l = h.0 in omega arith))
    by false h = (let l = h.0 in omega arith, λ e. (let l = h.1 e in omega arith))

pulled_does : (K : Path) (a : Value) (ws : List Part) (p : Part) (c v : Value) (f : Value-F Value) → out-Value c ≡ f → At K v (There ws p c) → Does K [] v (pulled_in a ws p f v)
pulled_does K a ws p c v (Value-F.Array is) e h = by (list_any (λ i. same i a) is) refl
  where
    by : (b : Bool) → list_any (λ i. same i a) is ≡ b → Does K [] v (if b then Steps (replaced ws p (Array (others a is)) v) else Steps [])
    by true s = swaps K ws p c (Array (others a is)) v h (λ j. (let l = array_length is (others a is) c e j in let m = (others_fewer a is).1 s in omega arith))
    by false s = idle K [] v
pulled_does K a ws p c v _ e h = tt

pull_does : (K : Path) (a : Value) (l : Located) (v : Value) → At K v l → Does K [] v (pull a l v)
pull_does K a (There ws p c) v h = pulled_does K a ws p c v (out-Value c) refl h
pull_does K a (Missing ws p n ks) v h = idle K [] v
pull_does K a Blocked v h = tt

-- ---- $rename

through_index : (ws : List Part) (i : ℕ) → goes_through_array ws (index i) ≡ true
through_index [] i = refl
through_index (name k ∷ ws) i = through_index ws i
through_index (index n ∷ ws) i = refl

pub both_beside : (P : Path) (v w x : Value) → Beside P v w → Beside P w x → Beside P v x
both_beside P v w x a b = record { same = b.same ∙ a.same; firm = b.firm }

moves_to : (to : Path) (l : Located) (a v : Value) → At to v l → (P : Path) → IsFirm P v → conflict P to ≡ false → Beside P v (after v (moved_to l a v))
moves_to to (There ws p c) a v h P f e = h.frames P f e (Put a) tt
moves_to to (Missing ws p n ks) a v h P f e = h.frames P f e (build ks a)
moves_to to Blocked a v h P f e = record { same = refl; firm = f }

moves : (K to : Path) (ws : List Part) (k : List ℕ) (c v : Value) → At K v (There ws (name k) c) → conflict K to ≡ false → Acted K (to ∷ []) v (moved (removed ws (name k) v) to c v)
moves K to ws k c v h n =
    let w = changed V2 ws (name k) Delete v in
    let out = h.place.taken_out k refl in
    let on = λ (P : Path) (f : IsFirm P w) (e : conflict P to ≡ false). moves_to to (located to w) c w (at to w) P f e in
    let own = on K out.firm n in
    record {
      keeps = λ P f e. (let b = h.frames P f e.0 Delete tt in both_beside P v w (after w (moved_to (located to w) c w)) b (on P b.firm e.1.0));
      does = inr (record {
        other = λ e. (let s : Some c ≡ None = sym h.place.now ∙ (sym e ∙ (own.same ∙ out.gone)) in cc);
        firm = own.firm;
      });
    }

rename_does : (K to : Path) (l : Located) (v : Value) → At K v l → conflict K to ≡ false → Does K (to ∷ []) v (rename l to v)
rename_does K to (There ws (name k) c) v h n = by (goes_through_array ws (name k) || not (can_take (located to v)))
  where
    by : (b : Bool) → Does K (to ∷ []) v (if b then Refused faults.NotViable else Steps (moved (removed ws (name k) v) to c v))
    by true = tt
    by false = moves K to ws k c v h n
rename_does K to (There ws (index i) c) v h n = by (goes_through_array ws (index i) || not (can_take (located to v))) refl
  where
    by : (b : Bool) → goes_through_array ws (index i) || not (can_take (located to v)) ≡ b → Does K (to ∷ []) v (if b then Refused faults.NotViable else Steps (moved (removed ws (index i) v) to c v))
    by true e = tt
    by false e = (let f : true || not (can_take (located to v)) ≡ false = rw (through_index ws i) at e in cc)
rename_does K to (Missing ws p n ks) v h m = record { keeps = λ P f a. record { same = refl; firm = f }; does = inl refl }
rename_does K to Blocked v h n = tt

-- ---- all of them

-- the path at which an operator acts, and that of a target
abbrev pub first_path : Operator → Path
first_path (operators.Set path a) = path
first_path (operators.Unset path) = path
first_path (operators.Inc path n) = path
first_path (operators.Mul path n) = path
first_path (operators.Rename from to) = from
first_path (operators.Push path vs) = path
first_path (operators.AddToSet path vs) = path
first_path (operators.Pop path end) = path
first_path (operators.Pull path a) = path

abbrev pub other_paths : Operator → List Path
other_paths (operators.Rename from to) = to ∷ []
other_paths _ = []

pub act_does : (o : Operator) (v : Value) → ApartFrom (first_path o) (other_paths o) → Does (first_path o) (other_paths o) v (act o v)
act_does (operators.Set path a) v n = set_does path (located path v) a v (at path v)
act_does (operators.Unset path) v n = unset_does path (located path v) v (at path v)
act_does (operators.Inc path m) v n = count_does path (located path v) (λ k. sum k m) m v (at path v)
act_does (operators.Mul path m) v n = count_does path (located path v) (λ k. product k m) (zero_of m) v (at path v)
act_does (operators.Rename from to) v n = rename_does from to (located from v) v (at from v) n.0
act_does (operators.Push path vs) v n = push_does path (λ is. vs) (located path v) v (at path v)
act_does (operators.AddToSet path vs) v n = push_does path (λ is. new_ones is vs) (located path v) v (at path v)
act_does (operators.Pop path end) v n = pop_does path end (located path v) v (at path v)
act_does (operators.Pull path a) v n = pull_does path a (located path v) v (at path v)
