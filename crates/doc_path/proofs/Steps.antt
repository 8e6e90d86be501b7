-- Writing at a name, level by level.
use Rattle.std.proofs.Common.{◌≡◌, ℕ, zero, suc, ◌<◌, ◌≤◌, true, false, List, [], ◌∷◌, ◌++◌, length, take, set, refl, sym, ap, ◌∙◌, subst, arith, Option, Some, None}
use Rattle.std.specs.Prelude.{⊤, slice_get, Bool, IfSome, IfNone, Result, Ok, Err, OnOk, OnErr}
use Rattle.std.proofs.lemmas.Grind.{common_steps}
use Rattle.bson_value.specs.declared.value.Value.{Value, Value-F, out-Value, roll-Value, roll-out-Value, Null}
use Rattle.bson_value.specs.declared.value.Value.TheVariants.{Object, Array, outs-Object, outs-Array, rolls-Object, rolls-Array}
use Rattle.containers.specs.Entries.{lookup, put as put_field, without}
use Rattle.bson_value.specs.Digits.{index_of, digits}
use Rattle.bson_value.specs.Place.{Shape, a_leaf, a_code, an_object, an_array, shape_in, shape, nth, at_index, child, put_item, put_in, put, blank_item, del_in, del, sized}
use Rattle.doc_path.specs.Touch.{Part, name, index, key_of, limit, or_else, walk_by, set_by, unset_by, resize_in, resize_here, step_by}
use Rattle.doc_path.specs.declared.parts.Rule.{Rule}
use Rattle.doc_path.specs.declared.parts.Rule.TheVariants.{V1, V2, Plain}
use Rattle.doc_path.specs.Rules.{taken_by}
use Rattle.doc_path.specs.declared.parts.Change.{Change}
use Rattle.doc_path.specs.declared.parts.Change.TheVariants.{Put, Delete, Resize as Length}
use Rattle.bson_value.proofs.Digits.{index_of-digits}
use Rattle.doc_path.proofs.Places.{child-object, child-array}

pub shape-object : (fs : List (List ℕ × Value)) → shape (Object fs) ≡ an_object
unfolding shape
shape-object fs = ap shape_in (outs-Object fs)

pub shape-array : (vs : List Value) → shape (Array vs) ≡ an_array
unfolding shape
shape-array vs = ap shape_in (outs-Array vs)

put-object : (fs : List (List ℕ × Value)) (k : List ℕ) (a : Value) → put (Object fs) k a ≡ Object (put_field k a fs)
unfolding put
put-object fs k a = ap (λ (f : Value-F Value). roll-Value (put_in f k (index_of k) a)) (outs-Object fs) ∙ rolls-Object (put_field k a fs)

put-array : (vs : List Value) (k : List ℕ) (n : ℕ) (a : Value) → index_of k ≡ Some n → put (Array vs) k a ≡ Array (put_item vs n a)
unfolding put
put-array vs k n a e =
    ap (λ (f : Value-F Value). roll-Value (put_in f k (index_of k) a)) (outs-Array vs)
    ∙ (ap (λ (i : Option ℕ). roll-Value (put_in (Value-F.Array vs) k i a)) e ∙ rolls-Array (put_item vs n a))

del-object : (fs : List (List ℕ × Value)) (k : List ℕ) → del (Object fs) k ≡ Object (without k fs)
unfolding del
del-object fs k = ap (λ (f : Value-F Value). roll-Value (del_in f k (index_of k))) (outs-Object fs) ∙ rolls-Object (without k fs)

del-array : (vs : List Value) (k : List ℕ) (n : ℕ) → index_of k ≡ Some n → del (Array vs) k ≡ Array (blank_item vs n)
unfolding del
del-array vs k n e =
    ap (λ (f : Value-F Value). roll-Value (del_in f k (index_of k))) (outs-Array vs)
    ∙ (ap (λ (i : Option ℕ). roll-Value (del_in (Value-F.Array vs) k i)) e ∙ rolls-Array (blank_item vs n))

-- a part that is taken in a document
takes_object : (r : Rule) (p : Part) (fs : List (List ℕ × Value)) → taken_by r p an_object ≡ true → taken_by r p (shape (Object fs)) ≡ true
takes_object r p fs t = rw (shape-object fs) t

takes_array : (r : Rule) (p : Part) (vs : List Value) → taken_by r p an_array ≡ true → taken_by r p (shape (Array vs)) ≡ true
takes_array r p vs t = rw (shape-array vs) t

pub takes_name : (r : Rule) (k : List ℕ) → taken_by r (name k) an_object ≡ true
takes_name V1 k = refl
takes_name V2 k = refl
takes_name Plain k = refl

-- ---- one step of a way

walk_by-on : (taken : Part → Shape → Bool) (d : Option Value) (p : Part) (ps : List Part) (g : Value → Value) (v c : Value) → taken p (shape v) ≡ true → or_else (child v (key_of p)) d ≡ Some c → walk_by taken d (p ∷ ps) g v ≡ put v (key_of p) (walk_by taken d ps g c)
walk_by-on taken d p ps g v c t e = rw (t, e) refl

walk_by-stops : (taken : Part → Shape → Bool) (d : Option Value) (p : Part) (ps : List Part) (g : Value → Value) (v : Value) → taken p (shape v) ≡ true → or_else (child v (key_of p)) d ≡ None → walk_by taken d (p ∷ ps) g v ≡ v
walk_by-stops taken d p ps g v t e = rw (t, e) refl

set_by-on : (taken : Part → Shape → Bool) (p : Part) (a v : Value) → taken p (shape v) ≡ true → set_by taken p a v ≡ put v (key_of p) a
set_by-on taken p a v t = rw t refl

unset_by-on : (taken : Part → Shape → Bool) (p : Part) (v : Value) → taken p (shape v) ≡ true → unset_by taken p v ≡ del v (key_of p)
unset_by-on taken p v t = rw t refl

pub doc_step : (r : Rule) (p : Part) (d : Option Value) (ps : List Part) (g : Value → Value) (fs fs' : List (List ℕ × Value)) (c c' : Value) →
    taken_by r p an_object ≡ true → or_else (lookup (key_of p) fs) d ≡ Some c → c' ≡ walk_by (taken_by r) d ps g c → fs' ≡ put_field (key_of p) c' fs → Object fs' ≡ walk_by (taken_by r) d (p ∷ ps) g (Object fs)
doc_step r p d ps g fs fs' c c' t e is new =
    ap Object new ∙ (sym (put-object fs (key_of p) c') ∙ (ap (put (Object fs) (key_of p)) is ∙ sym (walk_by-on (taken_by r) d p ps g (Object fs) c (takes_object r p fs t) (ap (λ (o : Option Value). or_else o d) (child-object fs (key_of p)) ∙ e))))

pub doc_stops : (r : Rule) (p : Part) (d : Option Value) (ps : List Part) (g : Value → Value) (fs : List (List ℕ × Value)) →
    taken_by r p an_object ≡ true → or_else (lookup (key_of p) fs) d ≡ None → Object fs ≡ walk_by (taken_by r) d (p ∷ ps) g (Object fs)
doc_stops r p d ps g fs t e = sym (walk_by-stops (taken_by r) d p ps g (Object fs) (takes_object r p fs t) (ap (λ (o : Option Value). or_else o d) (child-object fs (key_of p)) ∙ e))

pub array_step : (r : Rule) (p : Part) (d : Option Value) (ps : List Part) (g : Value → Value) (vs vs' : List Value) (n : ℕ) (c c' : Value) →
    (taken_by r p an_array ≡ true) × (index_of (key_of p) ≡ Some n) → or_else (nth vs n) d ≡ Some c → c' ≡ walk_by (taken_by r) d ps g c → vs' ≡ put_item vs n c' → Array vs' ≡ walk_by (taken_by r) d (p ∷ ps) g (Array vs)
array_step r p d ps g vs vs' n c c' i e is new =
    let at : child (Array vs) (key_of p) ≡ nth vs n = child-array vs (key_of p) ∙ ap (at_index vs) i.1 in
    ap Array new ∙ (sym (put-array vs (key_of p) n c' i.1) ∙ (ap (put (Array vs) (key_of p)) is ∙ sym (walk_by-on (taken_by r) d p ps g (Array vs) c (takes_array r p vs i.0) (ap (λ (o : Option Value). or_else o d) at ∙ e))))

pub array_stops : (r : Rule) (p : Part) (d : Option Value) (ps : List Part) (g : Value → Value) (vs : List Value) (n : ℕ) →
    (taken_by r p an_array ≡ true) × (index_of (key_of p) ≡ Some n) → or_else (nth vs n) d ≡ None → Array vs ≡ walk_by (taken_by r) d (p ∷ ps) g (Array vs)
array_stops r p d ps g vs n i e =
    let at : child (Array vs) (key_of p) ≡ nth vs n = child-array vs (key_of p) ∙ ap (at_index vs) i.1 in
    sym (walk_by-stops (taken_by r) d p ps g (Array vs) (takes_array r p vs i.0) (ap (λ (o : Option Value). or_else o d) at ∙ e))

-- an index at a document is its digits in version 1
pub digits_way : (d : Option Value) (n : ℕ) (ps : List Part) (g : Value → Value) (fs : List (List ℕ × Value)) → walk_by (taken_by V1) d (name (digits n) ∷ ps) g (Object fs) ≡ walk_by (taken_by V1) d (index n ∷ ps) g (Object fs)
digits_way d n ps g fs = rw (shape-object fs) refl

-- where the part is not taken, all is as before
untaken : (r : Rule) (p : Part) (d : Option Value) (ps : List Part) (g : Value → Value) (v : Value) → taken_by r p (shape v) ≡ false → v ≡ walk_by (taken_by r) d (p ∷ ps) g v
untaken r p d ps g v e = rw e refl

-- an index is taken at a document in version 1 alone
index_at_object : (r : Rule) (n : ℕ) → (r ≡ V1 → ⊥) → taken_by r (index n) an_object ≡ false
index_at_object V1 n h = absurd (h refl)
index_at_object V2 n h = refl
index_at_object Plain n h = refl

pub array_untaken : (r : Rule) (p : Part) (d : Option Value) (ps : List Part) (g : Value → Value) (vs : List Value) → taken_by r p an_array ≡ false → Array vs ≡ walk_by (taken_by r) d (p ∷ ps) g (Array vs)
array_untaken r p d ps g vs e = untaken r p d ps g (Array vs) (rw (shape-array vs) e)

takes_leaf : (r : Rule) (p : Part) (c : Value-F Value) → taken_by r p (a_leaf c) ≡ false
takes_leaf V1 p c = refl
takes_leaf V2 (name k) c = refl
takes_leaf V2 (index n) c = refl
takes_leaf Plain (name k) c = refl
takes_leaf Plain (index n) c = refl

takes_code : (r : Rule) (p : Part) (t : List ℕ) → taken_by r p (a_code t) ≡ false
takes_code V1 p t = refl
takes_code V2 (name k) t = refl
takes_code V2 (index n) t = refl
takes_code Plain (name k) t = refl
takes_code Plain (index n) t = refl

other_in : (v : Value) (l : Value-F Value) → roll-Value l ≡ v → (r : Rule) (p : Part) → ((fs : List (List ℕ × Value)) → v ≡ Object fs → ⊥) → ((vs : List Value) → v ≡ Array vs → ⊥) → taken_by r p (shape_in l) ≡ false
other_in v (Value-F.Object fs) e r p a b = absurd (a fs (sym e ∙ rolls-Object fs))
other_in v (Value-F.Array vs) e r p a b = absurd (b vs (sym e ∙ rolls-Array vs))
other_in v (Value-F.ScopedCode t fs) e r p a b = takes_code r p t
other_in v l e r p a b = takes_leaf r p l

pub other_takes : (v : Value) (r : Rule) (p : Part) → ((fs : List (List ℕ × Value)) → v ≡ Object fs → ⊥) → ((vs : List Value) → v ≡ Array vs → ⊥) → taken_by r p (shape v) ≡ false
unfolding shape
other_takes v r p a b = other_in v (out-Value v) (roll-out-Value v) r p a b

pub other_untaken : (r : Rule) (p : Part) (d : Option Value) (ps : List Part) (g : Value → Value) (v : Value) → ((fs : List (List ℕ × Value)) → v ≡ Object fs → ⊥) → ((vs : List Value) → v ≡ Array vs → ⊥) → v ≡ walk_by (taken_by r) d (p ∷ ps) g v
other_untaken r p d ps g v a b = untaken r p d ps g v (other_takes v r p a b)

-- ---- the last part

set_off : (r : Rule) (p : Part) (a v : Value) → taken_by r p (shape v) ≡ false → v ≡ set_by (taken_by r) p a v
set_off r p a v e = rw e refl

pub unset_off : (r : Rule) (p : Part) (v : Value) → taken_by r p (shape v) ≡ false → v ≡ unset_by (taken_by r) p v
unset_off r p v e = rw e refl

-- where the last part is not taken, all is as before
last_off : (r : Rule) (p : Part) (c : Change) (v : Value) → taken_by r p (shape v) ≡ false → v ≡ step_by (taken_by r) p c v
last_off r p (Put a) v e = set_off r p a v e
last_off r p Delete v e = unset_off r p v e
last_off r p (Length n) v e = untaken r p None [] (resize_here n) v e

pub index_off : (r : Rule) (p : Part) (n : ℕ) (c : Change) (fs : List (List ℕ × Value)) → (r ≡ V1 → ⊥) → p ≡ index n → Object fs ≡ step_by (taken_by r) p c (Object fs)
index_off r p n c fs h e = subst (λ (z : Part). Object fs ≡ step_by (taken_by r) z c (Object fs)) (sym e) (last_off r (index n) c (Object fs) (rw (shape-object fs) (index_at_object r n h)))

pub array_off : (r : Rule) (p : Part) (c : Change) (vs : List Value) → taken_by r p an_array ≡ false → Array vs ≡ step_by (taken_by r) p c (Array vs)
array_off r p c vs e = last_off r p c (Array vs) (rw (shape-array vs) e)

pub other_off : (r : Rule) (p : Part) (c : Change) (v : Value) → ((fs : List (List ℕ × Value)) → v ≡ Object fs → ⊥) → ((vs : List Value) → v ≡ Array vs → ⊥) → v ≡ step_by (taken_by r) p c v
other_off r p c v a b = last_off r p c v (other_takes v r p a b)

pub set_object : (r : Rule) (p : Part) (a : Value) (fs fs' : List (List ℕ × Value)) → taken_by r p an_object ≡ true → fs' ≡ put_field (key_of p) a fs → Object fs' ≡ set_by (taken_by r) p a (Object fs)
set_object r p a fs fs' t e = ap Object e ∙ (sym (put-object fs (key_of p) a) ∙ sym (set_by-on (taken_by r) p a (Object fs) (takes_object r p fs t)))

pub unset_object : (r : Rule) (p : Part) (fs fs' : List (List ℕ × Value)) → taken_by r p an_object ≡ true → fs' ≡ without (key_of p) fs → Object fs' ≡ unset_by (taken_by r) p (Object fs)
unset_object r p fs fs' t e = ap Object e ∙ (sym (del-object fs (key_of p)) ∙ sym (unset_by-on (taken_by r) p (Object fs) (takes_object r p fs t)))

pub set_array : (r : Rule) (p : Part) (a : Value) (vs vs' : List Value) (n : ℕ) → (taken_by r p an_array ≡ true) × (index_of (key_of p) ≡ Some n) → vs' ≡ put_item vs n a → Array vs' ≡ set_by (taken_by r) p a (Array vs)
set_array r p a vs vs' n i e = ap Array e ∙ (sym (put-array vs (key_of p) n a i.1) ∙ sym (set_by-on (taken_by r) p a (Array vs) (takes_array r p vs i.0)))

pub unset_array : (r : Rule) (p : Part) (vs vs' : List Value) (n : ℕ) → (taken_by r p an_array ≡ true) × (index_of (key_of p) ≡ Some n) → vs' ≡ blank_item vs n → Array vs' ≡ unset_by (taken_by r) p (Array vs)
unset_array r p vs vs' n i e = ap Array e ∙ (sym (del-array vs (key_of p) n i.1) ∙ sym (unset_by-on (taken_by r) p (Array vs) (takes_array r p vs i.0)))

-- ---- a new length

pub resized_array : (n : ℕ) (vs vs' : List Value) → vs' ≡ sized n vs → Array vs' ≡ resize_here n (Array vs)
unfolding resize_here
resized_array n vs vs' e = ap Array e ∙ (sym (rolls-Array _) ∙ ap (λ (l : Value-F Value). roll-Value (resize_in n l)) (sym (outs-Array vs)))

resize_other_in : (v : Value) (l : Value-F Value) (n : ℕ) → roll-Value l ≡ v → ((vs : List Value) → v ≡ Array vs → ⊥) → resize_in n l ≡ l
resize_other_in v (Value-F.Array vs) n e b = absurd (b vs (sym e ∙ rolls-Array vs))
resize_other_in v (Value-F.Object fs) n e b = refl
resize_other_in v _ n e b = refl

pub resize_other : (n : ℕ) (v : Value) → ((vs : List Value) → v ≡ Array vs → ⊥) → v ≡ resize_here n v
unfolding resize_here
resize_other n v b = sym (ap roll-Value (resize_other_in v (out-Value v) n (roll-out-Value v) b) ∙ roll-out-Value v)

pub sized_cut : (n : ℕ) (vs : List Value) → n ≤ length vs → take n vs ≡ sized n vs
sized_cut zero vs l = refl
sized_cut (suc n) [] l = absurd (omega arith)
sized_cut (suc n) (v ∷ vs) l = ap (λ (x : List Value). v ∷ x) (sized_cut n vs (omega arith))

pub sized_padded : (n : ℕ) (vs : List Value) → length vs ≤ n → put_item vs n Null ≡ sized (suc n) vs
sized_padded zero [] l = refl
sized_padded zero (v ∷ vs) l = absurd (omega arith)
sized_padded (suc n) [] l = ap (λ (x : List Value). Null ∷ x) (sized_padded n [] (omega arith))
sized_padded (suc n) (v ∷ vs) l = ap (λ (x : List Value). v ∷ x) (sized_padded n vs (omega arith))

-- ---- elements

pub set-put_item : (vs : List Value) (n : ℕ) (a : Value) → n < length vs → set vs n a ≡ put_item vs n a
set-put_item [] n a l = absurd (omega arith)
set-put_item (v ∷ vs) zero a l = refl
set-put_item (v ∷ vs) (suc n) a l = ap (λ (l : List Value). v ∷ l) (set-put_item vs n a (omega arith))

pub set_twice : (vs : List Value) (n : ℕ) (a b : Value) → set (set vs n a) n b ≡ set vs n b
set_twice [] n a b = refl
set_twice (v ∷ vs) zero a b = refl
set_twice (v ∷ vs) (suc n) a b = ap (λ (l : List Value). v ∷ l) (set_twice vs n a b)

-- a null behind is one step of the padding
pub put_item-padded : (vs : List Value) (n : ℕ) (a : Value) → length vs < n → put_item (vs ++ Null ∷ []) n a ≡ put_item vs n a
put_item-padded [] zero a l = absurd (omega arith)
put_item-padded [] (suc n) a l = refl
put_item-padded (v ∷ vs) zero a l = absurd (omega arith)
put_item-padded (v ∷ vs) (suc n) a l = ap (λ (l : List Value). v ∷ l) (put_item-padded vs n a (omega arith))

pub put_item-behind : (vs : List Value) (n : ℕ) (a : Value) → n ≡ length vs → put_item vs n a ≡ vs ++ a ∷ []
put_item-behind [] zero a e = refl
put_item-behind [] (suc n) a e = absurd (omega arith)
put_item-behind (v ∷ vs) zero a e = absurd (omega arith)
put_item-behind (v ∷ vs) (suc n) a e = ap (λ (l : List Value). v ∷ l) (put_item-behind vs n a (omega arith))

pub blank_within : (vs : List Value) (n : ℕ) → n < length vs → set vs n Null ≡ blank_item vs n
blank_within [] n l = absurd (omega arith)
blank_within (v ∷ vs) zero l = refl
blank_within (v ∷ vs) (suc n) l = ap (λ (l : List Value). v ∷ l) (blank_within vs n (omega arith))

pub blank_beyond : (vs : List Value) (n : ℕ) → length vs ≤ n → vs ≡ blank_item vs n
blank_beyond [] n l = refl
blank_beyond (v ∷ vs) zero l = absurd (omega arith)
blank_beyond (v ∷ vs) (suc n) l = ap (λ (l : List Value). v ∷ l) (blank_beyond vs n (omega arith))

-- ---- results

pub on_ok : {A B : Type 0} {T E : Type 0} (r : Result T E) → (A → B) → OnOk r A → OnOk r B
on_ok (Ok x) h a = h a
on_ok (Err e) h a = tt

pub on_err : {A B : Type 0} {T E : Type 0} (r : Result T E) → (A → B) → OnErr r A → OnErr r B
on_err (Ok x) h a = tt
on_err (Err e) h a = h a

-- ---- padding

pub take_all : (n : ℕ) (vs : List Value) → n ≡ length vs → take n vs ≡ vs
take_all zero [] e = refl
take_all zero (v ∷ vs) e = absurd (omega arith)
take_all (suc n) [] e = absurd (omega arith)
take_all (suc n) (v ∷ vs) e = ap (λ (l : List Value). v ∷ l) (take_all n vs (omega arith))

pub take_push : (n : ℕ) (vs : List Value) (a : Value) → n ≤ length vs → take n (vs ++ a ∷ []) ≡ take n vs
take_push zero vs a l = refl
take_push (suc n) [] a l = absurd (omega arith)
take_push (suc n) (v ∷ vs) a l = ap (λ (l : List Value). v ∷ l) (take_push n vs a (omega arith))

pub nth-slice_get : (vs : List Value) (n : ℕ) → nth vs n ≡ slice_get vs n
nth-slice_get [] n = refl
nth-slice_get (v ∷ vs) zero = refl
nth-slice_get (v ∷ vs) (suc n) = nth-slice_get vs n

-- ---- what code meets

-- whether an index is low enough for the rule
abbrev pub InBounds : Rule → ℕ → Type 0
InBounds Plain n = ⊤
InBounds r n = n < limit

index_at_array : (r : Rule) (n : ℕ) → InBounds r n → taken_by r (index n) an_array ≡ true
index_at_array V1 n l = rw (index_of-digits n) (grind (arith, common_steps))
index_at_array V2 n l = grind (arith, common_steps)
index_at_array Plain n l = refl

pub index_part : (r : Rule) (p : Part) (n : ℕ) → p ≡ index n → InBounds r n → (taken_by r p an_array ≡ true) × (index_of (key_of p) ≡ Some n)
index_part r p n e l = subst (λ (z : Part). (taken_by r z an_array ≡ true) × (index_of (key_of z) ≡ Some n)) (sym e) (index_at_array r n l, index_of-digits n)

pub low_index : (r : Rule) (n : ℕ) → n < limit → InBounds r n
low_index Plain n l = tt
low_index V1 n l = l
low_index V2 n l = l

pub plain_index : (r : Rule) (n : ℕ) → r ≡ Plain → InBounds r n
plain_index r n e = subst (λ (z : Rule). InBounds z n) (sym e) tt

far_index : (r : Rule) (n : ℕ) → limit ≤ n → (r ≡ Plain → ⊥) → taken_by r (index n) an_array ≡ false
far_index Plain n l h = absurd (h refl)
far_index V1 n l h = rw (index_of-digits n) (grind (arith, common_steps))
far_index V2 n l h = grind (arith, common_steps)

pub far_part : (r : Rule) (p : Part) (n : ℕ) → p ≡ index n → limit ≤ n → (r ≡ Plain → ⊥) → taken_by r p an_array ≡ false
far_part r p n e l h = subst (λ (z : Part). taken_by r z an_array ≡ false) (sym e) (far_index r n l h)

-- what replay takes of an index
pub record TakesLow (r : Rule) (p : Part) (o : Option ℕ) : Type 0 where
  pub some : IfSome o (λ n. (taken_by r p an_array ≡ true) × (index_of (key_of p) ≡ Some n))
  pub none : IfNone o (taken_by r p an_array ≡ false)

pub low_part : (r : Rule) (p : Part) (n : ℕ) (o : Option ℕ) → p ≡ index n → (r ≡ Plain → ⊥) → IfSome o (λ m. (m ≡ n) × (n < limit)) → IfNone o (limit ≤ n) → TakesLow r p o
low_part r p n None e h a b = record { some = tt; none = far_part r p n e b h }
low_part r p n (Some m) e h a b = record { some = index_part r p m (subst (λ (k : ℕ). p ≡ index k) (sym a.0) e) (low_index r m (omega (arith, a.0, a.1))); none = tt }

-- a name is taken at an array in version 1 alone
name_at_array : (r : Rule) (k : List ℕ) → (r ≡ V1 → ⊥) → taken_by r (name k) an_array ≡ false
name_at_array V1 k h = absurd (h refl)
name_at_array V2 k h = refl
name_at_array Plain k h = refl

pub name_part : (r : Rule) (p : Part) (k : List ℕ) → p ≡ name k → (r ≡ V1 → ⊥) → taken_by r p an_array ≡ false
name_part r p k e h = subst (λ (z : Part). taken_by r z an_array ≡ false) (sym e) (name_at_array r k h)

-- by the change that is done
pub last_put : (r : Rule) (p : Part) (c : Change) (a v w : Value) → c ≡ Put a → w ≡ set_by (taken_by r) p a v → w ≡ step_by (taken_by r) p c v
last_put r p c a v w e h = subst (λ (z : Change). w ≡ step_by (taken_by r) p z v) (sym e) h

pub last_delete : (r : Rule) (p : Part) (c : Change) (v w : Value) → c ≡ Delete → w ≡ unset_by (taken_by r) p v → w ≡ step_by (taken_by r) p c v
last_delete r p c v w e h = subst (λ (z : Change). w ≡ step_by (taken_by r) p z v) (sym e) h

pub last_length : (r : Rule) (p : Part) (c : Change) (n : ℕ) (v w : Value) → c ≡ Length n → w ≡ walk_by (taken_by r) None (p ∷ []) (resize_here n) v → w ≡ step_by (taken_by r) p c v
last_length r p c n v w e h = subst (λ (z : Change). w ≡ step_by (taken_by r) p z v) (sym e) h

pub index_stays : (r : Rule) (p : Part) (d : Option Value) (ps : List Part) (g : Value → Value) (n : ℕ) (fs : List (List ℕ × Value)) → (r ≡ V1 → ⊥) → p ≡ index n → Object fs ≡ walk_by (taken_by r) d (p ∷ ps) g (Object fs)
index_stays r p d ps g n fs h e = subst (λ (z : Part). Object fs ≡ walk_by (taken_by r) d (z ∷ ps) g (Object fs)) (sym e) (untaken r (index n) d ps g (Object fs) (rw (shape-object fs) (index_at_object r n h)))
