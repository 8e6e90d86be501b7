-- What stands under a name after a change just below a value.
use Rattle.std.proofs.Common.{◌≡◌, ◌≢◌, ℕ, zero, suc, ◌<◌, ◌≤◌, List, [], ◌∷◌, Bool, true, false, length, refl, sym, ap, ◌∙◌, arith, Option, Some, None}
use Rattle.std.specs.Prelude.{nat_lt}
use Rattle.std.specs.Str.{bytes_eq}
use Rattle.std.proofs.lemmas.Slice.Eq.{bytes_eq-Decides}
use Rattle.std.proofs.lemmas.Grind.{common_steps}
use Rattle.bson_value.specs.declared.value.Value.{Value, Value-F, out-Value, roll-Value, out-roll-Value, roll-out-Value}
use Rattle.bson_value.specs.Digits.{index_of}
use Rattle.bson_value.specs.Place.{Shape, an_array, an_object, shape_in, shape, nth, at_index, child_in, child, put_item, put_index, put_in, put, del_in, del, sized}
use Rattle.bson_value.proofs.Digits.{index_of-one}
use Rattle.containers.proofs.Entries.{lookup-put, lookup-put_ne, lookup-without, lookup-without_ne, put_same as put_field_same, without_same}

-- ---- names

pub same_name : (a b : List ℕ) → bytes_eq a b ≡ true → a ≡ b
same_name a b e = (bytes_eq-Decides a b).0 e

pub name_refl : (a : List ℕ) → bytes_eq a a ≡ true
name_refl a = (bytes_eq-Decides a a).1 refl

abbrev pub Apart : Option ℕ → Option ℕ → Type 0
Apart i j = (n : ℕ) → i ≡ Some n → j ≡ Some n → ⊥

pub names_apart : (k j : List ℕ) → bytes_eq k j ≡ false → Apart (index_of k) (index_of j)
names_apart k j e = λ n a b. let s = index_of-one k j n a b in let t : bytes_eq k j ≡ true = (bytes_eq-Decides k j).1 s in let u : false ≡ true = sym e ∙ t in cc

-- ---- elements

pub nth-put : (vs : List Value) (n : ℕ) (v : Value) → nth (put_item vs n v) n ≡ Some v
nth-put [] zero v = refl
nth-put [] (suc n) v = nth-put [] n v
nth-put (w ∷ vs) zero v = refl
nth-put (w ∷ vs) (suc n) v = nth-put vs n v

pub nth-put_ne : (vs : List Value) (n m : ℕ) (v : Value) → m ≢ n → (m < n → nth vs m ≢ None) → nth (put_item vs n v) m ≡ nth vs m
nth-put_ne [] zero zero v d h = absurd (d refl)
nth-put_ne [] zero (suc m) v d h = refl
nth-put_ne [] (suc n) zero v d h = absurd (h (omega arith) refl)
nth-put_ne [] (suc n) (suc m) v d h = nth-put_ne [] n m v (λ e. d (ap suc e)) (λ l. h (omega arith))
nth-put_ne (w ∷ vs) zero zero v d h = absurd (d refl)
nth-put_ne (w ∷ vs) zero (suc m) v d h = refl
nth-put_ne (w ∷ vs) (suc n) zero v d h = refl
nth-put_ne (w ∷ vs) (suc n) (suc m) v d h = nth-put_ne vs n m v (λ e. d (ap suc e)) (λ l. h (omega arith))

pub nth-within : {A : Type 0} (vs : List A) (m : ℕ) → m < length vs → nth vs m ≢ None
nth-within [] m h = absurd (omega arith)
nth-within (w ∷ vs) zero h = λ e. cc
nth-within (w ∷ vs) (suc m) h = nth-within vs m (omega arith)

pub nth-beyond : {A : Type 0} (vs : List A) (m : ℕ) → length vs ≤ m → nth vs m ≡ None
nth-beyond [] m h = refl
nth-beyond (w ∷ vs) zero h = absurd (omega arith)
nth-beyond (w ∷ vs) (suc m) h = nth-beyond vs m (omega arith)

pub within-nth : {A : Type 0} (vs : List A) (m : ℕ) → nth vs m ≢ None → m < length vs
within-nth [] m h = absurd (h refl)
within-nth (w ∷ vs) zero h = omega arith
within-nth (w ∷ vs) (suc m) h = let r = within-nth vs m h in omega arith

pub nth-sized : (n : ℕ) (vs : List Value) (j : ℕ) → j < n → nth vs j ≢ None → nth (sized n vs) j ≡ nth vs j
nth-sized zero vs j h d = absurd (omega arith)
nth-sized (suc n) [] j h d = absurd (d refl)
nth-sized (suc n) (w ∷ vs) zero h d = refl
nth-sized (suc n) (w ∷ vs) (suc j) h d = nth-sized n vs j (omega arith) d

pub nth-sized_beyond : (n : ℕ) (vs : List Value) (j : ℕ) → n ≤ j → nth (sized n vs) j ≡ None
nth-sized_beyond zero vs j h = refl
nth-sized_beyond (suc n) [] zero h = absurd (omega arith)
nth-sized_beyond (suc n) [] (suc j) h = nth-sized_beyond n [] j (omega arith)
nth-sized_beyond (suc n) (w ∷ vs) zero h = absurd (omega arith)
nth-sized_beyond (suc n) (w ∷ vs) (suc j) h = nth-sized_beyond n vs j (omega arith)

pub put_item_same : (vs : List Value) (n : ℕ) (v : Value) → nth vs n ≡ Some v → put_item vs n v ≡ vs
put_item_same [] n v e = cc
put_item_same (w ∷ vs) zero v e = let s : v ≡ w = cc in ap (λ (x : Value). x ∷ vs) s
put_item_same (w ∷ vs) (suc n) v e = ap (λ (l : List Value). w ∷ l) (put_item_same vs n v e)

pub sized_same : (n : ℕ) (vs : List Value) → length vs ≡ n → sized n vs ≡ vs
sized_same zero [] e = refl
sized_same zero (w ∷ vs) e = absurd (omega arith)
sized_same (suc n) [] e = absurd (omega arith)
sized_same (suc n) (w ∷ vs) e = ap (λ (l : List Value). w ∷ l) (sized_same n vs (omega arith))

-- ---- one level

-- the places before an index, in the array of that index
abbrev pub index_behind : Option ℕ → Option ℕ → Bool
index_behind (Some n) (Some m) = nat_lt m n
index_behind _ _ = false

abbrev pub behind_at : Shape → Option ℕ → Option ℕ → Bool
behind_at an_array i j = index_behind i j
behind_at _ i j = false

abbrev pub behind : Shape → List ℕ → List ℕ → Bool
behind s k j = behind_at s (index_of k) (index_of j)

at_index-put_ne : (vs : List Value) (i j : Option ℕ) (a : Value) → Apart i j → (index_behind i j ≡ true → at_index vs j ≢ None) → at_index (put_index vs i a) j ≡ at_index vs j
at_index-put_ne vs None j a d h = refl
at_index-put_ne vs (Some n) None a d h = refl
at_index-put_ne vs (Some n) (Some m) a d h = nth-put_ne vs n m a (λ e. d n refl (ap Some e)) (λ l. h (grind (arith, common_steps)))

child_in-put_ne : (f : Value-F Value) (k j : List ℕ) (i l : Option ℕ) (a : Value) → bytes_eq k j ≡ false → Apart i l → (behind_at (shape_in f) i l ≡ true → child_in f j l ≢ None) → child_in (put_in f k i a) j l ≡ child_in f j l
child_in-put_ne (Value-F.Array vs) k j i l a e d h = at_index-put_ne vs i l a d h
child_in-put_ne (Value-F.Object fs) k j i l a e d h = lookup-put_ne fs k j a e
child_in-put_ne _ k j i l a e d h = refl

shape_in-put : (f : Value-F Value) (k : List ℕ) (i : Option ℕ) (a : Value) → shape_in (put_in f k i a) ≡ shape_in f
shape_in-put (Value-F.Array vs) k i a = refl
shape_in-put (Value-F.Object fs) k i a = refl
shape_in-put _ k i a = refl

shape_in-del : (f : Value-F Value) (k : List ℕ) (i : Option ℕ) → shape_in (del_in f k i) ≡ shape_in f
shape_in-del (Value-F.Array vs) k i = refl
shape_in-del (Value-F.Object fs) k i = refl
shape_in-del _ k i = refl

put_index_same : (vs : List Value) (i : Option ℕ) (a : Value) → at_index vs i ≡ Some a → put_index vs i a ≡ vs
put_index_same vs None a e = cc
put_index_same vs (Some n) a e = put_item_same vs n a e

put_in_same : (f : Value-F Value) (k : List ℕ) (i : Option ℕ) (a : Value) → child_in f k i ≡ Some a → put_in f k i a ≡ f
put_in_same (Value-F.Array vs) k i a e = ap (λ (l : List Value). Value-F.Array l) (put_index_same vs i a e)
put_in_same (Value-F.Object fs) k i a e = ap (λ (l : List (List ℕ × Value)). Value-F.Object l) (put_field_same fs k a e)
put_in_same _ k i a e = refl

-- ---- values

pub child-put : (v : Value) (k j : List ℕ) (a : Value) → child (put v k a) j ≡ child_in (put_in (out-Value v) k (index_of k) a) j (index_of j)
unfolding child put
child-put v k j a = ap (λ (f : Value-F Value). child_in f j (index_of j)) (out-roll-Value _)

pub child-put_ne : (v : Value) (k j : List ℕ) (a : Value) → bytes_eq k j ≡ false → (behind (shape v) k j ≡ true → child v j ≢ None) → child (put v k a) j ≡ child v j
unfolding child shape
child-put_ne v k j a e h = child-put v k j a ∙ child_in-put_ne (out-Value v) k j (index_of k) (index_of j) a e (names_apart k j e) h

pub shape-put : (v : Value) (k : List ℕ) (a : Value) → shape (put v k a) ≡ shape v
unfolding shape put
shape-put v k a = ap shape_in (out-roll-Value _) ∙ shape_in-put (out-Value v) k (index_of k) a

pub shape-del : (v : Value) (k : List ℕ) → shape (del v k) ≡ shape v
unfolding shape del
shape-del v k = ap shape_in (out-roll-Value _) ∙ shape_in-del (out-Value v) k (index_of k)

pub put_same : (v : Value) (k : List ℕ) (a : Value) → child v k ≡ Some a → put v k a ≡ v
unfolding put child
put_same v k a e = ap roll-Value (put_in_same (out-Value v) k (index_of k) a e) ∙ roll-out-Value v

-- of a document
child_in-put : (f : Value-F Value) (k : List ℕ) (i : Option ℕ) (a : Value) → shape_in f ≡ an_object → child_in (put_in f k i a) k i ≡ Some a
child_in-put (Value-F.Object fs) k i a e = lookup-put fs k a
child_in-put (Value-F.Array vs) k i a e = cc
child_in-put (Value-F.ScopedCode t fs) k i a e = cc
child_in-put _ k i a e = cc

child_in-put_at : (f : Value-F Value) (k : List ℕ) (n : ℕ) (a : Value) → shape_in f ≡ an_array → child_in (put_in f k (Some n) a) k (Some n) ≡ Some a
child_in-put_at (Value-F.Array vs) k n a e = nth-put vs n a
child_in-put_at (Value-F.Object fs) k n a e = cc
child_in-put_at (Value-F.ScopedCode t fs) k n a e = cc
child_in-put_at _ k n a e = cc

pub put_object : (v : Value) (k : List ℕ) (a : Value) → shape v ≡ an_object → child (put v k a) k ≡ Some a
unfolding shape
put_object v k a e = child-put v k k a ∙ child_in-put (out-Value v) k (index_of k) a e

pub put_array : (v : Value) (k : List ℕ) (n : ℕ) (a : Value) → shape v ≡ an_array → index_of k ≡ Some n → child (put v k a) k ≡ Some a
unfolding shape
put_array v k n a e i = child-put v k k a ∙ (rw i (child_in-put_at (out-Value v) k n a e))

child_in-del : (f : Value-F Value) (k : List ℕ) (i : Option ℕ) → shape_in f ≡ an_object → child_in (del_in f k i) k i ≡ None
child_in-del (Value-F.Object fs) k i e = lookup-without fs k
child_in-del (Value-F.Array vs) k i e = cc
child_in-del (Value-F.ScopedCode t fs) k i e = cc
child_in-del _ k i e = cc

child_in-del_ne : (f : Value-F Value) (k j : List ℕ) (i l : Option ℕ) → shape_in f ≡ an_object → bytes_eq k j ≡ false → child_in (del_in f k i) j l ≡ child_in f j l
child_in-del_ne (Value-F.Object fs) k j i l o e = lookup-without_ne fs k j e
child_in-del_ne (Value-F.Array vs) k j i l o e = cc
child_in-del_ne (Value-F.ScopedCode t fs) k j i l o e = cc
child_in-del_ne _ k j i l o e = cc

del_in_same : (f : Value-F Value) (k : List ℕ) (i : Option ℕ) → shape_in f ≡ an_object → child_in f k i ≡ None → del_in f k i ≡ f
del_in_same (Value-F.Object fs) k i o e = ap (λ (l : List (List ℕ × Value)). Value-F.Object l) (without_same fs k e)
del_in_same (Value-F.Array vs) k i o e = cc
del_in_same (Value-F.ScopedCode t fs) k i o e = cc
del_in_same _ k i o e = cc

pub child-del : (v : Value) (k j : List ℕ) → child (del v k) j ≡ child_in (del_in (out-Value v) k (index_of k)) j (index_of j)
unfolding child del
child-del v k j = ap (λ (f : Value-F Value). child_in f j (index_of j)) (out-roll-Value _)

pub del_object : (v : Value) (k : List ℕ) → shape v ≡ an_object → child (del v k) k ≡ None
unfolding shape
del_object v k e = child-del v k k ∙ child_in-del (out-Value v) k (index_of k) e

pub del_else : (v : Value) (k j : List ℕ) → shape v ≡ an_object → bytes_eq k j ≡ false → child (del v k) j ≡ child v j
unfolding shape child
del_else v k j o e = child-del v k j ∙ child_in-del_ne (out-Value v) k j (index_of k) (index_of j) o e

pub del_same : (v : Value) (k : List ℕ) → shape v ≡ an_object → child v k ≡ None → del v k ≡ v
unfolding shape child del
del_same v k o e = ap roll-Value (del_in_same (out-Value v) k (index_of k) o e) ∙ roll-out-Value v

-- an array is one
pub array_in : (f : Value-F Value) → shape_in f ≡ an_array → (vs : List Value) × (f ≡ Value-F.Array vs)
array_in (Value-F.Array vs) e = (vs, refl)
array_in (Value-F.Object fs) e = cc
array_in (Value-F.ScopedCode t fs) e = cc
array_in _ e = cc

pub an_array_too : (v : Value) → shape v ≡ an_array → (vs : List Value) × (out-Value v ≡ Value-F.Array vs)
unfolding shape
an_array_too v e = array_in (out-Value v) e

-- ---- what stands before an index that is there

within_at : (vs : List Value) (i l : Option ℕ) → at_index vs i ≢ None → index_behind i l ≡ true → at_index vs l ≢ None
within_at vs None l h e = cc
within_at vs (Some n) None h e = cc
within_at vs (Some n) (Some m) h e =
    let r = within-nth vs n h in
    nth-within vs m (grind (arith, common_steps))

within_in : (f : Value-F Value) (k j : List ℕ) (i l : Option ℕ) → child_in f k i ≢ None → behind_at (shape_in f) i l ≡ true → child_in f j l ≢ None
within_in (Value-F.Array vs) k j i l h e = within_at vs i l h e
within_in (Value-F.Object fs) k j i l h e = cc
within_in (Value-F.ScopedCode t fs) k j i l h e = cc
within_in _ k j i l h e = cc

-- an index that is there has all before it
pub within_reach : (w : Value) (k j : List ℕ) → child w k ≢ None → behind (shape w) k j ≡ true → child w j ≢ None
unfolding child shape
within_reach w k j h e = within_in (out-Value w) k j (index_of k) (index_of j) h e

-- ---- arrays

pub shape_array : (vs : List Value) → shape (roll-Value (Value-F.Array vs)) ≡ an_array
unfolding shape
shape_array vs = ap shape_in (out-roll-Value _)

pub child_array : (vs : List Value) (k : List ℕ) → child (roll-Value (Value-F.Array vs)) k ≡ at_index vs (index_of k)
unfolding child
child_array vs k = ap (λ (f : Value-F Value). child_in f k (index_of k)) (out-roll-Value _)

pub rolled_array : (v : Value) (vs : List Value) → out-Value v ≡ Value-F.Array vs → v ≡ roll-Value (Value-F.Array vs)
rolled_array v vs e = sym (roll-out-Value v) ∙ ap roll-Value e

pub array_shape : (v : Value) (vs : List Value) → out-Value v ≡ Value-F.Array vs → shape v ≡ an_array
unfolding shape
array_shape v vs e = ap shape_in e
