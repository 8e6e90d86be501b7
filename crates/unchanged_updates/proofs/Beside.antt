-- A change at one path leaves what stands at another as it is.
use Rattle.std.proofs.Common.{◌≡◌, ◌≢◌, ℕ, List, [], ◌∷◌, true, false, refl, sym, ap, ◌∙◌, subst, Option, Some, None, inl, inr}
use Rattle.std.specs.Prelude.{⊤, ◌⊎◌}
use Rattle.std.specs.Str.{bytes_eq}
use Rattle.std.proofs.lemmas.Bool.{cases_Bool}
use Rattle.bson_value.specs.declared.value.Value.{Value}
use Rattle.bson_value.specs.Place.{Shape, an_object, shape, child, put, del, value_at}
use Rattle.bson_value.proofs.Child.{same_name, name_refl, child-put_ne, shape-put, shape-del, del_else, behind, within_reach}
use Rattle.doc_path.specs.declared.parts.Part.{Part}
use Rattle.doc_path.specs.declared.parts.Part.TheVariants.{Name as name, Index as index}
use Rattle.doc_path.specs.declared.parts.Form.TheVariants.{V2}
use Rattle.doc_path.specs.declared.parts.Change.{Change}
use Rattle.doc_path.specs.declared.parts.Change.TheVariants.{Put, Delete, Resize as Length}
use Rattle.doc_path.specs.Touch.{key_of, takes, changed, last_step, resize_here, made_for}
use Rattle.touch_laws.proofs.Replay.{walk_on, takes-put, set_on, unset_on}
use Rattle.update_model.specs.Conflicts.{Path, conflict}
use Rattle.update_model.specs.Located.{Located, There, Missing, Blocked, part_at, within, further, located_under, located_at, located}
use Rattle.update_model.proofs.ActSteps.{part_takes}
use Rattle.update_model.proofs.MarkTheory.{not_none, an_object_by}

-- something stands at a place, or a document lacks its last name
abbrev pub held : Path → (Value → Type 0) → Shape → Option Value → Type 0
held ks go s (Some c) = go c
held [] go s None = s ≡ an_object
held (k ∷ ks) go s None = ⊥

abbrev pub IsFirm : Path → Value → Type 0
IsFirm [] v = ⊤
IsFirm (k ∷ ks) v = held ks (IsFirm ks) (shape v) (child v k)

-- of two values the same stands there
pub record Beside (P : Path) (v w : Value) : Type 0 where
  pub same : value_at (Some w) P ≡ value_at (Some v) P
  pub firm : IsFirm P w

beside_child : (j : List ℕ) (q : Path) (v w : Value) → shape w ≡ shape v → child w j ≡ child v j → IsFirm (j ∷ q) v → Beside (j ∷ q) v w
unfolding value_at
beside_child j q v w s e f = record {
  same = ap (λ (o : Option Value). value_at o q) e;
  firm = subst (λ (o : Option Value). held q (IsFirm q) (shape w) o) (sym e) (subst (λ (z : Shape). held q (IsFirm q) z (child v j)) (sym s) f);
}

beside_put : (k j : List ℕ) (q : Path) (v a : Value) → bytes_eq k j ≡ false → (behind (shape v) k j ≡ true → child v j ≢ None) → IsFirm (j ∷ q) v → Beside (j ∷ q) v (put v k a)
beside_put k j q v a e h f = beside_child j q v (put v k a) (shape-put v k a) (child-put_ne v k j a e h) f

-- an index in front of one that isn't there stands, or no place behind it does
reach : (k j : List ℕ) (q : Path) (v : Value) → IsFirm (j ∷ q) v → behind (shape v) k j ≡ true → child v j ≢ None
reach k j q v f b = by q (child v j) refl f
  where
    by : (r : Path) (o : Option Value) → child v j ≡ o → held r (IsFirm r) (shape v) o → child v j ≢ None
    by r (Some c) e h = not_none _ c e
    by [] None e h = (let t : behind an_object k j ≡ true = subst (λ (z : Shape). behind z k j ≡ true) h b in cc)
    by (x ∷ r) None e h = absurd h

-- the change may be made at the part: a field alone is taken out
abbrev pub IsAt : Change → Part → Type 0
IsAt Delete (index i) = ⊥
IsAt _ p = ⊤

abbrev pub Framed : Located → Value → Path → Type 0
Framed (There ws p c) v P = (ch : Change) → IsAt ch p → Beside P v (changed V2 ws p ch v)
Framed (Missing ws p n ks) v P = (a : Value) → Beside P v (changed V2 ws p (Put a) v)
Framed Blocked v P = ⊤

-- ---- at the end of a path

last_there : (p : Part) (ch : Change) (j : List ℕ) (q : Path) (v c : Value) → takes V2 p (shape v) ≡ true → child v (key_of p) ≡ Some c → bytes_eq (key_of p) j ≡ false → IsAt ch p → IsFirm (j ∷ q) v → Beside (j ∷ q) v (last_step V2 p ch v)
last_there p (Put a) j q v c t e n i f =
    subst (λ (w : Value). Beside (j ∷ q) v w) (sym (set_on V2 p a v t)) (beside_put (key_of p) j q v a n (λ b. within_reach v (key_of p) j (not_none _ c e) b) f)
last_there (name k) Delete j q v c t e n i f =
    subst (λ (w : Value). Beside (j ∷ q) v w) (sym (unset_on V2 (name k) v t)) (beside_child j q v (del v k) (shape-del v k) (del_else v k j (an_object_by k (shape v) t) n) f)
last_there (index m) Delete j q v c t e n i f = absurd i
last_there p (Length m) j q v c t e n i f =
    subst (λ (w : Value). Beside (j ∷ q) v w) (sym (walk_on V2 None p [] (resize_here m) v c t (rw e refl)))
    (beside_put (key_of p) j q v (resize_here m c) n (λ b. within_reach v (key_of p) j (not_none _ c e) b) f)

last_missing : (p : Part) (a : Value) (j : List ℕ) (q : Path) (v : Value) → takes V2 p (shape v) ≡ true → bytes_eq (key_of p) j ≡ false → IsFirm (j ∷ q) v → Beside (j ∷ q) v (last_step V2 p (Put a) v)
last_missing p a j q v t n f =
    subst (λ (w : Value). Beside (j ∷ q) v w) (sym (set_on V2 p a v t)) (beside_put (key_of p) j q v a n (λ b. reach (key_of p) j q v f b) f)

-- ---- further on the way

-- the change is made in the value under a part
pub on_way : (p : Part) (ws : List Part) (l : Part) (ch : Change) (v c : Value) → takes V2 p (shape v) ≡ true → child v (key_of p) ≡ Some c → changed V2 (p ∷ ws) l ch v ≡ put v (key_of p) (changed V2 ws l ch c)
on_way p ws l ch v c t e = walk_on V2 (made_for V2 ch) p ws (last_step V2 l ch) v c t (rw e refl)

under_key : (p : Part) (q : Path) (v c d : Value) → takes V2 p (shape v) ≡ true → child v (key_of p) ≡ Some c → Beside q c d → Beside (key_of p ∷ q) v (put v (key_of p) d)
unfolding value_at
under_key p q v c d t e b = record {
  same = ap (λ (o : Option Value). value_at o q) (takes-put V2 p v d t) ∙ (b.same ∙ sym (ap (λ (o : Option Value). value_at o q) e));
  firm = subst (λ (o : Option Value). held q (IsFirm q) (shape (put v (key_of p) d)) o) (sym (takes-put V2 p v d t)) b.firm;
}

-- in the value under the part
same_key : (p : Part) (q : Path) (v c : Value) (l : Located) → takes V2 p (shape v) ≡ true → child v (key_of p) ≡ Some c → Framed l c q → Framed (within p l) v (key_of p ∷ q)
same_key p q v c (There ws r d) t e f = λ ch i. subst (λ (w : Value). Beside (key_of p ∷ q) v w) (sym (on_way p ws r ch v c t e)) (under_key p q v c (changed V2 ws r ch c) t e (f ch i))
same_key p q v c (Missing ws r n ks) t e f = λ a. subst (λ (w : Value). Beside (key_of p ∷ q) v w) (sym (on_way p ws r (Put a) v c t e)) (under_key p q v c (changed V2 ws r (Put a) c) t e (f a))
same_key p q v c Blocked t e f = tt

-- beside it
other_key : (p : Part) (j : List ℕ) (q : Path) (v c : Value) (l : Located) → takes V2 p (shape v) ≡ true → child v (key_of p) ≡ Some c → bytes_eq (key_of p) j ≡ false → IsFirm (j ∷ q) v → Framed (within p l) v (j ∷ q)
other_key p j q v c (There ws r d) t e n f =
    λ ch i. subst (λ (w : Value). Beside (j ∷ q) v w) (sym (on_way p ws r ch v c t e)) (beside_put (key_of p) j q v (changed V2 ws r ch c) n (λ b. within_reach v (key_of p) j (not_none _ c e) b) f)
other_key p j q v c (Missing ws r m ks) t e n f =
    λ a. subst (λ (w : Value). Beside (j ∷ q) v w) (sym (on_way p ws r (Put a) v c t e)) (beside_put (key_of p) j q v (changed V2 ws r (Put a) c) n (λ b. within_reach v (key_of p) j (not_none _ c e) b) f)
other_key p j q v c Blocked t e n f = tt

-- ---- a whole path

-- two names in front of paths that don't conflict: other names, or the paths don't conflict behind them
apart_behind : (j k : List ℕ) (q ks : Path) → conflict (j ∷ q) (k ∷ ks) ≡ false → (bytes_eq k j ≡ false) ⊎ ((k ≡ j) × (conflict q ks ≡ false))
apart_behind j k q ks e = elim (cases_Bool (bytes_eq k j)) [
  | inl s ↦ (let i : k ≡ j = same_name k j s in inr (i, (let f : conflict (j ∷ q) (j ∷ ks) ≡ false = subst (λ (z : List ℕ). conflict (j ∷ q) (z ∷ ks) ≡ false) i e in rw (name_refl j) at f)))
  | inr n ↦ inl n
]

firm_under : (j : List ℕ) (q : Path) (v c : Value) → child v j ≡ Some c → IsFirm (j ∷ q) v → IsFirm q c
firm_under j q v c e f = subst (λ (o : Option Value). held q (IsFirm q) (shape v) o) e f

pub framed : (K : Path) (v : Value) (P : Path) → IsFirm P v → conflict P K ≡ false → Framed (located K v) v P
framed [] v P f e = tt
framed (k ∷ ks) v [] f e = cc
framed (k ∷ ks) v (j ∷ q) f e = by (part_at k v) refl (framed ks)
  where
    ends : (r : Path) → conflict r [] ≡ false → ⊥
    ends [] z = cc
    ends (y ∷ r) z = cc

    -- under a part that is there
    into_part : (p : Part) (c : Value) → takes V2 p (shape v) ≡ true → child v (key_of p) ≡ Some c → key_of p ≡ k → (xs : Path) → ((d : Value) (r : Path) → IsFirm r d → conflict r xs ≡ false → Framed (located xs d) d r) →
        (bytes_eq k j ≡ false) ⊎ ((k ≡ j) × (conflict q xs ≡ false)) → Framed (further xs (located xs) p c) v (j ∷ q)
    into_part p c t g i [] h (inl n) = λ ch a. last_there p ch j q v c t g (rw i n) a f
    into_part p c t g i [] h (inr m) = absurd (ends q m.1)
    into_part p c t g i (y ∷ xs) h (inl n) = other_key p j q v c (located (y ∷ xs) c) t g (rw i n) f
    into_part p c t g i (y ∷ xs) h (inr m) =
        let at : key_of p ≡ j = i ∙ m.0 in
        subst (λ (z : List ℕ). Framed (within p (located (y ∷ xs) c)) v (z ∷ q)) at
        (same_key p q v c (located (y ∷ xs) c) t g (h c q (firm_under j q v c (subst (λ (z : List ℕ). child v z ≡ Some c) at g) f) m.1))

    gone : (r : Path) → conflict r ks ≡ false → held r (IsFirm r) (shape v) None → ⊥
    gone [] z h = cc
    gone (y ∷ r) z h = h

    under_part : (p : Part) (o : Option Value) → takes V2 p (shape v) ≡ true → child v (key_of p) ≡ o → key_of p ≡ k → ((d : Value) (r : Path) → IsFirm r d → conflict r ks ≡ false → Framed (located ks d) d r) →
        (bytes_eq k j ≡ false) ⊎ ((k ≡ j) × (conflict q ks ≡ false)) → Framed (located_under (further ks (located ks)) ks v p o) v (j ∷ q)
    under_part p None t g i h (inl n) = λ a. last_missing p a j q v t (rw i n) f
    under_part p None t g i h (inr m) =
        let none : child v j ≡ None = subst (λ (z : List ℕ). child v z ≡ None) (i ∙ m.0) g in
        absurd (gone q m.1 (subst (λ (o : Option Value). held q (IsFirm q) (shape v) o) none f))
    under_part p (Some c) t g i h d = into_part p c t g i ks h d

    by : (o : Option Part) → part_at k v ≡ o → ((d : Value) (r : Path) → IsFirm r d → conflict r ks ≡ false → Framed (located ks d) d r) → Framed (located_at (further ks (located ks)) ks v o) v (j ∷ q)
    by None h ih = tt
    by (Some p) h ih = under_part p (child v (key_of p)) (part_takes k v p h).0 refl (part_takes k v p h).1 ih (apart_behind j k q ks e)
