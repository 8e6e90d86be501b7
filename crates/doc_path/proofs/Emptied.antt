-- What stands at a place, and elsewhere, after it is unset, and after a new length.
use Rattle.std.proofs.Common.{◌≡◌, ◌≢◌, ℕ, zero, suc, ◌≤◌, List, [], ◌∷◌, ◌++◌, length, min, true, false, refl, sym, ap, ◌∙◌, subst, arith, Option, Some, None, inl, inr}
use Rattle.std.specs.Prelude.{◌⊎◌}
use Rattle.std.proofs.lemmas.Bool.{cases_Bool}
use Rattle.std.specs.Str.{bytes_eq}
use Rattle.bson_value.specs.declared.value.Value.{Value, Value-F, out-Value}
use Rattle.bson_value.specs.declared.value.Value.TheVariants.{Array, rolls-Array}
use Rattle.bson_value.specs.Digits.{digits, index_of}
use Rattle.bson_value.proofs.Digits.{index_of-digits}
use Rattle.bson_value.specs.Place.{Place, Shape, a_leaf, a_code, an_array, an_object, shape, nth, at_index, child_in, child, look, blank_item, blank_index, del, del_in, sized}
use Rattle.bson_value.proofs.Child.{Apart, names_apart, shape-del, child-del, del_object, an_array_too}
use Rattle.doc_path.specs.declared.parts.Change.TheVariants.{Delete, Resize as Length}
use Rattle.doc_path.specs.Touch.{Part, name, index, key_of, Touch, unset_by, walk_by, resize_here, from_key, from_index}
use Rattle.doc_path.specs.Played.{touch_at}
use Rattle.doc_path.specs.Ways.{leads, under, value_from, value_in, changed_along, changed_at, emptied, ChangesOnly, IsResizedAt, ChangesOnlyBehind}
use Rattle.doc_path.proofs.Kept.{del_keeps, sized_keeps}
use Rattle.doc_path.proofs.Last.{split-append, walk-append}
use Rattle.doc_path.proofs.Steps.{resized_array}
use Rattle.doc_path.proofs.Down.{in_none}
use Rattle.doc_path.proofs.Changed.{leads_or_not, value_in-append, along_there, along_missing, along_keeps, changed_at-append}

-- ---- an element that becomes null

nth-blank_ne : (vs : List Value) (n m : ℕ) → m ≢ n → nth (blank_item vs n) m ≡ nth vs m
nth-blank_ne [] n m d = refl
nth-blank_ne (v ∷ vs) zero zero d = absurd (d refl)
nth-blank_ne (v ∷ vs) zero (suc m) d = refl
nth-blank_ne (v ∷ vs) (suc n) zero d = refl
nth-blank_ne (v ∷ vs) (suc n) (suc m) d = nth-blank_ne vs n m (λ e. d (ap suc e))

nth-blank : (vs : List Value) (n m : ℕ) → nth (blank_item vs n) n ≡ emptied (index m ∷ []) (nth vs n)
nth-blank [] n m = refl
nth-blank (v ∷ vs) zero m = refl
nth-blank (v ∷ vs) (suc n) m = nth-blank vs n m

at_index-blank_ne : (vs : List Value) (i j : Option ℕ) → Apart i j → at_index (blank_index vs i) j ≡ at_index vs j
at_index-blank_ne vs None j d = refl
at_index-blank_ne vs (Some n) None d = refl
at_index-blank_ne vs (Some n) (Some m) d = nth-blank_ne vs n m (λ e. d n refl (ap Some e))

child_in-blank_ne : (f : Value-F Value) (vs : List Value) (k j : List ℕ) (i l : Option ℕ) → f ≡ Value-F.Array vs → Apart i l → child_in (del_in f k i) j l ≡ child_in f j l
child_in-blank_ne f vs k j i l e d = subst (λ (g : Value-F Value). child_in (del_in g k i) j l ≡ child_in g j l) (sym e) (at_index-blank_ne vs i l d)

del_array_else : (v : Value) (k j : List ℕ) → shape v ≡ an_array → bytes_eq k j ≡ false → child (del v k) j ≡ child v j
unfolding child
del_array_else v k j s e = let a = an_array_too v s in child-del v k j ∙ child_in-blank_ne (out-Value v) a.0 k j (index_of k) (index_of j) a.1 (names_apart k j e)

blank_at : (v : Value) (k j : List ℕ) (q : Place) → shape v ≡ an_array → bytes_eq k j ≡ false → look (child (del v k) j) q ≡ look (child v j) q
blank_at v k j q s e = rw (del_array_else v k j s e) refl

blank_keeps : (v : Value) (k : List ℕ) → shape v ≡ an_array → (q : Place) → from_key k q ≡ false → look (Some (del v k)) q ≡ look (Some v) q
unfolding look
blank_keeps v k s [] n = ap Some (shape-del v k)
blank_keeps v k s (j ∷ q) n = blank_at v k j q s n

child_in-blank : (f : Value-F Value) (vs : List Value) (k : List ℕ) (n m : ℕ) → f ≡ Value-F.Array vs → child_in (del_in f k (Some n)) k (Some n) ≡ emptied (index m ∷ []) (child_in f k (Some n))
child_in-blank f vs k n m e = subst (λ (g : Value-F Value). child_in (del_in g k (Some n)) k (Some n) ≡ emptied (index m ∷ []) (child_in g k (Some n))) (sym e) (nth-blank vs n m)

del_item : (v : Value) (n : ℕ) → shape v ≡ an_array → child (del v (digits n)) (digits n) ≡ emptied (index n ∷ []) (child v (digits n))
unfolding child
del_item v n s =
    let a = an_array_too v s in
    child-del v (digits n) (digits n) ∙ rw (index_of-digits n) (child_in-blank (out-Value v) a.0 (digits n) n n a.1)

-- ---- unset, at one part

unset_on : (p : Part) (c : Value) → leads p (shape c) ≡ true → unset_by leads p c ≡ del c (key_of p)
unset_on p c t = rw t refl

unset_off : (p : Part) (c : Value) → leads p (shape c) ≡ false → unset_by leads p c ≡ c
unset_off p c t = rw t refl

del_led : (p : Part) (c : Value) (s : Shape) → shape c ≡ s → leads p s ≡ true → (q : Place) → from_key (key_of p) q ≡ false → look (Some (del c (key_of p))) q ≡ look (Some c) q
del_led (name k) c an_object s t = del_keeps c k s
del_led (index n) c an_array s t = blank_keeps c (digits n) s
del_led (name k) c an_array s t = cc
del_led (name k) c (a_leaf f) s t = cc
del_led (name k) c (a_code f) s t = cc
del_led (index n) c an_object s t = cc
del_led (index n) c (a_leaf f) s t = cc
del_led (index n) c (a_code f) s t = cc

unset_kept : (p : Part) (c : Value) (q : Place) → from_key (key_of p) q ≡ false → look (Some (unset_by leads p c)) q ≡ look (Some c) q
unset_kept p c q n =
    elim (cases_Bool (leads p (shape c))) [
      | inl t ↦ ap (λ (w : Value). look (Some w) q) (unset_on p c t) ∙ del_led p c (shape c) refl t q n
      | inr t ↦ ap (λ (w : Value). look (Some w) q) (unset_off p c t)
    ]

emptied_led : (p : Part) (c : Value) (s : Shape) → shape c ≡ s → leads p s ≡ true → child (del c (key_of p)) (key_of p) ≡ emptied (p ∷ []) (child c (key_of p))
emptied_led (name k) c an_object s t = del_object c k s
emptied_led (index n) c an_array s t = del_item c n s
emptied_led (name k) c an_array s t = cc
emptied_led (name k) c (a_leaf f) s t = cc
emptied_led (name k) c (a_code f) s t = cc
emptied_led (index n) c an_object s t = cc
emptied_led (index n) c (a_leaf f) s t = cc
emptied_led (index n) c (a_code f) s t = cc

emptied_none : (p : Part) → None ≡ emptied (p ∷ []) None
emptied_none (name k) = refl
emptied_none (index n) = refl

under-on : (p : Part) (c : Value) → leads p (shape c) ≡ true → under p c ≡ child c (key_of p)
under-on p c t = rw t refl

under-off : (p : Part) (c : Value) → leads p (shape c) ≡ false → under p c ≡ None
under-off p c t = rw t refl

under-unset : (p : Part) (c : Value) → under p (unset_by leads p c) ≡ emptied (p ∷ []) (under p c)
under-unset p c =
    elim (cases_Bool (leads p (shape c))) [
      | inl t ↦
          let u : leads p (shape (del c (key_of p))) ≡ true = ap (leads p) (shape-del c (key_of p)) ∙ t in
          ap (under p) (unset_on p c t)
          ∙ (under-on p (del c (key_of p)) u ∙ (emptied_led p c (shape c) refl t ∙ ap (emptied (p ∷ [])) (sym (under-on p c t))))
      | inr t ↦ ap (under p) (unset_off p c t) ∙ (under-off p c t ∙ (emptied_none p ∙ ap (emptied (p ∷ [])) (sym (under-off p c t))))
    ]

-- ---- unset, at a place

emptied-last : (ws : List Part) (p : Part) (o : Option Value) → emptied (ws ++ (p ∷ [])) o ≡ emptied (p ∷ []) o
emptied-last [] p o = refl
emptied-last (w ∷ []) p o = refl
emptied-last (w ∷ (x ∷ ws)) p o = emptied-last (x ∷ ws) p o

pub one_part : (p : Part) (v : Value) → value_in (p ∷ []) v ≡ under p v
one_part p v = by (under p v)
  where
    by : (o : Option Value) → value_from o [] ≡ o
    by None = refl
    by (Some c) = refl

pub value_in-append_none : (ps qs : List Part) (v : Value) → value_in ps v ≡ None → value_in (ps ++ qs) v ≡ None
value_in-append_none [] qs v e = cc
value_in-append_none (p ∷ ps) qs v e =
    elim (leads_or_not p v) [
      | inl n ↦ ap (λ (o : Option Value). value_from o (ps ++ qs)) n ∙ in_none (ps ++ qs)
      | inr d ↦ ap (λ (o : Option Value). value_from o (ps ++ qs)) d.1 ∙ value_in-append_none ps qs d.0 (sym (ap (λ (o : Option Value). value_from o ps) d.1) ∙ e)
    ]

pub there_or_not : (ps : List Part) (v : Value) → (value_in ps v ≡ None) ⊎ ((c : Value) × (value_in ps v ≡ Some c))
there_or_not ps v = by (value_in ps v) refl
  where
    by : (o : Option Value) → value_in ps v ≡ o → (value_in ps v ≡ None) ⊎ ((c : Value) × (value_in ps v ≡ Some c))
    by None e = inl e
    by (Some c) e = inr (c, e)

after_unset : (ws : List Part) (p : Part) (v : Value) → value_in (ws ++ (p ∷ [])) (changed_along ws p Delete v) ≡ emptied (ws ++ (p ∷ [])) (value_in (ws ++ (p ∷ [])) v)
after_unset ws p v =
    elim (there_or_not ws v) [
      | inl n ↦
          let off : value_in (ws ++ (p ∷ [])) v ≡ None = value_in-append_none ws (p ∷ []) v n in
          ap (value_in (ws ++ (p ∷ []))) (along_missing (unset_by leads p) ws v n)
          ∙ (off ∙ (emptied_none p ∙ (sym (emptied-last ws p None) ∙ ap (emptied (ws ++ (p ∷ []))) (sym off))))
      | inr d ↦
          let before : value_in (ws ++ (p ∷ [])) v ≡ under p d.0 = value_in-append ws (p ∷ []) v d.0 d.1 ∙ one_part p d.0 in
          value_in-append ws (p ∷ []) _ _ (along_there (unset_by leads p) ws v d.0 d.1)
          ∙ (one_part p _ ∙ (under-unset p d.0 ∙ (ap (emptied (p ∷ [])) (sym before) ∙ sym (emptied-last ws p _))))
    ]

pub record IsUnsetAt (ps : List Part) (old new : Value) : Type 0 where
  pub document : new ≡ changed_at ps Delete old
  pub after : value_in ps new ≡ emptied ps (value_in ps old)
  pub elsewhere : ChangesOnly (touch_at ps Delete) old new

unset_at : (ws : List Part) (p : Part) (v : Value) → IsUnsetAt (ws ++ (p ∷ [])) v (changed_along ws p Delete v)
unset_at ws p v = record {
  document = sym (changed_at-append ws p Delete v);
  after = after_unset ws p v;
  elsewhere =
      subst (λ (t : Touch). ChangesOnly t v (changed_along ws p Delete v)) (sym (split-append ws p Delete))
      (λ q n. along_keeps (unset_by leads p) ws (from_key (key_of p)) v (λ c e q n. unset_kept p c q n) q n);
}

pub is_unset_at : (parts ws : List Part) (p : Part) (v w : Value) → parts ≡ ws ++ (p ∷ []) → w ≡ walk_by leads None ws (unset_by leads p) v → IsUnsetAt parts v w
is_unset_at parts ws p v w s e =
    subst (λ (z : List Part). IsUnsetAt z v w) (sym s) (subst (λ (z : Value). IsUnsetAt (ws ++ (p ∷ [])) v z) (sym e) (unset_at ws p v))

-- ---- a new length

pub resized : (n : ℕ) (vs : List Value) → resize_here n (Array vs) ≡ Array (sized n vs)
resized n vs = sym (resized_array n vs (sized n vs) refl)

sized_here : (m n : ℕ) (vs : List Value) → m ≤ n → m ≤ length vs → (q : Place) → from_index m q ≡ false → look (Some (resize_here n (Array vs))) q ≡ look (Some (Array vs)) q
sized_here m n vs a b q e =
    ap (λ (w : Value). look (Some w) q) (resized n vs ∙ sym (rolls-Array (sized n vs))) ∙ (sized_keeps m n vs a b q e ∙ ap (λ (w : Value). look (Some w) q) (rolls-Array vs))

pub record IsLengthened (ps : List Part) (n : ℕ) (old new : Value) : Type 0 where
  pub document : new ≡ changed_at ps (Length n) old
  pub there : IsResizedAt ps n old new
  pub elsewhere : ChangesOnlyBehind ps n old new

resize_at : (ws : List Part) (p : Part) (n : ℕ) (v : Value) → IsLengthened (ws ++ (p ∷ [])) n v (walk_by leads None (ws ++ (p ∷ [])) (resize_here n) v)
resize_at ws p n v = record {
  document = sym (changed_at-append ws p (Length n) v ∙ walk-append leads ws p (resize_here n) v);
  there = λ vs e. along_there (resize_here n) (ws ++ (p ∷ [])) v (Array vs) e ∙ ap Some (resized n vs);
  elsewhere = λ vs e.
      subst (λ (t : Touch). ChangesOnly t v (walk_by leads None (ws ++ (p ∷ [])) (resize_here n) v)) (sym (split-append ws p (Length (min n (length vs)))))
      (λ q m. along_keeps (resize_here n) (ws ++ (p ∷ [])) (from_index (min n (length vs))) v
      (λ c a q k. let s : Array vs ≡ c = some_one (sym e ∙ a) in subst (λ (z : Value). look (Some (resize_here n z)) q ≡ look (Some z) q) s (sized_here (min n (length vs)) n vs (omega arith) (omega arith) q k)) q m);
}
  where
    some_one : {A : Type 0} {x y : A} → Some x ≡ Some y → x ≡ y
    some_one e = cc

pub is_lengthened : (parts ws : List Part) (p : Part) (n : ℕ) (v w : Value) → parts ≡ ws ++ (p ∷ []) → w ≡ changed_along ws p (Length n) v → IsLengthened parts n v w
is_lengthened parts ws p n v w s e =
    subst (λ (z : List Part). IsLengthened z n v w) (sym s)
    (subst (λ (z : Value). IsLengthened (ws ++ (p ∷ [])) n v z) (sym (e ∙ walk-append leads ws p (resize_here n) v)) (resize_at ws p n v))
