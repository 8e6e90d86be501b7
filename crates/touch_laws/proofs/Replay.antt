-- One touch played on two values: where they differed at covered places alone, they still do.
use Rattle.std.proofs.Common.{◌≡◌, ◌≢◌, ℕ, ◌<◌, ◌≤◌, List, [], ◌∷◌, length, Bool, true, false, refl, sym, ap, ◌∙◌, subst, arith, Option, Some, None}
use Rattle.std.proofs.Common.{inl, inr}
use Rattle.std.specs.Prelude.{◌⊎◌}
use Rattle.std.proofs.lemmas.Bool.{cases_Bool}
use Rattle.std.proofs.lemmas.Grind.{common_steps}
use Rattle.std.specs.Str.{bytes_eq}
use Rattle.bson_value.specs.declared.value.Value.{Value, Value-F, out-Value, roll-Value}
use Rattle.bson_value.specs.Digits.{index_of}
use Rattle.bson_value.specs.Place.{Place, Shape, a_leaf, an_array, an_object, a_code, shape, nth, at_index, child, look, put, del, sized}
use Rattle.bson_value.proofs.Digits.{index_of-digits}
use Rattle.bson_value.proofs.Child.{same_name, name_refl, child-put_ne, shape-put, shape-del, behind, within_reach, put_object, put_array, del_object, del_else, nth-within, nth-sized, nth-sized_beyond, shape_array, child_array, rolled_array, array_shape, an_array_too}
use Rattle.doc_path.proofs.Cover.{root_below}
use Rattle.doc_path.proofs.Kept.{in_reach, both_kept}
use Rattle.doc_path.specs.declared.parts.Part.{Part}
use Rattle.doc_path.specs.declared.parts.Part.TheVariants.{Name as name, Index as index}
use Rattle.doc_path.specs.declared.parts.Form.{Form}
use Rattle.doc_path.specs.declared.parts.Form.TheVariants.{V1, V2}
use Rattle.doc_path.specs.Laws.{Hereditary}
use Rattle.doc_path.specs.Touch.{key_of, Touch, Set, Unset, Resize, takes, or_else, walk, set_last, unset_last, resize_here, made, play, below, from_key, from_index, from_at, small, covers, Way, SetFits, UnsetFits, ResizeFits, Fits}
use Rattle.touch_laws.specs.Agree.{SameBut, SameButEither}

pub there : (o p : Option Value) → look o [] ≡ look p [] → p ≢ None → o ≢ None
unfolding look
there None None e h = absurd (h refl)
there None (Some b) e h = cc
there (Some a) p e h = λ f. cc

pub same_shape : (v w : Value) → look (Some v) [] ≡ look (Some w) [] → shape v ≡ shape w
unfolding look
same_shape v w e = cc

-- a part that is taken in an array is the name of an index
pub taken_index : (f : Form) (p : Part) → takes f p an_array ≡ true → (n : ℕ) × (index_of (key_of p) ≡ Some n)
taken_index V1 p e = by (index_of (key_of p)) refl e
  where
    by : (i : Option ℕ) → index_of (key_of p) ≡ i → small i ≡ true → (n : ℕ) × (index_of (key_of p) ≡ Some n)
    by None h t = cc
    by (Some n) h t = (n, h)
taken_index V2 (index n) e = (n, index_of-digits n)
taken_index V2 (name k) e = cc

takes-put_at : (f : Form) (p : Part) (v a : Value) (s : Shape) → shape v ≡ s → takes f p s ≡ true → child (put v (key_of p) a) (key_of p) ≡ Some a
takes-put_at f p v a an_object k e = put_object v (key_of p) a k
takes-put_at f p v a an_array k e = let i = taken_index f p e in put_array v (key_of p) i.0 a k i.1
takes-put_at f p v a (a_leaf c) k e = cc
takes-put_at f p v a (a_code t) k e = cc

pub takes-put : (f : Form) (p : Part) (v a : Value) → takes f p (shape v) ≡ true → child (put v (key_of p) a) (key_of p) ≡ Some a
takes-put f p v a e = takes-put_at f p v a (shape v) refl e

-- two values of one kind, with values that are alike put under one key
pub at_key :
    (f : Form) (p : Part) (d : Place → Bool) (v w a b : Value) (j : List ℕ) (q : Place) →
    takes f p (shape v) ≡ true → takes f p (shape w) ≡ true → key_of p ≡ j →
    ((r : Place) → d (key_of p ∷ r) ≡ false → look (Some a) r ≡ look (Some b) r) → d (j ∷ q) ≡ false →
    look (child (put v (key_of p) a) j) q ≡ look (child (put w (key_of p) b) j) q
at_key f p d v w a b j q tv tw e same n =
    subst (λ (k : List ℕ). d (k ∷ q) ≡ false → look (child (put v (key_of p) a) k) q ≡ look (child (put w (key_of p) b) k) q) e
    (λ m. rw (takes-put f p v a tv, takes-put f p w b tw) (same q m)) n

pub off_key :
    (k : List ℕ) (d : Place → Bool) (v w a b : Value) (j : List ℕ) (q : Place) →
    shape v ≡ shape w →
    (behind (shape w) k j ≡ true → child w j ≢ None) →
    ((r : Place) → d (j ∷ r) ≡ false → look (child v j) r ≡ look (child w j) r) →
    Hereditary d → bytes_eq k j ≡ false → d (j ∷ q) ≡ false →
    look (child (put v k a) j) q ≡ look (child (put w k b) j) q
off_key k d v w a b j q s reach off mono e n =
    let v_there : behind (shape v) k j ≡ true → child v j ≢ None =
    λ h. there (child v j) (child w j) (off [] (mono (j ∷ []) q n)) (reach (subst (λ (z : Shape). behind z k j ≡ true) s h)) in
    rw (child-put_ne v k j a e v_there, child-put_ne w k j b e reach) (off q n)

pub put_agrees :
    (f : Form) (p : Part) (d : Place → Bool) (v w a b : Value) →
    shape v ≡ shape w → takes f p (shape w) ≡ true →
    ((j : List ℕ) → behind (shape w) (key_of p) j ≡ true → child w j ≢ None) →
    ((j : List ℕ) (q : Place) → bytes_eq (key_of p) j ≡ false → d (j ∷ q) ≡ false → look (child v j) q ≡ look (child w j) q) →
    Hereditary d →
    ((q : Place) → d (key_of p ∷ q) ≡ false → look (Some a) q ≡ look (Some b) q) →
    SameBut d (Some (put v (key_of p) a)) (Some (put w (key_of p) b))
unfolding look
put_agrees f p d v w a b s t reach off mono same [] n = ap Some (shape-put v (key_of p) a ∙ (s ∙ sym (shape-put w (key_of p) b)))
put_agrees f p d v w a b s t reach off mono same (j ∷ q) n =
    elim (cases_Bool (bytes_eq (key_of p) j)) [
      | inl e ↦ at_key f p d v w a b j q (subst (λ (z : Shape). takes f p z ≡ true) (sym s) t) t (same_name (key_of p) j e) same n
      | inr e ↦ off_key (key_of p) d v w a b j q s (reach j) (λ r m. off j r e m) mono e n
    ]

-- a way that stops here on one side, where the other side goes on
pub left_off :
    (k : List ℕ) (v w b : Value) (j : List ℕ) (q : Place) →
    (behind (shape w) k j ≡ true → child w j ≢ None) → bytes_eq k j ≡ false →
    look (child v j) q ≡ look (child w j) q →
    look (child v j) q ≡ look (child (put w k b) j) q
left_off k v w b j q reach e h = rw (child-put_ne w k j b e reach) h

pub left_agrees :
    (k : List ℕ) (d : Place → Bool) (v w b : Value) →
    shape v ≡ shape w →
    ((j : List ℕ) → behind (shape w) k j ≡ true → child w j ≢ None) →
    ((j : List ℕ) (q : Place) → bytes_eq k j ≡ false → d (j ∷ q) ≡ false → look (child v j) q ≡ look (child w j) q) →
    ((q : Place) → d (k ∷ q) ≡ false → ⊥) →
    SameBut d (Some v) (Some (put w k b))
unfolding look
left_agrees k d v w b s reach off none [] n = ap Some (s ∙ sym (shape-put w k b))
left_agrees k d v w b s reach off none (j ∷ q) n =
    elim (cases_Bool (bytes_eq k j)) [
      | inl e ↦ absurd (none q (subst (λ (z : List ℕ). d (z ∷ q) ≡ false) (sym (same_name k j e)) n))
      | inr e ↦ left_off k v w b j q (reach j) e (off j q e n)
    ]

-- what a step of a way does
abbrev pub Goes : (Value → Value) → (Place → Bool) → (Value → Type 0) → Type 0
Goes g c P = (d : Place → Bool) → Hereditary d → (v w : Value) → P w → SameButEither c d (Some v) (Some w) → SameBut d (Some (g v)) (Some (g w))

pub walk_on : (f : Form) (d : Option Value) (p : Part) (ps : List Part) (g : Value → Value) (v c : Value) → takes f p (shape v) ≡ true → or_else (child v (key_of p)) d ≡ Some c → walk f d (p ∷ ps) g v ≡ put v (key_of p) (walk f d ps g c)
walk_on f d p ps g v c t e = rw (t, e) refl

pub walk_stops : (f : Form) (d : Option Value) (p : Part) (ps : List Part) (g : Value → Value) (v : Value) → takes f p (shape v) ≡ true → or_else (child v (key_of p)) d ≡ None → walk f d (p ∷ ps) g v ≡ v
walk_stops f d p ps g v t e = rw (t, e) refl

-- with no value on one side, what stands on the other is covered
pub gone : (d : Place → Bool) (k : List ℕ) (q : Place) (c : Value) → Hereditary d → (d (k ∷ []) ≡ false → look None [] ≡ look (Some c) []) → d (k ∷ q) ≡ false → ⊥
unfolding look
gone d k q c mono h n = let e = h (mono (k ∷ []) q n) in cc

-- the part of a record that a step needs
pub record Step (f : Form) (d : Option Value) (p : Part) (ps : List Part) (g : Value → Value) (c dd : Place → Bool) (P : Value → Type 0) (v w cw : Value) : Type 0 where
  pub root : c [] ≡ false
  pub goes : Goes (walk f d ps g) (below ps c) (Way f ps P)
  pub mono : Hereditary dd
  pub kind : shape v ≡ shape w
  pub taken : takes f p (shape w) ≡ true
  pub leads : child w (key_of p) ≡ Some cw
  pub rest : Way f ps P cw
  pub elsewhere : (j : List ℕ) (q : Place) → bytes_eq (key_of p) j ≡ false → dd (j ∷ q) ≡ false → look (child v j) q ≡ look (child w j) q
  pub inside : (q : Place) → below ps c q ≡ false → dd (key_of p ∷ q) ≡ false → look (child v (key_of p)) q ≡ look (Some cw) q

pub step_reach : (p : Part) (w cw : Value) (j : List ℕ) → child w (key_of p) ≡ Some cw → behind (shape w) (key_of p) j ≡ true → child w j ≢ None
step_reach p w cw j e b = within_reach w (key_of p) j (λ h. cc) b

pub deeper : (d : Place → Bool) (k : List ℕ) → Hereditary d → Hereditary (λ q. d (k ∷ q))
deeper d k mono = λ q r n. mono (k ∷ q) r n

-- each case of what stands on the replayed side
pub step_at :
    (f : Form) (d : Option Value) (p : Part) (ps : List Part) (g : Value → Value) (c dd : Place → Bool) (P : Value → Type 0) (v w cw : Value) →
    Step f d p ps g c dd P v w cw → (o e : Option Value) → child v (key_of p) ≡ o → d ≡ e →
    SameBut dd (Some (walk f d (p ∷ ps) g v)) (Some (put w (key_of p) (walk f d ps g cw)))
step_at f d p ps g c dd P v w cw s (Some cv) e is_o is_e =
    let tv : takes f p (shape v) ≡ true = subst (λ (z : Shape). takes f p z ≡ true) (sym s.kind) s.taken in
    let on : or_else (child v (key_of p)) d ≡ Some cv = rw is_o refl in
    rw (walk_on f d p ps g v cv tv on)
    (put_agrees f p dd v w _ _ s.kind s.taken (λ j. step_reach p w cw j s.leads) s.elsewhere s.mono
    (s.goes (λ q. dd (key_of p ∷ q)) (deeper dd (key_of p) s.mono) cv cw s.rest (λ q a b. rw is_o at (s.inside q a b))))
step_at f d p ps g c dd P v w cw s None None is_o is_e =
    let tv : takes f p (shape v) ≡ true = subst (λ (z : Shape). takes f p z ≡ true) (sym s.kind) s.taken in
    let on : or_else (child v (key_of p)) d ≡ None = rw (is_o, is_e) refl in
    rw (walk_stops f d p ps g v tv on)
    (left_agrees (key_of p) dd v w _ s.kind (λ j. step_reach p w cw j s.leads) s.elsewhere
    (λ q n. gone dd (key_of p) q cw s.mono (λ m. rw is_o at (s.inside [] (root_below ps c s.root) m)) n))
step_at f d p ps g c dd P v w cw s None (Some made_one) is_o is_e =
    let tv : takes f p (shape v) ≡ true = subst (λ (z : Shape). takes f p z ≡ true) (sym s.kind) s.taken in
    let on : or_else (child v (key_of p)) d ≡ Some made_one = rw (is_o, is_e) refl in
    rw (walk_on f d p ps g v made_one tv on)
    (put_agrees f p dd v w _ _ s.kind s.taken (λ j. step_reach p w cw j s.leads) s.elsewhere s.mono
    (λ q n. absurd (gone dd (key_of p) q cw s.mono (λ m. rw is_o at (s.inside [] (root_below ps c s.root) m)) n)))

pub below_else : (p : Part) (ps : List Part) (c : Place → Bool) (j : List ℕ) (q : Place) → bytes_eq (key_of p) j ≡ false → below (p ∷ ps) c (j ∷ q) ≡ false
below_else p ps c j q e = rw e refl

pub below_same : (p : Part) (ps : List Part) (c : Place → Bool) (q : Place) → below ps c q ≡ false → below (p ∷ ps) c (key_of p ∷ q) ≡ false
below_same p ps c q e = rw (name_refl (key_of p), e) refl

pub led : (o u : Option Value) (cw : Value) (q : Place) → u ≡ Some cw → look o q ≡ look u q → look o q ≡ look (Some cw) q
led o u cw q e h = rw e at h

-- a change at the end of a way, done to both sides
pub walk_goes :
    (f : Form) (d : Option Value) (ps : List Part) (g : Value → Value) (c : Place → Bool) (P : Value → Type 0) →
    c [] ≡ false → Goes g c P → Goes (walk f d ps g) (below ps c) (Way f ps P)
unfolding look
walk_goes f d [] g c P root goes = goes
walk_goes f d (p ∷ ps) g c P root goes = λ dd mono v w way same q n.
    let kind : shape v ≡ shape w = same_shape v w (same [] refl (mono [] q n)) in
    let s : Step f d p ps g c dd P v w way.1 = record {
      root = root;
      goes = walk_goes f d ps g c P root goes;
      mono = mono;
      kind = kind;
      taken = way.0;
      leads = way.2;
      rest = way.3;
      elsewhere = λ j r e m. same (j ∷ r) (below_else p ps c j r e) m;
      inside = λ r e m. led (child v (key_of p)) (child w (key_of p)) way.1 r way.2 (same (key_of p ∷ r) (below_same p ps c r e) m);
    } in
    let on : or_else (child w (key_of p)) d ≡ Some way.1 = rw way.2 refl in
    rw (walk_on f d p ps g w way.1 way.0 on) (step_at f d p ps g c dd P v w way.1 s (child v (key_of p)) d refl refl q n)

-- the three kinds of change
pub takes_kind : (f : Form) (p : Part) (v w : Value) → shape v ≡ shape w → takes f p (shape w) ≡ true → takes f p (shape v) ≡ true
takes_kind f p v w s t = subst (λ (z : Shape). takes f p z ≡ true) (sym s) t

pub set_on : (f : Form) (p : Part) (a v : Value) → takes f p (shape v) ≡ true → set_last f p a v ≡ put v (key_of p) a
set_on f p a v t = rw t refl

pub set_goes : (f : Form) (p : Part) (a : Value) → Goes (set_last f p a) (from_key (key_of p)) (SetFits f p)
unfolding look
set_goes f p a = λ d mono v w fits same q n.
    let kind : shape v ≡ shape w = same_shape v w (same [] refl (mono [] q n)) in
    rw (set_on f p a v (takes_kind f p v w kind fits.0), set_on f p a w fits.0)
    (put_agrees f p d v w a a kind fits.0 (λ j. in_reach p w j fits.1) (λ j r e m. same (j ∷ r) e m) mono (λ r m. refl) q n)

pub unset_on : (f : Form) (p : Part) (v : Value) → takes f p (shape v) ≡ true → unset_last f p v ≡ del v (key_of p)
unset_on f p v t = rw t refl

pub both_gone : (u x : Option Value) (q : Place) → u ≡ None → x ≡ None → look u q ≡ look x q
both_gone u x q a b = rw (a, b) refl

pub del_agrees :
    (f : Form) (p : Part) (d : Place → Bool) (v w : Value) → shape v ≡ shape w → takes f p (shape w) ≡ true → shape w ≡ an_object →
    ((j : List ℕ) (q : Place) → bytes_eq (key_of p) j ≡ false → d (j ∷ q) ≡ false → look (child v j) q ≡ look (child w j) q) →
    SameBut d (Some (del v (key_of p))) (Some (del w (key_of p)))
unfolding look
del_agrees f p d v w s t o off [] n = ap Some (shape-del v (key_of p) ∙ (s ∙ sym (shape-del w (key_of p))))
del_agrees f p d v w s t o off (j ∷ q) n =
    elim (cases_Bool (bytes_eq (key_of p) j)) [
      | inl e ↦ subst (λ (k : List ℕ). look (child (del v (key_of p)) k) q ≡ look (child (del w (key_of p)) k) q) (same_name (key_of p) j e)
          (both_gone _ _ q (del_object v (key_of p) (s ∙ o)) (del_object w (key_of p) o))
      | inr e ↦ both_kept _ _ (child v j) (child w j) q (del_else v (key_of p) j (s ∙ o) e) (del_else w (key_of p) j o e) (off j q e n)
    ]

pub unset_goes : (f : Form) (p : Part) → Goes (unset_last f p) (from_key (key_of p)) (UnsetFits f p)
unfolding look
unset_goes f p = λ d mono v w fits same q n.
    let kind : shape v ≡ shape w = same_shape v w (same [] refl (mono [] q n)) in
    rw (unset_on f p v (takes_kind f p v w kind fits.0), unset_on f p w fits.0)
    (del_agrees f p d v w kind fits.0 fits.1 (λ j r e m. same (j ∷ r) e m) q n)

-- Resize: of two arrays
pub sized_at : (n : ℕ) (d : Place → Bool) (is js : List Value) (k : List ℕ) (i : Option ℕ) (q : Place) → Hereditary d → n ≤ length js →
    (from_at n i ≡ false → (r : Place) → d (k ∷ r) ≡ false → look (at_index is i) r ≡ look (at_index js i) r) → d (k ∷ q) ≡ false →
    (from_at n i ≡ true) ⊎ (from_at n i ≡ false) →
    look (at_index (sized n is) i) q ≡ look (at_index (sized n js) i) q
sized_at n d is js k None q mono c off m e = refl
sized_at n d is js k (Some j) q mono c off m (inl e) =
    let l : n ≤ j = grind (arith, common_steps) in
    both_gone _ _ q (nth-sized_beyond n is j l) (nth-sized_beyond n js j l)
sized_at n d is js k (Some j) q mono c off m (inr e) =
    let l : j < n = grind (arith, common_steps) in
    let jt : nth js j ≢ None = nth-within js j (omega arith) in
    let it : nth is j ≢ None = there _ _ (off e [] (mono (k ∷ []) q m)) jt in
    both_kept _ _ (nth is j) (nth js j) q (nth-sized n is j l it) (nth-sized n js j l jt) (off e q m)

arrays_at : (vs ws : List Value) (k : List ℕ) (q : Place) → look (at_index vs (index_of k)) q ≡ look (at_index ws (index_of k)) q →
    look (child (roll-Value (Value-F.Array vs)) k) q ≡ look (child (roll-Value (Value-F.Array ws)) k) q
arrays_at vs ws k q h = rw (child_array vs k, child_array ws k) h

at_arrays : (vs ws : List Value) (k : List ℕ) (q : Place) → look (child (roll-Value (Value-F.Array vs)) k) q ≡ look (child (roll-Value (Value-F.Array ws)) k) q →
    look (at_index vs (index_of k)) q ≡ look (at_index ws (index_of k)) q
at_arrays vs ws k q h = rw (child_array vs k, child_array ws k) at h

pub arrays_agree : (n : ℕ) (d : Place → Bool) (is js : List Value) → Hereditary d → n ≤ length js → SameButEither (from_index n) d (Some (roll-Value (Value-F.Array is))) (Some (roll-Value (Value-F.Array js))) →
    SameBut d (Some (roll-Value (Value-F.Array (sized n is)))) (Some (roll-Value (Value-F.Array (sized n js))))
unfolding look
arrays_agree n d is js mono c same [] m = ap Some (shape_array (sized n is) ∙ sym (shape_array (sized n js)))
arrays_agree n d is js mono c same (k ∷ q) m =
    arrays_at (sized n is) (sized n js) k q
    (sized_at n d is js k (index_of k) q mono c (λ e r h. at_arrays is js k r (same (k ∷ r) e h)) m (cases_Bool (from_at n (index_of k))))

pub resize_on : (n : ℕ) (v : Value) (is : List Value) → out-Value v ≡ Value-F.Array is → resize_here n v ≡ roll-Value (Value-F.Array (sized n is))
unfolding resize_here
resize_on n v is e = rw e refl

pub same_arrays : (c d : Place → Bool) (v w : Value) (is js : List Value) → out-Value v ≡ Value-F.Array is → out-Value w ≡ Value-F.Array js → SameButEither c d (Some v) (Some w) → SameButEither c d (Some (roll-Value (Value-F.Array is))) (Some (roll-Value (Value-F.Array js)))
same_arrays c d v w is js a b h = subst (λ (z : Value). SameButEither c d (Some z) (Some (roll-Value (Value-F.Array js)))) (rolled_array v is a) (subst (λ (z : Value). SameButEither c d (Some v) (Some z)) (rolled_array w js b) h)

pub resize_goes : (n : ℕ) → Goes (resize_here n) (from_index n) (ResizeFits n)
resize_goes n = λ d mono v w fits same q m.
    let kind : shape v ≡ shape w = same_shape v w (same [] refl (mono [] q m)) in
    let a = an_array_too v (kind ∙ array_shape w fits.1 fits.2) in
    rw (resize_on n v a.0 a.1, resize_on n w fits.1 fits.2)
    (arrays_agree n d a.0 fits.1 mono fits.3 (same_arrays (from_index n) d v w a.0 fits.1 a.1 fits.2 same) q m)

pub play_goes : (f : Form) (t : Touch) → Goes (play f t) (covers t) (Fits f t)
play_goes f (Set ps p a) = walk_goes f (made f) ps (set_last f p a) (from_key (key_of p)) (SetFits f p) refl (set_goes f p a)
play_goes f (Unset ps p) = walk_goes f None ps (unset_last f p) (from_key (key_of p)) (UnsetFits f p) refl (unset_goes f p)
play_goes f (Resize ps n) = walk_goes f None ps (resize_here n) (from_index n) (ResizeFits n) refl (resize_goes n)
