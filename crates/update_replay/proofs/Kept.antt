-- What an operator keeps: where something stands at a place that is apart from its path, that stays, with all below it. Where nothing stands, no array comes.
use Rattle.std.proofs.Common.{◌≡◌, ◌≢◌, ℕ, zero, suc, List, [], ◌∷◌, ◌++◌, Bool, true, false, refl, sym, ap, ◌∙◌, subst, Option, Some, None, inl, inr, append-nil, append_assoc}
use Rattle.std.specs.Prelude.{◌||◌, ◌⊎◌, ◌-◌, if◌then◌else◌}
use Rattle.std.specs.Str.{bytes_eq}
use Rattle.std.proofs.lemmas.Bool.{cases_Bool, and_parts}
use Rattle.bson_value.specs.declared.value.Value.{Value, Value-F, Null, out-Value, roll-Value}
use Rattle.bson_value.specs.declared.value.Value.TheVariants.{outs-Null}
use Rattle.bson_value.specs.Digits.{digits, index_of}
use Rattle.bson_value.specs.Place.{Place, Shape, a_leaf, an_array, an_object, a_code, look, shape, shape_in, child, child_in, put, put_in, put_item, nth, at_index}
use Rattle.bson_value.proofs.Digits.{index_of-digits, index_of-is}
use Rattle.bson_value.proofs.Child.{same_name, name_refl, child-put_ne, behind, an_array_too, rolled_array, child_array}
use Rattle.doc_path.specs.declared.parts.Part.{Part}
use Rattle.doc_path.specs.declared.parts.Part.TheVariants.{Name as name, Index as index}
use Rattle.doc_path.specs.declared.parts.Form.TheVariants.{V2}
use Rattle.doc_path.specs.Touch.{key_of, takes, Way, walk, or_else, set_last}
use Rattle.doc_path.specs.Places.{keys}
use Rattle.doc_path.proofs.Places.{child-object}
use Rattle.touch_laws.proofs.Replay.{walk_on, set_on, takes-put}
use Rattle.update_model.specs.declared.mark.Mark.{Mark}
use Rattle.update_model.specs.declared.mark.Made.{Made}
use Rattle.update_model.specs.declared.mark.Made.TheVariants as made
use Rattle.update_model.specs.Conflicts.{Path, begins, conflict}
use Rattle.update_model.specs.Located.{Located, There, Missing, Blocked, part_at, within, further, located_under, located_at, located, build}
use Rattle.update_model.specs.Steps.{mark, elements, padding, newly, putting}
use Rattle.update_model.proofs.MarkTerms.{mark_covers, any_mark, Step}
use Rattle.update_model.proofs.StepTheory.{array_taken}
use Rattle.update_model.proofs.Recording.{covers_begins, keys_more}
use Rattle.update_model.proofs.ActSteps.{IsMissing, part_takes, added_goes}

clash : (b : Bool) → b ≡ true → b ≡ false → ⊥
clash b t f = cc

pub no_some : {A : Type 0} (o : Option A) (x : A) → o ≡ None → o ≡ Some x → ⊥
no_some o x n s = cc

not_true : (b : Bool) → (b ≡ true → ⊥) → b ≡ false
not_true true h = absurd (h refl)
not_true false h = refl

-- ---- places that begin with others

pub begins_more : (p r q : Place) → begins (p ++ r) q ≡ true → begins p q ≡ true
begins_more [] r q e = refl
begins_more (k ∷ p) r [] e = e
begins_more (k ∷ p) r (j ∷ q) e = let h = and_parts (bytes_eq k j) (begins (p ++ r) q) e in rw (h.0, begins_more p r q h.1) refl

pub begins_behind : (p q r : Place) → begins p q ≡ true → begins p (q ++ r) ≡ true
begins_behind [] q r e = refl
begins_behind (k ∷ p) [] r e = cc
begins_behind (k ∷ p) (j ∷ q) r e = let h = and_parts (bytes_eq k j) (begins p q) e in rw (h.0, begins_behind p q r h.1) refl

-- the rest of a place behind one that it begins with
pub begins_rest : (p q : Place) → begins p q ≡ true → (r : Place) × (q ≡ p ++ r)
begins_rest [] q e = (q, refl)
begins_rest (k ∷ p) [] e = cc
begins_rest (k ∷ p) (j ∷ q) e =
    let h = and_parts (bytes_eq k j) (begins p q) e in
    let r = begins_rest p q h.1 in
    (r.0, λ i. sym (same_name k j h.0) i ∷ r.1 i)

pub begins_own : (p r : Place) → begins p (p ++ r) ≡ true
begins_own [] r = refl
begins_own (k ∷ p) r = rw (name_refl k, begins_own p r) refl

or_right : (b : Bool) → (b || true) ≡ true
or_right true = refl
or_right false = refl

turned : (k j : List ℕ) → bytes_eq k j ≡ true → bytes_eq j k ≡ true
turned k j e = subst (λ (z : List ℕ). bytes_eq z k ≡ true) (same_name k j e) (name_refl k)

-- two that one place begins with conflict
pub both_begin : (p q r : Place) → begins p (q ++ r) ≡ true → conflict p q ≡ true
both_begin [] q r e = refl
both_begin (k ∷ p) [] r e = refl
both_begin (k ∷ p) (j ∷ q) r e = let h = and_parts (bytes_eq k j) (begins p (q ++ r)) e in rw (h.0, turned k j h.0) (both_begin p q r h.1)

pub conflict_turned : (p q : Path) → conflict p q ≡ conflict q p
conflict_turned p q = either (begins p q) (begins q p)
  where
    either : (a b : Bool) → (a || b) ≡ (b || a)
    either true true = refl
    either true false = refl
    either false true = refl
    either false false = refl

conflict_behind : (w p q : Place) → conflict (w ++ p) (w ++ q) ≡ conflict p q
conflict_behind [] p q = refl
conflict_behind (k ∷ w) p q = rw (name_refl k) (conflict_behind w p q)

first_false : (a b : Bool) → (a || b) ≡ false → a ≡ false
first_false true b e = e
first_false false b e = refl

second_false : (a b : Bool) → (a || b) ≡ false → b ≡ false
second_false true b e = cc
second_false false b e = e

-- ---- looking on

pub look_on : (v : Value) (k : List ℕ) (q : Place) → look (Some v) (k ∷ q) ≡ look (child v k) q
unfolding look
look_on v k q = refl

pub look_root : (v : Value) → look (Some v) [] ≡ Some (shape v)
unfolding look
look_root v = refl

pub look_none : (q : Place) → look None q ≡ None
unfolding look
look_none q = refl

look_behind : (v : Option Value) (p r : Place) → look v p ≡ None → look v (p ++ r) ≡ None
unfolding look
look_behind None p r e = refl
look_behind (Some v) [] r e = absurd (no_some (Some (shape v)) (shape v) e refl)
look_behind (Some v) (k ∷ p) r e = look_behind (child v k) p r e

pub record Kept (p : Place) (u w : Value) : Type 0 where
  pub stays : look (Some u) p ≢ None → (r : Place) → look (Some w) (p ++ r) ≡ look (Some u) (p ++ r)
  pub news : look (Some u) p ≡ None → look (Some w) p ≢ Some an_array

pub kept_same : (p : Place) (u w : Value) → ((r : Place) → look (Some w) (p ++ r) ≡ look (Some u) (p ++ r)) → Kept p u w
kept_same p u w h = record {
  stays = λ s r. h r;
  news = λ n e. no_some (look (Some u) p) an_array n (sym (subst (λ (z : Place). look (Some w) z ≡ look (Some u) z) (append-nil p) (h [])) ∙ e);
}

pub kept_none : (p : Place) (u : Value) → Kept p u u
kept_none p u = kept_same p u u (λ r. refl)

pub at_place : (p : Place) (u w : Value) → Kept p u w → look (Some u) p ≢ None → look (Some w) p ≡ look (Some u) p
at_place p u w k h = subst (λ (z : Place). look (Some w) z ≡ look (Some u) z) (append-nil p) (k.stays h [])

pub kept_then : (p : Place) (u v w : Value) → Kept p u v → Kept p v w → Kept p u w
kept_then p u v w a b = record {
  stays = λ h r. b.stays (λ n. h (sym (at_place p u v a h) ∙ n)) r ∙ a.stays h r;
  news = λ n e. by (look (Some v) p) refl n e;
}
  where
    by : (o : Option Shape) → look (Some v) p ≡ o → look (Some u) p ≡ None → look (Some w) p ≡ Some an_array → ⊥
    by None f n e = b.news f e
    by (Some s) f n e = a.news n (sym (at_place p v w b (λ g. no_some (look (Some v) p) s g f)) ∙ e)

-- what changes only at and below a path keeps what is apart from it
pub kept_frame : (path p : Place) (u w : Value) → conflict path p ≡ false → ((q : Place) → begins path q ≡ false → look (Some w) q ≡ look (Some u) q) → Kept p u w
kept_frame path p u w c frame = kept_same p u w (λ r. frame (p ++ r) (not_true (begins path (p ++ r)) (λ e. clash (conflict path p) (both_begin path p r e) c)))

-- ---- the end of a way

pub record WayEnd (ws : List Part) (P : Value → Type 0) (v : Value) : Type 0 where
  pub end : Value
  pub holds : P end
  pub new : (g : Value → Value) (r : Place) → look (Some (walk V2 None ws g v)) (keys ws ++ r) ≡ look (Some (g end)) r
  pub old : (r : Place) → look (Some v) (keys ws ++ r) ≡ look (Some end) r

pub way_end : (ws : List Part) (P : Value → Type 0) (v : Value) → Way V2 ws P v → WayEnd ws P v
way_end [] P v h = record { end = v; holds = h; new = λ g r. refl; old = λ r. refl }
way_end (p ∷ ws) P v h =
    let e = way_end ws P h.1 h.3 in
    let on : or_else (child v (key_of p)) None ≡ Some h.1 = rw h.2 refl in
    record {
      end = e.end;
      holds = e.holds;
      new = λ g r. ap (λ (z : Value). look (Some z) (key_of p ∷ (keys ws ++ r))) (walk_on V2 None p ws g v h.1 h.0 on)
          ∙ (look_on (put v (key_of p) (walk V2 None ws g h.1)) (key_of p) (keys ws ++ r)
          ∙ (ap (λ (o : Option Value). look o (keys ws ++ r)) (takes-put V2 p v (walk V2 None ws g h.1) h.0) ∙ e.new g r));
      old = λ r. look_on v (key_of p) (keys ws ++ r) ∙ (ap (λ (o : Option Value). look o (keys ws ++ r)) h.2 ∙ e.old r);
    }

kept_at_end : (ws : List Part) (P : Value → Type 0) (v : Value) (g : Value → Value) (p : Place) (e : WayEnd ws P v) → Kept p e.end (g e.end) → Kept (keys ws ++ p) v (walk V2 None ws g v)
kept_at_end ws P v g p e k = record {
  stays = λ h r.
      subst (λ (z : Place). look (Some (walk V2 None ws g v)) z ≡ look (Some v) z) (sym (append_assoc (keys ws) p r))
      (e.new g (p ++ r) ∙ (k.stays (λ n. h (e.old p ∙ n)) r ∙ sym (e.old (p ++ r))));
  news = λ n f. k.news (sym (e.old p) ∙ n) (sym (e.new g p) ∙ f);
}

-- ---- a value behind the names of a path

shape_null : shape Null ≡ a_leaf Value-F.Null
unfolding shape
shape_null = ap shape_in outs-Null

child_null : (k : List ℕ) → child Null k ≡ None
unfolding child
child_null k = ap (λ (f : Value-F Value). child_in f k (index_of k)) outs-Null

look_null : (r : Place) → look (Some Null) r ≢ Some an_array
look_null [] e = by (sym (look_root Null) ∙ e)
  where
    by : Some (shape Null) ≡ Some an_array → ⊥
    by f = let g : Some (a_leaf Value-F.Null) ≡ Some an_array = sym (ap Some shape_null) ∙ f in cc
look_null (k ∷ r) e = no_some (look (Some Null) (k ∷ r)) an_array (look_on Null k r ∙ (ap (λ (o : Option Value). look o r) (child_null k) ∙ look_none r)) e

-- nothing else stands there
build_apart : (ks r : Path) (a : Value) → conflict ks r ≡ false → look (Some (build ks a)) r ≡ None
build_apart [] r a e = cc
build_apart (k ∷ ks) [] a e = cc
build_apart (k ∷ ks) (i ∷ r) a e = look_on (build (k ∷ ks) a) i r ∙ (ap (λ (o : Option Value). look o r) (child-object ((k, build ks a) ∷ []) i) ∙ by (cases_Bool (bytes_eq k i)) (λ f. build_apart ks r a f))
  where
    by : (bytes_eq k i ≡ true) ⊎ (bytes_eq k i ≡ false) → (conflict ks r ≡ false → look (Some (build ks a)) r ≡ None) → look (if bytes_eq k i then Some (build ks a) else None) r ≡ None
    by (inl s) later = rw s (later (rw (s, turned k i s) at e))
    by (inr s) later = rw s (look_none r)

-- ---- a value where nothing was

nth_put : (vs : List Value) (n m : ℕ) (a : Value) → (m ≡ n → ⊥) → (nth (put_item vs n a) m ≡ nth vs m) ⊎ ((nth vs m ≡ None) × (nth (put_item vs n a) m ≡ Some Null))
nth_put [] zero zero a h = absurd (h refl)
nth_put [] zero (suc m) a h = inl refl
nth_put [] (suc n) zero a h = inr (refl, refl)
nth_put [] (suc n) (suc m) a h = nth_put [] n m a (λ e. h (ap suc e))
nth_put (v ∷ vs) zero zero a h = absurd (h refl)
nth_put (v ∷ vs) zero (suc m) a h = inl refl
nth_put (v ∷ vs) (suc n) zero a h = inl refl
nth_put (v ∷ vs) (suc n) (suc m) a h = nth_put vs n m a (λ e. h (ap suc e))

put_array : (x a : Value) (vs : List Value) (n : ℕ) → out-Value x ≡ Value-F.Array vs → put x (digits n) a ≡ roll-Value (Value-F.Array (put_item vs n a))
unfolding put
put_array x a vs n e = (λ i. roll-Value (put_in (e i) (digits n) (index_of-digits n i) a))

put_else : (x : Value) (p : Part) (j : List ℕ) (a : Value) → takes V2 p (shape x) ≡ true → bytes_eq (key_of p) j ≡ false →
    (child (put x (key_of p) a) j ≡ child x j) ⊎ ((child x j ≡ None) × (child (put x (key_of p) a) j ≡ Some Null))
put_else x (name k) j a t n = inl (child-put_ne x k j a n (λ b. absurd (clash (behind (shape x) k j) b (no_index (shape x) t))))
  where
    no_index : (s : Shape) → takes V2 (name k) s ≡ true → behind s k j ≡ false
    no_index an_object e = refl
    no_index an_array e = cc
    no_index (a_leaf c) e = cc
    no_index (a_code c) e = cc
put_else x (index n) j a t ne = by (index_of j) refl
  where
    vs : List Value
    vs = (an_array_too x (array_taken n (shape x) t).0).0

    level : out-Value x ≡ Value-F.Array vs
    level = (an_array_too x (array_taken n (shape x) t).0).1

    new : child (put x (digits n) a) j ≡ at_index (put_item vs n a) (index_of j)
    new = ap (λ (z : Value). child z j) (put_array x a vs n level) ∙ child_array (put_item vs n a) j

    old : child x j ≡ at_index vs (index_of j)
    old = ap (λ (z : Value). child z j) (rolled_array x vs level) ∙ child_array vs j

    by : (o : Option ℕ) → index_of j ≡ o → (child (put x (digits n) a) j ≡ child x j) ⊎ ((child x j ≡ None) × (child (put x (digits n) a) j ≡ Some Null))
    by None e = inl (new ∙ (ap (at_index (put_item vs n a)) e ∙ sym (old ∙ ap (at_index vs) e)))
    by (Some m) e = of (nth_put vs n m a (λ s. clash (bytes_eq (digits n) j) (subst (λ (z : List ℕ). bytes_eq (digits n) z ≡ true) (ap digits (sym s) ∙ sym (index_of-is j m e)) (name_refl (digits n))) ne))
      where
        of : (nth (put_item vs n a) m ≡ nth vs m) ⊎ ((nth vs m ≡ None) × (nth (put_item vs n a) m ≡ Some Null)) → (child (put x (digits n) a) j ≡ child x j) ⊎ ((child x j ≡ None) × (child (put x (digits n) a) j ≡ Some Null))
        of (inl s) = inl (new ∙ (ap (at_index (put_item vs n a)) e ∙ (s ∙ sym (old ∙ ap (at_index vs) e))))
        of (inr s) = inr (old ∙ (ap (at_index vs) e ∙ s.0), new ∙ (ap (at_index (put_item vs n a)) e ∙ s.1))

missing_kept : (p : Part) (n : ℕ) (ks : Path) (a x : Value) (q : Place) → IsMissing p n x → conflict (key_of p ∷ ks) q ≡ false → Kept q x (set_last V2 p (build ks a) x)
missing_kept p n ks a x [] h c = cc
missing_kept p n ks a x (j ∷ q) h c = subst (Kept (j ∷ q) x) (sym (set_on V2 p (build ks a) x h.0)) (by (cases_Bool (bytes_eq (key_of p) j)))
  where
    b : Value
    b = build ks a

    none_here : child x j ≡ None → (r : Place) → look (Some x) (j ∷ r) ≡ None
    none_here e r = look_on x j r ∙ (ap (λ (o : Option Value). look o r) e ∙ look_none r)

    here : bytes_eq (key_of p) j ≡ true → Kept (j ∷ q) x (put x (key_of p) b)
    here s =
        let is : key_of p ≡ j = same_name (key_of p) j s in
        let gone : child x j ≡ None = subst (λ (z : List ℕ). child x z ≡ None) is h.1 in
        let there : child (put x (key_of p) b) j ≡ Some b = subst (λ (z : List ℕ). child (put x (key_of p) b) z ≡ Some b) is (takes-put V2 p x b h.0) in
        let apart : conflict ks q ≡ false = rw (s, turned (key_of p) j s) at c in
        record {
          stays = λ m r. absurd (m (none_here gone q));
          news = λ m e. no_some (look (Some (put x (key_of p) b)) (j ∷ q)) an_array
              (look_on (put x (key_of p) b) j q ∙ (ap (λ (o : Option Value). look o q) there ∙ build_apart ks q a apart)) e;
        }

    else_ : (child (put x (key_of p) b) j ≡ child x j) ⊎ ((child x j ≡ None) × (child (put x (key_of p) b) j ≡ Some Null)) → Kept (j ∷ q) x (put x (key_of p) b)
    else_ (inl s) = kept_same (j ∷ q) x (put x (key_of p) b) (λ r. look_on (put x (key_of p) b) j (q ++ r) ∙ (ap (λ (o : Option Value). look o (q ++ r)) s ∙ sym (look_on x j (q ++ r))))
    else_ (inr s) = record {
      stays = λ m r. absurd (m (none_here s.0 q));
      news = λ m e. look_null q (sym (look_on (put x (key_of p) b) j q ∙ ap (λ (o : Option Value). look o q) s.1) ∙ e);
    }

    by : (bytes_eq (key_of p) j ≡ true) ⊎ (bytes_eq (key_of p) j ≡ false) → Kept (j ∷ q) x (put x (key_of p) b)
    by (inl s) = here s
    by (inr s) = else_ (put_else x p j b h.0 s)

-- ---- marks that begin with a way

own_covers : (ws : List Part) (p : Part) (k : Made) (q : Place) → mark_covers (mark ws p k) q ≡ begins (keys ws ++ (key_of p ∷ [])) q
own_covers ws p k q = covers_begins (mark ws p k) q ∙ ap (λ (z : Place). begins z q) (keys_more ws p)

own_off : (ws : List Part) (p : Part) (k : Made) (q : Place) → begins (keys ws ++ (key_of p ∷ [])) q ≡ false → any_mark (mark ws p k ∷ []) q ≡ false
own_off ws p k q e = rw (own_covers ws p k q, e) refl

pub elements_off : (us : List Part) (from n : ℕ) (q : Place) → begins (keys us) q ≡ false → any_mark (elements us from n) q ≡ false
elements_off us from zero q e = refl
elements_off us from (suc n) q e =
    rw (own_covers us (index from) made.Changed q, not_true (begins (keys us ++ (digits from ∷ [])) q) (λ t. clash (begins (keys us) q) (begins_more (keys us) (digits from ∷ []) q t) e), elements_off us (suc from) n q e) refl

padding_off : (ws : List Part) (p : Part) (n : ℕ) (q : Place) → begins (keys ws) q ≡ false → any_mark (padding ws p n) q ≡ false
padding_off ws (name k) n q e = refl
padding_off ws (index i) n q e = elements_off ws n (i - n) q e

marks_off : (ms ns : List Mark) (q : Place) → any_mark ms q ≡ false → any_mark ns q ≡ false → any_mark (ms ++ ns) q ≡ false
marks_off [] ns q a b = b
marks_off (m ∷ ms) ns q a b = rw (first_false _ (any_mark ms q) a, marks_off ms ns q (second_false _ (any_mark ms q) a) b) refl

-- a change of the value at a path
pub there_kept : (ws : List Part) (p : Part) (k : Made) (v w : Value) (path q : Place) → keys ws ++ (key_of p ∷ []) ≡ path → Step v (mark ws p k ∷ []) w → conflict path q ≡ false → Kept q v w
there_kept ws p k v w path q is s c = kept_frame path q v w c (λ r e. s.frame r (own_off ws p k r (ap (λ (z : Place). begins z r) is ∙ e)))

-- more elements of the array at a path
pub grown_kept : (ws : List Part) (p : Part) (from n : ℕ) (v w : Value) (path q : Place) → keys ws ++ (key_of p ∷ []) ≡ path → Step v (elements (ws ++ (p ∷ [])) from n) w → conflict path q ≡ false → Kept q v w
grown_kept ws p from n v w path q is s c =
    kept_frame path q v w c (λ r e. s.frame r (elements_off (ws ++ (p ∷ [])) from n r (ap (λ (z : Place). begins z r) (keys_more ws p ∙ is) ∙ e)))

-- a value where nothing was
pub added_kept : (ws : List Part) (p : Part) (n : ℕ) (ks : Path) (a v : Value) (path q : Place) → keys ws ++ (key_of p ∷ ks) ≡ path → Way V2 ws (IsMissing p n) v → conflict path q ≡ false → Kept q v (putting ws p (build ks a) v)
added_kept ws p n ks a v path q is h c = by (cases_Bool (begins (keys ws) q))
  where
    frame : (r : Place) → begins (keys ws) r ≡ false → look (Some (putting ws p (build ks a) v)) r ≡ look (Some v) r
    frame r e =
        (added_goes ws p n (build ks a) v h).0.frame r
        (marks_off (padding ws p n) (mark ws p (newly p) ∷ []) r (padding_off ws p n r e) (own_off ws p (newly p) r (not_true (begins (keys ws ++ (key_of p ∷ [])) r) (λ t. clash (begins (keys ws) r) (begins_more (keys ws) (key_of p ∷ []) r t) e))))

    off : begins (keys ws) q ≡ false → conflict (keys ws) q ≡ false
    off e = rw (e, not_true (begins q (keys ws)) (λ t. clash (conflict path q) (ends (begins path q) (subst (λ (z : Place). begins q z ≡ true) is (begins_behind q (keys ws) (key_of p ∷ ks) t))) c)) refl
      where
        ends : (b : Bool) → begins q path ≡ true → (b || begins q path) ≡ true
        ends b t = ap (λ (z : Bool). b || z) t ∙ or_right b

    by : (begins (keys ws) q ≡ true) ⊎ (begins (keys ws) q ≡ false) → Kept q v (putting ws p (build ks a) v)
    by (inl t) =
        let r = begins_rest (keys ws) q t in
        let e = way_end ws (IsMissing p n) v h in
        let apart : conflict (key_of p ∷ ks) r.0 ≡ false = sym (conflict_behind (keys ws) (key_of p ∷ ks) r.0) ∙ ((λ i. conflict (is i) (sym r.1 i)) ∙ c) in
        subst (λ (z : Place). Kept z v (putting ws p (build ks a) v)) (sym r.1)
        (kept_at_end ws (IsMissing p n) v (set_last V2 p (build ks a)) r.0 e (missing_kept p n ks a e.end r.0 e.holds apart))
    by (inr e) = kept_frame (keys ws) q v (putting ws p (build ks a) v) (off e) frame

-- ---- where a path leads

abbrev pub IsAt : Path → Located → Type 0
IsAt path (There ws p c) = keys ws ++ (key_of p ∷ []) ≡ path
IsAt path (Missing ws p n ks) = keys ws ++ (key_of p ∷ ks) ≡ path
IsAt path Blocked = Unit {0}

within_at : (p : Part) (k : List ℕ) (ks : Path) (l : Located) → key_of p ≡ k → IsAt ks l → IsAt (k ∷ ks) (within p l)
within_at p k ks (There ws q c) e h = (λ i. e i ∷ h i)
within_at p k ks (Missing ws q n js) e h = (λ i. e i ∷ h i)
within_at p k ks Blocked e h = tt

further_at : (ks : Path) (go : Value → Located) (p : Part) (k : List ℕ) (c : Value) → key_of p ≡ k → ((d : Value) → IsAt ks (go d)) → IsAt (k ∷ ks) (further ks go p c)
further_at [] go p k c e h = (λ i. e i ∷ [])
further_at (j ∷ ks) go p k c e h = within_at p k (j ∷ ks) (go c) e (h c)

pub is_at : (path : Path) (v : Value) → IsAt path (located path v)
is_at [] v = tt
is_at (k ∷ ks) v = by (part_at k v) refl (is_at ks)
  where
    under_part : (p : Part) (o : Option Value) → key_of p ≡ k → ((d : Value) → IsAt ks (located ks d)) → IsAt (k ∷ ks) (located_under (further ks (located ks)) ks v p o)
    under_part p None e h = (λ i. e i ∷ ks)
    under_part p (Some c) e h = further_at ks (located ks) p k c e h

    by : (o : Option Part) → part_at k v ≡ o → ((d : Value) → IsAt ks (located ks d)) → IsAt (k ∷ ks) (located_at (further ks (located ks)) ks v o)
    by None e h = tt
    by (Some p) e h = under_part p (child v (key_of p)) (part_takes k v p e).1 h
