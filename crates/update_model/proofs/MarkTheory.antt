-- The touches of an update record it, whatever its operators did one after the other.
use Rattle.std.proofs.Common.{◌≡◌, ◌≢◌, ℕ, zero, suc, ◌<◌, ◌≤◌, List, [], ◌∷◌, ◌++◌, Bool, true, false, refl, sym, ap, ◌∙◌, subst, arith, Option, Some, None, inl, inr, append-nil, length}
use Rattle.std.specs.Prelude.{◌||◌, ◌⊎◌}
use Rattle.std.proofs.lemmas.Bool.{cases_Bool, and_parts}
use Rattle.std.specs.Str.{bytes_eq}
use Rattle.bson_value.specs.declared.value.Value.{Value}
use Rattle.bson_value.specs.Digits.{digits}
use Rattle.bson_value.specs.Place.{Place, Shape, a_leaf, an_array, an_object, a_code, shape, child, look}
use Rattle.doc_path.specs.declared.parts.Part.{Part}
use Rattle.doc_path.specs.declared.parts.Part.TheVariants.{Name as name, Index as index}
use Rattle.doc_path.specs.declared.parts.Form.TheVariants.{V2}
use Rattle.doc_path.specs.Touch.{key_of, takes, below, from_key, covers, Way}
use Rattle.touch_laws.specs.Agree.{any_covers, Done, AllDone, Records, SetDone, UnsetDone}
use Rattle.doc_path.specs.Places.{keys}
use Rattle.update_model.specs.declared.mark.Mark.{Mark}
use Rattle.update_model.specs.Steps.{Trace, marks_of}
use Rattle.update_model.proofs.MarkTerms.{mark_covers, any_mark, at_keys, Ready, Stands, AllStand, Step, Steps, touch_by, touches_of, tops}
use Rattle.bson_value.proofs.Child.{same_name}
use Rattle.touch_laws.proofs.Replay.{there, same_shape}
use Rattle.doc_path.specs.Laws.{Hereditary}
use Rattle.doc_path.proofs.Cover.{mono-below, mono-from_key}

pub is_there : {A : Type 0} (o : Option A) → o ≢ None → (a : A) × (o ≡ Some a)
is_there None h = absurd (h refl)
is_there (Some a) h = (a, refl)

pub not_none : {A : Type 0} (o : Option A) (a : A) → o ≡ Some a → o ≢ None
not_none o a e = λ f. cc

pub mono-mark : (m : Mark) → Hereditary (mark_covers m)
mono-mark m = mono-below m.way (from_key (key_of m.last)) (mono-from_key (key_of m.last))

pub mono-marks : (ms : List Mark) → Hereditary (any_mark ms)
mono-marks [] q r e = refl
mono-marks (m ∷ ms) q r e = grind (arith, mono-mark m q r, mono-marks ms q r)

pub marks_append : (ms ns : List Mark) (q : Place) → any_mark (ms ++ ns) q ≡ any_mark ms q || any_mark ns q
marks_append [] ns q = refl
marks_append (m ∷ ms) ns q = grind (arith, marks_append ms ns q)

-- a way is kept where nothing on it is changed, and what is at its end goes over
abbrev pub Carries : (Value → Type 0) → (Value → Type 0) → (Place → Bool) → Type 0
Carries P Q d = (v w : Value) → P v → ((q : Place) → d q ≡ false → look (Some w) q ≡ look (Some v) q) → Q w

pub way_kept :
    (ps : List Part) (P Q : Value → Type 0) (d : Place → Bool) → Hereditary d → d (keys ps) ≡ false →
    Carries P Q (λ q. d (keys ps ++ q)) →
    (v w : Value) → ((q : Place) → d q ≡ false → look (Some w) q ≡ look (Some v) q) → Way V2 ps P v → Way V2 ps Q w
unfolding look
way_kept [] P Q d mono n carry v w same way = carry v w way same
way_kept (p ∷ ps) P Q d mono n carry v w same way =
    let s : shape w ≡ shape v = same_shape w v (same [] (mono [] (key_of p ∷ keys ps) n)) in
    let root : look (child w (key_of p)) [] ≡ look (child v (key_of p)) [] = same (key_of p ∷ []) (mono (key_of p ∷ []) (keys ps) n) in
    let c = is_there (child w (key_of p)) (there (child w (key_of p)) (child v (key_of p)) root (not_none _ way.1 way.2)) in (
      subst (λ (z : Shape). takes V2 p z ≡ true) (sym s) way.0,
      c.0,
      c.1,
      way_kept ps P Q (λ q. d (key_of p ∷ q)) (λ q r m. mono (key_of p ∷ q) r m) n carry way.1 c.0
          (λ q m. moved (child w (key_of p)) (child v (key_of p)) c.0 way.1 q c.1 way.2 (same (key_of p ∷ q) m)) way.3,
    )
  where
    moved : (o u : Option Value) (a b : Value) (q : Place) → o ≡ Some a → u ≡ Some b → look o q ≡ look u q → look (Some a) q ≡ look (Some b) q
    moved o u a b q e f h = subst (λ (z : Option Value). look z q ≡ look (Some b) q) e (subst (λ (z : Option Value). look o q ≡ look z q) f h)

-- a place that is covered, where the place above it is not, is a mark's own
pub own_place : (ps : List Part) (ns : List Part) (k j : List ℕ) → below ps (from_key k) (keys ns) ≡ false → below ps (from_key k) (keys ns ++ (j ∷ [])) ≡ true → (keys ps ≡ keys ns) × (k ≡ j)
own_place [] [] k j a b = (refl, same_name k j b)
own_place [] (n ∷ ns) k j a b = absurd (no (sym a ∙ b))
  where
    no : false ≡ true → ⊥
    no e = cc
own_place (p ∷ ps) [] k j a b = absurd (no ps (and_parts (bytes_eq (key_of p) j) (below ps (from_key k) []) b).1)
  where
    no : (qs : List Part) → below qs (from_key k) [] ≡ true → ⊥
    no [] e = cc
    no (q ∷ qs) e = cc
own_place (p ∷ ps) (n ∷ ns) k j a b =
    let h = and_parts (bytes_eq (key_of p) (key_of n)) (below ps (from_key k) (keys ns ++ (j ∷ []))) b in
    let e : key_of p ≡ key_of n = same_name (key_of p) (key_of n) h.0 in
    let f : below ps (from_key k) (keys ns) ≡ false = grind arith in
    let r = own_place ps ns k j f h.1 in
    (cons_path e r.0, r.1)
  where
    cons_path : key_of p ≡ key_of n → keys ps ≡ keys ns → key_of p ∷ keys ps ≡ key_of n ∷ keys ns
    cons_path e f = λ i. e i ∷ f i

-- two ways of one place lead to one value
pub one_end : (ps ns : List Part) (P Q : Value → Type 0) (v : Value) → keys ps ≡ keys ns → Way V2 ps P v → Way V2 ns Q v → (w : Value) × P w × Way V2 ns (λ z. Q z × (z ≡ w)) v
one_end [] [] P Q v e a b = (v, a, (b, refl))
one_end [] (n ∷ ns) P Q v e a b = cc
one_end (p ∷ ps) [] P Q v e a b = cc
one_end (p ∷ ps) (n ∷ ns) P Q v e a b =
    let k : key_of p ≡ key_of n = cc in
    let t : keys ps ≡ keys ns = cc in
    let c : child v (key_of n) ≡ Some a.1 = subst (λ (z : List ℕ). child v z ≡ Some a.1) k a.2 in
    let same : b.1 ≡ a.1 = (let f : Some b.1 ≡ Some a.1 = sym b.2 ∙ c in cc) in
    let r = one_end ps ns P Q a.1 t a.3 (subst (Way V2 ns Q) same b.3) in
    (r.0, r.1, (b.0, a.1, c, r.2))

pub way_weaker : (ps : List Part) (P Q : Value → Type 0) → ((w : Value) → P w → Q w) → (v : Value) → Way V2 ps P v → Way V2 ps Q v
way_weaker [] P Q h v a = h v a
way_weaker (p ∷ ps) P Q h v a = (a.0, a.1, a.2, way_weaker ps P Q h a.1 a.3)

pub no_name : (k : List ℕ) (s : Shape) (n : ℕ) → takes V2 (index n) s ≡ true → takes V2 (name k) s ≡ true → ⊥
no_name k an_array n a b = cc
no_name k an_object n a b = cc
no_name k (a_leaf c) n a b = cc
no_name k (a_code t) n a b = cc

-- the mark of an element's own place says that it is there
pub own_there : (p : Part) (n : ℕ) (w : Value) → key_of p ≡ digits n → takes V2 (index n) (shape w) ≡ true → Ready p w → child w (digits n) ≢ None
own_there (name k) n w e t r = absurd (no_name k (shape w) n t r.0)
own_there (index m) n w e t r = subst (λ (k : List ℕ). child w k ≢ None) e r.1

pub from_own : (m : Mark) (way : List Part) (n : ℕ) (z : Value) → (keys m.way ≡ keys way) × (key_of m.last ≡ digits n) → Stands m z → Way V2 way (λ w. takes V2 (index n) (shape w) ≡ true) z → Way V2 way (Ready (index n)) z
from_own m way n z e st w =
    let r = one_end m.way way (Ready m.last) (λ w. takes V2 (index n) (shape w) ≡ true) z e.0 st w in
    way_weaker way (λ y. (takes V2 (index n) (shape y) ≡ true) × (y ≡ r.0)) (Ready (index n))
    (λ y h. (h.0, own_there m.last n y e.1 h.0 (subst (Ready m.last) (sym h.1) r.1))) z r.2

pub index_there : (ms : List Mark) (way : List Part) (n : ℕ) (z : Value) → AllStand ms z → any_mark ms (keys way) ≡ false → any_mark ms (keys way ++ (digits n ∷ [])) ≡ true →
    Way V2 way (λ w. takes V2 (index n) (shape w) ≡ true) z → Way V2 way (Ready (index n)) z
index_there [] way n z st a b w = cc
index_there (m ∷ ms) way n z st a b w =
    let a1 : mark_covers m (keys way) ≡ false = grind arith in
    let a2 : any_mark ms (keys way) ≡ false = grind arith in
    elim (cases_Bool (mark_covers m (keys way ++ (digits n ∷ [])))) [
      | inl c ↦ from_own m way n z (own_place m.way way (key_of m.last) (digits n) a1 c) st.0 w
      | inr c ↦ (let b2 : any_mark ms (keys way ++ (digits n ∷ [])) ≡ true = grind arith in index_there ms way n z st.1 a2 b2 w)
    ]

pub taken_still : (p : Part) (d : Place → Bool) → d [] ≡ false → Carries (Ready p) (λ w. takes V2 p (shape w) ≡ true) d
taken_still p d root v w r same = subst (λ (z : Shape). takes V2 p z ≡ true) (sym (same_shape w v (same [] root))) r.0

pub index_still : (n : ℕ) (d : Place → Bool) → d [] ≡ false → d (digits n ∷ []) ≡ false → Carries (Ready (index n)) (Ready (index n)) d
unfolding look
index_still n d root at v w r same = (taken_still (index n) d root v w r same, there (child w (digits n)) (child v (digits n)) (same (digits n ∷ []) at) r.1)

-- a mark with none above it still stands after the next operator
pub mark_stays : (m : Mark) (ms : List Mark) (old new : Value) → any_mark ms (keys m.way) ≡ false → Stands m old → Step old ms new → Stands m new
mark_stays m ms old new n st s = by_last m.last refl
  where
    root : any_mark ms (keys m.way ++ []) ≡ false
    root = subst (λ (q : Place). any_mark ms q ≡ false) (sym (append-nil (keys m.way))) n

    taken : Way V2 m.way (λ w. takes V2 m.last (shape w) ≡ true) new
    taken = way_kept m.way (Ready m.last) (λ w. takes V2 m.last (shape w) ≡ true) (any_mark ms) (mono-marks ms) n
        (taken_still m.last (λ q. any_mark ms (keys m.way ++ q)) root) old new s.frame st

    by_last : (p : Part) → m.last ≡ p → Way V2 m.way (Ready m.last) new
    by_last (name k) e = subst (λ (p : Part). Way V2 m.way (Ready p) new) (sym e)
        (way_weaker m.way (λ w. takes V2 (name k) (shape w) ≡ true) (Ready (name k)) (λ w h. (h, tt)) new (subst (λ (p : Part). Way V2 m.way (λ w. takes V2 p (shape w) ≡ true) new) e taken))
    by_last (index k) e = subst (λ (p : Part). Way V2 m.way (Ready p) new) (sym e) (at (cases_Bool (any_mark ms (keys m.way ++ (digits k ∷ [])))))
      where
        at : (any_mark ms (keys m.way ++ (digits k ∷ [])) ≡ true) ⊎ (any_mark ms (keys m.way ++ (digits k ∷ [])) ≡ false) → Way V2 m.way (Ready (index k)) new
        at (inl c) = index_there ms m.way k new s.stand n c (subst (λ (p : Part). Way V2 m.way (λ w. takes V2 p (shape w) ≡ true) new) e taken)
        at (inr c) = way_kept m.way (Ready (index k)) (Ready (index k)) (any_mark ms) (mono-marks ms) n
            (index_still k (λ q. any_mark ms (keys m.way ++ q)) root c) old new s.frame (subst (λ (p : Part). Way V2 m.way (Ready p) old) e st)

pub marks_stay : (m : Mark) (ss : List (List Mark × Value)) (d z : Value) → any_mark (marks_of ss) (keys m.way) ≡ false → Stands m d → Steps d ss z → Stands m z
marks_stay m [] d z n st s = subst (Stands m) s st
marks_stay m (t ∷ ss) d z n st s =
    let f : any_mark t.0 (keys m.way) || any_mark (marks_of ss) (keys m.way) ≡ false = sym (marks_append t.0 (marks_of ss) (keys m.way)) ∙ n in
    let a : any_mark t.0 (keys m.way) ≡ false = grind arith in
    let b : any_mark (marks_of ss) (keys m.way) ≡ false = grind arith in
    marks_stay m ss t.1 z b (mark_stays m t.0 d t.1 a st s.0) s.1

-- membership
abbrev pub In : Mark → List Mark → Type 0
In m [] = ⊥
In m (n ∷ ns) = (m ≡ n) ⊎ In m ns

pub in_append : (ms ns : List Mark) (m : Mark) → In m (ms ++ ns) → In m ms ⊎ In m ns
in_append [] ns m h = inr h
in_append (k ∷ ms) ns m (inl e) = inl (inl e)
in_append (k ∷ ms) ns m (inr h) = more (in_append ms ns m h)
  where
    more : In m ms ⊎ In m ns → In m (k ∷ ms) ⊎ In m ns
    more (inl a) = inl (inr a)
    more (inr b) = inr b

pub stand_at : (ms : List Mark) (m : Mark) (z : Value) → AllStand ms z → In m ms → Stands m z
stand_at [] m z st h = absurd h
stand_at (k ∷ ms) m z st (inl e) = subst (λ (n : Mark). Stands n z) (sym e) st.0
stand_at (k ∷ ms) m z st (inr h) = stand_at ms m z st.1 h

-- every mark with none above it stands at the end
pub top_stands : (ss : List (List Mark × Value)) (d z : Value) (m : Mark) → Steps d ss z → In m (marks_of ss) → any_mark (marks_of ss) (keys m.way) ≡ false → Stands m z
top_stands [] d z m s h n = absurd h
top_stands (t ∷ ss) d z m s h n = by_side (λ c. top_stands ss t.1 z m s.1 c (b f)) (in_append t.0 (marks_of ss) m h)
  where
    f : any_mark t.0 (keys m.way) || any_mark (marks_of ss) (keys m.way) ≡ false
    f = sym (marks_append t.0 (marks_of ss) (keys m.way)) ∙ n

    b : any_mark t.0 (keys m.way) || any_mark (marks_of ss) (keys m.way) ≡ false → any_mark (marks_of ss) (keys m.way) ≡ false
    b g = grind arith

    by_side : (In m (marks_of ss) → Stands m z) → In m t.0 ⊎ In m (marks_of ss) → Stands m z
    by_side ih (inl a) = marks_stay m ss t.1 z (b f) (stand_at t.0 m t.1 s.0.stand a) s.1
    by_side ih (inr c) = ih c

pub any_from_in : (ms : List Mark) (m : Mark) (q : Place) → In m ms → mark_covers m q ≡ true → any_mark ms q ≡ true
any_from_in [] m q h e = absurd h
any_from_in (k ∷ ms) m q (inl p) e = let c : mark_covers k q ≡ true = subst (λ (n : Mark). mark_covers n q ≡ true) p e in grind arith
any_from_in (k ∷ ms) m q (inr h) e = let c : any_mark ms q ≡ true = any_from_in ms m q h e in grind arith

pub in_from_any : (ms : List Mark) (q : Place) → any_mark ms q ≡ true → (m : Mark) × In m ms × (mark_covers m q ≡ true)
in_from_any [] q e = cc
in_from_any (k ∷ ms) q e =
    elim (cases_Bool (mark_covers k q)) [
      | inl c ↦ (k, inl refl, c)
      | inr c ↦ (let d : any_mark ms q ≡ true = grind arith in let r = in_from_any ms q d in (r.0, inr r.1, r.2))
    ]

pub in_tops : (all ms : List Mark) (m : Mark) → In m ms → any_mark all (keys m.way) ≡ false → In m (tops all ms)
in_tops all [] m h e = h
in_tops all (k ∷ ms) m (inl p) e = let f : any_mark all (keys k.way) ≡ false = subst (λ (n : Mark). any_mark all (keys n.way) ≡ false) p e in rw f (inl p)
in_tops all (k ∷ ms) m (inr h) e =
    elim (cases_Bool (any_mark all (keys k.way))) [
      | inl c ↦ rw c (in_tops all ms m h e)
      | inr c ↦ rw c (inr (in_tops all ms m h e))
    ]

pub tops_in : (all ms : List Mark) (m : Mark) → In m (tops all ms) → In m ms × (any_mark all (keys m.way) ≡ false)
tops_in all [] m h = absurd h
tops_in all (k ∷ ms) m h =
    elim (cases_Bool (any_mark all (keys k.way))) [
      | inl c ↦ (let r = tops_in all ms m (rw c at h) in (inr r.0, r.1))
      | inr c ↦ by_case (tops_in all ms m) c (rw c at h)
    ]
  where
    by_case : (In m (tops all ms) → In m ms × (any_mark all (keys m.way) ≡ false)) → any_mark all (keys k.way) ≡ false → (m ≡ k) ⊎ In m (tops all ms) → In m (k ∷ ms) × (any_mark all (keys m.way) ≡ false)
    by_case ih c (inl e) = (inl e, subst (λ (n : Mark). any_mark all (keys n.way) ≡ false) (sym e) c)
    by_case ih c (inr g) = (let r = ih g in (inr r.0, r.1))

-- a mark that covers the place above another is shorter, and covers all that the other covers
pub shorter : (ws ps : List Part) (k : List ℕ) → below ws (from_key k) (keys ps) ≡ true → length ws < length ps
shorter [] [] k e = cc
shorter [] (p ∷ ps) k e = omega arith
shorter (w ∷ ws) [] k e = cc
shorter (w ∷ ws) (p ∷ ps) k e = let h = shorter ws ps k (and_parts (bytes_eq (key_of w) (key_of p)) (below ws (from_key k) (keys ps)) e).1 in omega arith

pub split_cover : (ps : List Part) (c : Place → Bool) (q : Place) → below ps c q ≡ true → (r : Place) × (q ≡ keys ps ++ r)
split_cover [] c q e = (q, refl)
split_cover (p ∷ ps) c [] e = cc
split_cover (p ∷ ps) c (j ∷ q) e =
    let h = and_parts (bytes_eq (key_of p) j) (below ps c q) e in
    let r = split_cover ps c q h.1 in
    (r.0, λ i. sym (same_name (key_of p) j h.0) i ∷ r.1 i)

pub up_true : (m : Mark) (q r : Place) → mark_covers m q ≡ true → mark_covers m (q ++ r) ≡ true
up_true m q r e =
    elim (cases_Bool (mark_covers m (q ++ r))) [
      | inl c ↦ c
      | inr c ↦ (let f : mark_covers m q ≡ false = mono-mark m q r c in cc)
    ]

pub above_covers : (a m : Mark) (q : Place) → mark_covers a (keys m.way) ≡ true → mark_covers m q ≡ true → mark_covers a q ≡ true
above_covers a m q e f =
    let r = split_cover m.way (from_key (key_of m.last)) q f in
    subst (λ (z : Place). mark_covers a z ≡ true) (sym r.1) (up_true a (keys m.way) r.0 e)

pub tops_cover : (n : ℕ) (all : List Mark) (m : Mark) (q : Place) → length m.way ≤ n → In m all → mark_covers m q ≡ true → any_mark (tops all all) q ≡ true
tops_cover zero all m q b h e =
    elim (cases_Bool (any_mark all (keys m.way))) [
      | inl c ↦ (let a = in_from_any all (keys m.way) c in let l = shorter a.0.way m.way (key_of a.0.last) a.2 in absurd (omega arith))
      | inr c ↦ any_from_in (tops all all) m q (in_tops all all m h c) e
    ]
tops_cover (suc n) all m q b h e =
    elim (cases_Bool (any_mark all (keys m.way))) [
      | inl c ↦ (let a = in_from_any all (keys m.way) c in
          let l = shorter a.0.way m.way (key_of a.0.last) a.2 in
          tops_cover n all a.0 q (omega arith) a.1 (above_covers a.0 m q a.2 e))
      | inr c ↦ any_from_in (tops all all) m q (in_tops all all m h c) e
    ]

pub tops_false : (all : List Mark) (q : Place) → any_mark (tops all all) q ≡ false → any_mark all q ≡ false
tops_false all q e =
    elim (cases_Bool (any_mark all q)) [
      | inl c ↦ (let m = in_from_any all q c in let t : any_mark (tops all all) q ≡ true = tops_cover (length m.0.way) all m.0 q (omega arith) m.1 m.2 in cc)
      | inr c ↦ c
    ]

-- the touches
pub touch_covers : (m : Mark) (o : Option Value) (q : Place) → covers (touch_by m o) q ≡ mark_covers m q
touch_covers m None q = refl
touch_covers m (Some a) q = refl

pub touches_cover : (z : Value) (ms : List Mark) (q : Place) → any_covers (touches_of z ms) q ≡ any_mark ms q
touches_cover z [] q = refl
touches_cover z (m ∷ ms) q = rw (touch_covers m (at_keys (Some z) (keys m.way ++ (key_of m.last ∷ []))) q, touches_cover z ms q) refl

pub an_object_by : (k : List ℕ) (s : Shape) → takes V2 (name k) s ≡ true → s ≡ an_object
an_object_by k an_object e = refl
an_object_by k an_array e = cc
an_object_by k (a_leaf c) e = cc
an_object_by k (a_code t) e = cc

pub at_end : (ps : List Part) (k : List ℕ) (P : Value → Type 0) (v : Value) → Way V2 ps P v → Way V2 ps (λ w. P w × (child w k ≡ at_keys (Some v) (keys ps ++ (k ∷ [])))) v
at_end [] k P v w = (w, last (child v k))
  where
    last : (o : Option Value) → o ≡ at_keys o []
    last None = refl
    last (Some a) = refl
at_end (p ∷ ps) k P v w =
    (w.0, w.1, w.2, subst (λ (o : Option Value). Way V2 ps (λ z. P z × (child z k ≡ at_keys o (keys ps ++ (k ∷ [])))) w.1) (sym w.2) (at_end ps k P w.1 w.3))

pub done_at : (p : Part) (w : Value) (way : List Part) (o : Option Value) → Ready p w → child w (key_of p) ≡ o → o ≡ None → UnsetDone V2 p w
done_at (name k) w way o r e f = (r.0, an_object_by k (shape w) r.0, e ∙ f)
done_at (index n) w way o r e f = absurd (r.1 (e ∙ f))

pub touch_done : (m : Mark) (z : Value) (o : Option Value) → Way V2 m.way (λ w. Ready m.last w × (child w (key_of m.last) ≡ o)) z → Done V2 (touch_by m o) z
touch_done m z None w = way_weaker m.way (λ y. Ready m.last y × (child y (key_of m.last) ≡ None)) (UnsetDone V2 m.last) (λ y h. done_at m.last y m.way None h.0 h.1 refl) z w
touch_done m z (Some a) w = way_weaker m.way (λ y. Ready m.last y × (child y (key_of m.last) ≡ Some a)) (SetDone V2 m.last a) (λ y h. (h.0.0, h.1)) z w

pub all_done : (z : Value) (ms : List Mark) → ((m : Mark) → In m ms → Stands m z) → AllDone V2 (touches_of z ms) z
all_done z [] h = tt
all_done z (m ∷ ms) h = (
  touch_done m z (at_keys (Some z) (keys m.way ++ (key_of m.last ∷ []))) (at_end m.way (key_of m.last) (Ready m.last) z (h m (inl refl))),
  all_done z ms (λ n i. h n (inr i)),
)

pub steps_frame : (ss : List (List Mark × Value)) (d z : Value) → Steps d ss z → (q : Place) → any_mark (marks_of ss) q ≡ false → look (Some z) q ≡ look (Some d) q
steps_frame [] d z s q e = ap (λ (v : Value). look (Some v) q) (sym s)
steps_frame (t ∷ ss) d z s q e =
    let f : any_mark t.0 q || any_mark (marks_of ss) q ≡ false = sym (marks_append t.0 (marks_of ss) q) ∙ e in
    let a : any_mark t.0 q ≡ false = grind arith in
    let b : any_mark (marks_of ss) q ≡ false = grind arith in
    steps_frame ss t.1 z s.1 q b ∙ s.0.frame q a

-- an update's touches record it
pub update_records : (ss : List (List Mark × Value)) (d z : Value) → Steps d ss z → Records V2 (touches_of z (tops (marks_of ss) (marks_of ss))) d z
update_records ss d z s = record {
  frame = λ q e. steps_frame ss d z s q (tops_false (marks_of ss) q (sym (touches_cover z (tops (marks_of ss) (marks_of ss)) q) ∙ e));
  done = all_done z (tops (marks_of ss) (marks_of ss)) (λ m i. let h = tops_in (marks_of ss) (marks_of ss) m i in top_stands ss d z m s h.0 h.1);
}
