-- What an operator does is steps: each changes what its marks cover, and its marks stand afterwards.
use Rattle.std.proofs.Common.{◌≡◌, ◌≢◌, ℕ, zero, suc, ◌<◌, ◌≤◌, ◌-◌, ◌+◌, List, [], ◌∷◌, ◌++◌, length, Bool, true, false, refl, sym, ap, ◌∙◌, subst, arith, Option, Some, None, inl, inr, append-nil}
use Rattle.std.specs.Prelude.{⊤, ◌||◌, ◌⊎◌, not, if◌then◌else◌, nat_lt}
use Rattle.std.specs.Str.{bytes_eq}
use Rattle.std.proofs.lemmas.Bool.{cases_Bool}
use Rattle.std.proofs.lemmas.List.{length-append}
use Rattle.std.proofs.lemmas.Grind.{common_steps}
use Rattle.bson_value.specs.declared.value.Value.{Value, Value-F, Array, Null, out-Value}
use Rattle.bson_value.specs.declared.value.Value.TheVariants.{outs-Array}
use Rattle.bson_value.specs.Digits.{digits, index_of}
use Rattle.bson_value.specs.Place.{Place, Shape, a_leaf, an_array, an_object, a_code, look, shape, child, put, del, nth, at_index}
use Rattle.bson_value.proofs.Digits.{index_of-digits, index_of-is}
use Rattle.bson_value.proofs.Child.{nth-within, nth-beyond, array_shape, within-nth, name_refl, an_array_too, rolled_array, child_array}
use Rattle.doc_path.specs.declared.parts.Part.{Part}
use Rattle.doc_path.specs.declared.parts.Part.TheVariants.{Name as name, Index as index}
use Rattle.doc_path.specs.declared.parts.Form.TheVariants.{V2}
use Rattle.doc_path.specs.declared.parts.Change.{Change}
use Rattle.doc_path.specs.declared.parts.Change.TheVariants.{Put, Delete, Resize as Length}
use Rattle.doc_path.specs.Touch.{key_of, takes, limit, Way, walk, set_last, unset_last, resize_here, last_step, or_else}
use Rattle.doc_path.proofs.Steps.{shape-array}
use Rattle.doc_path.proofs.Places.{child-array}
use Rattle.touch_laws.proofs.Replay.{walk_on, set_on, unset_on}
use Rattle.update_model.specs.declared.mark.Mark.{Mark}
use Rattle.update_model.specs.declared.mark.Made.{Made}
use Rattle.update_model.specs.declared.mark.Made.TheVariants as made
use Rattle.update_model.specs.Conflicts.{Path}
use Rattle.update_model.specs.Located.{Located, There, Missing, Blocked, part_in, part_at, size_in, size, within, further, located_under, located_at, located}
use Rattle.update_model.specs.Steps.{Trace, after, mark, elements, padding, newly, replaced, added, appended, removed, cut}
use Rattle.update_model.proofs.MarkTerms.{any_mark, AllStand, Step, Steps as AreSteps}
use Rattle.update_model.proofs.MarkTheory.{an_object_by, not_none}
use Rattle.update_model.proofs.StepTheory.{under, placed, place_step, under_step, drop_name, elements_cover, elements_stand, array_taken}

-- ---- where a path leads

part_in_takes : (k : List ℕ) (i : Option ℕ) (s : Shape) (p : Part) → index_of k ≡ i → part_in k i s ≡ Some p → (takes V2 p s ≡ true) × (key_of p ≡ k)
part_in_takes k i an_object p h e = let f : name k ≡ p = cc in subst (λ (z : Part). (takes V2 z an_object ≡ true) × (key_of z ≡ k)) f (refl, refl)
part_in_takes k (Some n) an_array p h e =
    elim (cases_Bool (nat_lt n limit)) [
      | inl s ↦ (let f : Some (index n) ≡ Some p = rw s at e in let g : index n ≡ p = cc in subst (λ (z : Part). (takes V2 z an_array ≡ true) × (key_of z ≡ k)) g (s, sym (index_of-is k n h)))
      | inr s ↦ (let f : None ≡ Some p = rw s at e in cc)
    ]
part_in_takes k None an_array p h e = cc
part_in_takes k i (a_leaf c) p h e = cc
part_in_takes k i (a_code t) p h e = cc

pub part_takes : (k : List ℕ) (v : Value) (p : Part) → part_at k v ≡ Some p → (takes V2 p (shape v) ≡ true) × (key_of p ≡ k)
part_takes k v p e = part_in_takes k (index_of k) (shape v) p refl e

abbrev pub IsThere : Part → Value → Value → Type 0
IsThere p c w = (takes V2 p (shape w) ≡ true) × (child w (key_of p) ≡ Some c)

abbrev pub IsMissing : Part → ℕ → Value → Type 0
IsMissing p n w = (takes V2 p (shape w) ≡ true) × (child w (key_of p) ≡ None) × (size w ≡ n)

abbrev pub Holds : Value → Located → Type 0
Holds v (There ws p c) = Way V2 ws (IsThere p c) v
Holds v (Missing ws p n ks) = Way V2 ws (IsMissing p n) v
Holds v Blocked = ⊤

within_holds : (p : Part) (v c : Value) (l : Located) → takes V2 p (shape v) ≡ true → child v (key_of p) ≡ Some c → Holds c l → Holds v (within p l)
within_holds p v c (There ws q d) t e h = (t, c, e, h)
within_holds p v c (Missing ws q n ks) t e h = (t, c, e, h)
within_holds p v c Blocked t e h = tt

further_holds : (ks : Path) (go : Value → Located) (p : Part) (v c : Value) → takes V2 p (shape v) ≡ true → child v (key_of p) ≡ Some c → ((d : Value) → Holds d (go d)) → Holds v (further ks go p c)
further_holds [] go p v c t e h = (t, e)
further_holds (k ∷ ks) go p v c t e h = within_holds p v c (go c) t e (h c)

pub located_holds : (path : Path) (v : Value) → Holds v (located path v)
located_holds [] v = tt
located_holds (k ∷ ks) v = by (part_at k v) refl (located_holds ks)
  where
    under_part : (p : Part) (o : Option Value) → takes V2 p (shape v) ≡ true → child v (key_of p) ≡ o → ((d : Value) → Holds d (located ks d)) → Holds v (located_under (further ks (located ks)) ks v p o)
    under_part p None t e h = (t, e, refl)
    under_part p (Some c) t e h = further_holds ks (located ks) p v c t e h

    by : (o : Option Part) → part_at k v ≡ o → ((d : Value) → Holds d (located ks d)) → Holds v (located_at (further ks (located ks)) ks v o)
    by None e h = tt
    by (Some p) e h = under_part p (child v (key_of p)) (part_takes k v p e).0 refl h

-- ---- a step at the end of a way

pub lift : List Part → List Mark → List Mark
lift [] ms = ms
lift (p ∷ ws) ms = under p (lift ws ms)

under_append : (p : Part) (ms ns : List Mark) → under p (ms ++ ns) ≡ under p ms ++ under p ns
under_append p [] ns = refl
under_append p (m ∷ ms) ns = ap (λ (z : List Mark). mark (p ∷ m.way) m.last m.made ∷ z) (under_append p ms ns)

under_elements : (p : Part) (us : List Part) (from n : ℕ) → under p (elements us from n) ≡ elements (p ∷ us) from n
under_elements p us from zero = refl
under_elements p us from (suc n) = ap (λ (z : List Mark). mark (p ∷ us) (index from) made.Changed ∷ z) (under_elements p us (suc from) n)

lift_append : (ws : List Part) (ms ns : List Mark) → lift ws (ms ++ ns) ≡ lift ws ms ++ lift ws ns
unfolding lift
lift_append [] ms ns = refl
lift_append (p ∷ ws) ms ns = ap (under p) (lift_append ws ms ns) ∙ under_append p (lift ws ms) (lift ws ns)

lift_elements : (ws us : List Part) (from n : ℕ) → lift ws (elements us from n) ≡ elements (ws ++ us) from n
unfolding lift
lift_elements [] us from n = refl
lift_elements (p ∷ ws) us from n = ap (under p) (lift_elements ws us from n) ∙ under_elements p (ws ++ us) from n

lift_mark : (ws : List Part) (p : Part) (k : Made) → lift ws (mark [] p k ∷ []) ≡ mark ws p k ∷ []
unfolding lift
lift_mark [] p k = refl
lift_mark (q ∷ ws) p k = ap (under q) (lift_mark ws p k)

lift_padding : (ws : List Part) (p : Part) (n : ℕ) → lift ws (padding [] p n) ≡ padding ws p n
lift_padding ws (name k) n = lift_elements ws [] 0 0
lift_padding ws (index i) n = lift_elements ws [] n (i - n) ∙ ap (λ (z : List Part). elements z n (i - n)) (append-nil ws)

pub walk_step : (ws : List Part) (v : Value) (P : Value → Type 0) (g : Value → Value) (ms : List Mark) → Way V2 ws P v → ((w : Value) → P w → Step w ms (g w)) → Step v (lift ws ms) (walk V2 None ws g v)
unfolding lift
walk_step [] v P g ms h s = s v h
walk_step (p ∷ ws) v P g ms h s =
    let on : or_else (child v (key_of p)) None ≡ Some h.1 = rw h.2 refl in
    subst (λ (z : Value). Step v (under p (lift ws ms)) z) (sym (walk_on V2 None p ws g v h.1 h.0 on))
    (under_step v p h.1 (walk V2 None ws g h.1) (lift ws ms) h.0 h.2 (walk_step ws h.1 P g ms h.3 s))

-- ---- single changes

-- an array, by what it holds
pub record ArrayIs (w : Value) (vs : List Value) : Type 0 where
  pub level : out-Value w ≡ Value-F.Array vs
  pub children : (k : List ℕ) → child w k ≡ at_index vs (index_of k)
  pub count : size w ≡ length vs

pub array_is : (w : Value) (vs : List Value) → out-Value w ≡ Value-F.Array vs → ArrayIs w vs
unfolding size
array_is w vs e = record {
  level = e;
  children = λ k. ap (λ (z : Value). child z k) (rolled_array w vs e) ∙ child_array vs k;
  count = ap size_in e;
}

pub taken_array : (n : ℕ) (w : Value) → takes V2 (index n) (shape w) ≡ true → (vs : List Value) × ArrayIs w vs
taken_array n w t = let r = an_array_too w (array_taken n (shape w) t).0 in (r.0, array_is w r.0 r.1)

at_digits : (w : Value) (vs : List Value) (n : ℕ) → ArrayIs w vs → child w (digits n) ≡ nth vs n
at_digits w vs n a = a.children (digits n) ∙ ap (at_index vs) (index_of-digits n)

below_size : (n : ℕ) (w c : Value) → takes V2 (index n) (shape w) ≡ true → child w (digits n) ≡ Some c → n < size w
below_size n w c t e =
    let r = taken_array n w t in
    let l : n < length r.0 = within-nth r.0 n (not_none (nth r.0 n) c (sym (at_digits w r.0 n r.1) ∙ e)) in
    let s = r.1.count in
    omega arith

no_elements : (p : Part) (w c : Value) → takes V2 p (shape w) ≡ true → child w (key_of p) ≡ Some c → padding [] p (size w) ≡ []
no_elements (name k) w c t e = refl
no_elements (index n) w c t e = let l : n < size w = below_size n w c t e in let z : n - size w ≡ 0 = omega arith in ap (elements [] (size w)) z

-- another value where one is
put_there : (p : Part) (k : Made) (a c w : Value) → IsThere p c w → Step w (mark [] p k ∷ []) (put w (key_of p) a)
put_there p k a c w h = subst (λ (z : List Mark). Step w (z ++ (mark [] p k ∷ [])) (put w (key_of p) a)) (no_elements p w c h.0 h.1) (place_step w p k a h.0)

set_there : (p : Part) (a c w : Value) → IsThere p c w → Step w (mark [] p made.Changed ∷ []) (set_last V2 p a w)
set_there p a c w h = subst (λ (z : Value). Step w (mark [] p made.Changed ∷ []) z) (sym (set_on V2 p a w h.0)) (put_there p made.Changed a c w h)

set_missing : (p : Part) (n : ℕ) (k : Made) (a w : Value) → IsMissing p n w → Step w (padding [] p n ++ (mark [] p k ∷ [])) (set_last V2 p a w)
set_missing p n k a w h =
    subst (λ (z : Value). Step w (padding [] p n ++ (mark [] p k ∷ [])) z) (sym (set_on V2 p a w h.0))
    (subst (λ (m : ℕ). Step w (padding [] p m ++ (mark [] p k ∷ [])) (put w (key_of p) a)) h.2 (place_step w p k a h.0))

unset_there : (k : List ℕ) (c w : Value) → IsThere (name k) c w → Step w (mark [] (name k) made.Changed ∷ []) (unset_last V2 (name k) w)
unset_there k c w h =
    subst (λ (z : Value). Step w (mark [] (name k) made.Changed ∷ []) z) (sym (unset_on V2 (name k) w h.0)) (drop_name w k made.Changed (an_object_by k (shape w) h.0))

cut_there : (p : Part) (n : ℕ) (c w : Value) → IsThere p c w → Step w (mark [] p made.Cut ∷ []) (last_step V2 p (Length n) w)
cut_there p n c w h =
    let on : or_else (child w (key_of p)) None ≡ Some c = rw h.1 refl in
    subst (λ (z : Value). Step w (mark [] p made.Cut ∷ []) z) (sym (walk_on V2 None p [] (resize_here n) w c h.0 on)) (put_there p made.Cut (resize_here n c) c w h)

-- ---- more elements behind those of an array

nth_front : (is vs : List Value) (n : ℕ) → n < length is → nth (is ++ vs) n ≡ nth is n
nth_front [] vs n l = absurd (omega arith)
nth_front (i ∷ is) vs zero l = refl
nth_front (i ∷ is) vs (suc n) l = nth_front is vs n (omega arith)

grown_look : (is vs : List Value) (o : Option ℕ) (j : List ℕ) (q : Place) → index_of j ≡ o → any_mark (elements [] (length is) (length vs)) (j ∷ q) ≡ false → look (at_index (is ++ vs) o) q ≡ look (at_index is o) q
grown_look is vs None j q i e = refl
grown_look is vs (Some n) j q i e =
    elim (cases_Bool (nat_lt n (length is))) [
      | inl s ↦ ap (λ (z : Option Value). look z q) (nth_front is vs n (grind (arith, common_steps)))
      | inr s ↦ elim (cases_Bool (nat_lt n (length is + length vs))) [
        | inl t ↦ (let l : length is ≤ n = grind (arith, common_steps) in
            let u : n < length is + length vs = grind (arith, common_steps) in
            absurd (elements_cover (length is) (length vs) n q (subst (λ (z : List ℕ). any_mark (elements [] (length is) (length vs)) (z ∷ q) ≡ false) (index_of-is j n i) e) l u))
        | inr t ↦ (let l : length is ≤ n = grind (arith, common_steps) in
            let u : length is + length vs ≤ n = grind (arith, common_steps) in
            let w = length-append is vs in
            ap (λ (z : Option Value). look z q) (nth-beyond (is ++ vs) n (omega arith) ∙ sym (nth-beyond is n l)))
      ]
    ]

grown_step : (c : Value) (is vs : List Value) → out-Value c ≡ Value-F.Array is → length is + length vs ≤ limit → Step c (elements [] (length is) (length vs)) (Array (is ++ vs))
unfolding look
grown_step c is vs e l = record {
  frame = frame;
  stand = elements_stand (length is) (length vs) (Array (is ++ vs)) (shape-array (is ++ vs)) l (λ m b. there m (omega (arith, length-append is vs)));
}
  where
    there : (m : ℕ) → m < length (is ++ vs) → child (Array (is ++ vs)) (digits m) ≢ None
    there m b f = nth-within (is ++ vs) m b (sym (child-array (is ++ vs) (digits m) ∙ ap (at_index (is ++ vs)) (index_of-digits m)) ∙ f)

    frame : (q : Place) → any_mark (elements [] (length is) (length vs)) q ≡ false → look (Some (Array (is ++ vs))) q ≡ look (Some c) q
    frame [] f = ap Some (shape-array (is ++ vs) ∙ sym (array_shape c is e))
    frame (j ∷ q) f =
        ap (λ (z : Option Value). look z q) (child-array (is ++ vs) j)
        ∙ (grown_look is vs (index_of j) j q refl f ∙ ap (λ (z : Option Value). look z q) (sym ((array_is c is e).children j)))

append_there : (p : Part) (is vs : List Value) (c w : Value) → out-Value c ≡ Value-F.Array is → length is + length vs ≤ limit → IsThere p c w →
    Step w (elements (p ∷ []) (length is) (length vs)) (set_last V2 p (Array (is ++ vs)) w)
append_there p is vs c w e l h =
    subst (λ (z : Value). Step w (elements (p ∷ []) (length is) (length vs)) z) (sym (set_on V2 p (Array (is ++ vs)) w h.0))
    (subst (λ (z : List Mark). Step w z (put w (key_of p) (Array (is ++ vs)))) (under_elements p [] (length is) (length vs))
    (under_step w p c (Array (is ++ vs)) (elements [] (length is) (length vs)) h.0 h.1 (grown_step c is vs e l)))

-- ---- the changes that operators make

abbrev pub Goes : Value → Trace → Type 0
Goes v ss = AreSteps v ss (after v ss)

one_step : (v w : Value) (ms ns : List Mark) → ms ≡ ns → Step v ms w → Goes v ((ns, w) ∷ [])
one_step v w ms ns e s = (subst (λ (z : List Mark). Step v z w) e s, refl)

pub replaced_goes : (ws : List Part) (p : Part) (c a v : Value) → Way V2 ws (IsThere p c) v → Goes v (replaced ws p a v)
replaced_goes ws p c a v h = one_step v _ _ _ (lift_mark ws p made.Changed) (walk_step ws v (IsThere p c) (set_last V2 p a) (mark [] p made.Changed ∷ []) h (λ w g. set_there p a c w g))

pub added_goes : (ws : List Part) (p : Part) (n : ℕ) (a v : Value) → Way V2 ws (IsMissing p n) v → Goes v (added ws p n a v)
added_goes ws p n a v h =
    one_step v _ _ _ (lift_append ws (padding [] p n) (mark [] p (newly p) ∷ []) ∙ (λ i. lift_padding ws p n i ++ lift_mark ws p (newly p) i))
    (walk_step ws v (IsMissing p n) (set_last V2 p a) (padding [] p n ++ (mark [] p (newly p) ∷ [])) h (λ w g. set_missing p n (newly p) a w g))

pub removed_goes : (ws : List Part) (k : List ℕ) (c v : Value) → Way V2 ws (IsThere (name k) c) v → Goes v (removed ws (name k) v)
removed_goes ws k c v h = one_step v _ _ _ (lift_mark ws (name k) made.Changed) (walk_step ws v (IsThere (name k) c) (unset_last V2 (name k)) (mark [] (name k) made.Changed ∷ []) h (λ w g. unset_there k c w g))

pub cut_goes : (ws : List Part) (p : Part) (n : ℕ) (c v : Value) → Way V2 ws (IsThere p c) v → Goes v (cut ws p n v)
cut_goes ws p n c v h = one_step v _ _ _ (lift_mark ws p made.Cut) (walk_step ws v (IsThere p c) (last_step V2 p (Length n)) (mark [] p made.Cut ∷ []) h (λ w g. cut_there p n c w g))

pub appended_goes : (ws : List Part) (p : Part) (is vs : List Value) (c v : Value) → out-Value c ≡ Value-F.Array is → length is + length vs ≤ limit → Way V2 ws (IsThere p c) v → Goes v (appended ws p is vs v)
appended_goes ws p is vs c v e l h = one_step v _ _ _ (lift_elements ws (p ∷ []) (length is) (length vs)) (walk_step ws v (IsThere p c) (set_last V2 p (Array (is ++ vs))) (elements (p ∷ []) (length is) (length vs)) h (λ w g. append_there p is vs c w e l g))
