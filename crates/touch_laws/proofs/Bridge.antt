-- Plain changes go down as replay of the second form does.
use Rattle.std.proofs.Common.{inl, inr, ◌≡◌, ℕ, zero, suc, ◌<◌, ◌≤◌, List, [], ◌∷◌, ◌++◌, length, Bool, true, false, refl, sym, ap, ◌∙◌, subst, arith, Option, Some, None}
use Rattle.std.specs.Prelude.{◌↔◌, ◌||◌, if◌then◌else◌}
use Rattle.std.proofs.lemmas.Grind.{common_steps}
use Rattle.bson_value.specs.declared.value.Value.{Value, Null}
use Rattle.bson_value.specs.declared.value.Value.TheVariants.{Object, Array, outs-Array, rolls-Array}
use Rattle.bson_value.specs.Place.{Shape, a_leaf, an_array, an_object, a_code, shape, nth, child, into, put, del, sized, put_item, blank_item}
use Rattle.bson_value.proofs.Digits.{index_of-digits}
use Rattle.bson_value.proofs.Child.{shape-put, shape-del, del_object, an_array_too, rolled_array}
use Rattle.doc_path.specs.declared.parts.Part.{Part}
use Rattle.doc_path.specs.declared.parts.Part.TheVariants.{Name as name, Index as index}
use Rattle.doc_path.specs.declared.parts.Form.TheVariants.{V2}
use Rattle.doc_path.specs.declared.parts.Change.{Change}
use Rattle.doc_path.specs.declared.parts.Change.TheVariants.{Put, Delete, Resize as Length}
use Rattle.doc_path.specs.Touch.{key_of, Touch, limit, takes, or_else, walk_by, set_by, unset_by, step_by, resize_here, changed, Way, SetFits, UnsetFits, ResizeFits, Fits}
use Rattle.doc_path.specs.Played.{is_far, any_far, starts_at_id, left_at, is_left, too_long, played, way_and_last, touch_by, touch_at}
use Rattle.doc_path.specs.Ways.{leads, under, value_from, value_in, changed_along, changed_at, HasRoom}
use Rattle.doc_path.specs.declared.parts.Rule.TheVariants as Rule
use Rattle.doc_path.proofs.Steps.{shape-object, nth-slice_get, unset_array, set_array}
use Rattle.doc_path.proofs.Down.{under-index}
use Rattle.doc_path.proofs.Emptied.{one_part, there_or_not, value_in-append_none, resized}
use Rattle.doc_path.proofs.Last.{split-append, walk-append}
use Rattle.doc_path.proofs.Changed.{child-put_led, first_step, led_to, under-led, along_on, along_there, value_in-append, changed_at-append, set_here}
use Rattle.touch_laws.specs.Agree.{SetDone, UnsetDone, ResizeDone, Done}
use Rattle.doc_path.proofs.Played.{or_no, left_by, changed_by}
use Rattle.touch_laws.proofs.Cover.{or_false}

-- ---- one part

near_leads : (p : Part) (s : Shape) → is_far p ≡ false → takes V2 p s ≡ leads p s
near_leads (name k) an_object n = refl
near_leads (name k) an_array n = refl
near_leads (name k) (a_leaf c) n = refl
near_leads (name k) (a_code t) n = refl
near_leads (index m) an_object n = refl
near_leads (index m) an_array n = grind (arith, common_steps)
near_leads (index m) (a_leaf c) n = refl
near_leads (index m) (a_code t) n = refl

pub both_no : (a b : Bool) → a || b ≡ false → (a ≡ false) × (b ≡ false)
both_no true b e = cc
both_no false b e = (refl, e)

far_ends : (ws : List Part) (p : Part) → any_far (ws ++ (p ∷ [])) ≡ any_far ws || is_far p
far_ends [] p = or_no (is_far p)
far_ends (w ∷ ws) p = ap (λ (b : Bool). is_far w || b) (far_ends ws p) ∙ assoc (is_far w) (any_far ws) (is_far p)
  where
    assoc : (a b c : Bool) → a || (b || c) ≡ (a || b) || c
    assoc true b c = refl
    assoc false b c = refl

near_ends : (ws : List Part) (p : Part) → any_far (ws ++ (p ∷ [])) ≡ false → (any_far ws ≡ false) × (is_far p ≡ false)
near_ends ws p n = both_no (any_far ws) (is_far p) (sym (far_ends ws p) ∙ n)

pub ends : (p : Part) (ps : List Part) → p ∷ ps ≡ (way_and_last p ps).0 ++ ((way_and_last p ps).1 ∷ [])
ends p [] = refl
ends p (q ∷ qs) = λ i. p ∷ ends q qs i

-- ---- changes

same_walk : (ps : List Part) (g : Value → Value) (v : Value) → any_far ps ≡ false → walk_by (takes V2) None ps g v ≡ walk_by leads None ps g v
same_walk [] g v n = refl
same_walk (p ∷ ps) g v n =
    let h = both_no (is_far p) (any_far ps) n in
    λ i. if near_leads p (shape v) h.0 i then into (λ w. same_walk ps g w h.1 i) v (key_of p) (or_else (child v (key_of p)) None) else v

same_step : (p : Part) (c : Change) (v : Value) → is_far p ≡ false → step_by (takes V2) p c v ≡ step_by leads p c v
same_step p (Put a) v n = λ i. if near_leads p (shape v) n i then put v (key_of p) a else v
same_step p Delete v n = λ i. if near_leads p (shape v) n i then del v (key_of p) else v
same_step p (Length m) v n = same_walk (p ∷ []) (resize_here m) v (or_no (is_far p) ∙ n)

same_change : (ws : List Part) (p : Part) (c : Change) (v : Value) → any_far ws ≡ false → is_far p ≡ false → changed V2 ws p c v ≡ changed_along ws p c v
same_change ws p c v a b = ap (λ (g : Value → Value). walk_by (takes V2) None ws g v) (λ i w. same_step p c w b i) ∙ same_walk ws (step_by leads p c) v a

plain_played : (ws : List Part) (p : Part) (c : Change) (v : Value) → left_at (ws ++ (p ∷ [])) ≡ false → too_long c ≡ false → changed_along ws p c v ≡ played V2 (touch_by (ws, p) c) v
plain_played ws p c v a b =
    let n = near_ends ws p (both_no (starts_at_id (ws ++ (p ∷ []))) (any_far (ws ++ (p ∷ []))) a).1 in
    let l : is_left (touch_by (ws, p) c) ≡ false = left_by ws p c ∙ or_false (left_at (ws ++ (p ∷ []))) (too_long c) a b in
    rw l (sym (same_change ws p c v n.0 n.1) ∙ changed_by V2 ws p c v)

pub plain_is_played : (ps : List Part) (c : Change) (v : Value) → (ps ≡ [] → ⊥) → left_at ps ≡ false → too_long c ≡ false → changed_at ps c v ≡ played V2 (touch_at ps c) v
plain_is_played [] c v some a b = absurd (some refl)
plain_is_played (p ∷ ps) c v some a b =
    plain_played (way_and_last p ps).0 (way_and_last p ps).1 c v (subst (λ (z : List Part). left_at z ≡ false) (ends p ps) a) b

-- ---- ways

pub led_way : (ps : List Part) (P : Value → Type 0) (v c : Value) → any_far ps ≡ false → value_in ps v ≡ Some c → P c → Way V2 ps P v
led_way [] P v c n e h = let s : c ≡ v = cc in subst P s h
led_way (p ∷ ps) P v c n e h =
    let f = first_step p ps v c e in
    let a = both_no (is_far p) (any_far ps) n in
    (near_leads p (shape v) a.0 ∙ f.led.on, f.to, f.led.is, led_way ps P f.to c a.1 f.rest h)

way_led : (ps : List Part) (v c : Value) → any_far ps ≡ false → Way V2 ps (λ w. w ≡ c) v → value_in ps v ≡ Some c
way_led [] v c n e = ap Some e
way_led (p ∷ ps) v c n w =
    let a = both_no (is_far p) (any_far ps) n in
    ap (λ (o : Option Value). value_from o ps) (under-led p v w.1 (record { on = sym (near_leads p (shape v) a.0) ∙ w.0; is = w.2 })) ∙ way_led ps w.1 c a.1 w.3

pub same_way : (ps : List Part) (v c : Value) → any_far ps ≡ false → (value_in ps v ≡ Some c) ↔ Way V2 ps (λ w. w ≡ c) v
same_way ps v c n = ((λ e. led_way ps (λ w. w ≡ c) v c n e refl), λ w. way_led ps v c n w)

near_place : (p : Part) (ps : List Part) → any_far (p ∷ ps) ≡ false → (any_far (way_and_last p ps).0 ≡ false) × (is_far (way_and_last p ps).1 ≡ false)
near_place p ps n = near_ends (way_and_last p ps).0 (way_and_last p ps).1 (subst (λ (z : List Part). any_far z ≡ false) (ends p ps) n)

-- ---- a value that is set

pub set_fits : (ps : List Part) (a v : Value) → any_far ps ≡ false → HasRoom ps v → Fits V2 (touch_at ps (Put a)) v
set_fits [] a v n r = absurd r
set_fits (p ∷ ps) a v n r =
    let h = near_place p ps n in
    let l = (way_and_last p ps).1 in
    led_way (way_and_last p ps).0 (SetFits V2 l) v r.0 h.0 r.1 (near_leads l (shape r.0) h.1 ∙ r.2.0, r.2.1)

set_made : (p : Part) (a c : Value) → is_far p ≡ false → leads p (shape c) ≡ true → SetDone V2 p a (set_by leads p a c)
set_made p a c n t =
    subst (SetDone V2 p a) (sym (set_here p a c t))
    (near_leads p (shape (put c (key_of p) a)) n ∙ (ap (leads p) (shape-put c (key_of p) a) ∙ t), child-put_led p c a t)

pub set_is_done : (ps : List Part) (a v : Value) → any_far ps ≡ false → HasRoom ps v → Done V2 (touch_at ps (Put a)) (changed_at ps (Put a) v)
set_is_done [] a v n r = absurd r
set_is_done (p ∷ ps) a v n r =
    let h = near_place p ps n in
    let ws = (way_and_last p ps).0 in
    let l = (way_and_last p ps).1 in
    led_way ws (SetDone V2 l a) (changed_along ws l (Put a) v) (set_by leads l a r.0) h.0 (along_there (set_by leads l a) ws v r.0 r.1) (set_made l a r.0 h.1 r.2.0)

-- ---- a field that is unset

pub unset_fits : (ws : List Part) (k : List ℕ) (fs : List (List ℕ × Value)) (v : Value) → any_far ws ≡ false → value_in ws v ≡ Some (Object fs) → Fits V2 (touch_at (ws ++ (name k ∷ [])) Delete) v
unset_fits ws k fs v n e =
    subst (λ (t : Touch). Fits V2 t v) (sym (split-append ws (name k) Delete))
    (led_way ws (UnsetFits V2 (name k)) v (Object fs) n e (ap (takes V2 (name k)) (shape-object fs), shape-object fs))

unset_here : (k : List ℕ) (c : Value) → shape c ≡ an_object → unset_by leads (name k) c ≡ del c k
unset_here k c s = rw s refl

unset_made : (k : List ℕ) (c : Value) → shape c ≡ an_object → UnsetDone V2 (name k) (unset_by leads (name k) c)
unset_made k c s =
    let o : shape (del c k) ≡ an_object = shape-del c k ∙ s in
    subst (UnsetDone V2 (name k)) (sym (unset_here k c s)) (ap (takes V2 (name k)) o, o, del_object c k s)

pub unset_is_done : (ws : List Part) (k : List ℕ) (fs : List (List ℕ × Value)) (v : Value) → any_far ws ≡ false → value_in ws v ≡ Some (Object fs) → Done V2 (touch_at (ws ++ (name k ∷ [])) Delete) (changed_at (ws ++ (name k ∷ [])) Delete v)
unset_is_done ws k fs v n e =
    subst (λ (w : Value). Done V2 (touch_at (ws ++ (name k ∷ [])) Delete) w) (sym (changed_at-append ws (name k) Delete v))
    (subst (λ (t : Touch). Done V2 t (changed_along ws (name k) Delete v)) (sym (split-append ws (name k) Delete))
    (led_way ws (UnsetDone V2 (name k)) (changed_along ws (name k) Delete v) (unset_by leads (name k) (Object fs)) n (along_there (unset_by leads (name k)) ws v (Object fs) e) (unset_made k (Object fs) (shape-object fs))))

-- ---- a new length

pub sized_long : (n : ℕ) (vs : List Value) → length (sized n vs) ≡ n
sized_long zero vs = refl
sized_long (suc n) [] = ap suc (sized_long n [])
sized_long (suc n) (v ∷ vs) = ap suc (sized_long n vs)

pub resize_fits : (ps : List Part) (n : ℕ) (vs : List Value) (v : Value) → (ps ≡ [] → ⊥) → any_far ps ≡ false → n < limit → value_in ps v ≡ Some (Array vs) → n ≤ length vs → Fits V2 (touch_at ps (Length n)) v
resize_fits [] n vs v some h l e b = absurd (some refl)
resize_fits (p ∷ ps) n vs v some h l e b =
    subst (λ (z : List Part). Way V2 z (ResizeFits n) v) (ends p ps) (led_way (p ∷ ps) (ResizeFits n) v (Array vs) h e (l, vs, outs-Array vs, b))

resize_made : (n : ℕ) (vs : List Value) → n < limit → ResizeDone n (resize_here n (Array vs))
resize_made n vs l = subst (ResizeDone n) (sym (resized n vs)) (l, sized n vs, outs-Array (sized n vs), sized_long n vs)

pub resize_is_done : (ps : List Part) (n : ℕ) (vs : List Value) (v : Value) → (ps ≡ [] → ⊥) → any_far ps ≡ false → n < limit → value_in ps v ≡ Some (Array vs) → Done V2 (touch_at ps (Length n)) (changed_at ps (Length n) v)
resize_is_done [] n vs v some h l e = absurd (some refl)
resize_is_done (p ∷ ps) n vs v some h l e =
    let ws = (way_and_last p ps).0 in
    let q = (way_and_last p ps).1 in
    let one : changed_along ws q (Length n) v ≡ walk_by leads None (p ∷ ps) (resize_here n) v =
    walk-append leads ws q (resize_here n) v ∙ ap (λ (z : List Part). walk_by leads None z (resize_here n) v) (sym (ends p ps)) in
    subst (λ (w : Value). Way V2 (ws ++ (q ∷ [])) (ResizeDone n) w) (sym one)
    (subst (λ (z : List Part). Way V2 z (ResizeDone n) (walk_by leads None (p ∷ ps) (resize_here n) v)) (ends p ps)
    (led_way (p ∷ ps) (ResizeDone n) (walk_by leads None (p ∷ ps) (resize_here n) v) (resize_here n (Array vs)) h (along_there (resize_here n) (p ∷ ps) v (Array vs) e) (resize_made n vs l)))

-- ---- an element that is unset

null_item : (vs : List Value) (n : ℕ) (c : Value) → nth vs n ≡ Some c → blank_item vs n ≡ put_item vs n Null
null_item [] n c e = cc
null_item (v ∷ vs) zero c e = refl
null_item (v ∷ vs) (suc n) c e = ap (λ (l : List Value). v ∷ l) (null_item vs n c e)

null_array : (vs : List Value) (n : ℕ) (c : Value) → under (index n) (Array vs) ≡ Some c → unset_by leads (index n) (Array vs) ≡ set_by leads (index n) Null (Array vs)
null_array vs n c e =
    let at : nth vs n ≡ Some c = nth-slice_get vs n ∙ (sym (under-index vs (index n) n refl) ∙ e) in
    sym (unset_array Rule.Plain (index n) vs (blank_item vs n) n (refl, index_of-digits n) refl)
    ∙ (ap Array (null_item vs n c at) ∙ set_array Rule.Plain (index n) Null vs (put_item vs n Null) n (refl, index_of-digits n) refl)

index_shape : (n : ℕ) (s : Shape) → leads (index n) s ≡ true → s ≡ an_array
index_shape n an_array e = refl
index_shape n an_object e = cc
index_shape n (a_leaf c) e = cc
index_shape n (a_code t) e = cc

null_here : (n : ℕ) (d c : Value) → under (index n) d ≡ Some c → unset_by leads (index n) d ≡ set_by leads (index n) Null d
null_here n d c e =
    let l = led_to (index n) d c e in
    let a = an_array_too d (index_shape n (shape d) l.on) in
    let is : d ≡ Array a.0 = rolled_array d a.0 a.1 ∙ rolls-Array a.0 in
    subst (λ (z : Value). unset_by leads (index n) z ≡ set_by leads (index n) Null z) (sym is) (null_array a.0 n c (subst (λ (z : Value). under (index n) z ≡ Some c) is e))

same_end : (ps : List Part) (g h : Value → Value) (v d : Value) → value_in ps v ≡ Some d → g d ≡ h d → walk_by leads None ps g v ≡ walk_by leads None ps h v
same_end [] g h v d e s = let t : v ≡ d = cc in subst (λ (z : Value). g z ≡ h z) (sym t) s
same_end (p ∷ ps) g h v d e s =
    let f = first_step p ps v d e in
    along_on g p ps v f.to f.led ∙ (ap (put v (key_of p)) (same_end ps g h f.to d f.rest s) ∙ sym (along_on h p ps v f.to f.led))

pub unset_element : (ws : List Part) (n : ℕ) (c v : Value) → value_in (ws ++ (index n ∷ [])) v ≡ Some c → changed_at (ws ++ (index n ∷ [])) Delete v ≡ changed_at (ws ++ (index n ∷ [])) (Put Null) v
unset_element ws n c v e =
    elim (there_or_not ws v) [
      | inl o ↦ let f : None ≡ Some c = sym (value_in-append_none ws (index n ∷ []) v o) ∙ e in cc
      | inr d ↦
          let u : under (index n) d.0 ≡ Some c = sym (one_part (index n) d.0) ∙ (sym (value_in-append ws (index n ∷ []) v d.0 d.1) ∙ e) in
          changed_at-append ws (index n) Delete v
          ∙ (same_end ws (unset_by leads (index n)) (set_by leads (index n) Null) v d.0 d.1 (null_here n d.0 c u) ∙ sym (changed_at-append ws (index n) (Put Null) v))
    ]
