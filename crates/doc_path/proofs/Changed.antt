-- What stands at a place, and elsewhere, after a change at it.
use Rattle.std.proofs.Common.{◌≡◌, List, [], ◌∷◌, ◌++◌, Bool, true, false, refl, sym, ap, ◌∙◌, subst, Option, Some, None, inl, inr}
use Rattle.std.specs.Prelude.{◌⊎◌}
use Rattle.std.proofs.lemmas.Bool.{cases_Bool}
use Rattle.std.specs.Str.{bytes_eq}
use Rattle.bson_value.specs.declared.value.Value.{Value}
use Rattle.bson_value.specs.Digits.{digits}
use Rattle.bson_value.proofs.Digits.{index_of-digits}
use Rattle.bson_value.specs.Place.{Place, Shape, a_leaf, a_code, an_array, an_object, shape, child, look, put}
use Rattle.bson_value.proofs.Child.{shape-put, put_same, put_object, put_array}
use Rattle.doc_path.specs.declared.parts.Change.{Change}
use Rattle.doc_path.specs.declared.parts.Change.TheVariants.{Put}
use Rattle.doc_path.specs.Touch.{Part, name, index, key_of, Touch, walk_by, set_by, below, from_key}
use Rattle.doc_path.specs.Played.{touch_at}
use Rattle.doc_path.specs.Ways.{leads, under, value_from, value_in, changed_along, changed_at, HasRoomFor, HasRoom, ChangesOnly}
use Rattle.doc_path.proofs.Kept.{in_reach, put_keeps, step_keeps}
use Rattle.doc_path.proofs.Last.{split, split-append}
use Rattle.doc_path.proofs.Down.{in_none}

-- ---- one part

leads_put : (p : Part) (v a : Value) (s : Shape) → shape v ≡ s → leads p s ≡ true → child (put v (key_of p) a) (key_of p) ≡ Some a
leads_put (name k) v a an_object s t = put_object v k a s
leads_put (index n) v a an_array s t = put_array v (digits n) n a s (index_of-digits n)
leads_put (name k) v a an_array s t = cc
leads_put (name k) v a (a_leaf c) s t = cc
leads_put (name k) v a (a_code c) s t = cc
leads_put (index n) v a an_object s t = cc
leads_put (index n) v a (a_leaf c) s t = cc
leads_put (index n) v a (a_code c) s t = cc

pub child-put_led : (p : Part) (v a : Value) → leads p (shape v) ≡ true → child (put v (key_of p) a) (key_of p) ≡ Some a
child-put_led p v a t = leads_put p v a (shape v) refl t

pub under-put : (p : Part) (v a : Value) → leads p (shape v) ≡ true → under p (put v (key_of p) a) ≡ Some a
under-put p v a t = rw (shape-put v (key_of p) a, t) (child-put_led p v a t)

-- a part under which something stands leads on
pub record Led (p : Part) (v c : Value) : Type 0 where
  pub on : leads p (shape v) ≡ true
  pub is : child v (key_of p) ≡ Some c

pub led_to : (p : Part) (v c : Value) → under p v ≡ Some c → Led p v c
led_to p v c e =
    elim (cases_Bool (leads p (shape v))) [
      | inl t ↦ record { on = t; is = rw t at e }
      | inr t ↦ let n : None ≡ Some c = rw t at e in cc
    ]

pub under-led : (p : Part) (v c : Value) → Led p v c → under p v ≡ Some c
under-led p v c l = rw l.on l.is

-- a step of cover is cover below one part
deeper : (p : Part) (ps : List Part) (d : Place → Bool) (q : Place) → below (p ∷ ps) d q ≡ false → below (p ∷ []) (below ps d) q ≡ false
deeper p ps d [] n = refl
deeper p ps d (j ∷ q) n = n

-- whether something stands under it
pub leads_or_not : (p : Part) (v : Value) → (under p v ≡ None) ⊎ ((c : Value) × (under p v ≡ Some c))
leads_or_not p v = by (under p v) refl
  where
    by : (o : Option Value) → under p v ≡ o → (under p v ≡ None) ⊎ ((c : Value) × (under p v ≡ Some c))
    by None e = inl e
    by (Some c) e = inr (c, e)

-- the first step of a way that is there
pub record FirstStep (p : Part) (ps : List Part) (v c : Value) : Type 0 where
  pub to : Value
  pub led : Led p v to
  pub rest : value_in ps to ≡ Some c

pub first_step : (p : Part) (ps : List Part) (v c : Value) → value_in (p ∷ ps) v ≡ Some c → FirstStep p ps v c
first_step p ps v c e =
    elim (leads_or_not p v) [
      | inl n ↦ let h : None ≡ Some c = sym (ap (λ (o : Option Value). value_from o ps) n ∙ in_none ps) ∙ e in cc
      | inr d ↦ record { to = d.0; led = led_to p v d.0 d.1; rest = sym (ap (λ (o : Option Value). value_from o ps) d.1) ∙ e }
    ]

-- ---- down a way

pub value_in-append : (ps qs : List Part) (v c : Value) → value_in ps v ≡ Some c → value_in (ps ++ qs) v ≡ value_in qs c
value_in-append [] qs v c e = let s : v ≡ c = cc in ap (value_in qs) s
value_in-append (p ∷ ps) qs v c e =
    let f = first_step p ps v c e in
    ap (λ (o : Option Value). value_from o (ps ++ qs)) (under-led p v f.to f.led) ∙ value_in-append ps qs f.to c f.rest

module _ (g : Value → Value) where
  pub along_on : (p : Part) (ps : List Part) (v c : Value) → Led p v c → walk_by leads None (p ∷ ps) g v ≡ put v (key_of p) (walk_by leads None ps g c)
  along_on p ps v c l = rw (l.on, l.is) refl

  along_off : (p : Part) (ps : List Part) (v : Value) → under p v ≡ None → walk_by leads None (p ∷ ps) g v ≡ v
  along_off p ps v e =
      elim (cases_Bool (leads p (shape v))) [
        | inl t ↦ let n : child v (key_of p) ≡ None = rw t at e in rw (t, n) refl
        | inr t ↦ rw t refl
      ]

  -- at the end of the way stands what is made of the value there
  pub along_there : (ps : List Part) (v c : Value) → value_in ps v ≡ Some c → value_in ps (walk_by leads None ps g v) ≡ Some (g c)
  along_there [] v c e = let s : v ≡ c = cc in ap (λ (x : Value). Some (g x)) s
  along_there (p ∷ ps) v c e =
      let f = first_step p ps v c e in
      ap (λ (w : Value). value_from (under p w) ps) (along_on p ps v f.to f.led)
      ∙ (ap (λ (o : Option Value). value_from o ps) (under-put p v _ f.led.on) ∙ along_there ps f.to c f.rest)

  -- where the way isn't there, nothing changes
  pub along_missing : (ps : List Part) (v : Value) → value_in ps v ≡ None → walk_by leads None ps g v ≡ v
  along_missing [] v e = cc
  along_missing (p ∷ ps) v e =
      elim (leads_or_not p v) [
        | inl n ↦ along_off p ps v n
        | inr d ↦
            let l = led_to p v d.0 d.1 in
            along_on p ps v d.0 l ∙ (ap (put v (key_of p)) (along_missing ps d.0 (sym (ap (λ (o : Option Value). value_from o ps) d.1) ∙ e)) ∙ put_same v (key_of p) d.0 l.is)
      ]

  -- what g keeps at the end of the way, the walk keeps below it; and all elsewhere
  put_inner : (p : Part) (v b c : Value) (d : Place → Bool) → Led p v c → ((q : Place) → d q ≡ false → look (Some b) q ≡ look (Some c) q) → (q : Place) → below (p ∷ []) d q ≡ false → look (Some (put v (key_of p) b)) q ≡ look (Some v) q
  unfolding look
  put_inner p v b c d l h [] n = ap Some (shape-put v (key_of p) b)
  put_inner p v b c d l h (j ∷ q) n = step_keeps p v b c (child-put_led p v b l.on) l.is d h j q n (cases_Bool (bytes_eq (key_of p) j))

  pub along_keeps : (ps : List Part) (d : Place → Bool) (v : Value) → ((c : Value) → value_in ps v ≡ Some c → (q : Place) → d q ≡ false → look (Some (g c)) q ≡ look (Some c) q) →
      (q : Place) → below ps d q ≡ false → look (Some (walk_by leads None ps g v)) q ≡ look (Some v) q
  along_keeps [] d v h q n = h v refl q n
  along_keeps (p ∷ ps) d v h q n =
      elim (leads_or_not p v) [
        | inl e ↦ ap (λ (w : Value). look (Some w) q) (along_off p ps v e)
        | inr c ↦
            let l = led_to p v c.0 c.1 in
            let inside = along_keeps ps d c.0 (λ x e. h x (ap (λ (o : Option Value). value_from o ps) c.1 ∙ e)) in
            ap (λ (w : Value). look (Some w) q) (along_on p ps v c.0 l) ∙ put_inner p v _ c.0 (below ps d) l inside q (deeper p ps d q n)
      ]

-- ---- a value that is set

pub set_here : (p : Part) (a c : Value) → leads p (shape c) ≡ true → set_by leads p a c ≡ put c (key_of p) a
set_here p a c t = rw t refl

set_kept : (p : Part) (a c : Value) → HasRoomFor p c → (q : Place) → from_key (key_of p) q ≡ false → look (Some (set_by leads p a c)) q ≡ look (Some c) q
set_kept p a c room q n = ap (λ (w : Value). look (Some w) q) (set_here p a c room.0) ∙ put_keeps c (key_of p) a (λ j. in_reach p c j room.1) q n

room_at : (ws : List Part) (p : Part) (v : Value) → HasRoom (ws ++ (p ∷ [])) v → (parent : Value) × (value_in ws v ≡ Some parent) × HasRoomFor p parent
room_at [] p v r = r
room_at (w ∷ ws) p v r =
    subst (λ (z : List Part × Part). (parent : Value) × (value_in z.0 v ≡ Some parent) × HasRoomFor z.1 parent) (split w ws p) r

pub changed_at-append : (ws : List Part) (p : Part) (c : Change) (v : Value) → changed_at (ws ++ (p ∷ [])) c v ≡ changed_along ws p c v
changed_at-append [] p c v = refl
changed_at-append (w ∷ ws) p c v = ap (λ (z : List Part × Part). changed_along z.0 z.1 c v) (split w ws p)

pub record IsSetAt (ps : List Part) (a old new : Value) : Type 0 where
  pub document : new ≡ changed_at ps (Put a) old
  pub there : value_in ps new ≡ Some a
  pub elsewhere : ChangesOnly (touch_at ps (Put a)) old new

one_part : (p : Part) (v a : Value) → under p v ≡ Some a → value_in (p ∷ []) v ≡ Some a
one_part p v a e = ap (λ (o : Option Value). value_from o []) e

set_at : (ws : List Part) (p : Part) (a v : Value) → HasRoom (ws ++ (p ∷ [])) v → IsSetAt (ws ++ (p ∷ [])) a v (changed_along ws p (Put a) v)
set_at ws p a v room =
    let r = room_at ws p v room in
    let at : value_in ws (changed_along ws p (Put a) v) ≡ Some (set_by leads p a r.0) = along_there (set_by leads p a) ws v r.0 r.1 in
    let one : under p (set_by leads p a r.0) ≡ Some a = ap (under p) (set_here p a r.0 r.2.0) ∙ under-put p r.0 a r.2.0 in
    record {
      document = sym (changed_at-append ws p (Put a) v);
      there = value_in-append ws (p ∷ []) _ _ at ∙ one_part p _ a one;
      elsewhere =
          subst (λ (t : Touch). ChangesOnly t v (changed_along ws p (Put a) v)) (sym (split-append ws p (Put a)))
          (λ q n. along_keeps (set_by leads p a) ws (from_key (key_of p)) v (λ c e q n. let s : r.0 ≡ c = some_one (sym r.1 ∙ e) in set_kept p a c (subst (HasRoomFor p) s r.2) q n) q n);
    }
  where
    some_one : {A : Type 0} {x y : A} → Some x ≡ Some y → x ≡ y
    some_one e = cc

pub is_set_at : (parts ws : List Part) (p : Part) (a v w : Value) → parts ≡ ws ++ (p ∷ []) → HasRoom parts v → w ≡ changed_along ws p (Put a) v → IsSetAt parts a v w
is_set_at parts ws p a v w s room e =
    subst (λ (z : List Part). IsSetAt z a v w) (sym s)
    (subst (λ (z : Value). IsSetAt (ws ++ (p ∷ [])) a v z) (sym e) (set_at ws p a v (subst (λ (z : List Part). HasRoom z v) s room)))
