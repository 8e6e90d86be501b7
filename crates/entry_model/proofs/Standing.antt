-- What it says of an edit that it stands in a document, or in an array.
use Rattle.std.proofs.Common.{◌≡◌, ℕ, suc, ◌<◌, List, [], ◌∷◌, Bool, true, false, refl, sym, ap, ◌∙◌, subst, arith, inl, inr}
use Rattle.std.specs.Prelude.{◌⊎◌, if◌then◌else◌, Option, Some, None, nat_lt}
use Rattle.bson_value.specs.declared.value.Value.{Value, Value-F, out-Value, Null}
use Rattle.bson_value.specs.Place.{Shape, a_leaf, an_array, an_object, a_code, shape, shape_in, child}
use Rattle.doc_path.specs.declared.parts.Part.{Part}
use Rattle.doc_path.specs.declared.parts.Part.TheVariants.{Name as name, Index as index}
use Rattle.doc_path.specs.declared.parts.Form.TheVariants.{V2}
use Rattle.doc_path.specs.Touch.{key_of, takes, limit}
use Rattle.touch_laws.specs.Agree.{Done}
use Rattle.entry_model.specs.Edits.{Step, Sets, Unsets, Resizes, Edit, In, touch_in, touch_of, same_part, behind_in, behind, group, under}
use Rattle.entry_model.specs.Written.{is_index, in_array, is_array}
use Rattle.entry_model.specs.Laws.{AllStand}
use Rattle.entry_model.proofs.Lists.{one_part, picked_in}

pub shape_array : (v : Value) (vs : List Value) → out-Value v ≡ Value-F.Array vs → shape v ≡ an_array
unfolding shape
shape_array v vs e = ap shape_in e

abbrev pub Down : Part → List Part → Step → Value → Type 0
Down p ps s v = (takes V2 p (shape v) ≡ true) × (c : Value) × (child v (key_of p) ≡ Some c) × Done V2 (touch_in ps s) c

pub down : (p : Part) (ps : List Part) (s : Step) (v : Value) → Done V2 (touch_in (p ∷ ps) s) v → Down p ps s v
down p ps (Sets q a fresh) v d = d
down p ps (Unsets q) v d = d
down p ps (Resizes n) v d = d

-- ---- in a document

object_takes : (p : Part) (s : Shape) → s ≡ an_object → takes V2 p s ≡ true → is_index p ≡ false
object_takes (name k) s e t = refl
object_takes (index n) s e t = let f : takes V2 (index n) an_object ≡ true = subst (λ (z : Shape). takes V2 (index n) z ≡ true) e t in cc

pub in_object : (ps : List Part) (s : Step) (v : Value) → shape v ≡ an_object → Done V2 (touch_in ps s) v → in_array ps s ≡ false
in_object (p ∷ ps) s v e d = object_takes p (shape v) e (down p ps s v d).0
in_object [] (Sets p a fresh) v e d = object_takes p (shape v) e d.0
in_object [] (Unsets p) v e d = object_takes p (shape v) e d.0
in_object [] (Resizes n) v e d = let f : an_array ≡ an_object = sym (shape_array v d.1 d.2) ∙ e in cc

-- ---- in an array

-- an index below the limit
abbrev pub Low : Part → Type 0
Low (name k) = ⊥
Low (index n) = n < limit

array_takes : (p : Part) (s : Shape) → s ≡ an_array → takes V2 p s ≡ true → Low p
array_takes (name k) s e t = let f : takes V2 (name k) an_array ≡ true = subst (λ (z : Shape). takes V2 (name k) z ≡ true) e t in cc
array_takes (index n) s e t = let f : nat_lt n limit ≡ true = subst (λ (z : Shape). takes V2 (index n) z ≡ true) e t in grind arith

-- what an edit in an array is
abbrev pub ArrayEdit : List Part → Step → Type 0
ArrayEdit (p ∷ ps) s = Low p
ArrayEdit [] (Sets p a fresh) = Low p
ArrayEdit [] (Unsets p) = ⊥
ArrayEdit [] (Resizes n) = n < limit

pub in_list : (ps : List Part) (s : Step) (v : Value) → shape v ≡ an_array → Done V2 (touch_in ps s) v → ArrayEdit ps s
in_list (p ∷ ps) s v e d = array_takes p (shape v) e (down p ps s v d).0
in_list [] (Sets p a fresh) v e d = array_takes p (shape v) e d.0
in_list [] (Unsets p) v e d = let f : an_object ≡ an_array = sym d.1 ∙ e in cc
in_list [] (Resizes n) v e d = d.0

low_index : (p : Part) → Low p → is_index p ≡ true
low_index (name k) l = absurd l
low_index (index n) l = refl

pub list_is_array : (ps : List Part) (s : Step) → ArrayEdit ps s → in_array ps s ≡ true
list_is_array (p ∷ ps) s l = low_index p l
list_is_array [] (Sets p a fresh) l = low_index p l
list_is_array [] (Unsets p) l = absurd l
list_is_array [] (Resizes n) l = refl

-- ---- nowhere else

none_takes : (p : Part) (s : Shape) → takes V2 p s ≡ true → (s ≡ an_object) ⊎ (s ≡ an_array)
none_takes p an_object t = inl refl
none_takes p an_array t = inr refl
none_takes (name k) (a_leaf c) t = cc
none_takes (index n) (a_leaf c) t = cc
none_takes (name k) (a_code c) t = cc
none_takes (index n) (a_code c) t = cc

pub somewhere : (ps : List Part) (s : Step) (v : Value) → Done V2 (touch_in ps s) v → (shape v ≡ an_object) ⊎ (shape v ≡ an_array)
somewhere (p ∷ ps) s v d = none_takes p (shape v) (down p ps s v d).0
somewhere [] (Sets p a fresh) v d = none_takes p (shape v) d.0
somewhere [] (Unsets p) v d = none_takes p (shape v) d.0
somewhere [] (Resizes n) v d = inr (shape_array v d.1 d.2)

-- ---- a group stands in what stands under its part

pub behind_under : (r : Part) (ps : List Part) (s : Step) (d : Edit) → behind_in r ps s ≡ Some d → under r d ≡ (ps, s)
behind_under r [] s d e = cc
behind_under r (p ∷ ps) s d e = by (same_part p r) refl e
  where
    by : (b : Bool) → same_part p r ≡ b → (if b then Some (ps, s) else None) ≡ Some d → under r d ≡ (p ∷ ps, s)
    by true f g =
        let h : (ps, s) ≡ d = cc in
        let k : p ≡ r = one_part p r f in
        sym (ap (under r) h) ∙ ap (λ (q : Part). (q ∷ ps, s)) (sym k)
    by false f g = cc

pub group_in : (r : Part) (es : List Edit) (d : Edit) → In d (group r es) → In (under r d) es
group_in r es d h = let x = picked_in (behind r) es d h in subst (λ (z : Edit). In z es) (sym (behind_under r x.0.0 x.0.1 d x.2)) x.1

-- what stands under a part, or anything
abbrev pub there : Option Value → Value
there None = Null
there (Some c) = c

pub group_stands : (n : ℕ) (v : Value) (es : List Edit) (r : Part) → AllStand (suc n) v es → AllStand n (there (child v (key_of r))) (group r es)
group_stands n v es r a d h =
    let s = a (under r d) (group_in r es d h) in
    let w = down r d.0 d.1 v s.done in
    let e : w.1 ≡ there (child v (key_of r)) = ap there (sym w.2) in
    record { done = subst (λ (c : Value). Done V2 (touch_of d) c) e w.3; named = s.named; deep = omega (arith, s.deep) }

-- ---- the kind of all

pub not_array : (n : ℕ) (v : Value) (es : List Edit) → shape v ≡ an_object → AllStand n v es → is_array es ≡ false
not_array n v [] o a = refl
not_array n v (e ∷ es) o a = in_object e.0 e.1 v o (a e (inl refl)).done

pub some_array : (n : ℕ) (v : Value) (es : List Edit) (e : Edit) → shape v ≡ an_array → AllStand n v es → In e es → is_array es ≡ true
some_array n v [] e o a h = absurd h
some_array n v (x ∷ xs) e o a h = list_is_array x.0 x.1 (in_list x.0 x.1 v o (a x (inl refl)).done)
