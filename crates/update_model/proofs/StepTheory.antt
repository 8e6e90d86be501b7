-- A change at one part changes what its marks cover, and its marks stand afterwards.
use Rattle.std.proofs.Common.{◌≡◌, ◌≢◌, ℕ, zero, suc, ◌<◌, ◌≤◌, ◌-◌, ◌+◌, List, [], ◌∷◌, ◌++◌, length, Bool, true, false, refl, sym, ap, ◌∙◌, subst, arith, Option, Some, None, inl, inr, map}
use Rattle.std.specs.Prelude.{◌||◌, ◌⊎◌, if◌then◌else◌, nat_lt}
use Rattle.std.specs.Str.{bytes_eq}
use Rattle.std.proofs.lemmas.Bool.{cases_Bool}
use Rattle.std.proofs.lemmas.Grind.{common_steps}
use Rattle.bson_value.specs.declared.value.Value.{Value, Value-F, Null, out-Value}
use Rattle.bson_value.specs.Digits.{digits, index_of}
use Rattle.bson_value.specs.Place.{Place, Shape, a_leaf, an_array, an_object, a_code, look, shape_in, shape, child_in, child, put_in, put, put_item, del, nth}
use Rattle.bson_value.proofs.Digits.{index_of-digits, index_of-is}
use Rattle.bson_value.proofs.Child.{same_name, name_refl, child-put, child-put_ne, shape-put, shape-del, del_else, behind, behind_at, nth-within, within_reach}
use Rattle.doc_path.specs.declared.parts.Part.{Part}
use Rattle.doc_path.specs.declared.parts.Part.TheVariants.{Name as name, Index as index}
use Rattle.doc_path.specs.declared.parts.Form.TheVariants.{V2}
use Rattle.doc_path.specs.Touch.{key_of, takes, limit}
use Rattle.doc_path.proofs.Kept.{both_kept}
use Rattle.touch_laws.proofs.Replay.{takes-put}
use Rattle.update_model.specs.declared.mark.Mark.{Mark}
use Rattle.update_model.specs.declared.mark.Made.{Made}
use Rattle.update_model.specs.Located.{size_in, size}
use Rattle.update_model.specs.Steps.{mark, elements, padding}
use Rattle.update_model.proofs.MarkTerms.{any_mark, IndexThere, AllStand, Step}
use Rattle.update_model.proofs.MarkTheory.{marks_append, not_none, an_object_by}

-- marks behind a part
abbrev pub under : Part → List Mark → List Mark
under p [] = []
under p (m ∷ ms) = mark (p ∷ m.way) m.last m.made ∷ under p ms

-- the value stands at the part, behind what is padded
abbrev pub placed : Value → Part → Made → List Mark
placed v p k = padding [] p (size v) ++ (mark [] p k ∷ [])

pub nth_upto : (vs : List Value) (n m : ℕ) (v : Value) → m ≤ n → nth (put_item vs n v) m ≢ None
nth_upto [] zero zero v h = λ e. cc
nth_upto [] zero (suc m) v h = absurd (omega arith)
nth_upto [] (suc n) zero v h = λ e. cc
nth_upto [] (suc n) (suc m) v h = nth_upto [] n m v (omega arith)
nth_upto (w ∷ vs) zero zero v h = λ e. cc
nth_upto (w ∷ vs) zero (suc m) v h = absurd (omega arith)
nth_upto (w ∷ vs) (suc n) zero v h = λ e. cc
nth_upto (w ∷ vs) (suc n) (suc m) v h = nth_upto vs n m v (omega arith)

-- the padded elements: each is covered, and stands
covered_first : (from m : ℕ) (b : Bool) → from ≡ m → bytes_eq (digits from) (digits m) || b ≡ false → ⊥
covered_first from m b s e = let t : bytes_eq (digits from) (digits m) ≡ true = subst (λ (z : ℕ). bytes_eq (digits from) (digits z) ≡ true) s (name_refl (digits from)) in let f : true || b ≡ false = rw t at e in cc

pub elements_cover : (from n m : ℕ) (q : Place) → any_mark (elements [] from n) (digits m ∷ q) ≡ false → from ≤ m → m < from + n → ⊥
elements_cover from zero m q e a b = omega arith
elements_cover from (suc n) m q e a b =
    elim (cases_Bool (nat_lt from m)) [
      | inl s ↦ (let f : bytes_eq (digits from) (digits m) || any_mark (elements [] (suc from) n) (digits m ∷ q) ≡ false = e in
          let g : any_mark (elements [] (suc from) n) (digits m ∷ q) ≡ false = grind arith in
          let l : suc from ≤ m = grind (arith, common_steps) in
          elements_cover (suc from) n m q g l (omega arith))
      | inr s ↦ (let l : m ≤ from = grind (arith, common_steps) in covered_first from m (any_mark (elements [] (suc from) n) (digits m ∷ q)) (omega arith) e)
    ]

pub elements_stand : (from n : ℕ) (v : Value) → shape v ≡ an_array → from + n ≤ limit → ((m : ℕ) → m < from + n → child v (digits m) ≢ None) → AllStand (elements [] from n) v
elements_stand from zero v s l h = tt
elements_stand from (suc n) v s l h =
    ((kind, h from (omega arith)), elements_stand (suc from) n v s (omega arith) (λ m b. h m (omega arith)))
  where
    kind : takes V2 (index from) (shape v) ≡ true
    kind = let f : from < limit = omega arith in rw s (grind (arith, common_steps))

pub or_parts_false : (a b : Bool) → a || b ≡ false → (a ≡ false) × (b ≡ false)
or_parts_false a b e = (grind arith, grind arith)

-- an element behind which the value is put is there, or is padded
reach_in : (l : Value-F Value) (n : ℕ) (j : List ℕ) (i : Option ℕ) (q : Place) → index_of j ≡ i → any_mark (elements [] (size_in l) (n - size_in l)) (j ∷ q) ≡ false → behind_at (shape_in l) (Some n) i ≡ true → child_in l j i ≢ None
reach_in (Value-F.Array vs) n j None q ij e b = cc
reach_in (Value-F.Array vs) n j (Some m) q ij e b =
    elim (cases_Bool (nat_lt m (length vs))) [
      | inl s ↦ nth-within vs m (grind (arith, common_steps))
      | inr s ↦ (let l : length vs ≤ m = grind (arith, common_steps) in
          let u : m < n = grind (arith, common_steps) in
          absurd (elements_cover (length vs) (n - length vs) m q (subst (λ (z : List ℕ). any_mark (elements [] (length vs) (n - length vs)) (z ∷ q) ≡ false) (index_of-is j m ij) e) l (omega arith)))
    ]
reach_in (Value-F.Object fs) n j i q ij e b = cc
reach_in (Value-F.ScopedCode t fs) n j i q ij e b = cc
reach_in _ n j i q ij e b = cc

no_reach : (s : Shape) (k j : List ℕ) → takes V2 (name k) s ≡ true → behind s k j ≡ true → ⊥
no_reach an_object k j t b = cc
no_reach an_array k j t b = cc
no_reach (a_leaf c) k j t b = cc
no_reach (a_code z) k j t b = cc

pub padded_reach : (v : Value) (p : Part) (j : List ℕ) (q : Place) → takes V2 p (shape v) ≡ true → any_mark (padding [] p (size v)) (j ∷ q) ≡ false → behind (shape v) (key_of p) j ≡ true → child v j ≢ None
unfolding shape child size
padded_reach v (name k) j q t e b = absurd (no_reach (shape v) k j t b)
padded_reach v (index n) j q t e b = reach_in (out-Value v) n j (index_of j) q refl e (subst (λ (i : Option ℕ). behind_at (shape v) i (index_of j) ≡ true) (index_of-digits n) b)

pub stand_append : (ms ns : List Mark) (v : Value) → AllStand ms v → AllStand ns v → AllStand (ms ++ ns) v
stand_append [] ns v a b = b
stand_append (m ∷ ms) ns v a b = (a.0, stand_append ms ns v a.1 b)

placed_in : (l : Value-F Value) (k j : List ℕ) (n m : ℕ) (a : Value) → shape_in l ≡ an_array → m ≤ n → child_in (put_in l k (Some n) a) j (Some m) ≢ None
placed_in (Value-F.Array vs) k j n m a s h = nth_upto vs n m a h
placed_in (Value-F.Object fs) k j n m a s h = cc
placed_in (Value-F.ScopedCode t fs) k j n m a s h = cc
placed_in _ k j n m a s h = cc

moved : (o u : Option Value) → o ≡ u → u ≢ None → o ≢ None
moved o u e h f = h (sym e ∙ f)

placed_child : (v : Value) (n m : ℕ) (a : Value) → shape v ≡ an_array → m ≤ n → child (put v (digits n) a) (digits m) ≢ None
unfolding shape
placed_child v n m a s h =
    moved _ (child_in (put_in (out-Value v) (digits n) (Some n) a) (digits m) (Some m))
    (child-put v (digits n) (digits m) a ∙ (ap (λ (i : Option ℕ). child_in (put_in (out-Value v) (digits n) i a) (digits m) (index_of (digits m))) (index_of-digits n) ∙ ap (λ (i : Option ℕ). child_in (put_in (out-Value v) (digits n) (Some n) a) (digits m) i) (index_of-digits m)))
    (placed_in (out-Value v) (digits n) (digits m) n m a s h)

pub array_taken : (n : ℕ) (s : Shape) → takes V2 (index n) s ≡ true → (s ≡ an_array) × (n < limit)
array_taken n an_array t = (refl, grind (arith, common_steps))
array_taken n an_object t = cc
array_taken n (a_leaf c) t = cc
array_taken n (a_code z) t = cc

placed_elements : (v : Value) (n : ℕ) (a : Value) (c : ℕ) → shape v ≡ an_array → n < limit → AllStand (elements [] c (n - c)) (put v (digits n) a)
placed_elements v n a c s l =
    elim (cases_Bool (nat_lt n c)) [
      | inl b ↦ (let h : n < c = grind (arith, common_steps) in let z : n - c ≡ 0 = omega arith in rw z tt)
      | inr b ↦ (let h : c ≤ n = grind (arith, common_steps) in
          elements_stand c (n - c) (put v (digits n) a) (shape-put v (digits n) a ∙ s) (omega arith) (λ m u. placed_child v n m a s (omega arith)))
    ]

pub placed_stand : (v : Value) (p : Part) (a : Value) → takes V2 p (shape v) ≡ true → AllStand (padding [] p (size v)) (put v (key_of p) a)
placed_stand v (name k) a t = tt
placed_stand v (index n) a t = let h = array_taken n (shape v) t in placed_elements v n a (size v) h.0 h.1

pub index_there_after : (v : Value) (p : Part) (a : Value) → takes V2 p (shape v) ≡ true → IndexThere p (put v (key_of p) a)
index_there_after v (name k) a t = tt
index_there_after v (index n) a t = not_none _ a (takes-put V2 (index n) v a t)

pub put_off : (v : Value) (k j : List ℕ) (a : Value) (q : Place) → bytes_eq k j ≡ false → (behind (shape v) k j ≡ true → child v j ≢ None) → look (child (put v k a) j) q ≡ look (child v j) q
put_off v k j a q e h = rw (child-put_ne v k j a e h) refl

pub place_step : (v : Value) (p : Part) (k : Made) (a : Value) → takes V2 p (shape v) ≡ true → Step v (placed v p k) (put v (key_of p) a)
unfolding look
place_step v p k a t = record {
  frame = frame;
  stand = stand_append (padding [] p (size v)) (mark [] p k ∷ []) (put v (key_of p) a) (placed_stand v p a t)
      ((subst (λ (z : Shape). takes V2 p z ≡ true) (sym (shape-put v (key_of p) a)) t, index_there_after v p a t), tt);
}
  where
    frame : (q : Place) → any_mark (padding [] p (size v) ++ (mark [] p k ∷ [])) q ≡ false → look (Some (put v (key_of p) a)) q ≡ look (Some v) q
    frame [] e = ap Some (shape-put v (key_of p) a)
    frame (j ∷ q) e =
        let h = or_parts_false (any_mark (padding [] p (size v)) (j ∷ q)) (bytes_eq (key_of p) j || false) (sym (marks_append (padding [] p (size v)) (mark [] p k ∷ []) (j ∷ q)) ∙ e) in
        let k = or_parts_false (bytes_eq (key_of p) j) false h.1 in
        put_off v (key_of p) j a q k.0 (λ b. padded_reach v p j q t h.0 b)

pub under_covers : (p : Part) (ms : List Mark) (q : Place) → any_mark (under p ms) (key_of p ∷ q) ≡ any_mark ms q
under_covers p [] q = refl
under_covers p (m ∷ ms) q = rw (name_refl (key_of p), under_covers p ms q) refl

pub under_stand : (p : Part) (ms : List Mark) (w c : Value) → takes V2 p (shape w) ≡ true → child w (key_of p) ≡ Some c → AllStand ms c → AllStand (under p ms) w
under_stand p [] w c t e st = tt
under_stand p (m ∷ ms) w c t e st = ((t, c, e, st.0), under_stand p ms w c t e st.1)

pub under_step : (v : Value) (p : Part) (c d : Value) (ms : List Mark) → takes V2 p (shape v) ≡ true → child v (key_of p) ≡ Some c → Step c ms d → Step v (under p ms) (put v (key_of p) d)
unfolding look
under_step v p c d ms t e s = record {
  frame = frame;
  stand = under_stand p ms (put v (key_of p) d) d (subst (λ (z : Shape). takes V2 p z ≡ true) (sym (shape-put v (key_of p) d)) t) (takes-put V2 p v d t) s.stand;
}
  where
    at : (j : List ℕ) (q : Place) → any_mark (under p ms) (j ∷ q) ≡ false → (bytes_eq (key_of p) j ≡ true) ⊎ (bytes_eq (key_of p) j ≡ false) → look (child (put v (key_of p) d) j) q ≡ look (child v j) q
    at j q f (inl z) =
        subst (λ (k : List ℕ). any_mark (under p ms) (k ∷ q) ≡ false → look (child (put v (key_of p) d) k) q ≡ look (child v k) q) (same_name (key_of p) j z)
        (λ g. both_kept _ _ (Some d) (Some c) q (takes-put V2 p v d t) e (s.frame q (sym (under_covers p ms q) ∙ g))) f
    at j q f (inr z) = put_off v (key_of p) j d q z (λ b. within_reach v (key_of p) j (not_none _ c e) b)

    frame : (q : Place) → any_mark (under p ms) q ≡ false → look (Some (put v (key_of p) d)) q ≡ look (Some v) q
    frame [] f = ap Some (shape-put v (key_of p) d)
    frame (j ∷ q) f = at j q f (cases_Bool (bytes_eq (key_of p) j))

-- ---- taking out

pub drop_name : (v : Value) (k : List ℕ) (kind : Made) → shape v ≡ an_object → Step v (mark [] (name k) kind ∷ []) (del v k)
unfolding look
drop_name v k kind o = record {
  frame = frame;
  stand = ((rw (shape-del v k, o) refl, tt), tt);
}
  where
    off : (j : List ℕ) (q : Place) → bytes_eq k j ≡ false → look (child (del v k) j) q ≡ look (child v j) q
    off j q e = ap (λ (z : Option Value). look z q) (del_else v k j o e)

    frame : (q : Place) → any_mark (mark [] (name k) kind ∷ []) q ≡ false → look (Some (del v k)) q ≡ look (Some v) q
    frame [] e = ap Some (shape-del v k)
    frame (j ∷ q) e = off j q (or_parts_false (bytes_eq k j) false e).0
