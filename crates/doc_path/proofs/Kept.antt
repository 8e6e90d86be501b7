-- What one step of a change keeps: a put, a removal, a new length, and a step of a way.
use Rattle.std.proofs.Common.{◌≡◌, ◌≢◌, ℕ, ◌<◌, ◌≤◌, List, [], ◌∷◌, length, Bool, true, false, refl, sym, ap, ◌∙◌, subst, arith, Option, Some, None, inl, inr}
use Rattle.std.specs.Prelude.{◌&&◌, ◌⊎◌}
use Rattle.std.proofs.lemmas.Grind.{common_steps}
use Rattle.std.specs.Str.{bytes_eq}
use Rattle.bson_value.specs.declared.value.Value.{Value, Value-F, out-Value, roll-Value}
use Rattle.bson_value.specs.Digits.{index_of}
use Rattle.bson_value.specs.Place.{Place, an_object, shape, shape_in, at_index, child_in, child, look, put, del, sized}
use Rattle.bson_value.proofs.Child.{same_name, child-put_ne, shape-put, shape-del, behind, behind_at, index_behind, within_reach, del_else, nth-within, nth-sized, shape_array, child_array}
use Rattle.doc_path.specs.Touch.{Part, key_of, from_key, from_index, from_at, ReachIn, InReach}

-- an index that is the length has all before it too
reach_at : (i : Option ℕ) (vs : List Value) (l : Option ℕ) → ((n : ℕ) → i ≡ Some n → n ≤ length vs) → index_behind i l ≡ true → at_index vs l ≢ None
reach_at None vs l h e = cc
reach_at (Some n) vs None h e = cc
reach_at (Some n) vs (Some m) h e = let l = h n refl in nth-within vs m (grind (arith, common_steps))

reach_in : (f : Value-F Value) (j : List ℕ) (i l : Option ℕ) → ReachIn i f → behind_at (shape_in f) i l ≡ true → child_in f j l ≢ None
reach_in (Value-F.Array vs) j i l h e = reach_at i vs l h e
reach_in (Value-F.Object fs) j i l h e = cc
reach_in (Value-F.ScopedCode t fs) j i l h e = cc
reach_in _ j i l h e = cc

pub in_reach : (p : Part) (w : Value) (j : List ℕ) → InReach p w → behind (shape w) (key_of p) j ≡ true → child w j ≢ None
unfolding shape child
in_reach p w j h e = reach_in (out-Value w) j (index_of (key_of p)) (index_of j) h e

pub both_kept : (u x u' x' : Option Value) (q : Place) → u ≡ u' → x ≡ x' → look u' q ≡ look x' q → look u q ≡ look x q
both_kept u x u' x' q a b h = rw (a, b) h

-- ---- a put

pub put_else : (w : Value) (k j : List ℕ) (a : Value) (q : Place) → (behind (shape w) k j ≡ true → child w j ≢ None) → bytes_eq k j ≡ false → look (child (put w k a) j) q ≡ look (child w j) q
put_else w k j a q reach e = rw (child-put_ne w k j a e reach) refl

pub put_keeps : (w : Value) (k : List ℕ) (a : Value) → ((j : List ℕ) → behind (shape w) k j ≡ true → child w j ≢ None) → (q : Place) → from_key k q ≡ false → look (Some (put w k a)) q ≡ look (Some w) q
unfolding look
put_keeps w k a reach [] n = ap Some (shape-put w k a)
put_keeps w k a reach (j ∷ q) n = put_else w k j a q (reach j) n

-- ---- a removal

pub del_at : (w : Value) (k j : List ℕ) (q : Place) → shape w ≡ an_object → bytes_eq k j ≡ false → look (child (del w k) j) q ≡ look (child w j) q
del_at w k j q o e = rw (del_else w k j o e) refl

pub del_keeps : (w : Value) (k : List ℕ) → shape w ≡ an_object → (q : Place) → from_key k q ≡ false → look (Some (del w k)) q ≡ look (Some w) q
unfolding look
del_keeps w k o [] n = ap Some (shape-del w k)
del_keeps w k o (j ∷ q) n = del_at w k j q o n

-- ---- a new length

sized_kept : (m n : ℕ) (vs : List Value) (i : Option ℕ) → m ≤ n → m ≤ length vs → from_at m i ≡ false → at_index (sized n vs) i ≡ at_index vs i
sized_kept m n vs None b c e = refl
sized_kept m n vs (Some j) b c e =
    let l : j < m = grind (arith, common_steps) in
    nth-sized n vs j (omega arith) (nth-within vs j (omega arith))

arrays_at : (vs ws : List Value) (k : List ℕ) (q : Place) → at_index vs (index_of k) ≡ at_index ws (index_of k) →
    look (child (roll-Value (Value-F.Array vs)) k) q ≡ look (child (roll-Value (Value-F.Array ws)) k) q
arrays_at vs ws k q h = rw (child_array vs k, child_array ws k, h) refl

pub sized_keeps : (m n : ℕ) (is : List Value) → m ≤ n → m ≤ length is → (q : Place) → from_index m q ≡ false → look (Some (roll-Value (Value-F.Array (sized n is)))) q ≡ look (Some (roll-Value (Value-F.Array is))) q
unfolding look
sized_keeps m n is b c [] e = ap Some (shape_array (sized n is) ∙ sym (shape_array is))
sized_keeps m n is b c (k ∷ q) e = arrays_at (sized n is) is k q (sized_kept m n is (index_of k) b c e)

-- ---- a step of a way

pub step_keeps : (p : Part) (w b cw : Value) → child (put w (key_of p) b) (key_of p) ≡ Some b → child w (key_of p) ≡ Some cw →
    (c : Place → Bool) → ((q : Place) → c q ≡ false → look (Some b) q ≡ look (Some cw) q) →
    (j : List ℕ) (q : Place) → bytes_eq (key_of p) j && c q ≡ false → (bytes_eq (key_of p) j ≡ true) ⊎ (bytes_eq (key_of p) j ≡ false) →
    look (child (put w (key_of p) b) j) q ≡ look (child w j) q
step_keeps p w b cw t e c h j q n (inl s) =
    subst (λ (k : List ℕ). look (child (put w (key_of p) b) k) q ≡ look (child w k) q) (same_name (key_of p) j s)
    (both_kept _ _ (Some b) (Some cw) q t e (h q (grind arith)))
step_keeps p w b cw t e c h j q n (inr s) = put_else w (key_of p) j b q (λ m. within_reach w (key_of p) j (λ z. cc) m) s
