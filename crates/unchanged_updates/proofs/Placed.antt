-- What stands at a path before and after a change there.
use Rattle.std.proofs.Common.{◌≡◌, ℕ, List, [], ◌∷◌, true, refl, sym, ap, ◌∙◌, subst, Option, Some, None}
use Rattle.std.specs.Prelude.{⊤}
use Rattle.bson_value.specs.declared.value.Value.{Value, Object}
use Rattle.bson_value.specs.declared.value.Value.TheVariants.{outs-Object}
use Rattle.bson_value.specs.Place.{an_object, shape, child, put, del, value_at}
use Rattle.bson_value.proofs.Child.{name_refl, shape-del, del_object}
use Rattle.doc_path.specs.declared.parts.Part.{Part}
use Rattle.doc_path.specs.declared.parts.Part.TheVariants.{Name as name, Index as index}
use Rattle.doc_path.specs.declared.parts.Form.TheVariants.{V2}
use Rattle.doc_path.specs.declared.parts.Change.TheVariants.{Put, Delete, Resize as Length}
use Rattle.doc_path.specs.Touch.{key_of, takes, changed, last_step, resize_here}
use Rattle.touch_laws.proofs.Replay.{walk_on, takes-put, set_on, unset_on}
use Rattle.update_model.specs.Conflicts.{Path}
use Rattle.update_model.specs.Located.{Located, There, Missing, Blocked, part_at, within, further, located_under, located_at, located, build}
use Rattle.update_model.proofs.ActSteps.{part_takes}
use Rattle.update_model.proofs.MarkTheory.{an_object_by}
use Rattle.unchanged_updates.proofs.Beside.{held, IsFirm, on_way}

pub firm_if_there : (P : Path) (v a : Value) → value_at (Some v) P ≡ Some a → IsFirm P v
unfolding value_at
firm_if_there [] v a e = tt
firm_if_there (k ∷ ks) v a e = by (child v k) e (firm_if_there ks)
  where
    by : (o : Option Value) → value_at o ks ≡ Some a → ((c b : Value) → value_at (Some c) ks ≡ Some b → IsFirm ks c) → held ks (IsFirm ks) (shape v) o
    by None e h = cc
    by (Some c) e h = h c a e

child_alone : (k : List ℕ) (a : Value) → child (Object ((k, a) ∷ [])) k ≡ Some a
unfolding child
child_alone k a = rw (outs-Object ((k, a) ∷ []), name_refl k) refl

built : (ks : Path) (a : Value) → value_at (Some (build ks a)) ks ≡ Some a
unfolding value_at
built [] a = refl
built (k ∷ ks) a = ap (λ (o : Option Value). value_at o ks) (child_alone k (build ks a)) ∙ built ks a

-- a document lacks the last name of the path
pub record Lacks (K : Path) (w : Value) : Type 0 where
  pub gone : value_at (Some w) K ≡ None
  pub firm : IsFirm K w

-- the value there, and what stands there after a change
pub record Holds (ws : List Part) (p : Part) (c : Value) (K : Path) (v : Value) : Type 0 where
  pub now : value_at (Some v) K ≡ Some c
  pub put_there : (a : Value) → value_at (Some (changed V2 ws p (Put a) v)) K ≡ Some a
  pub taken_out : (k : List ℕ) → p ≡ name k → Lacks K (changed V2 ws p Delete v)
  pub cut_there : (n : ℕ) → value_at (Some (changed V2 ws p (Length n) v)) K ≡ Some (resize_here n c)

-- nothing stands there, and what is made there
pub record Makes (ws : List Part) (p : Part) (ks : Path) (K : Path) (v : Value) : Type 0 where
  pub now : value_at (Some v) K ≡ None
  pub made_there : (a : Value) → value_at (Some (changed V2 ws p (Put (build ks a)) v)) K ≡ Some a

abbrev pub Placed : Located → Path → Value → Type 0
Placed (There ws p c) K v = Holds ws p c K v
Placed (Missing ws p n ks) K v = Makes ws p ks K v
Placed Blocked K v = ⊤

-- ---- at the end of a path

-- the child under a key, and what stands there then
at_key : (k : List ℕ) (ks : Path) (v : Value) (o : Option Value) → child v k ≡ o → value_at (Some v) (k ∷ ks) ≡ value_at o ks
unfolding value_at
at_key k ks v o e = ap (λ (z : Option Value). value_at z ks) e

end_there : (a : Value) → value_at (Some a) [] ≡ Some a
unfolding value_at
end_there a = refl

nothing_behind : (ks : Path) → value_at None ks ≡ None
unfolding value_at
nothing_behind [] = refl
nothing_behind (k ∷ ks) = refl

put_key : (p : Part) (ks : Path) (v a : Value) → takes V2 p (shape v) ≡ true → value_at (Some (put v (key_of p) a)) (key_of p ∷ ks) ≡ value_at (Some a) ks
put_key p ks v a t = at_key (key_of p) ks (put v (key_of p) a) (Some a) (takes-put V2 p v a t)

taken_last : (p : Part) (v : Value) → takes V2 p (shape v) ≡ true → (k : List ℕ) → p ≡ name k → Lacks (key_of p ∷ []) (last_step V2 p Delete v)
taken_last (index i) v t k e = cc
taken_last (name j) v t k e =
    let o : shape v ≡ an_object = an_object_by j (shape v) t in
    let none : child (del v j) j ≡ None = del_object v j o in
    subst (λ (w : Value). Lacks (j ∷ []) w) (sym (unset_on V2 (name j) v t))
    (record {
      gone = at_key j [] (del v j) None none ∙ nothing_behind [];
      firm = subst (λ (z : Option Value). held [] (IsFirm []) (shape (del v j)) z) (sym none) (shape-del v j ∙ o);
    })

ends_there : (p : Part) (v c : Value) → takes V2 p (shape v) ≡ true → child v (key_of p) ≡ Some c → Holds [] p c (key_of p ∷ []) v
ends_there p v c t e = record {
  now = at_key (key_of p) [] v (Some c) e ∙ end_there c;
  put_there = λ a. ap (λ (w : Value). value_at (Some w) (key_of p ∷ [])) (set_on V2 p a v t) ∙ (put_key p [] v a t ∙ end_there a);
  taken_out = taken_last p v t;
  cut_there = λ n. ap (λ (w : Value). value_at (Some w) (key_of p ∷ [])) (walk_on V2 None p [] (resize_here n) v c t (rw e refl)) ∙ (put_key p [] v (resize_here n c) t ∙ end_there (resize_here n c));
}

ends_missing : (p : Part) (ks : Path) (v : Value) → takes V2 p (shape v) ≡ true → child v (key_of p) ≡ None → Makes [] p ks (key_of p ∷ ks) v
ends_missing p ks v t e = record {
  now = at_key (key_of p) ks v None e ∙ nothing_behind ks;
  made_there = λ a. ap (λ (w : Value). value_at (Some w) (key_of p ∷ ks)) (set_on V2 p (build ks a) v t) ∙ (put_key p ks v (build ks a) t ∙ built ks a);
}

-- ---- further on the way

lacks_under : (p : Part) (ks : Path) (v d : Value) → takes V2 p (shape v) ≡ true → Lacks ks d → Lacks (key_of p ∷ ks) (put v (key_of p) d)
lacks_under p ks v d t l = record {
  gone = put_key p ks v d t ∙ l.gone;
  firm = subst (λ (z : Option Value). held ks (IsFirm ks) (shape (put v (key_of p) d)) z) (sym (takes-put V2 p v d t)) l.firm;
}

placed_under : (p : Part) (ks : Path) (v c : Value) (l : Located) → takes V2 p (shape v) ≡ true → child v (key_of p) ≡ Some c → Placed l ks c → Placed (within p l) (key_of p ∷ ks) v
placed_under p ks v c (There ws q d) t e h = record {
  now = at_key (key_of p) ks v (Some c) e ∙ h.now;
  put_there = λ a. ap (λ (w : Value). value_at (Some w) (key_of p ∷ ks)) (on_way p ws q (Put a) v c t e) ∙ (put_key p ks v (changed V2 ws q (Put a) c) t ∙ h.put_there a);
  taken_out = λ k i. subst (λ (w : Value). Lacks (key_of p ∷ ks) w) (sym (on_way p ws q Delete v c t e)) (lacks_under p ks v (changed V2 ws q Delete c) t (h.taken_out k i));
  cut_there = λ n. ap (λ (w : Value). value_at (Some w) (key_of p ∷ ks)) (on_way p ws q (Length n) v c t e) ∙ (put_key p ks v (changed V2 ws q (Length n) c) t ∙ h.cut_there n);
}
placed_under p ks v c (Missing ws q n xs) t e h = record {
  now = at_key (key_of p) ks v (Some c) e ∙ h.now;
  made_there = λ a. ap (λ (w : Value). value_at (Some w) (key_of p ∷ ks)) (on_way p ws q (Put (build xs a)) v c t e) ∙ (put_key p ks v (changed V2 ws q (Put (build xs a)) c) t ∙ h.made_there a);
}
placed_under p ks v c Blocked t e h = tt

pub placed : (K : Path) (v : Value) → Placed (located K v) K v
placed [] v = tt
placed (k ∷ ks) v = by (part_at k v) refl (placed ks)
  where
    into_part : (p : Part) (c : Value) → takes V2 p (shape v) ≡ true → child v (key_of p) ≡ Some c → (xs : Path) → ((d : Value) → Placed (located xs d) xs d) → Placed (further xs (located xs) p c) (key_of p ∷ xs) v
    into_part p c t g [] h = ends_there p v c t g
    into_part p c t g (y ∷ xs) h = placed_under p (y ∷ xs) v c (located (y ∷ xs) c) t g (h c)

    under_part : (p : Part) (o : Option Value) → takes V2 p (shape v) ≡ true → child v (key_of p) ≡ o → ((d : Value) → Placed (located ks d) ks d) → Placed (located_under (further ks (located ks)) ks v p o) (key_of p ∷ ks) v
    under_part p None t g h = ends_missing p ks v t g
    under_part p (Some c) t g h = into_part p c t g ks h

    by : (o : Option Part) → part_at k v ≡ o → ((d : Value) → Placed (located ks d) ks d) → Placed (located_at (further ks (located ks)) ks v o) (k ∷ ks) v
    by None h ih = tt
    by (Some p) h ih =
        subst (λ (z : List ℕ). Placed (located_under (further ks (located ks)) ks v p (child v (key_of p))) (z ∷ ks) v) (part_takes k v p h).1
        (under_part p (child v (key_of p)) (part_takes k v p h).0 refl ih)
