-- When two levels are equal up to the order of fields.
use Rattle.std.proofs.Common.{◌≡◌, ℕ, zero, suc, ◌+◌, ◌<◌, ◌≤◌, List, [], ◌∷◌, length, map, take, get_or, Bool, true, false, refl, sym, ap, ◌∙◌, subst, Option, Some, None, inl, inr, arith}
use Rattle.std.specs.Prelude.{option_map, ◌↔◌, IsSome, IsTrue}
use Rattle.std.specs.Str.{bytes_eq}
use Rattle.std.proofs.lemmas.Slice.Eq.{bytes_eq-Decides}
use Rattle.std.proofs.lemmas.Bool.{cases_Bool}
use Rattle.bson_value.specs.declared.value.Value.{Value, Value-F, out-Value, roll-Value, out-roll-Value, roll-out-Value, fold-roll-Value}
use Rattle.bson_value.specs.declared.value.Value.TheVariants.{Object, Array, ScopedCode, rolls-Object, rolls-Array, rolls-ScopedCode, outs-Object, outs-Array, outs-ScopedCode}
use Rattle.containers.specs.Entries.{IsAbsent, AreDistinct, names_of, lookup, without}
use Rattle.containers.proofs.Entries.{lookup-without_ne, own_name, absent_none, fewer}
use Rattle.bson_value.specs.Place.{a_leaf, an_array, an_object, a_code, shape_in, shape}
use Rattle.bson_value.specs.Alike.{by_name, ordered_step, ordered, ordered_fields, HasAlike, ◌~◌}
use Rattle.bson_value.proofs.Alike.{lookup-map, lookup-by_name, same-by_name, shape-ordered, object_in, code_in, leaf_in}
use Rattle.bson_value.proofs.Child.{array_in}

abbrev Entry : Type 0
Entry = List ℕ × Value

-- a name of the first list that is not in the second leaves out one of the second
module _ {A B : Type 0} where
  abbrev pub Within : List (List ℕ × A) → List (List ℕ × B) → Type 0
  Within fs gs = (k : List ℕ) → IsSome (lookup k fs) → IsSome (lookup k gs)

  -- the others of the first list are in what is left of the second
  others : (e : List ℕ × A) (es : List (List ℕ × A)) (gs : List (List ℕ × B)) → IsAbsent e.0 (names_of es) → Within (e ∷ es) gs → Within es (without e.0 gs)
  others e es gs a w k s =
      elim (cases_Bool (bytes_eq e.0 k)) [
        | inl h ↦ let t : lookup k es ≡ None = absent_none k es (subst (λ (m : List ℕ). IsAbsent m (names_of es)) ((bytes_eq-Decides e.0 k).0 h) a) in absurd (none_not k es t s)
        | inr h ↦ let u : IsSome (lookup k gs) = w k (rw h s) in rw (lookup-without_ne gs e.0 k h) u
      ]
    where
      none_not : (k : List ℕ) (es : List (List ℕ × A)) → lookup k es ≡ None → IsSome (lookup k es) → ⊥
      none_not k es t s = let u = rw t at s in cc

  at_first : (e : List ℕ × A) (es : List (List ℕ × A)) (gs : List (List ℕ × B)) → Within (e ∷ es) gs → IsSome (lookup e.0 gs)
  at_first e es gs w = w e.0 (rw (own_name e.0) refl)

  -- a list of distinct names within another is no longer
  no_longer : (fs : List (List ℕ × A)) (gs : List (List ℕ × B)) → AreDistinct (names_of fs) → Within fs gs → length fs ≤ length gs
  no_longer [] gs d w = omega arith
  no_longer (e ∷ es) gs d w = omega (arith, no_longer es (without e.0 gs) d.1 (others e es gs d.0 w), fewer e.0 gs (at_first e es gs w))

  -- and where it is no shorter, it has every name of the other
  has_all : (fs : List (List ℕ × A)) (gs : List (List ℕ × B)) → AreDistinct (names_of fs) → length gs ≤ length fs → Within fs gs → (k : List ℕ) → lookup k fs ≡ None → lookup k gs ≡ None
  has_all [] [] d l w k n = refl
  has_all [] (g ∷ gs) d l w k n = absurd (omega arith)
  has_all (e ∷ es) gs d l w k n =
      elim (cases_Bool (bytes_eq e.0 k)) [
        | inl h ↦ let t : Some e.1 ≡ None = rw h at n in absurd cc
        | inr h ↦
            let rest = has_all es (without e.0 gs) d.1 (omega (arith, fewer e.0 gs (at_first e es gs w))) (others e es gs d.0 w) k (rw h at n) in
            sym (lookup-without_ne gs e.0 k h) ∙ rest
      ]

-- ---- fields

abbrev pub AllAlike : List Entry → List Entry → Type 0
AllAlike [] gs = Unit {0}
AllAlike (e ∷ es) gs = HasAlike e gs × AllAlike es gs

abbrev Same : List Entry → List Entry → Type 0
Same fs gs = by_name (ordered_fields fs) ≡ by_name (ordered_fields gs)

-- what a name names in the second, where it names something in the first
named_too : (fs gs : List Entry) → AllAlike fs gs → (k : List ℕ) (o : Option Value) → lookup k fs ≡ o → (v : Value) → o ≡ Some v → Some (ordered v) ≡ option_map ordered (lookup k gs)
named_too [] gs a k o p v q = let t : None ≡ Some v = p ∙ q in absurd cc
named_too (e ∷ es) gs a k o p v q =
    elim (cases_Bool (bytes_eq e.0 k)) [
      | inl h ↦
          let t : Some e.1 ≡ Some v = (rw h at p) ∙ q in
          let u : e.1 ≡ v = cc in
          subst (λ (m : List ℕ). Some (ordered v) ≡ option_map ordered (lookup m gs)) ((bytes_eq-Decides e.0 k).0 h) (subst (λ (w : Value). Some (ordered w) ≡ option_map ordered (lookup e.0 gs)) u a.0)
      | inr h ↦ named_too es gs a.1 k o (rw h at p) v q
    ]

mapped_some : (o : Option Value) (v : Value) → Some v ≡ option_map ordered o → IsSome o
mapped_some None v h = absurd cc
mapped_some (Some w) v h = refl

within_of : (fs gs : List Entry) → AllAlike fs gs → Within fs gs
within_of fs gs a k s = go (lookup k fs) refl s where
  go : (o : Option Value) → lookup k fs ≡ o → IsSome o → IsSome (lookup k gs)
  go None p s = absurd cc
  go (Some v) p s = mapped_some (lookup k gs) (ordered v) (named_too fs gs a k (Some v) p v refl)

lookups_same : (fs gs : List Entry) → AreDistinct (names_of fs) → length fs ≡ length gs → AllAlike fs gs → (k : List ℕ) (o : Option Value) → lookup k fs ≡ o → option_map ordered o ≡ option_map ordered (lookup k gs)
lookups_same fs gs d l a k (Some v) p = named_too fs gs a k (Some v) p v refl
lookups_same fs gs d l a k None p = ap (option_map ordered) (sym (has_all fs gs d (omega (arith, l)) (within_of fs gs a) k p))

-- each field of the first has its like in the second, and there are as many
pub fields_alike : (fs gs : List Entry) → AreDistinct (names_of fs) → length fs ≡ length gs → AllAlike fs gs → Same fs gs
fields_alike fs gs d l a = same-by_name _ _ (λ k. lookup-map ordered k fs ∙ (lookups_same fs gs d l a k (lookup k fs) refl ∙ sym (lookup-map ordered k gs)))

same_lookups : (fs gs : List Entry) → Same fs gs → (k : List ℕ) → option_map ordered (lookup k fs) ≡ option_map ordered (lookup k gs)
same_lookups fs gs s k =
    sym (lookup-map ordered k fs) ∙ (sym (lookup-by_name k (ordered_fields fs)) ∙ (ap (λ (l : List Entry). lookup k l) s ∙ (lookup-by_name k (ordered_fields gs) ∙ lookup-map ordered k gs)))

-- an entry among others of distinct names
own_lookup : (fs : List Entry) (i : ℕ) (e : Entry) → AreDistinct (names_of fs) → i < length fs → e ≡ get_or fs i e → lookup e.0 fs ≡ Some e.1
own_lookup [] i e d l h = absurd (omega arith)
own_lookup (f ∷ fs) zero e d l h = let p : f.0 ≡ e.0 = ap (λ (x : Entry). x.0) (sym h) in let q : f.1 ≡ e.1 = ap (λ (x : Entry). x.1) (sym h) in rw (p, own_name e.0, q) refl
own_lookup (f ∷ fs) (suc i) e d l h =
    let r = own_lookup fs i e d.1 (omega arith) h in
    elim (cases_Bool (bytes_eq f.0 e.0)) [
      | inl k ↦ let s : lookup e.0 fs ≡ None = absent_none e.0 fs (subst (λ (m : List ℕ). IsAbsent m (names_of fs)) ((bytes_eq-Decides f.0 e.0).0 k) d.0) in let t : Some e.1 ≡ None = sym r ∙ s in absurd cc
      | inr k ↦ rw k r
    ]

-- where the two are alike, each field of the first has its like
pub like_at : (fs gs : List Entry) (i : ℕ) (e : Entry) → AreDistinct (names_of fs) → i < length fs → e ≡ get_or fs i e → Same fs gs → HasAlike e gs
like_at fs gs i e d l h s = sym (ap (option_map ordered) (own_lookup fs i e d l h)) ∙ same_lookups fs gs s e.0

some_of_mapped : (o p : Option Value) → option_map ordered o ≡ option_map ordered p → IsSome o → IsSome p
some_of_mapped None p h s = absurd cc
some_of_mapped (Some v) None h s = absurd cc
some_of_mapped (Some v) (Some w) h s = refl

pub same_count : (fs gs : List Entry) → AreDistinct (names_of fs) → AreDistinct (names_of gs) → Same fs gs → length fs ≡ length gs
same_count fs gs d e s =
    let a = no_longer fs gs d (λ k. some_of_mapped _ _ (same_lookups fs gs s k)) in
    let b = no_longer gs fs e (λ k. some_of_mapped _ _ (sym (same_lookups fs gs s k))) in
    omega arith

-- one more field
pub alike_more : (fs gs : List Entry) (i : ℕ) (e : Entry) → i < length fs → e ≡ get_or fs i e → AllAlike (take i fs) gs → HasAlike e gs → AllAlike (take (i + 1) fs) gs
alike_more fs gs i e l h a k = let n : suc i ≡ i + 1 = omega arith in subst (λ (m : ℕ). AllAlike (take m fs) gs) n (next fs i l h a) where
  next : (fs : List Entry) (i : ℕ) → i < length fs → e ≡ get_or fs i e → AllAlike (take i fs) gs → AllAlike (take (suc i) fs) gs
  next [] i l h a = absurd (omega arith)
  next (f ∷ fs) zero l h a = (subst (λ (x : Entry). HasAlike x gs) h k, tt)
  next (f ∷ fs) (suc i) l h a = (a.0, next fs i (omega arith) h a.1)

pub alike_all : (fs gs : List Entry) (n : ℕ) → length fs ≤ n → AllAlike (take n fs) gs → AllAlike fs gs
alike_all [] gs n l a = tt
alike_all (f ∷ fs) gs zero l a = absurd (omega arith)
alike_all (f ∷ fs) gs (suc n) l a = (a.0, alike_all fs gs n (omega arith) a.1)

-- ---- one level of two values

roll_out : (x y : Value-F Value) → roll-Value x ≡ roll-Value y → x ≡ y
roll_out x y e = sym (out-roll-Value x) ∙ (ap out-Value e ∙ out-roll-Value y)

abbrev mapped_fields : List Entry → Value-F Value
mapped_fields fs = Value-F.Object (by_name (ordered_fields fs))

ordered_object : (fs : List Entry) → ordered (Object fs) ≡ roll-Value (Value-F.Object (by_name (ordered_fields fs)))
unfolding ordered
ordered_object fs = ap (λ (v : Value). ordered v) (sym (rolls-Object fs)) ∙ fold-roll-Value Value ordered_step (Value-F.Object fs)

ordered_code : (t : List ℕ) (fs : List Entry) → ordered (ScopedCode t fs) ≡ roll-Value (Value-F.ScopedCode t (by_name (ordered_fields fs)))
unfolding ordered
ordered_code t fs = ap (λ (v : Value). ordered v) (sym (rolls-ScopedCode t fs)) ∙ fold-roll-Value Value ordered_step (Value-F.ScopedCode t fs)

ordered_array : (vs : List Value) → ordered (Array vs) ≡ roll-Value (Value-F.Array (map ordered vs))
unfolding ordered
ordered_array vs = ap (λ (v : Value). ordered v) (sym (rolls-Array vs)) ∙ fold-roll-Value Value ordered_step (Value-F.Array vs)

pub object_alike : (fs gs : List Entry) → (Object fs ~ Object gs) ↔ Same fs gs
object_alike fs gs = (
  (λ e. let f = roll_out _ _ (sym (ordered_object fs) ∙ (e ∙ ordered_object gs)) in cc),
  (λ e. ordered_object fs ∙ (ap (λ (l : List Entry). roll-Value (Value-F.Object l)) e ∙ sym (ordered_object gs))),
)

pub array_alike : (vs ws : List Value) → (Array vs ~ Array ws) ↔ (map ordered vs ≡ map ordered ws)
array_alike vs ws = (
  (λ e. let f = roll_out _ _ (sym (ordered_array vs) ∙ (e ∙ ordered_array ws)) in cc),
  (λ e. ordered_array vs ∙ (ap (λ (l : List Value). roll-Value (Value-F.Array l)) e ∙ sym (ordered_array ws))),
)

pub code_alike : (t u : List ℕ) (fs gs : List Entry) → (ScopedCode t fs ~ ScopedCode u gs) ↔ ((t ≡ u) × Same fs gs)
code_alike t u fs gs = (
  (λ e. let f = roll_out _ _ (sym (ordered_code t fs) ∙ (e ∙ ordered_code u gs)) in (cc, cc)),
  (λ e. ordered_code t fs ∙ (ap (λ (l : List Entry). roll-Value (Value-F.ScopedCode t l)) e.1 ∙ (ap (λ (x : List ℕ). roll-Value (Value-F.ScopedCode x (by_name (ordered_fields gs)))) e.0 ∙ sym (ordered_code u gs)))),
)

-- ---- two values of different kinds

same_shape : (a b : Value) → a ~ b → shape a ≡ shape b
same_shape a b e = sym (shape-ordered a) ∙ (ap shape e ∙ shape-ordered b)

shape_of_object : (fs : List Entry) → shape (Object fs) ≡ an_object
unfolding shape
shape_of_object fs = ap shape_in (outs-Object fs)

shape_of_array : (vs : List Value) → shape (Array vs) ≡ an_array
unfolding shape
shape_of_array vs = ap shape_in (outs-Array vs)

shape_of_code : (t : List ℕ) (fs : List Entry) → shape (ScopedCode t fs) ≡ a_code t
unfolding shape
shape_of_code t fs = ap shape_in (outs-ScopedCode t fs)

pub object_unlike : (fs : List Entry) (b : Value) → ((gs : List Entry) → b ≡ Object gs → ⊥) → Object fs ~ b → ⊥
unfolding shape
object_unlike fs b not e =
    let g = object_in (out-Value b) (sym (shape_of_object fs) ∙ same_shape (Object fs) b e) in
    not g.0 (sym (roll-out-Value b) ∙ (ap roll-Value g.1 ∙ rolls-Object g.0))

pub array_unlike : (vs : List Value) (b : Value) → ((ws : List Value) → b ≡ Array ws → ⊥) → Array vs ~ b → ⊥
unfolding shape
array_unlike vs b not e =
    let g = array_in (out-Value b) (sym (sym (shape_of_array vs) ∙ same_shape (Array vs) b e)) in
    not g.0 (sym (roll-out-Value b) ∙ (ap roll-Value g.1 ∙ rolls-Array g.0))

pub code_unlike : (t : List ℕ) (fs : List Entry) (b : Value) → ((u : List ℕ) (gs : List Entry) → b ≡ ScopedCode u gs → ⊥) → ScopedCode t fs ~ b → ⊥
unfolding shape
code_unlike t fs b not e =
    let g = code_in t (out-Value b) (sym (shape_of_code t fs) ∙ same_shape (ScopedCode t fs) b e) in
    not t g.0 (sym (roll-out-Value b) ∙ (ap roll-Value g.1 ∙ rolls-ScopedCode t g.0))

-- the kind of a leaf
leaf_shape : (a : Value) (f : Value-F Value) → roll-Value f ≡ a → ((fs : List Entry) → a ≡ Object fs → ⊥) → ((vs : List Value) → a ≡ Array vs → ⊥) → ((t : List ℕ) (fs : List Entry) → a ≡ ScopedCode t fs → ⊥) → shape_in f ≡ a_leaf f
leaf_shape a (Value-F.Object fs) e o v c = absurd (o fs (sym e ∙ rolls-Object fs))
leaf_shape a (Value-F.Array vs) e o v c = absurd (v vs (sym e ∙ rolls-Array vs))
leaf_shape a (Value-F.ScopedCode t fs) e o v c = absurd (c t fs (sym e ∙ rolls-ScopedCode t fs))
leaf_shape a _ e o v c = refl

pub leaf_alike : (a b : Value) → ((fs : List Entry) → a ≡ Object fs → ⊥) → ((vs : List Value) → a ≡ Array vs → ⊥) → ((t : List ℕ) (fs : List Entry) → a ≡ ScopedCode t fs → ⊥) → a ~ b → a ≡ b
unfolding shape
leaf_alike a b o v c e =
    let k = leaf_shape a (out-Value a) (roll-out-Value a) o v c in
    let g = leaf_in (out-Value a) (out-Value b) (sym k ∙ same_shape a b e) in
    sym (roll-out-Value a) ∙ (ap roll-Value (sym g) ∙ roll-out-Value b)

-- ---- what the walk answers

pub never : {P : Type 0} → (P → ⊥) → IsTrue false ↔ P
never n = ((λ e. absurd cc), (λ p. absurd (n p)))

via : {P Q : Type 0} (r : Bool) → P ↔ Q → IsTrue r ↔ Q → IsTrue r ↔ P
via r f g = ((λ e. f.1 (g.0 e)), (λ p. g.1 (f.0 p)))

along : (a b x y : Value) (r : Bool) → a ≡ x → b ≡ y → IsTrue r ↔ (x ~ y) → IsTrue r ↔ (a ~ b)
along a b x y r p q h = subst (λ (v : Value). IsTrue r ↔ (v ~ b)) (sym p) (subst (λ (w : Value). IsTrue r ↔ (x ~ w)) (sym q) h)

pub answer_object : (a b : Value) (fs gs : List Entry) (r : Bool) → a ≡ Object fs → b ≡ Object gs → IsTrue r ↔ Same fs gs → IsTrue r ↔ (a ~ b)
answer_object a b fs gs r p q h = along a b _ _ r p q (via r (object_alike fs gs) h)

pub answer_array : (a b : Value) (vs ws xs ys : List Value) (r : Bool) → a ≡ Array vs → b ≡ Array ws → xs ≡ vs → ys ≡ ws → IsTrue r ↔ (map ordered xs ≡ map ordered ys) → IsTrue r ↔ (a ~ b)
answer_array a b vs ws xs ys r p q x y h =
    along a b _ _ r p q (via r (array_alike vs ws) (subst (λ (l : List Value). IsTrue r ↔ (map ordered l ≡ map ordered ws)) x (subst (λ (l : List Value). IsTrue r ↔ (map ordered xs ≡ map ordered l)) y h)))

same_text : (t u x y : List ℕ) (e : Bool) → x ≡ t → y ≡ u → e ≡ bytes_eq x y → e ≡ true → t ≡ u
same_text t u x y e p q is true_ = sym p ∙ ((bytes_eq-Decides x y).0 (sym is ∙ true_) ∙ q)

other_text : (t u x y : List ℕ) (e : Bool) → x ≡ t → y ≡ u → e ≡ bytes_eq x y → e ≡ false → t ≡ u → ⊥
other_text t u x y e p q is false_ s = let k : bytes_eq x y ≡ true = (bytes_eq-Decides x y).1 (p ∙ (s ∙ sym q)) in let m : false ≡ true = sym false_ ∙ (is ∙ k) in cc

pub answer_code : (a b : Value) (t u x y : List ℕ) (fs gs : List Entry) (e r : Bool) → a ≡ ScopedCode t fs → b ≡ ScopedCode u gs → x ≡ t → y ≡ u → e ≡ bytes_eq x y → e ≡ true → IsTrue r ↔ Same fs gs → IsTrue r ↔ (a ~ b)
answer_code a b t u x y fs gs e r p q tx uy is same_ h =
    along a b _ _ r p q (via r (code_alike t u fs gs) ((λ k. (same_text t u x y e tx uy is same_, h.0 k)), (λ k. h.1 k.1)))

pub answer_code_not : (a b : Value) (t u x y : List ℕ) (fs gs : List Entry) (e : Bool) → a ≡ ScopedCode t fs → b ≡ ScopedCode u gs → x ≡ t → y ≡ u → e ≡ bytes_eq x y → e ≡ false → IsTrue e ↔ (a ~ b)
answer_code_not a b t u x y fs gs e p q tx uy is failed =
    subst (λ (r : Bool). IsTrue r ↔ (a ~ b)) (sym failed) (along a b _ _ false p q (via false (code_alike t u fs gs) (never (λ k. other_text t u x y e tx uy is failed k.0))))

pub answer_unlike : (a b x : Value) → a ≡ x → (x ~ b → ⊥) → IsTrue false ↔ (a ~ b)
answer_unlike a b x p n = along a b x b false p refl (never n)

pub answer_leaf : (a b : Value) (r : Bool) → ((fs : List Entry) → a ≡ Object fs → ⊥) → ((vs : List Value) → a ≡ Array vs → ⊥) → ((t : List ℕ) (fs : List Entry) → a ≡ ScopedCode t fs → ⊥) → IsTrue r ↔ (a ≡ b) → IsTrue r ↔ (a ~ b)
answer_leaf a b r o v c h = via r ((λ e. leaf_alike a b o v c e), (λ e. ap ordered e)) h

pub fields_fail : (fs gs es : List Entry) (i : ℕ) (e : Entry) (r : Bool) → es ≡ fs → AreDistinct (names_of fs) → i < length es → e ≡ get_or es i e → r ≡ false → IsTrue r ↔ HasAlike e gs → IsTrue false ↔ Same fs gs
fields_fail fs gs es i e r is d l at failed h =
    never (λ s. let k = h.1 (like_at fs gs i e d (subst (λ (x : List Entry). i < length x) is l) (subst (λ (x : List Entry). e ≡ get_or x i e) is at) s) in let m : false ≡ true = sym failed ∙ k in cc)

pub fields_end : (fs gs es : List Entry) (i : ℕ) → es ≡ fs → AreDistinct (names_of fs) → length fs ≡ length gs → length es ≤ i → AllAlike (take i es) gs → IsTrue true ↔ Same fs gs
fields_end fs gs es i is d n l a = ((λ e. fields_alike fs gs d n (subst (λ (x : List Entry). AllAlike x gs) is (alike_all es gs i l a))), (λ e. refl))

items_at : (vs ws : List Value) (i : ℕ) (v w : Value) → i < length vs → length vs ≡ length ws → v ≡ get_or vs i v → w ≡ get_or ws i w → map ordered vs ≡ map ordered ws → v ~ w
items_at [] ws i v w l n p q e = absurd (omega arith)
items_at (x ∷ vs) [] i v w l n p q e = absurd (omega arith)
items_at (x ∷ vs) (y ∷ ws) zero v w l n p q e = let h : ordered x ≡ ordered y = cc in ap ordered p ∙ (h ∙ sym (ap ordered q))
items_at (x ∷ vs) (y ∷ ws) (suc i) v w l n p q e = let t : map ordered vs ≡ map ordered ws = cc in items_at vs ws i v w (omega arith) (omega (arith, n)) p q t

pub items_fail : (vs ws : List Value) (i : ℕ) (v w : Value) (r : Bool) → i < length vs → length vs ≡ length ws → v ≡ get_or vs i v → w ≡ get_or ws i w → r ≡ false → IsTrue r ↔ (v ~ w) → IsTrue false ↔ (map ordered vs ≡ map ordered ws)
items_fail vs ws i v w r l n p q failed h = never (λ e. let k = h.1 (items_at vs ws i v w l n p q e) in let m : false ≡ true = sym failed ∙ k in cc)

pub items_more : (vs ws : List Value) (i : ℕ) (v w : Value) → i < length vs → length vs ≡ length ws → v ≡ get_or vs i v → w ≡ get_or ws i w → v ~ w → take i (map ordered vs) ≡ take i (map ordered ws) → take (i + 1) (map ordered vs) ≡ take (i + 1) (map ordered ws)
items_more vs ws i v w l n p q s t = let k : suc i ≡ i + 1 = omega arith in subst (λ (m : ℕ). take m (map ordered vs) ≡ take m (map ordered ws)) k (next vs ws i l n p q t) where
  next : (vs ws : List Value) (i : ℕ) → i < length vs → length vs ≡ length ws → v ≡ get_or vs i v → w ≡ get_or ws i w → take i (map ordered vs) ≡ take i (map ordered ws) → take (suc i) (map ordered vs) ≡ take (suc i) (map ordered ws)
  next [] ws i l n p q t = absurd (omega arith)
  next (x ∷ vs) [] i l n p q t = absurd (omega arith)
  next (x ∷ vs) (y ∷ ws) zero l n p q t = let h : ordered x ≡ ordered y = sym (ap ordered p) ∙ (s ∙ ap ordered q) in ap (λ (z : Value). z ∷ []) h
  next (x ∷ vs) (y ∷ ws) (suc i) l n p q t =
      let h : ordered x ≡ ordered y = cc in
      let u : take i (map ordered vs) ≡ take i (map ordered ws) = cc in
      let r = next vs ws i (omega arith) (omega (arith, n)) p q u in
      ap (λ (z : Value). z ∷ take (suc i) (map ordered vs)) h ∙ ap (λ (z : List Value). ordered y ∷ z) r
