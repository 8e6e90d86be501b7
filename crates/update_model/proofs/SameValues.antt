-- The test of equality answers whether two values are equal.
use Rattle.std.proofs.Common.{◌≡◌, ℕ, List, [], ◌∷◌, Bool, true, false, refl, sym, ap, ◌∙◌, subst, map, arith, inl, inr}
use Rattle.std.specs.Prelude.{◌&&◌, ◌==◌, ◌↔◌, IsTrue}
use Rattle.std.specs.Str.{bytes_eq}
use Rattle.std.proofs.lemmas.Bool.{cases_Bool, and_parts}
use Rattle.std.proofs.lemmas.Bool.Decides.{Decides-int_eq}
use Rattle.std.proofs.lemmas.Grind.{common_steps}
use Rattle.bson_value.specs.declared.value.Value.{Value, Value-F, out-Value, roll-Value, out-roll-Value, roll-out-Value, fold-roll-Value, map-Value, ind-Value}
use Rattle.bson_value.specs.declared.value.Ts.{Ts}
use Rattle.update_model.specs.Laws.{SameIsEqual}
use Rattle.update_model.specs.Equality.{Test, same_bool, same_items, same_fields, same_level, same_step, same}
use Rattle.bson_value.proofs.Child.{same_name, name_refl}

both : (a b : Bool) → a ≡ true → b ≡ true → a && b ≡ true
both a b x y = rw (x, y) refl

truths : (a b : Bool) → same_bool a b ≡ true → a ≡ b
truths true b e = sym e
truths false true e = cc
truths false false e = refl

own_truth : (a : Bool) → same_bool a a ≡ true
own_truth true = refl
own_truth false = refl

pub number : (a b : ℕ) → (a == b) ≡ true → a ≡ b
number a b e = grind (arith, common_steps)

own_number : (a : ℕ) → (a == a) ≡ true
own_number a = grind (arith, common_steps)

-- ---- equal to what the test says yes of

abbrev Tells : Value → Type 0
Tells a = ((b : Value) → same a b ≡ true → a ≡ b) × (same a a ≡ true)

abbrev Told : Type 0
Told = (a : Value) × Tells a

abbrev value : Told → Value
value t = t.0

abbrev test : Told → Test
test t = same t.0

abbrev field_value : List ℕ × Told → List ℕ × Value
field_value f = (f.0, value f.1)

abbrev field_test : List ℕ × Told → List ℕ × Test
field_test f = (f.0, test f.1)

items : (ts : List Told) (vs : List Value) → same_items (map test ts) vs ≡ true → map value ts ≡ vs
items [] [] e = refl
items [] (v ∷ vs) e = cc
items (t ∷ ts) [] e = cc
items (t ∷ ts) (v ∷ vs) e = let h = and_parts (same t.0 v) (same_items (map test ts) vs) e in λ i. t.1.0 v h.0 i ∷ items ts vs h.1 i

own_items : (ts : List Told) → same_items (map test ts) (map value ts) ≡ true
own_items [] = refl
own_items (t ∷ ts) = both (same t.0 t.0) (same_items (map test ts) (map value ts)) t.1.1 (own_items ts)

fields : (ts : List (List ℕ × Told)) (gs : List (List ℕ × Value)) → same_fields (map field_test ts) gs ≡ true → map field_value ts ≡ gs
fields [] [] e = refl
fields [] (g ∷ gs) e = cc
fields (t ∷ ts) [] e = cc
fields (t ∷ ts) (g ∷ gs) e =
    let h = and_parts (bytes_eq t.0 g.0 && same t.1.0 g.1) (same_fields (map field_test ts) gs) e in
    let k = and_parts (bytes_eq t.0 g.0) (same t.1.0 g.1) h.0 in
    λ i. (same_name t.0 g.0 k.0 i, t.1.1.0 g.1 k.1 i) ∷ fields ts gs h.1 i

own_fields : (ts : List (List ℕ × Told)) → same_fields (map field_test ts) (map field_value ts) ≡ true
own_fields [] = refl
own_fields (t ∷ ts) = both (bytes_eq t.0 t.0 && same t.1.0 t.1.0) (same_fields (map field_test ts) (map field_value ts)) (both (bytes_eq t.0 t.0) (same t.1.0 t.1.0) (name_refl t.0) t.1.1.1) (own_fields ts)

abbrev values_at : Value-F Told → Value-F Value
values_at y = map-Value Told Value value y

abbrev tests_at : Value-F Told → Value-F Test
tests_at y = map-Value Told Test test y

stamps : (a b : Ts) → (a.secs == b.secs) && (a.inc == b.inc) ≡ true → a ≡ b
stamps a b e = let h = and_parts (a.secs == b.secs) (a.inc == b.inc) e in λ i. record { secs = number a.secs b.secs h.0 i; inc = number a.inc b.inc h.1 i }

level : (y : Value-F Told) (g : Value-F Value) → same_level (tests_at y) g ≡ true → values_at y ≡ g
level (Value-F.Double a) (Value-F.Double b) e = ap Value-F.Double (same_name a b e)
level (Value-F.Str a) (Value-F.Str b) e = ap Value-F.Str (same_name a b e)
level (Value-F.Object ts) (Value-F.Object gs) e = ap Value-F.Object (fields ts gs e)
level (Value-F.Array ts) (Value-F.Array vs) e = ap Value-F.Array (items ts vs e)
level (Value-F.Binary s a) (Value-F.Binary t b) e = let h = and_parts (s == t) (bytes_eq a b) e in λ i. Value-F.Binary (number s t h.0 i) (same_name a b h.1 i)
level Value-F.Undefined Value-F.Undefined e = refl
level (Value-F.Oid a) (Value-F.Oid b) e = ap Value-F.Oid (same_name a b e)
level (Value-F.Bool a) (Value-F.Bool b) e = ap Value-F.Bool (truths a b e)
level (Value-F.Date a) (Value-F.Date b) e = ap Value-F.Date ((Decides-int_eq a b).0 e)
level Value-F.Null Value-F.Null e = refl
level (Value-F.Regex p o) (Value-F.Regex q r) e = let h = and_parts (bytes_eq p q) (bytes_eq o r) e in λ i. Value-F.Regex (same_name p q h.0 i) (same_name o r h.1 i)
level (Value-F.DbPointer n a) (Value-F.DbPointer m b) e = let h = and_parts (bytes_eq n m) (bytes_eq a b) e in λ i. Value-F.DbPointer (same_name n m h.0 i) (same_name a b h.1 i)
level (Value-F.Code a) (Value-F.Code b) e = ap Value-F.Code (same_name a b e)
level (Value-F.Symbol a) (Value-F.Symbol b) e = ap Value-F.Symbol (same_name a b e)
level (Value-F.ScopedCode a ts) (Value-F.ScopedCode b gs) e = let h = and_parts (bytes_eq a b) (same_fields (map field_test ts) gs) e in λ i. Value-F.ScopedCode (same_name a b h.0 i) (fields ts gs h.1 i)
level (Value-F.Int a) (Value-F.Int b) e = ap Value-F.Int ((Decides-int_eq a b).0 e)
level (Value-F.Stamp a) (Value-F.Stamp b) e = ap Value-F.Stamp (stamps a b e)
level (Value-F.Long a) (Value-F.Long b) e = ap Value-F.Long ((Decides-int_eq a b).0 e)
level (Value-F.Decimal a) (Value-F.Decimal b) e = ap Value-F.Decimal (same_name a b e)
level Value-F.MinKey Value-F.MinKey e = refl
level Value-F.MaxKey Value-F.MaxKey e = refl
level _ _ e = cc

own_level : (y : Value-F Told) → same_level (tests_at y) (values_at y) ≡ true
own_level (Value-F.Double a) = name_refl a
own_level (Value-F.Str a) = name_refl a
own_level (Value-F.Object ts) = own_fields ts
own_level (Value-F.Array ts) = own_items ts
own_level (Value-F.Binary s a) = both (s == s) (bytes_eq a a) (own_number s) (name_refl a)
own_level Value-F.Undefined = refl
own_level (Value-F.Oid a) = name_refl a
own_level (Value-F.Bool a) = own_truth a
own_level (Value-F.Date a) = (Decides-int_eq a a).1 refl
own_level Value-F.Null = refl
own_level (Value-F.Regex p o) = both (bytes_eq p p) (bytes_eq o o) (name_refl p) (name_refl o)
own_level (Value-F.DbPointer n a) = both (bytes_eq n n) (bytes_eq a a) (name_refl n) (name_refl a)
own_level (Value-F.Code a) = name_refl a
own_level (Value-F.Symbol a) = name_refl a
own_level (Value-F.ScopedCode a ts) = both (bytes_eq a a) (same_fields (map field_test ts) (map field_value ts)) (name_refl a) (own_fields ts)
own_level (Value-F.Int a) = (Decides-int_eq a a).1 refl
own_level (Value-F.Stamp a) = both (a.secs == a.secs) (a.inc == a.inc) (own_number a.secs) (own_number a.inc)
own_level (Value-F.Long a) = (Decides-int_eq a a).1 refl
own_level (Value-F.Decimal a) = name_refl a
own_level Value-F.MinKey = refl
own_level Value-F.MaxKey = refl

-- the level of a value whose parts are told, as the fold sees it
folded : (y : Value-F Told) → map-Value Value Test same (values_at y) ≡ tests_at y
folded (Value-F.Object ts) = ap Value-F.Object (again ts)
  where
    again : (ts : List (List ℕ × Told)) → map (λ f. (f.0, same f.1)) (map field_value ts) ≡ map field_test ts
    again [] = refl
    again (t ∷ ts) = ap (λ z. field_test t ∷ z) (again ts)
folded (Value-F.Array ts) = ap Value-F.Array (again ts)
  where
    again : (ts : List Told) → map same (map value ts) ≡ map test ts
    again [] = refl
    again (t ∷ ts) = ap (λ z. test t ∷ z) (again ts)
folded (Value-F.ScopedCode a ts) = ap (Value-F.ScopedCode a) (again ts)
  where
    again : (ts : List (List ℕ × Told)) → map (λ f. (f.0, same f.1)) (map field_value ts) ≡ map field_test ts
    again [] = refl
    again (t ∷ ts) = ap (λ z. field_test t ∷ z) (again ts)
folded _ = refl

same-roll : (x : Value-F Value) (b : Value) → same (roll-Value x) b ≡ same_level (map-Value Value Test same x) (out-Value b)
unfolding same
same-roll x b = ap (λ (t : Test). t b) (fold-roll-Value Test same_step x)

tells_step : (x : Value-F Value) (y : Value-F Told) → values_at y ≡ x → Tells (roll-Value x)
tells_step x y is = (
  (λ b e.
      let f : same_level (tests_at y) (out-Value b) ≡ true = ap (λ (z : Value-F Test). same_level z (out-Value b)) (sym (folded y)) ∙ (ap (λ (z : Value-F Value). same_level (map-Value Value Test same z) (out-Value b)) is ∙ (sym (same-roll x b) ∙ e)) in
      ap roll-Value (sym is ∙ level y (out-Value b) f) ∙ roll-out-Value b),
  same-roll x (roll-Value x) ∙ (ap (same_level (map-Value Value Test same x)) (out-roll-Value x)
      ∙ subst (λ (z : Value-F Value). same_level (map-Value Value Test same z) z ≡ true) is (ap (λ (z : Value-F Test). same_level z (values_at y)) (folded y) ∙ own_level y)),
)

tells : (a : Value) → Tells a
tells a = ind-Value Tells tells_step a

pub same_is : (a b : Value) → same a b ≡ true → a ≡ b
same_is a b e = (tells a).0 b e

pub same_self : (a : Value) → same a a ≡ true
same_self a = (tells a).1

-- what a test of equality answers
pub same_told : (r : Bool) (a b : Value) → IsTrue r ↔ (a ≡ b) → r ≡ same a b
same_told r a b h =
    elim (cases_Bool r) [
      | inl c ↦ (let e : a ≡ b = h.0 c in c ∙ sym (subst (λ (z : Value). same a z ≡ true) e (same_self a)))
      | inr c ↦ elim (cases_Bool (same a b)) [
        | inl d ↦ (let e : r ≡ true = h.1 (same_is a b d) in let f : true ≡ false = sym e ∙ c in cc)
        | inr d ↦ c ∙ sym d
      ]
    ]

pub same_equal : SameIsEqual
same_equal a b = (same_is a b, λ e. subst (λ (z : Value). same a z ≡ true) e (same_self a))
