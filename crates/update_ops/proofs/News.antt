-- The values that are new to a list, one after the other.
use Rattle.std.proofs.Common.{◌≡◌, List, [], ◌∷◌, ◌++◌, Bool, true, false, refl, sym, ap, ◌∙◌, append_assoc, append-nil}
use Rattle.std.specs.Prelude.{if◌then◌else◌}
use Rattle.std.specs.List.{list_any}
use Rattle.bson_value.specs.declared.value.Value.{Value}
use Rattle.update_model.specs.Equality.{same}
use Rattle.update_model.specs.Acts.{new_ones}

-- what one value more adds
added : Bool → List Value → Value → List Value
added b ns v = if b then ns else ns ++ (v ∷ [])

abbrev among : Value → List Value → Bool
among v is = list_any (same v) is

in_front : (b : Bool) (a : Value) (ns : List Value) (v : Value) → a ∷ added b ns v ≡ added b (a ∷ ns) v
unfolding added
in_front true a ns v = refl
in_front false a ns v = refl

one_more : (is vs : List Value) (v : Value) → new_ones is (vs ++ (v ∷ [])) ≡ added (among v (is ++ new_ones is vs)) (new_ones is vs) v
unfolding added
one_more is [] v = by (among v is) (among v (is ++ [])) (ap (among v) (sym (append-nil is)))
  where
    by : (b c : Bool) → b ≡ c → (if b then [] else v ∷ []) ≡ (if c then [] else v ∷ [])
    by b c e = ap (λ (z : Bool). if z then [] else v ∷ []) e
one_more is (a ∷ vs) v = by (among a is) (one_more is vs v) (one_more (is ++ (a ∷ [])) vs v)
  where
    by : (b : Bool) → new_ones is (vs ++ (v ∷ [])) ≡ added (among v (is ++ new_ones is vs)) (new_ones is vs) v →
        new_ones (is ++ (a ∷ [])) (vs ++ (v ∷ [])) ≡ added (among v ((is ++ (a ∷ [])) ++ new_ones (is ++ (a ∷ [])) vs)) (new_ones (is ++ (a ∷ [])) vs) v →
        (if b then new_ones is (vs ++ (v ∷ [])) else a ∷ new_ones (is ++ (a ∷ [])) (vs ++ (v ∷ [])))
        ≡ added (among v (is ++ (if b then new_ones is vs else a ∷ new_ones (is ++ (a ∷ [])) vs))) (if b then new_ones is vs else a ∷ new_ones (is ++ (a ∷ [])) vs) v
    by true x y = x
    by false x y =
        ap (λ (z : List Value). a ∷ z) y
        ∙ (in_front (among v ((is ++ (a ∷ [])) ++ new_ones (is ++ (a ∷ [])) vs)) a (new_ones (is ++ (a ∷ [])) vs) v
        ∙ ap (λ (z : List Value). added (among v z) (a ∷ new_ones (is ++ (a ∷ [])) vs) v) (append_assoc is (a ∷ []) (new_ones (is ++ (a ∷ [])) vs)))

pub there_already : (is vs : List Value) (v : Value) → among v (is ++ new_ones is vs) ≡ true → new_ones is (vs ++ (v ∷ [])) ≡ new_ones is vs
unfolding added
there_already is vs v e = one_more is vs v ∙ rw e refl

pub one_new : (is vs : List Value) (v : Value) → among v (is ++ new_ones is vs) ≡ false → new_ones is (vs ++ (v ∷ [])) ≡ new_ones is vs ++ (v ∷ [])
unfolding added
one_new is vs v e = one_more is vs v ∙ rw e refl
