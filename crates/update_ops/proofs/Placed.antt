-- A value whose key has no place is equal to none of a list, also where one more is put in.
use Rattle.std.proofs.Common.{◌≡◌, ℕ, List, [], ◌∷◌, ◌++◌, Bool, true, false, Some, None, refl, sym, ap, ◌∙◌, subst}
use Rattle.std.specs.Prelude.{Option, cond, ◌||◌}
use Rattle.std.specs.List.{list_any, slice_get}
use Rattle.std.specs.Ordering.{nat_cmp, is_eq}
use Rattle.std.specs.Cmp.Lexicographic.{slice_cmp, nat_list_cmp_total}
use Rattle.std.specs.BTreeMap.{BTreeMap, get, is_at}
use Rattle.std.proofs.lemmas.Cmp.{tied_itself}
use Rattle.std.proofs.lemmas.List.Folds.{list_any-append, list_any_at}
use Rattle.std.proofs.lemmas.Option.{slice_get_within, get_or_from_slice_get}
use Rattle.bson_value.specs.declared.value.Value.{Value}
use Rattle.bson_encode.specs.Key.{key_of}
use Rattle.update_model.specs.Equality.{same}
use Rattle.update_model.proofs.SameValues.{same_is}
use Rattle.update_ops.specs.KeyedValues.{Values, HavePlaces}

abbrev at_key : Value → Value → Bool
at_key w v = is_at (slice_cmp nat_cmp (key_of w)) (key_of v)

-- n has one place more than m, at the key k
abbrev pub HasPlace : BTreeMap (List ℕ) ℕ → BTreeMap (List ℕ) ℕ → List ℕ → ℕ → Type 0
HasPlace m n k place = (q : List ℕ) → get (slice_cmp nat_cmp) n q ≡ cond (is_at (slice_cmp nat_cmp k) q) (Some place) (get (slice_cmp nat_cmp) m q)

own_key : (v w : Value) → same v w ≡ true → at_key w v ≡ true
own_key v w e = ap (λ (u : Value). at_key w u) (same_is v w e) ∙ ap is_eq (tied_itself nat_list_cmp_total (key_of w))

-- no place is known of a key where none was known and it isn't the new one
no_place : (b : Bool) (place : ℕ) (o : Option ℕ) → cond b (Some place) o ≡ None → (b ≡ false) × (o ≡ None)
no_place true place o e = absurd cc
no_place false place o e = (refl, e)

pub one_placed : (vs : Values) (m n : BTreeMap (List ℕ) ℕ) (w : Value) (k : List ℕ) (place : ℕ) → k ≡ key_of w → HasPlace m n k place → HavePlaces vs m → HavePlaces (vs ++ w ∷ []) n
one_placed vs m n w k place is more h v none =
    let here = subst (λ (l : List ℕ). HasPlace m n l place) is more in
    let apart = no_place (at_key w v) place (get (slice_cmp nat_cmp) m (key_of v)) (sym (here (key_of v)) ∙ none) in
    list_any-append (same v) vs (w ∷ []) ∙ neither (list_any (same v) vs) (same v w) (at_key w v) (h v apart.1) (own_key v w) apart.0
  where
    neither : (a b c : Bool) → a ≡ false → (b ≡ true → c ≡ true) → c ≡ false → (a || (b || false)) ≡ false
    neither true b c x y z = cc
    neither false true c x y z = let t : c ≡ true = y refl in cc
    neither false false c x y z = refl

-- the place of an equal value tells that there is one
pub found : (vs : Values) (i : ℕ) (v w : Value) → slice_get vs i ≡ Some w → same v w ≡ true → list_any (same v) vs ≡ true
found vs i v w at e = list_any_at (same v) vs i w (slice_get_within vs i w at) (ap (same v) (get_or_from_slice_get vs i w w at) ∙ e)
