-- Names without zeros.
use Rattle.std.proofs.Common.{◌≡◌, ℕ, zero, suc, ◌+◌, ◌<◌, List, [], ◌∷◌, ◌++◌, Bool, true, false, refl, sym, ap, ◌∙◌, arith, inl, inr, length, map, append_assoc, append-nil, subst}
use Rattle.std.specs.Prelude.{Contains, ◌||◌, ◌==◌}
use Rattle.std.specs.List.{list_any, flat_map, AllByRecursion}
use Rattle.std.proofs.lemmas.Bool.{cases_Bool}
use Rattle.std.proofs.lemmas.Grind.{common_steps, flat_map-append}
use Rattle.doc_path.specs.declared.parts.Part.{Part}
use Rattle.doc_path.specs.Touch.{key_of}
use Rattle.doc_path.specs.Places.{keys}
use Rattle.update_ops.specs.Keys.{key, HasNoZero, HaveNoZero}
use Rattle.update_ops.specs.PlaceKeys.{key_of_parts}

pub no_zero : (k : List ℕ) → (Contains k 0 → ⊥) → HasNoZero k
no_zero [] h = refl
no_zero (c ∷ k) h =
    elim (cases_Bool (c == 0)) [
      | inl e ↦ absurd (h (zero, omega arith, grind (arith, common_steps)))
      | inr e ↦ rw (e, no_zero k (λ x. h (suc x.0, omega (arith, x.1), x.2))) refl
    ]

pub have_more : (p q : List (List ℕ)) → HaveNoZero p → HaveNoZero q → HaveNoZero (p ++ q)
have_more [] q a b = b
have_more (k ∷ p) q a b = (a.0, have_more p q a.1 b)

keys_append : (ps qs : List Part) → keys (ps ++ qs) ≡ keys ps ++ keys qs
keys_append [] qs = refl
keys_append (p ∷ ps) qs = ap (λ (z : List (List ℕ)). key_of p ∷ z) (keys_append ps qs)

pub key_append : (p q : List (List ℕ)) → key (p ++ q) ≡ key p ++ key q
key_append p q = flat_map-append (λ (name : List ℕ). name ++ 0 ∷ []) p q

-- one part more
pub key_more : (ps : List Part) (p : Part) → key_of_parts (ps ++ (p ∷ [])) ≡ key_of_parts ps ++ (key_of p ++ 0 ∷ [])
key_more ps p = ap key (keys_append ps (p ∷ [])) ∙ (key_append (keys ps) (key_of p ∷ []) ∙ ap (λ (z : List ℕ). key_of_parts ps ++ z) (append-nil (key_of p ++ 0 ∷ [])))

pub clean_more : (ps : List Part) (p : Part) → HaveNoZero (keys ps) → HasNoZero (key_of p) → HaveNoZero (keys (ps ++ (p ∷ [])))
clean_more ps p a b = subst HaveNoZero (sym (keys_append ps (p ∷ []))) (have_more (keys ps) (key_of p ∷ []) a (b, tt))
