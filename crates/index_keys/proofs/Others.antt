-- The fields of a normal form: those without a place of their own as they come, and distinct names.
use Rattle.std.proofs.Common.{◌≡◌, ℕ, ◌+◌, ◌<◌, List, [], ◌∷◌, ◌++◌, length, take, get_or, Bool, true, false, cond, refl, sym, ap, ◌∙◌, subst, append-nil, append_assoc}
use Rattle.std.specs.Prelude.{codes}
use Rattle.std.proofs.lemmas.List.{take_more, map-append}
use Rattle.containers.specs.Entries.{IsAbsent, AreDistinct, names_of}
use Rattle.json_tree.specs.declared.tree.Tree.{Tree}
use Rattle.extjson.specs.Plain.{wrapped_numbers, wrapped_fields}
use Rattle.extjson.proofs.Wrapping.{wrapped_names}
use Rattle.index_keys.specs.Definition.{Members, is_one_of, others, placed, arranged}

others-append : (names : List (List ℕ)) (es fs : Members) → others names (es ++ fs) ≡ others names es ++ others names fs
others-append names [] fs = refl
others-append names (e ∷ es) fs = by (is_one_of names e.0) (others-append names es fs)
  where
    by : (b : Bool) → others names (es ++ fs) ≡ others names es ++ others names fs →
        cond b (others names (es ++ fs)) (e ∷ others names (es ++ fs)) ≡ cond b (others names es) (e ∷ others names es) ++ others names fs
    by true h = h
    by false h = ap (λ (l : Members). e ∷ l) h

abbrev wrapped_entry : List ℕ × Tree → List ℕ × Tree
wrapped_entry e = (e.0, wrapped_numbers e.1)

others_more : (names : List (List ℕ)) (es : Members) (i : ℕ) (e : List ℕ × Tree) → i < length es → e ≡ get_or es i e →
    wrapped_fields (others names (take (i + 1) es)) ≡ wrapped_fields (others names (take i es)) ++ wrapped_fields (cond (is_one_of names e.0) [] (e ∷ []))
others_more names es i e lt at =
    let more : take (i + 1) es ≡ take i es ++ e ∷ [] = take_more es i e lt ∙ rw (← at) refl in
    ap (λ (l : Members). wrapped_fields (others names l)) more
    ∙ (ap wrapped_fields (others-append names (take i es) (e ∷ [])) ∙ map-append wrapped_entry (others names (take i es)) _)

-- a field without a place of its own is put in
pub with_other : (names : List (List ℕ)) (es old done : Members) (i : ℕ) (e : List ℕ × Tree) → i < length es → e ≡ get_or es i e → is_one_of names e.0 ≡ false →
    done ≡ old ++ wrapped_fields (others names (take i es)) → done ++ (e.0, wrapped_numbers e.1) ∷ [] ≡ old ++ wrapped_fields (others names (take (i + 1) es))
with_other names es old done i e lt at other is =
    ap (λ (l : Members). l ++ (e.0, wrapped_numbers e.1) ∷ []) is
    ∙ (append_assoc old _ _ ∙ ap (λ (l : Members). old ++ l) (sym (others_more names es i e lt at ∙ ap (λ b. wrapped_fields (others names (take i es)) ++ wrapped_fields (cond b [] (e ∷ []))) other)))

-- another one isn't
pub without_placed : (names : List (List ℕ)) (es old done : Members) (i : ℕ) (e : List ℕ × Tree) → i < length es → e ≡ get_or es i e → is_one_of names e.0 ≡ true →
    done ≡ old ++ wrapped_fields (others names (take i es)) → done ≡ old ++ wrapped_fields (others names (take (i + 1) es))
without_placed names es old done i e lt at here is =
    is ∙ ap (λ (l : Members). old ++ l) (sym (others_more names es i e lt at ∙ (ap (λ b. wrapped_fields (others names (take i es)) ++ wrapped_fields (cond b [] (e ∷ []))) here ∙ append-nil _)))

-- ---- distinct names

still_absent : (names : List (List ℕ)) (n : List ℕ) (es : Members) → IsAbsent n (names_of es) → IsAbsent n (names_of (others names es))
still_absent names n [] h = tt
still_absent names n (e ∷ es) h =
    elim (is_one_of names e.0) as (λ b. IsAbsent n (names_of (cond b (others names es) (e ∷ others names es)))) [
      | true ↦ still_absent names n es h.1
      | false ↦ (h.0, still_absent names n es h.1)
    ]

still_distinct : (names : List (List ℕ)) (es : Members) → AreDistinct (names_of es) → AreDistinct (names_of (others names es))
still_distinct names [] h = tt
still_distinct names (e ∷ es) h =
    elim (is_one_of names e.0) as (λ b. AreDistinct (names_of (cond b (others names es) (e ∷ others names es)))) [
      | true ↦ still_distinct names es h.1
      | false ↦ (still_absent names e.0 es h.0, still_distinct names es h.1)
    ]

placed_absent : (names : List (List ℕ)) (n : List ℕ) (es : Members) → is_one_of names n ≡ true → IsAbsent n (names_of (others names es))
placed_absent names n [] h = tt
placed_absent names n (e ∷ es) h = by (is_one_of names e.0) refl (placed_absent names n es h)
  where
    by : (b : Bool) → is_one_of names e.0 ≡ b → IsAbsent n (names_of (others names es)) → IsAbsent n (names_of (cond b (others names es) (e ∷ others names es)))
    by true is rest = rest
    by false is rest = ((λ same. let not_one : is_one_of names n ≡ false = ap (is_one_of names) same ∙ is in absurd cc), rest)

pub distinct_arranged : (key : Members) (name : List ℕ) (es : Members) → AreDistinct (names_of es) → AreDistinct (names_of (wrapped_fields (arranged key name es)))
distinct_arranged key name es h =
    subst AreDistinct (sym (wrapped_names (arranged key name es))) (
      ((λ e. absurd cc), ((λ e. absurd cc), placed_absent placed (codes "v") es refl)),
      (
        ((λ e. absurd cc), placed_absent placed (codes "key") es refl),
        (placed_absent placed (codes "name") es refl, still_distinct placed es h),
      ),
    )
