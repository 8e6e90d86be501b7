-- Patterns that are tried one after the other.
use Rattle.std.proofs.Common.{◌≡◌, ℕ, ◌+◌, ◌<◌, ◌≤◌, List, ◌∷◌, length, drop, get_or, sym, ap, ◌∙◌, subst, refl, Option, Some, None, IfSome, IfNone, true, false, Bool}
use Rattle.std.specs.Prelude.{◌||◌}
use Rattle.std.specs.Option.{option_or}
use Rattle.std.proofs.lemmas.List.{drop_more, drop_all}
use Rattle.ns_patterns.specs.Literals.{Literals}
use Rattle.ns_patterns.specs.Matches.{Matches, Renamed}
use Rattle.restore_filter.specs.Rules.{HaveSameStars}
use Rattle.restore_filter.specs.Texts.{matches}
use Rattle.restore_filter.specs.Names.{any_matches, first_renamed}
use Rattle.restore_filter.proofs.Texts.{matches_is, by_renamed}

rest : {A : Type 0} (xs : List A) (i : ℕ) (x : A) → i < length xs → x ≡ get_or xs i x → drop i xs ≡ x ∷ drop (i + 1) xs
rest xs i x l e = drop_more xs i x l ∙ ap (λ y. y ∷ drop (i + 1) xs) (sym e)

-- ---- some pattern matches

module _ (ps : List Literals) (i : ℕ) (p : Literals) (t : List ℕ) (within : i < length ps) (item : p ≡ get_or ps i p) (before : any_matches (drop i ps) t ≡ any_matches ps t) where
  parts : any_matches ps t ≡ (matches p t || any_matches (drop (i + 1) ps) t)
  parts = sym before ∙ ap (λ (qs : List Literals). any_matches qs t) (rest ps i p within item)

  pub any_here : Matches p t → true ≡ any_matches ps t
  any_here m = sym (parts ∙ ap (λ (b : Bool). b || any_matches (drop (i + 1) ps) t) ((matches_is p t).1 m))

  pub any_next : (Matches p t → ⊥) → any_matches (drop (i + 1) ps) t ≡ any_matches ps t
  any_next none = go (matches p t) (matches_is p t).0 parts where
    go : (b : Bool) → (b ≡ true → Matches p t) → any_matches ps t ≡ (b || any_matches (drop (i + 1) ps) t) → any_matches (drop (i + 1) ps) t ≡ any_matches ps t
    go true found e = absurd (none (found refl))
    go false found e = sym e

-- ---- the first pair that renames

pub stars_here : (ps : List (Literals × Literals)) (i : ℕ) (p : Literals × Literals) → i < length ps → p ≡ get_or ps i p → HaveSameStars (drop i ps) → (length p.0.behind ≡ length p.1.behind) × HaveSameStars (drop (i + 1) ps)
stars_here ps i p l e h = subst HaveSameStars (rest ps i p l e) h

module _ (ps : List (Literals × Literals)) (i : ℕ) (p : Literals × Literals) (t : List ℕ) (within : i < length ps) (item : p ≡ get_or ps i p) (before : first_renamed (drop i ps) t ≡ first_renamed ps t) where
  tried : (o : Option (List ℕ)) → IfSome o (λ new. Renamed p.0 p.1 t new) → IfNone o (Matches p.0 t → ⊥) → option_or o (first_renamed (drop (i + 1) ps) t) ≡ first_renamed ps t
  unfolding first_renamed
  tried o some none =
      ap (λ (r : Option (List ℕ)). option_or r (first_renamed (drop (i + 1) ps) t)) (sym (by_renamed p.0 p.1 t o some none))
      ∙ (ap (λ (qs : List (Literals × Literals)). first_renamed qs t) (sym (rest ps i p within item)) ∙ before)

  pub renamed_here : (new : List ℕ) → Renamed p.0 p.1 t new → Some new ≡ first_renamed ps t
  renamed_here new r = tried (Some new) r tt

  pub renamed_next : (Matches p.0 t → ⊥) → first_renamed (drop (i + 1) ps) t ≡ first_renamed ps t
  renamed_next none = tried None tt none

pub none_renames : (ps : List (Literals × Literals)) (i : ℕ) (t : List ℕ) → length ps ≤ i → first_renamed (drop i ps) t ≡ first_renamed ps t → None ≡ first_renamed ps t
unfolding first_renamed
none_renames ps i t over before = ap (λ (qs : List (Literals × Literals)). first_renamed qs t) (sym (drop_all i ps over)) ∙ before
