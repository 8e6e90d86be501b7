-- A name that doesn't begin with a dollar sign is no outermost name.
use Rattle.std.proofs.Common.{◌≡◌, ℕ, List, refl, sym, ap, ◌∙◌, Option, Some, None}
use Rattle.std.specs.Prelude.{slice_get}
use Rattle.containers.proofs.Entries.{absent_none}
use Rattle.extjson.specs.Wrappers.{wrapper_of, outermost_names}

pub no_dollar : (name : List ℕ) (first : Option ℕ) → first ≡ slice_get name 0 → (first ≡ Some 36 → ⊥) → None ≡ wrapper_of name
unfolding wrapper_of outermost_names
no_dollar name first e n = sym (absent_none name outermost_names (no _ refl, (no _ refl, (no _ refl, (no _ refl, (no _ refl, (no _ refl, (no _ refl, (no _ refl, (no _ refl, (no _ refl, (no _ refl, (no _ refl, (no _ refl, (no _ refl, (no _ refl, (no _ refl, (no _ refl, tt))))))))))))))))))
  where
    no : (key : List ℕ) → slice_get key 0 ≡ Some 36 → name ≡ key → ⊥
    no key k same = n (e ∙ (ap (λ (l : List ℕ). slice_get l 0) same ∙ k))
