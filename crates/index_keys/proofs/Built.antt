-- When paths are built.
use Rattle.std.proofs.Common.{◌≡◌, ℕ, List, [], ◌∷◌, Bool, true, false, cond, Option, Some, None, refl, sym, ap, ◌∙◌}
use Rattle.std.specs.Prelude.{◌&&◌}
use Rattle.std.specs.List.{list_all}
use Rattle.index_keys.specs.Branches.{Path}
use Rattle.json_tree.specs.declared.tree.Tree.{Tree}
use Rattle.doc_path.specs.Paths.{parts_of}
use Rattle.index_keys.specs.Definition.{Members, built_path, is_plain_field, all_apart, paths_of, built_paths}

abbrev built_by : Members → Bool → Bool → Option (List Path)
built_by key plain apart = cond (plain && apart) (Some (paths_of key)) None

pub no_path : (f : List ℕ × Tree) → None ≡ built_path f → is_plain_field f ≡ false
no_path f e = by (is_plain_field f) e
  where
    by : (b : Bool) → None ≡ cond b (Some (parts_of f.0)) None → b ≡ false
    by true is = absurd cc
    by false is = refl

pub not_plain : (key : Members) → false ≡ list_all is_plain_field key → None ≡ built_paths key
unfolding built_paths
not_plain [] e = refl
not_plain (f ∷ key) e = ap (λ b. built_by (f ∷ key) b (all_apart (paths_of (f ∷ key)))) e

pub none_built : (key : Members) (paths : List Path) → paths ≡ paths_of key → paths ≡ [] → None ≡ built_paths key
unfolding built_paths
none_built [] paths is e = refl
none_built (f ∷ key) paths is e = absurd cc

not_both : (key : Members) (plain : Bool) → None ≡ built_by key plain false
not_both key true = refl
not_both key false = refl

pub not_apart : (key : Members) (paths : List Path) → paths ≡ paths_of key → false ≡ all_apart paths → None ≡ built_paths key
unfolding built_paths
not_apart [] paths is e = refl
not_apart (f ∷ key) paths is e =
    not_both (f ∷ key) (list_all is_plain_field (f ∷ key)) ∙ ap (built_by (f ∷ key) (list_all is_plain_field (f ∷ key))) (e ∙ ap all_apart is)

pub all_built : (key : Members) (paths : List Path) → paths ≡ paths_of key → (paths ≡ [] → ⊥) → list_all is_plain_field key ≡ true → true ≡ all_apart paths → Some paths ≡ built_paths key
unfolding built_paths
all_built [] paths is some plain apart = absurd (some is)
all_built (f ∷ key) paths is some plain apart =
    ap (λ (ps : List Path). Some ps) is ∙ (λ i. built_by (f ∷ key) (sym plain i) ((apart ∙ ap all_apart is) i))
