-- The lines that were taken are those of a script.
use Rattle.std.proofs.Common.{◌≡◌, ℕ, List, subst}
use Rattle.std.specs.List.{FoldsTo}
use Rattle.std.specs.Str.Lines.{lines}
use Rattle.row_script.specs.Runs.{Progress, Takes, Runs}

pub whole : {A : Type 0} (Gives : A → List ℕ → List ℕ → List ℕ → A → Type 0) (first last : Progress A) (taken : List (List ℕ)) (script : List ℕ) → taken ≡ lines script → FoldsTo (Takes Gives) first taken last → Runs Gives first script last
whole Gives first last taken script e runs = subst (λ (ls : List (List ℕ)). FoldsTo (Takes Gives) first ls last) e runs
