-- The lines that are told of those that were refused.
use Rattle.std.proofs.Common.{◌≡◌, ℕ, List, [], ◌∷◌, ◌++◌, map as each, refl, ap}
use Rattle.std.specs.Prelude.{flat_map}
use Rattle.schedule_report.specs.Lines.{refusal_line, refusals_text}
use Rattle.schedule_source.specs.declared.run.RefusedLine.{RefusedLine}
use Rattle.schedule_source.specs.Progress.{refusal_in}

abbrev pub told_line : RefusedLine → List ℕ
told_line x = refusal_line (refusal_in x)

pub told_lines : (xs : List RefusedLine) → flat_map told_line xs ≡ refusals_text (each refusal_in xs)
told_lines [] = refl
told_lines (x ∷ xs) = ap (λ (z : List ℕ). told_line x ++ z) (told_lines xs)
