-- What is told of keys.
use Rattle.std.proofs.Common.{◌≡◌, ◌∙◌, ◌++◌, ℕ, List, sym, ap, append_assoc}
use Rattle.std.specs.Prelude.{Option, None, Some, codes, option_map}
use Rattle.index_keys.specs.Branches.{Path}
use Rattle.index_keys.specs.Faults.{both_dotted, dotted}
use Rattle.index_rows.specs.Rows.{count_text}

some : {A : Type 0} {a b : A} → Some a ≡ Some b → a ≡ b
some e = cc

joined : (front a blank b : List ℕ) → front ++ (a ++ (blank ++ b)) ≡ front ++ a ++ blank ++ b
joined front a blank b = simp append_assoc

-- the two fields of a fault are told
pub told_two : (two : Option (Path × Path)) (count : ℕ) (first second x y text : List ℕ) → option_map both_dotted two ≡ Some (first, second) → x ≡ first → y ≡ second
    → text ≡ codes "parallel " ++ (x ++ (codes " " ++ y)) → text ≡ count_text two count
told_two None count first second x y text two_is x_is y_is told = cc
told_two (Some two) count first second x y text two_is x_is y_is told =
    let p : both_dotted two ≡ (first, second) = some two_is in
    let a : x ≡ dotted two.0 = x_is ∙ sym (ap (λ (q : List ℕ × List ℕ). q.0) p) in
    let b : y ≡ dotted two.1 = y_is ∙ sym (ap (λ (q : List ℕ × List ℕ). q.1) p) in
    told ∙ (ap (λ (l : List ℕ). codes "parallel " ++ (l ++ (codes " " ++ y))) a
    ∙ (ap (λ (l : List ℕ). codes "parallel " ++ (dotted two.0 ++ (codes " " ++ l))) b
    ∙ joined (codes "parallel ") (dotted two.0) (codes " ") (dotted two.1)))
