-- What texts come to that are written of parts.
use Rattle.std.proofs.Common.{◌≡◌, ◌++◌, ◌∷◌, [], ◌∙◌, ℕ, List, ap, subst, append_assoc}
use Rattle.std.specs.Prelude.{Option, None, Some, IfSome, ℤ, pos, codes, option_map}
use Rattle.std.specs.Fmt.{◌++?◌, decimal, debug_option, digits}
use Rattle.bson_rows.specs.Rows.{number_text, numbers_text}

pub behind_text : (a b : Option ℕ) (text mark out : List ℕ) → IfSome (Some text ++? Some mark ++? debug_option (λ n. Some (decimal n)) a ++? Some (codes " ") ++? debug_option (λ n. Some (decimal n)) b) (λ t. out ≡ t) → out ≡ text ++ mark ++ number_text a ++ codes " " ++ number_text b
behind_text None None text mark out e = e ∙ (simp append_assoc)
behind_text None (Some n) text mark out e = e ∙ (simp append_assoc)
behind_text (Some m) None text mark out e = e ∙ (simp append_assoc)
behind_text (Some m) (Some n) text mark out e = e ∙ (simp append_assoc)

pub before_others : (known : Option (List ℕ)) (text a b out : List ℕ) → IfSome known (λ t. text ≡ t) → out ≡ text ++ codes " " ++ a ++ codes " " ++ b → IfSome (option_map (λ t. t ++ codes " " ++ a ++ codes " " ++ b) known) (λ t. out ≡ t)
before_others None text a b out h e = tt
before_others (Some t) text a b out h e = e ∙ ap (λ (t : List ℕ). t ++ codes " " ++ a ++ codes " " ++ b) h

-- the two lists of a row
pub both_lists : (xs ys : List ℤ) (text first out : List ℕ) → xs ≡ pos 1 ∷ pos 9 ∷ pos 2 ∷ pos 3 ∷ [] → ys ≡ pos 1 ∷ pos 9 ∷ pos 3 ∷ [] → first ≡ text → IfSome (numbers_text xs) (λ t. text ≡ t) → IfSome (numbers_text ys) (λ t. out ≡ first ++ codes " " ++ t) → out ≡ codes "[1, 9, 2, 3] [1, 9, 3]"
unfolding digits
both_lists xs ys text first out a b same h e =
    let shown : text ≡ codes "[1, 9, 2, 3]" = subst (λ (zs : List ℤ). IfSome (numbers_text zs) (λ t. text ≡ t)) a h in
    let told : out ≡ first ++ codes " " ++ codes "[1, 9, 3]" = subst (λ (zs : List ℤ). IfSome (numbers_text zs) (λ t. out ≡ first ++ codes " " ++ t)) b e in
    told ∙ ap (λ (t : List ℕ). t ++ codes " " ++ codes "[1, 9, 3]") (same ∙ shown)
