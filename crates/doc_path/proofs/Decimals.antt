-- The digits of an index are what a number prints as.
use Rattle.std.proofs.Common.{ℕ, zero, suc, ◌+◌, ◌%◌, ◌^◌, ◌<◌, List, [], ◌∷◌, ◌++◌, arith, inl, inr}
use Rattle.std.specs.Prelude.{Contains, ◌⊎◌}
use Rattle.std.specs.Fmt.{decimal}
use Rattle.std.proofs.lemmas.Fmt.{decimal_by_steps_wide}
use Rattle.std.proofs.lemmas.List.Elements.{Contains-append_cases}

one_digit : (m : ℕ) → Contains ((48 + m) ∷ []) 0 → ⊥
one_digit m (zero, l, e) = omega (arith, e)
one_digit m (suc k, l, e) = omega (arith, l)

no_more : (m : ℕ) (ds : List ℕ) → (Contains ds 0 → ⊥) → Contains (ds ++ ((48 + m % 10) ∷ [])) 0 → ⊥
no_more m ds g h = by (Contains-append_cases ds ((48 + m % 10) ∷ []) 0 h)
  where
    by : Contains ds 0 ⊎ Contains ((48 + m % 10) ∷ []) 0 → ⊥
    by (inl a) = g a
    by (inr b) = one_digit (m % 10) b

pub decimal-no_zero : (n : ℕ) → n < 10 ^ 64 → Contains (decimal n) 0 → ⊥
decimal-no_zero n small = decimal_by_steps_wide (λ m ds. Contains ds 0 → ⊥) (λ m l. one_digit m) (λ m ds l. no_more m ds) n small
