-- Texts that are compared before what stands behind them.
use Rattle.std.specs.Prelude.{◌≡◌, ℕ, ◌<◌, ◌^◌, List, ◌++◌, length}
use Rattle.std.specs.Ordering.{nat_cmp, ordering_then}
use Rattle.std.specs.Cmp.Lexicographic.{slice_cmp}
use Rattle.std.specs.declared.cmp.Ordering.{Ordering}

-- whatever stands behind the two, this is their order, and where they are equal that of what stands behind them
abbrev pub Leads : List ℕ → List ℕ → Ordering → Type 0
Leads xs ys order = (r s : List ℕ) → slice_cmp nat_cmp (xs ++ r) (ys ++ s) ≡ ordering_then order (slice_cmp nat_cmp r s)

-- the same of texts whose lengths four bytes can hold
abbrev pub LeadsIfShort : List ℕ → List ℕ → Ordering → Type 0
LeadsIfShort xs ys order = length xs < 2 ^ 31 → length ys < 2 ^ 31 → Leads xs ys order
