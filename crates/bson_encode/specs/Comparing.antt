-- A text that is compared with another one, piece by piece: the order so far, and what is left of the other.
use Rattle.std.specs.Prelude.{ℕ, List, [], ◌∷◌}
use Rattle.std.specs.Ordering.{nat_cmp}
use Rattle.std.specs.declared.cmp.Ordering.{Ordering}
use Rattle.std.specs.declared.cmp.Ordering.TheVariants.{Less, Equal, Greater}

-- behind one more byte
abbrev pub step : Ordering → List ℕ → ℕ → Ordering × List ℕ
step Less rest x = (Less, rest)
step Greater rest x = (Greater, rest)
step Equal [] x = (Greater, [])
step Equal (y ∷ ys) x = (nat_cmp x y, ys)

-- behind a piece
abbrev pub behind : Ordering → List ℕ → List ℕ → Ordering × List ℕ
behind order rest [] = (order, rest)
behind order rest (x ∷ xs) = behind (step order rest x).0 (step order rest x).1 xs

-- at the end of the text
abbrev pub at_end : Ordering → List ℕ → Ordering
at_end Less rest = Less
at_end Greater rest = Greater
at_end Equal [] = Equal
at_end Equal (y ∷ ys) = Less
