-- When a set of names has those of a list.
use Rattle.std.specs.Prelude.{◌≡◌, ℕ, Bool, List, String}
use Rattle.std.specs.BTreeSet.{BTreeSet, contains_text}
use Rattle.std.specs.List.{list_any}
use Rattle.std.specs.Str.{bytes_eq}
use Rattle.std.specs.declared.alloc.Global.{Global}

abbrev pub is_among : List ℕ → List (List ℕ) → Bool
is_among n ns = list_any (λ m. bytes_eq n m) ns

-- the set has the names of the list, and no other
abbrev pub Covers : BTreeSet (String Global) → List (List ℕ) → Type 0
Covers set ns = (n : List ℕ) → contains_text set n ≡ is_among n ns
