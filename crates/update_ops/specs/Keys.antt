-- Lists of names as texts of which one begins with another where the lists do.
use Rattle.std.specs.Prelude.{◌≡◌, ℕ, Bool, false, ◌==◌, List, [], ◌∷◌, ◌++◌}
use Rattle.std.specs.List.{list_any, flat_map}
use Rattle.update_ops.specs.Prefixes.{Text}
use Rattle.update_model.specs.Conflicts.{Path}

-- the names, each ended by a zero
abbrev pub key : Path → Text
key p = flat_map (λ name. name ++ 0 ∷ []) p

abbrev pub HasNoZero : List ℕ → Type 0
HasNoZero name = list_any (λ b. b == 0) name ≡ false

abbrev pub HaveNoZero : Path → Type 0
HaveNoZero [] = Unit {0}
HaveNoZero (k ∷ p) = HasNoZero k × HaveNoZero p
