-- The texts that the stars of a pattern stand for, as functions.
use Rattle.std.specs.Prelude.{ℕ, Bool, List, [], ◌∷◌, Option, Some, None, is_some, option_map, option_and_then, if◌then◌else◌, ◌==◌}
use Rattle.std.specs.Option.{option_or}
use Rattle.ns_patterns.specs.Literals.{Literals}
use Rattle.ns_patterns.specs.Matches.{filled}

-- what a text has behind this literal, where it begins with it
unfoldable pub behind : List ℕ → List ℕ → Option (List ℕ)
behind [] t = Some t
behind (b ∷ l) [] = None
behind (b ∷ l) (c ∷ t) = if b == c then behind l t else None

abbrev pub longer : {A : Type 0} → ℕ → List ℕ × A → List ℕ × A
longer b x = (b ∷ x.0, x.1)

-- the shortest front of a text behind which there is an answer, and that answer
unfoldable pub first_front : {A : Type 0} → (List ℕ → Option A) → List ℕ → Option (List ℕ × A)
first_front answer [] = option_map (λ a. ([], a)) (answer [])
first_front answer (b ∷ t) = option_or (option_map (λ a. ([], a)) (answer (b ∷ t))) (option_map (longer b) (first_front answer t))

-- the shortest texts that make this text, each with one of these literals behind it, the first text first
unfoldable pub shortest_behind : List (List ℕ) → List ℕ → Option (List (List ℕ))
shortest_behind [] [] = Some []
shortest_behind [] (b ∷ t) = None
shortest_behind (l ∷ ls) t = option_map (λ x. x.0 ∷ x.1) (first_front (λ u. option_and_then (shortest_behind ls) (behind l u)) t)

-- the texts of the stars
unfoldable pub shortest : Literals → List ℕ → Option (List (List ℕ))
shortest p t = option_and_then (shortest_behind p.behind) (behind p.first t)

unfoldable pub matches : Literals → List ℕ → Bool
matches p t = is_some (shortest p t)

-- what the stars of the first pattern stand for, in the second one
unfoldable pub renamed : Literals → Literals → List ℕ → Option (List ℕ)
renamed from to t = option_map (filled to) (shortest from t)
