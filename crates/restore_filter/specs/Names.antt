-- Which names a filter takes, and under which it restores them.
use Rattle.std.specs.Prelude.{ℕ, Bool, not, ◌&&◌, ◌||◌, ◌==◌, List, [], ◌∷◌, ◌++◌, length, Option, Some, None, option_and_then, unwrap_or}
use Rattle.std.specs.List.{list_any, before_first, after_first}
use Rattle.std.specs.Option.{option_or}
use Rattle.bson_value.specs.declared.namespace.NsName.{NsName}
use Rattle.bson_value.specs.Namespace.{dot}
use Rattle.ns_patterns.specs.Literals.{Literals}
use Rattle.restore_filter.specs.Rules.{Rules}
use Rattle.restore_filter.specs.Texts.{matches, renamed}

-- `db.collection`
abbrev pub text_of : NsName → List ℕ
text_of n = n.db ++ dot ∷ n.coll

-- ---- what is taken

abbrev pub any_matches : List Literals → List ℕ → Bool
any_matches ps t = list_any (λ p. matches p t) ps

-- some pattern matches, or there is none
abbrev pub included : List Literals → List ℕ → Bool
included ps t = length ps == 0 || any_matches ps t

unfoldable pub takes : Rules → NsName → Bool
takes r n = included r.include (text_of n) && not (any_matches r.exclude (text_of n))

-- ---- new names

-- what the first pair makes of a text whose first pattern matches it
unfoldable pub first_renamed : List (Literals × Literals) → List ℕ → Option (List ℕ)
first_renamed [] t = None
first_renamed (p ∷ ps) t = option_or (renamed p.0 p.1 t) (first_renamed ps t)

-- a database and a collection, neither of them empty
abbrev pub both_sides : List ℕ → List ℕ → Option NsName
both_sides [] coll = None
both_sides (b ∷ db) [] = None
both_sides (b ∷ db) (c ∷ coll) = Some (record { db = b ∷ db; coll = c ∷ coll })

-- the namespace that a text names, which is parted at its first dot
unfoldable pub named : List ℕ → Option NsName
named t = both_sides (before_first (λ b. b == dot) t) (after_first (λ b. b == dot) t)

-- the namespace that the renamed text names, or else its own name
unfoldable pub new_name : Rules → NsName → NsName
new_name r n = unwrap_or (option_and_then named (first_renamed r.renames (text_of n))) n
