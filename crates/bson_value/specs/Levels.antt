-- How many levels a document has. The document itself is the first, and each document, array and scope in it is one more.
use Rattle.std.specs.Prelude.{ℕ, suc, max, List, [], ◌∷◌, map}
use Rattle.bson_value.specs.declared.value.Value.{Value, fold-Value}
use Rattle.bson_value.specs.declared.value.Value.TheOpen.{Value-F}

-- the largest of these numbers, and 0 where there is none
abbrev pub largest : List ℕ → ℕ
largest [] = 0
largest (n ∷ ns) = max n (largest ns)

-- the levels of what these fields hold
abbrev pub levels_below : List (List ℕ × ℕ) → ℕ
levels_below fs = largest (map (λ e. e.1) fs)

-- one level of a value, where the levels of its parts are known
abbrev pub levels_step : Value-F ℕ → ℕ
levels_step (Value-F.Object fs) = suc (levels_below fs)
levels_step (Value-F.Array vs) = suc (largest vs)
levels_step (Value-F.ScopedCode t fs) = suc (levels_below fs)
levels_step _ = 0

-- the levels that a value adds to those around it
unfoldable pub levels_in : Value → ℕ
levels_in = fold-Value ℕ levels_step

-- the levels of a document
abbrev pub levels_of : List (List ℕ × Value) → ℕ
levels_of fs = suc (largest (map (λ e. levels_in e.1) fs))
