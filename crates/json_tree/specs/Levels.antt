-- The levels of arrays and objects in a value.
use Rattle.std.specs.Prelude.{ℕ, suc, max, List, [], ◌∷◌, map}
use Rattle.json_tree.specs.declared.tree.Tree.{Tree, fold-Tree}
use Rattle.json_tree.specs.declared.tree.Tree.TheOpen.{Tree-F}

-- the largest of these numbers, and 0 where there is none
abbrev pub largest : List ℕ → ℕ
largest [] = 0
largest (n ∷ ns) = max n (largest ns)

-- one level of a value, where the levels of its parts are known
abbrev pub levels_step : Tree-F ℕ → ℕ
levels_step (Tree-F.Items ns) = suc (largest ns)
levels_step (Tree-F.Object es) = suc (largest (map (λ e. e.1) es))
levels_step _ = 0

-- the levels of arrays and objects in a value
unfoldable pub levels_of : Tree → ℕ
levels_of = fold-Tree ℕ levels_step

-- the most levels of a value in these lists
abbrev pub items_levels : List Tree → ℕ
items_levels ts = largest (map levels_of ts)

abbrev pub field_levels : List (List ℕ × Tree) → ℕ
field_levels es = largest (map (λ e. levels_of e.1) es)
